use Rattle.std.proofs.Common.{rules, arith, inl, inr, subst, sym}
use Rattle.std.proofs.lemmas.Bool.{cases_eq}
use Rattle.part_load.specs.Spans.{IsAbove}
use Rattle.part_load.proofs.Rising.{all_rise}
use Rattle.part_load.proofs.parting.is_rising.Goals as goal

pub loop-index-preserved : goal.loop-index-preserved
loop-index-preserved c = λ i lt. elim (cases_eq i c.loop-index.index) [
  | inl e ↦ subst (IsAbove c.args.plots.now) (sym e) (c.is_above.ensures.0 (search rules))
  | inr n ↦ c.loop-index.invariant i (omega (arith, lt, n))
]

pub returns : goal.returns
returns c = λ t. all_rise c.args.plots.now (λ i lt. c.loop-index.invariant i (omega (arith, lt, c.loop-index-test.false)))
