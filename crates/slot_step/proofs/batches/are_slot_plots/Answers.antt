use Rattle.std.proofs.Common.{rules, ◌≡◌, true, false, arith, inl, inr, subst, sym}
use Rattle.std.specs.Prelude.{IsTrue}
use Rattle.std.proofs.lemmas.Bool.{cases_eq}
use Rattle.slot_step.specs.Calls.{GoesOn}
use Rattle.slot_step.proofs.Cutting.{one_stops, all_go_on}
use Rattle.slot_step.proofs.batches.are_slot_plots.Goals as goal

not_true : {Q : Type 0} → IsTrue false → Q
not_true t = let e : false ≡ true = t in cc

pub returns-then-not-goes_on : goal.returns-then-not-goes_on
returns-then-not-goes_on c =
    let stops : GoesOn c.args.slot c.args.plots.now c.loop-index.index → ⊥ = λ g. let e : IsTrue c.goes_on.result = c.goes_on.ensures.1 g in let f = c.if-not-goes_on.true in cc in
    ((λ t. not_true t), λ h. absurd (one_stops c.args.slot c.args.plots.now c.loop-index.index c.loop-index-test.true stops h))

pub loop-index-preserved : goal.loop-index-preserved
loop-index-preserved c = λ i lt. elim (cases_eq i c.loop-index.index) [
  | inl e ↦ subst (GoesOn c.args.slot c.args.plots.now) (sym e) (c.goes_on.ensures.0 (search rules))
  | inr n ↦ c.loop-index.invariant i (omega (arith, lt, n))
]

pub returns : goal.returns
returns c = ((λ t. all_go_on c.args.slot c.args.plots.now (λ i lt. c.loop-index.invariant i (omega (arith, lt, c.loop-index-test.false)))), λ h. search rules)
