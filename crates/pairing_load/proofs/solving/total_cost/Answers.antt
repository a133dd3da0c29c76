use Rattle.std.proofs.Common.{◌≡◌, ◌∙◌, ◌*◌, ap, sym, subst, ℕ, arith, zero-mul}
use Rattle.pairing_load.specs.Problems.{after, generator_of}
use Rattle.pairing_load.specs.Totals.{IsCostSum}
use Rattle.pairing_load.proofs.Drawing.{after_none}
use Rattle.pairing_load.proofs.Least.{total_none}
use Rattle.pairing_load.proofs.solving.total_cost.Goals as goal

pub loop-number-init : goal.loop-number-init
loop-number-init c = record {
  drawn = c.generator_of-generator.ensures ∙ sym (ap (λ (k : ℕ). after c.args.load.costs k (generator_of c.args.load.seed)) (zero-mul (c.args.load.size * c.args.load.size)) ∙ after_none c.args.load.costs (generator_of c.args.load.seed));
  sum = total_none _ _ _;
  small = omega arith;
}

pub returns : goal.returns
returns c =
    let end : c.loop-number.number ≡ c.args.load.count = omega arith in
    subst (λ (n : ℕ). IsCostSum c.args.load.costs c.args.load.size c.args.load.seed n c.loop-number.total) end c.loop-number.invariant.sum
