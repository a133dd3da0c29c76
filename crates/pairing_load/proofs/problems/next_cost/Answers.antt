use Rattle.std.proofs.Common.{◌∙◌, ap, sym, ℕ, ◌%◌}
use Rattle.rand_pcg.specs.Lcg.{Lcg, state_after}
use Rattle.pairing_load.specs.declared.problems.EdgeCosts.{EdgeCosts}
use Rattle.pairing_load.specs.Problems.{after, next_cost}
use Rattle.pairing_load.proofs.problems.next_cost.Goals as goal

pub returns-in-Random-clause-cost : goal.returns-in-Random-clause-cost
unfolding next_cost
returns-in-Random-clause-cost c = ap (λ (p : ℕ × Lcg). p.0 % 4097) c.next_word.ensures ∙ sym (ap (λ (k : EdgeCosts). next_cost k c.args.generator.now) c.in-Random.is)

pub returns-in-Random-clause-drawn : goal.returns-in-Random-clause-drawn
unfolding after state_after
returns-in-Random-clause-drawn c = ap (λ (p : ℕ × Lcg). p.1) c.next_word.ensures ∙ sym (ap (λ (k : EdgeCosts). after k 1 c.args.generator.now) c.in-Random.is)

pub returns-in-Equal-clause-cost : goal.returns-in-Equal-clause-cost
unfolding next_cost
returns-in-Equal-clause-cost c = sym (ap (λ (k : EdgeCosts). next_cost k c.args.generator.now) c.in-Equal.is)

pub returns-in-Equal-clause-drawn : goal.returns-in-Equal-clause-drawn
unfolding after state_after
returns-in-Equal-clause-drawn c = sym (ap (λ (k : EdgeCosts). after k 1 c.args.generator.now) c.in-Equal.is)
