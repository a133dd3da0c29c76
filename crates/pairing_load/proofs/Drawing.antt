-- Generators after the costs of edges.
use Rattle.std.proofs.Common.{◌≡◌, ◌∙◌, ap, refl, ℕ, zero, suc, ◌+◌, ◌≤◌, arith}
use Rattle.std.proofs.lemmas.Nat.{mod_below}
use Rattle.rand_pcg.specs.Lcg.{Lcg, state_after, next_state}
use Rattle.rand_pcg.specs.Pcg.{pcg32, multiplier_64}
use Rattle.pairing_load.specs.declared.problems.EdgeCosts.{EdgeCosts}
use Rattle.pairing_load.specs.declared.problems.EdgeCosts.TheVariants.{Random, Equal}
use Rattle.pairing_load.specs.Problems.{after, next_cost}

none_first : (n : ℕ) → n ≡ 0 + n
none_first n = omega arith

one_first : (m n : ℕ) → suc (m + n) ≡ suc m + n
one_first m n = omega arith

-- some steps, and then some more
states : (increment m n state : ℕ) → state_after 64 multiplier_64 increment n (state_after 64 multiplier_64 increment m state) ≡ state_after 64 multiplier_64 increment (m + n) state
unfolding state_after
states increment zero n state = ap (λ (k : ℕ). state_after 64 multiplier_64 increment k state) (none_first n)
states increment (suc m) n state = states increment m n (next_state 64 multiplier_64 increment state) ∙ ap (λ (k : ℕ). state_after 64 multiplier_64 increment k state) (one_first m n)

pub after_after : (costs : EdgeCosts) (m n : ℕ) (g : Lcg) → after costs n (after costs m g) ≡ after costs (m + n) g
unfolding after
after_after Random m n g = ap (λ (s : ℕ). record g { state = s }) (states g.increment m n g.state)
after_after Equal m n g = refl

pub after_none : (costs : EdgeCosts) (g : Lcg) → after costs 0 g ≡ g
unfolding after state_after
after_none Random g = refl
after_none Equal g = refl

pub next_cost_small : (costs : EdgeCosts) (g : Lcg) → next_cost costs g ≤ 4096
unfolding next_cost
next_cost_small Random g = omega (arith, mod_below (pcg32 g).0 4097 (omega arith))
next_cost_small Equal g = omega arith
