-- Generators after some words, and then some more.
use Rattle.std.proofs.Common.{◌≡◌, ◌∙◌, ap, refl, ℕ, zero, suc, ◌+◌, ◌*◌, arith}
use Rattle.rand_pcg.specs.Lcg.{Lcg, state_after, next_state}
use Rattle.rand_pcg.specs.Pcg.{multiplier_64}
use Rattle.scene_gen.specs.Draws.{after}

none_first : (n : ℕ) → n ≡ 0 + n
none_first n = omega arith

one_first : (m n : ℕ) → suc (m + n) ≡ suc m + n
one_first m n = omega arith

states : (increment m n state : ℕ) → state_after 64 multiplier_64 increment n (state_after 64 multiplier_64 increment m state) ≡ state_after 64 multiplier_64 increment (m + n) state
unfolding state_after
states increment zero n state = ap (λ (k : ℕ). state_after 64 multiplier_64 increment k state) (none_first n)
states increment (suc m) n state = states increment m n (next_state 64 multiplier_64 increment state) ∙ ap (λ (k : ℕ). state_after 64 multiplier_64 increment k state) (one_first m n)

pub after_after : (m n : ℕ) (g : Lcg) → after n (after m g) ≡ after (m + n) g
unfolding after
after_after m n g = ap (λ (s : ℕ). record g { state = s }) (states g.increment m n g.state)

pub after_none : (g : Lcg) → after 0 g ≡ g
unfolding after state_after
after_none g = refl

-- one word more
pub one_more : (g : Lcg) (k : ℕ) {h new : Lcg} → h ≡ after k g → new ≡ after 1 h → new ≡ after (k + 1) g
one_more g k {h} {new} drawn more = more ∙ ap (after 1) drawn ∙ after_after k 1 g

-- nine words more
pub nine_more : (g : Lcg) (n : ℕ) {h new : Lcg} → h ≡ after (9 * n) g → new ≡ after 9 h → new ≡ after (9 * (n + 1)) g
nine_more g n {h} {new} drawn more = more ∙ ap (after 9) drawn ∙ after_after (9 * n) 9 g ∙ ap (λ (k : ℕ). after k g) (omega arith)
