-- The last of some states.
use Rattle.std.proofs.Common.{◌≡◌, ◌∙◌, ap, refl, ℕ, zero, suc, ◌-◌, ◌<◌, List, [], ◌∷◌, ◌++◌, length, take, get_or, Bor, arith}
use Rattle.std.specs.Prelude.{Option, Some, None}
use Rattle.std.specs.Option.{unwrap_or, option_copied}
use Rattle.std.specs.List.{slice_get}
use Rattle.late_window.specs.Folding.{latest}

module _ {S : Type 0} where
  pub latest_append : (s : S) (ts us : List S) → latest s (ts ++ us) ≡ latest (latest s ts) us
  latest_append s [] us = refl
  latest_append s (t ∷ ts) us = latest_append t ts us

  pub latest_taken : (s : S) (k : ℕ) (ts : List S) (d : S) → k < length ts → latest s (take (suc k) ts) ≡ get_or ts k d
  latest_taken s k [] d lt = absurd (omega (arith, lt))
  latest_taken s zero (t ∷ ts) d lt = refl
  latest_taken s (suc k) (t ∷ ts) d lt = latest_taken t k ts d (omega (arith, lt))

  last_at : (t : S) (ts : List S) → slice_get (t ∷ ts) (length ts) ≡ Some (latest t ts)
  last_at t [] = refl
  last_at t (u ∷ ts) = last_at u ts

  pub latest_got : (s : S) (ts : List S) → unwrap_or (slice_get ts (length ts - 1)) s ≡ latest s ts
  latest_got s [] = refl
  latest_got s (t ∷ ts) = let e : length (t ∷ ts) - 1 ≡ length ts = omega arith in ap (λ k. unwrap_or (slice_get (t ∷ ts) k) s) e ∙ ap (λ o. unwrap_or o s) (last_at t ts)

  pub now_or : (o : Option (Bor S)) (d : Bor S) → (unwrap_or o d).now ≡ unwrap_or (option_copied o) d.now
  now_or None d = refl
  now_or (Some x) d = refl
