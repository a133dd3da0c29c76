-- A plot of any kind is a detection by one of the three.
use Rattle.std.proofs.Common.{◌≡◌, ℕ, zero, suc, Bool, true, false, Option, arith, refl}
use Rattle.std.specs.Prelude.{◌||◌, is_some}
use Rattle.trk_base.specs.Ranges.{IsKind}
use Rattle.track_life.specs.Tracks.{is_primary, is_secondary, is_mode_s, last_seen}

or_mid : (a c : Bool) → (a || true || c) ≡ true
or_mid true c = refl
or_mid false c = refl

or_last : (a b : Bool) → (a || b || true) ≡ true
or_last true b = refl
or_last false true = refl
or_last false false = refl

pub detected : (kind time : ℕ) (psr ssr mds : Option ℕ) → IsKind kind → (is_some (last_seen (is_primary kind) time psr) || is_some (last_seen (is_secondary kind) time ssr) || is_some (last_seen (is_mode_s kind) time mds)) ≡ true
detected zero time psr ssr mds h = absurd (omega (arith, h.0))
detected (suc zero) time psr ssr mds h = refl
detected (suc (suc zero)) time psr ssr mds h = or_mid (is_some psr) (is_some mds)
detected (suc (suc (suc zero))) time psr ssr mds h = refl
detected (suc (suc (suc (suc zero)))) time psr ssr mds h = or_last (is_some psr) (is_some ssr)
detected (suc (suc (suc (suc (suc zero))))) time psr ssr mds h = or_last (is_some psr) (is_some ssr)
detected (suc (suc (suc (suc (suc (suc zero)))))) time psr ssr mds h = refl
detected (suc (suc (suc (suc (suc (suc (suc zero))))))) time psr ssr mds h = refl
detected (suc (suc (suc (suc (suc (suc (suc (suc n)))))))) time psr ssr mds h = absurd (omega (arith, h.1))
