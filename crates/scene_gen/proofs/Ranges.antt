-- Whether a range has 16 bits.
use Rattle.std.proofs.Common.{◌≡◌, ◌∙◌, ap, sym, refl, ℕ, ◌<◌, ◌≤◌, true, false, cond, leb, Option, Some, None, ℤ, arith}
use Rattle.scene_gen.specs.Bearings.{bearing}
use Rattle.scene_gen.specs.Sightings.{range, measured}

measured_by : (x y : ℤ) (level : ℕ) → measured x y level ≡ cond (leb (range x y level) 65535) (Some (range x y level, bearing x y)) None
measured_by x y level = refl

pub too_far : (x y x' y' : ℤ) (level : ℕ) {r : ℕ} → x ≡ x' → y ≡ y' → r ≡ range x y level → 65535 < r → ◌≡◌ {A = Option (ℕ × ℕ)} None (measured x' y' level)
too_far x y x' y' level {r} east north is far =
    let past : leb (range x y level) 65535 ≡ false = grind arith in
    sym (measured_by x y level ∙ ap (λ t. cond t (Some (range x y level, bearing x y)) None) past) ∙ (λ i. measured (east i) (north i) level)

pub within : (x y x' y' : ℤ) (level : ℕ) {r b : ℕ} → x ≡ x' → y ≡ y' → r ≡ range x y level → b ≡ bearing x y → r ≤ 65535 → ◌≡◌ {A = Option (ℕ × ℕ)} (Some (r, b)) (measured x' y' level)
within x y x' y' level {r} {b} east north is at near =
    let short : leb (range x y level) 65535 ≡ true = grind arith in
    (λ i. Some (is i, at i)) ∙ sym (measured_by x y level ∙ ap (λ t. cond t (Some (range x y level, bearing x y)) None) short) ∙ (λ i. measured (east i) (north i) level)
