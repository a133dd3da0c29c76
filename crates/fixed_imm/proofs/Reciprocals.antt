-- A product by a reciprocal is a quotient, or one less.
use Rattle.std.proofs.Common.{◌≡◌, ◌∙◌, ℕ, ◌+◌, ◌-◌, ◌*◌, ◌/◌, ◌%◌, ◌^◌, ◌<◌, ◌≤◌, ℤ, pos, negsuc, ◌+ℤ◌, ◌-ℤ◌, ◌*ℤ◌, ◌≤ℤ◌, ◌<ℤ◌, arith, ap, refl, inl, inr}
use Rattle.std.specs.Prelude.{unsigned_abs}
use Rattle.std.specs.Int.{w64, int_div_euclid, cast_signed, cast_unsigned}
use Rattle.std.proofs.lemmas.Int.{ints, to_z-of_z, to_z_pos, fits_signed_from_abs}
use Rattle.std.proofs.lemmas.Nat.{mul-le, le-div, div-add-mod', div_below, mod_below}
use Rattle.std.proofs.lemmas.Bool.{cases_lt}

-- g is what u * r is by 2^64, where r is near 2^64 by b
low_by : (u r b g : ℕ) → g * 2 ^ 64 ≤ u * r → r * b ≤ 2 ^ 64 → g * b ≤ u
low_by u r b g h k =
    elim (cases_lt u (g * b)) [
      | inl lt ↦ absurd (omega (arith, lt, mul-le (g * 2 ^ 64) b (u * r) b h (omega arith), mul-le u (r * b) u (2 ^ 64) (omega arith) k))
      | inr ge ↦ ge
    ]

high_by : (u r b g : ℕ) → u * r + 1 ≤ (g + 1) * 2 ^ 64 → 2 ^ 64 ≤ r * b + b → u ≤ 2 ^ 64 → 1 ≤ b → u < (g + 2) * b
high_by u r b g h k most some =
    elim (cases_lt u ((g + 2) * b)) [
      | inl lt ↦ lt
      | inr ge ↦ absurd (omega (arith, ge, some, mul-le (u * r + 1) b ((g + 1) * 2 ^ 64) b h (omega arith), mul-le u (2 ^ 64) u (r * b + b) (omega arith) k, mul-le u b (2 ^ 64) b most (omega arith)))
    ]

-- the reciprocal
reciprocal_low : (r b : ℕ) → 1 ≤ b → r ≡ (2 ^ 64 - 1) / b → r * b ≤ 2 ^ 64
reciprocal_low r b some e = omega (arith, ap (λ n. n * b) e, div-add-mod' (2 ^ 64 - 1) b)

reciprocal_high : (r b : ℕ) → 1 ≤ b → r ≡ (2 ^ 64 - 1) / b → 2 ^ 64 ≤ r * b + b
reciprocal_high r b some e = omega (arith, ap (λ n. n * b) e, div-add-mod' (2 ^ 64 - 1) b, mod_below (2 ^ 64 - 1) b (omega (arith, some)))

-- a quotient, by what it leaves
pub quotient_is : (g a b : ℕ) → 1 ≤ b → g * b ≤ a → a < (g + 1) * b → g ≡ a / b
quotient_is g a b some low high =
    omega (arith, le-div g a b (omega (arith, some)) low, div_below a b (g + 1) (omega (arith, some)) (omega (arith, high)))

guess_low : (u r b : ℕ) → 1 ≤ b → r ≡ (2 ^ 64 - 1) / b → u * r / 2 ^ 64 * b ≤ u
guess_low u r b some e = low_by u r b (u * r / 2 ^ 64) (omega (arith, div-add-mod' (u * r) (2 ^ 64))) (reciprocal_low r b some e)

guess_high : (u r b : ℕ) → u < 2 ^ 64 → 1 ≤ b → r ≡ (2 ^ 64 - 1) / b → u < (u * r / 2 ^ 64 + 2) * b
guess_high u r b small some e =
    high_by u r b (u * r / 2 ^ 64) (omega (arith, div-add-mod' (u * r) (2 ^ 64), mod_below (u * r) (2 ^ 64) (omega arith))) (reciprocal_high r b some e) (omega (arith, small)) some

-- the code's terms, where it reads u as x and r as y
pub guess_below : (x y u b : ℕ) → x ≡ u → 1 ≤ b → y ≡ (2 ^ 64 - 1) / b → x * y / 2 ^ 64 * b ≤ u
guess_below x y u b e some r = omega (arith, e, guess_low x y b some r)

pub guess_is : (x y u b : ℕ) → x ≡ u → 1 ≤ b → y ≡ (2 ^ 64 - 1) / b → u - x * y / 2 ^ 64 * b < b → x * y / 2 ^ 64 ≡ u / b
guess_is x y u b e some r near =
    quotient_is (x * y / 2 ^ 64) u b some (guess_below x y u b e some r) (omega (arith, near, guess_below x y u b e some r))

pub guess_is_less : (x y u b : ℕ) → x ≡ u → u < 2 ^ 64 → 1 ≤ b → y ≡ (2 ^ 64 - 1) / b → b ≤ u - x * y / 2 ^ 64 * b → x * y / 2 ^ 64 + 1 ≡ u / b
guess_is_less x y u b e small some r far =
    quotient_is (x * y / 2 ^ 64 + 1) u b some (omega (arith, far, guess_below x y u b e some r)) (omega (arith, e, guess_high x y b (omega (arith, e, small)) some r))

-- a number rounded down, by its quotient without a sign
no_more : (n m : ℕ) → 1 ≤ m → n / m ≤ n
no_more n m some = omega (arith, div-add-mod' n m, mul-le (n / m) 1 (n / m) m (omega arith) some)

pub down : (a z : ℤ) (q m : ℕ) → a <ℤ pos 0 → unsigned_abs a < 2 ^ 63 → 1 ≤ m → z ≡ negsuc 0 -ℤ a → q ≡ unsigned_abs z / m → cast_signed w64 (cast_unsigned w64 (negsuc 0 -ℤ cast_signed w64 q)) ≡ int_div_euclid a (pos m)
down (pos n) z q m negative small some e f = absurd (omega (arith, ints, negative))
down (negsuc n) z q m negative small some e f =
    let same : unsigned_abs z ≡ n = omega (arith, ints, e) in
    let is : q ≡ n / m = f ∙ ap (λ k. k / m) same in
    let fits : q < 2 ^ 63 = omega (arith, is, no_more n m some, ints, small) in
    let below : negsuc 0 -ℤ pos q ≡ negsuc q = omega (arith, ints) in
    ap (λ k. cast_signed w64 (cast_unsigned w64 (negsuc 0 -ℤ k))) (to_z_pos w64 q fits)
    ∙ ap (λ k. cast_signed w64 (cast_unsigned w64 k)) below
    ∙ to_z-of_z w64 (negsuc q) (fits_signed_from_abs w64 (negsuc q) (omega (arith, ints, is, no_more n m some, small)))
    ∙ ap negsuc is

pub up : (a z : ℤ) (q m : ℕ) → pos 0 ≤ℤ a → unsigned_abs a < 2 ^ 63 → 1 ≤ m → z ≡ a → q ≡ unsigned_abs z / m → cast_signed w64 q ≡ int_div_euclid a (pos m)
up (negsuc n) z q m positive small some e f = absurd (omega (arith, ints, positive))
up (pos n) z q m positive small some e f =
    let is : q ≡ n / m = f ∙ ap (λ k. unsigned_abs k / m) e in
    to_z_pos w64 q (omega (arith, is, no_more n m some, small)) ∙ ap pos is

-- how the code reads what lies as far below zero as a number without a sign
pub below_read : (a y : ℤ) → unsigned_abs a < 2 ^ 63 → a <ℤ pos 0 → y ≡ a → cast_signed w64 (cast_unsigned w64 (negsuc 0 -ℤ y)) ≡ negsuc 0 -ℤ a
below_read a y small negative e =
    ap (λ z. cast_signed w64 (cast_unsigned w64 (negsuc 0 -ℤ z))) e ∙ to_z-of_z w64 (negsuc 0 -ℤ a) (fits_signed_from_abs w64 (negsuc 0 -ℤ a) (omega (arith, ints, small, negative)))
