-- The piecewise linear power of two never rises.
use Rattle.std.proofs.Common.{◌≡◌, inl, inr, ℕ, suc, ◌+◌, ◌-◌, ◌*◌, ◌/◌, ◌%◌, ◌^◌, ◌<◌, ◌≤◌, arith, ap, sym, ◌∙◌, subst, lit<}
use Rattle.std.proofs.lemmas.Bool.{cases_lt}
use Rattle.std.proofs.lemmas.Nat.{pow_pos, le-div, mul-le}
use Rattle.std.proofs.Math.Nat.{pow-le-pow_right, div-div-eq-div-mul, div-mul-le_self}
use Rattle.trk_base.specs.Numbers.{exp2_lin}

-- the power on the segment n, part of 65,536 along it
abbrev pub chord : ℕ → ℕ → ℕ
chord n part = 2 ^ 30 / 2 ^ n - 2 ^ 29 / 2 ^ n * part / 65536

-- a segment falls by half of where it begins
half : (n : ℕ) → 2 ^ 29 / 2 ^ n ≡ 2 ^ 30 / 2 ^ n / 2
half n =
    let one : 2 ^ 30 / 2 / 2 ^ n ≡ 2 ^ 30 / (2 * 2 ^ n) = div-div-eq-div-mul (2 ^ 30) 2 (2 ^ n) in
    let two : 2 ^ 30 / 2 ^ n / 2 ≡ 2 ^ 30 / (2 ^ n * 2) = div-div-eq-div-mul (2 ^ 30) (2 ^ n) 2 in
    let same : 2 * 2 ^ n ≡ 2 ^ n * 2 = omega arith in
    one ∙ ap (λ d. 2 ^ 30 / d) same ∙ sym two

-- what a part of the whole comes to, at most
part_le : (b f g : ℕ) → f ≤ g → b * f / 65536 ≤ b * g / 65536
part_le b f g le = le-div (b * f / 65536) (b * g) 65536 (lit< tt) (omega (arith, div-mul-le_self (b * f) 65536, mul-le b f b g (omega arith) le))

whole_part : (b : ℕ) → b * 65536 / 65536 ≡ b
whole_part b = omega arith

chord_falls : (n f g : ℕ) → g ≤ f → chord n f ≤ chord n g
chord_falls n f g le = omega (arith, part_le (2 ^ 29 / 2 ^ n) g f le)

pub chord_top : (n f : ℕ) → chord n f ≤ 2 ^ 30 / 2 ^ n
chord_top n f = omega arith

-- the rest of the segment's start is at least the next one's
chord_low : (n f : ℕ) → f < 65536 → 2 ^ 30 / 2 ^ suc n ≤ chord n f
chord_low n f h =
    let a = 2 ^ 30 / 2 ^ n in
    let next : 2 ^ 30 / 2 ^ n / 2 ≡ 2 ^ 30 / (2 ^ n * 2) = div-div-eq-div-mul (2 ^ 30) (2 ^ n) 2 in
    let same : 2 ^ suc n ≡ 2 ^ n * 2 = omega arith in
    let fall : 2 ^ 29 / 2 ^ n * f / 65536 ≤ 2 ^ 29 / 2 ^ n * 65536 / 65536 = part_le (2 ^ 29 / 2 ^ n) f 65536 (omega arith) in
    omega (arith, half n, whole_part (2 ^ 29 / 2 ^ n), ap (λ d. 2 ^ 30 / d) same)

start_falls : (m n : ℕ) → m ≤ n → 2 ^ 30 / 2 ^ n ≤ 2 ^ 30 / 2 ^ m
start_falls m n le =
    le-div (2 ^ 30 / 2 ^ n) (2 ^ 30) (2 ^ m) (pow_pos m)
    (omega (arith, div-mul-le_self (2 ^ 30) (2 ^ n), mul-le (2 ^ 30 / 2 ^ n) (2 ^ m) (2 ^ 30 / 2 ^ n) (2 ^ n) (omega arith) (pow-le-pow_right (lit< tt) le)))

pub chords_fall : (m n f g : ℕ) → g < 65536 → m * 65536 + g ≤ n * 65536 + f → f < 65536 → chord n f ≤ chord m g
chords_fall m n f g hg le hf =
    elim (cases_lt m n) [
      | inl lt ↦ omega (arith, chord_top n f, start_falls (suc m) n (omega arith), chord_low m g hg)
      | inr ge ↦ (let e : m ≡ n = omega arith in subst (λ k. chord n f ≤ chord k g) (sym e) (chord_falls n f g (omega arith)))
    ]

pub exp2_lin_tail : (q : ℕ) → 31 ≤ q / 65536 → exp2_lin q ≡ 0
unfolding exp2_lin
exp2_lin_tail q h = grind arith

pub exp2_lin_chord : (q : ℕ) → q / 65536 < 31 → exp2_lin q ≡ chord (q / 65536) (q % 65536)
unfolding exp2_lin
exp2_lin_chord q h = grind arith

-- a greater argument gives no greater power
pub exp2_lin_falls : (p q : ℕ) → p ≤ q → exp2_lin q ≤ exp2_lin p
exp2_lin_falls p q le =
    elim (cases_lt (q / 65536) 31) [
      | inl lt ↦ rw (exp2_lin_chord q lt, exp2_lin_chord p (omega arith)) (chords_fall (p / 65536) (q / 65536) (q % 65536) (p % 65536) (omega arith) (omega arith) (omega arith))
      | inr ge ↦ rw (exp2_lin_tail q ge) (omega arith)
    ]

pub exp2_lin_most : (q : ℕ) → exp2_lin q ≤ 2 ^ 30
exp2_lin_most q =
    elim (cases_lt (q / 65536) 31) [
      | inl lt ↦ rw (exp2_lin_chord q lt) (omega (arith, chord_top (q / 65536) (q % 65536), start_falls 0 (q / 65536) (omega arith)))
      | inr ge ↦ rw (exp2_lin_tail q ge) (omega arith)
    ]
