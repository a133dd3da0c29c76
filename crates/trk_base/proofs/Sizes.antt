-- What a term of the code is, without the conversions to bits and back, and how large it is at most.
use Rattle.std.proofs.Common.{lit<, T, ltb, ◌≡◌, ℕ, zero, suc, ◌+◌, ◌*◌, ◌^◌, ◌<◌, ◌≤◌, ◌/◌, ◌-◌, arith, refl, ap, ◌∙◌, ℤ, pos, negsuc, ◌+ℤ◌, ◌-ℤ◌, ◌*ℤ◌, ◌≤ℤ◌, ◌<ℤ◌, neg_ℤ, inl, inr}
use Rattle.std.specs.Int.{w64, w128, int_div_euclid, cast_signed, cast_unsigned}
use Rattle.std.specs.Prelude.{FitsSigned, unsigned_abs}
use Rattle.std.proofs.lemmas.Int.{ints, to_z-of_z, unsigned_abs-mul, fits_signed_from_abs}
use Rattle.std.proofs.lemmas.Nat.{mul-le, le-div, div-add-mod'}
use Rattle.std.proofs.lemmas.Bool.{cases_lt}
use lib.Signed.{mag}
use Rattle.trk_base.specs.Numbers.{round}

-- x is y, whose size is at most m
pub record Is (x y : ℤ) (m : ℕ) : Type 0 where
  pub same : x ≡ y
  pub within : unsigned_abs y ≤ m

pub is_var : {x : ℤ} (m : ℕ) → unsigned_abs x ≤ m → Is x x m
is_var m h = record { same = refl; within = h }

pub is_pos : {n : ℕ} → Is (pos n) (pos n) n
is_pos {n} = record { same = refl; within = omega arith }

pub is_mul : {a a' b b' : ℤ} {m n : ℕ} → Is a a' m → Is b b' n → Is (a *ℤ b) (a' *ℤ b') (m * n)
is_mul {a} {a'} {b} {b'} {m} {n} h k = record { same = ap (λ x. x *ℤ b) h.same ∙ ap (λ y. a' *ℤ y) k.same; within = rw (unsigned_abs-mul a' b') (mul-le _ _ _ _ h.within k.within) }

pub is_add : {a a' b b' : ℤ} {m n : ℕ} → Is a a' m → Is b b' n → Is (a +ℤ b) (a' +ℤ b') (m + n)
is_add {a} {a'} {b} {b'} {m} {n} h k = record { same = ap (λ x. x +ℤ b) h.same ∙ ap (λ y. a' +ℤ y) k.same; within = omega (arith, ints, h.within, k.within) }

pub is_sub : {a a' b b' : ℤ} {m n : ℕ} → Is a a' m → Is b b' n → Is (a -ℤ b) (a' -ℤ b') (m + n)
is_sub {a} {a'} {b} {b'} {m} {n} h k = record { same = ap (λ x. x -ℤ b) h.same ∙ ap (λ y. a' -ℤ y) k.same; within = omega (arith, ints, h.within, k.within) }

pub is_cast : {x y : ℤ} {m : ℕ} → Is x y m → m < 2 ^ 127 → Is (cast_signed w128 (cast_unsigned w128 x)) y m
is_cast {x} {y} {m} h small = record { same = ap (λ z. cast_signed w128 (cast_unsigned w128 z)) h.same ∙ to_z-of_z w128 y (fits_signed_from_abs w128 y (omega (arith, h.within))); within = h.within }

mul-sub-one : (q d : ℕ) → (q - 1) * d ≡ q * d - d
mul-sub-one zero d = omega arith
mul-sub-one (suc q) d = let e : suc q - 1 ≡ q = omega arith in let s : suc q ≡ q + 1 = omega arith in rw e (rw s (omega arith))

-- what follows
pub fits : {x y : ℤ} {m : ℕ} → Is x y m → m < 2 ^ 127 → FitsSigned w128 x
fits {x} {y} {m} h small = fits_signed_from_abs w128 x (rw h.same (omega (arith, h.within)))

pub below : {x y : ℤ} {m n : ℕ} → Is x y m → m < n → unsigned_abs x < n
below {x} {y} h small = rw h.same (omega (arith, h.within))

pub size : {x y : ℤ} {m n : ℕ} → Is x y m → m ≤ n → unsigned_abs x ≤ n
size {x} {y} h small = rw h.same (omega (arith, h.within))

below_half : (a m d : ℕ) → 0 < d → a ≤ 2 * m → a / (2 * d) ≤ m / d
below_half a m d h le = le-div (a / (2 * d)) m d h (omega (arith, div-add-mod' a (2 * d)))

above_half : (a m d : ℕ) → 0 < d → a ≤ 2 * m + d → a / (2 * d) ≤ m / d + 1
above_half a m d h le =
    let q : a / (2 * d) - 1 ≤ m / d = le-div (a / (2 * d) - 1) m d h (omega (arith, div-add-mod' a (2 * d), mul-sub-one (a / (2 * d)) d)) in
    omega arith

quotient_size : (z : ℤ) (m d : ℕ) → 0 < d → z ≤ℤ pos (2 * m + d) → neg_ℤ (pos (2 * m)) ≤ℤ z → unsigned_abs (int_div_euclid z (pos (2 * d))) ≤ m / d + 1
quotient_size (pos a) m d h le low = above_half a m d h (omega (arith, ints))
quotient_size (negsuc a) m d h le low = omega (arith, below_half a m d h (omega (arith, ints)))

pub round_size : (x : ℤ) (m d : ℕ) → 0 < d → unsigned_abs x ≤ m → unsigned_abs (round x (pos d)) ≤ m / d + 1
round_size x m d h le = quotient_size (pos 2 *ℤ x +ℤ pos d) m d h (omega (arith, ints)) (omega (arith, ints))

-- a call of `round_div`
pub is_round : {r a a' b : ℤ} {m d : ℕ} → r ≡ round a b → Is a a' m → b ≡ pos d → 0 < d → Is r (round a' (pos d)) (m / d + 1)
is_round {r} {a} {a'} {b} {m} {d} e h f some = record { same = e ∙ ap (λ x. round x b) h.same ∙ ap (round a') f; within = round_size a' m d some h.within }

-- The same for the code's terms, where each value passes through its bits: the last argument is `tt`
pub var : (x : ℤ) (m : ℕ) → unsigned_abs x ≤ m → T (ltb m (2 ^ 127)) → Is (cast_signed w128 (cast_unsigned w128 x)) x m
var x m h t = is_cast (is_var m h) (lit< t)

pub times : {a a' b b' : ℤ} {m n : ℕ} → Is a a' m → Is b b' n → T (ltb (m * n) (2 ^ 127)) → Is (cast_signed w128 (cast_unsigned w128 (a *ℤ b))) (a' *ℤ b') (m * n)
times h k t = is_cast (is_mul h k) (lit< t)

pub plus : {a a' b b' : ℤ} {m n : ℕ} → Is a a' m → Is b b' n → T (ltb (m + n) (2 ^ 127)) → Is (cast_signed w128 (cast_unsigned w128 (a +ℤ b))) (a' +ℤ b') (m + n)
plus h k t = is_cast (is_add h k) (lit< t)

pub minus : {a a' b b' : ℤ} {m n : ℕ} → Is a a' m → Is b b' n → T (ltb (m + n) (2 ^ 127)) → Is (cast_signed w128 (cast_unsigned w128 (a -ℤ b))) (a' -ℤ b') (m + n)
minus h k t = is_cast (is_sub h k) (lit< t)

-- a call of `round_div` with a number as the divisor
pub rounded : (d : ℕ) {r a a' : ℤ} {m : ℕ} → r ≡ round a (pos d) → Is a a' m → T (ltb 0 d) → T (ltb (m / d + 1) (2 ^ 127)) → Is (cast_signed w128 (cast_unsigned w128 r)) (round a' (pos d)) (m / d + 1)
rounded d e h some t = is_cast (is_round e h refl (lit< some)) (lit< t)

-- through the bits of 64
pub is_cast64 : {x y : ℤ} {m : ℕ} → Is x y m → m < 2 ^ 63 → Is (cast_signed w64 (cast_unsigned w64 x)) y m
is_cast64 {x} {y} {m} h small = record { same = ap (λ z. cast_signed w64 (cast_unsigned w64 z)) h.same ∙ to_z-of_z w64 y (fits_signed_from_abs w64 y (omega (arith, h.within))); within = h.within }

-- a value of the code
pub through : {x : ℤ} → mag x < 2 ^ 127 → cast_signed w128 (cast_unsigned w128 x) ≡ x
through {x} h = to_z-of_z w128 x (record { sfits = h })

-- a call of `abs`
pub is_abs : {r x y : ℤ} {m : ℕ} → r ≡ pos (unsigned_abs x) → Is x y m → Is r (pos (unsigned_abs y)) m
is_abs {r} {x} {y} {m} e h = record { same = e ∙ ap (λ z. pos (unsigned_abs z)) h.same; within = h.within }

-- Rounding by a divisor that is no numeral

share_above : (a b m : ℕ) → 0 < b → a ≤ 2 * (m * b) + b → a / (2 * b) ≤ m
share_above a b m h le =
    elim (cases_lt m (a / (2 * b))) [
      | inl lt ↦ absurd (omega (arith, div-add-mod' a (2 * b), mul-le (m + 1) (2 * b) (a / (2 * b)) (2 * b) (omega arith) (omega arith)))
      | inr ge ↦ ge
    ]

share_below : (a b m : ℕ) → 0 < b → a + 1 + b ≤ 2 * (m * b) → a / (2 * b) + 1 ≤ m
share_below a b m h le =
    elim (cases_lt (a / (2 * b)) m) [
      | inl lt ↦ omega arith
      | inr ge ↦ absurd (omega (arith, div-add-mod' a (2 * b), mul-le m (2 * b) (a / (2 * b)) (2 * b) ge (omega arith)))
    ]

share_size : (z : ℤ) (b m : ℕ) → 0 < b → z ≤ℤ pos (2 * (m * b) + b) → (neg_ℤ (pos (2 * (m * b))) +ℤ pos b) ≤ℤ z → unsigned_abs (int_div_euclid z (pos (2 * b))) ≤ m
share_size (pos a) b m h high low = share_above a b m h (omega (arith, ints))
share_size (negsuc a) b m h high low = omega (arith, share_below a b m h (omega (arith, ints)))

-- the quotient is at most m where the dividend is at most m divisors
pub round_share : (x : ℤ) (b m : ℕ) → 0 < b → unsigned_abs x ≤ m * b → unsigned_abs (round x (pos b)) ≤ m
round_share x b m h le = share_size (pos 2 *ℤ x +ℤ pos b) b m h (omega (arith, ints)) (omega (arith, ints))

-- so it is never larger than the dividend
pub round_within : (x : ℤ) (b : ℕ) → 0 < b → unsigned_abs (round x (pos b)) ≤ unsigned_abs x
round_within x b h = round_share x b (unsigned_abs x) h (omega (arith, mul-le (unsigned_abs x) 1 (unsigned_abs x) b (omega arith) h))

within_by : (x b : ℤ) (m : ℕ) → pos 0 <ℤ b → unsigned_abs x ≤ m → unsigned_abs (round x b) ≤ m
within_by x (pos b) m some le = omega (arith, round_within x b (omega (arith, ints)))
within_by x (negsuc b) m some le = absurd (omega (arith, ints))

share_by : (x b : ℤ) (m : ℕ) → pos 0 <ℤ b → unsigned_abs x ≤ m * unsigned_abs b → unsigned_abs (round x b) ≤ m
share_by x (pos b) m some le = round_share x b m (omega (arith, ints)) le
share_by x (negsuc b) m some le = absurd (omega (arith, ints))

-- a dividend without a sign gives a quotient without one
pub round_pos : (a b : ℕ) → round (pos a) (pos b) ≡ pos ((2 * a + b) / (2 * b))
round_pos a b = refl

pub round_pos_share : (a b m : ℕ) → 0 < b → a ≤ m * b → (2 * a + b) / (2 * b) ≤ m
round_pos_share a b m h le = round_share (pos a) b m h le

-- a call of `round_div`
pub is_round_by : {r a a' b b' : ℤ} {m n : ℕ} → r ≡ round a b → Is a a' m → Is b b' n → pos 0 <ℤ b' → Is r (round a' b') m
is_round_by {r} {a} {a'} {b} {b'} {m} {n} e h k some = record {
  same = e ∙ ap (λ x. round x b) h.same ∙ ap (round a') k.same;
  within = within_by a' b' m some h.within;
}

-- a call of `round_div` whose dividend is at most m divisors
pub is_round_share : {r a a' b b' : ℤ} {l n : ℕ} (m : ℕ) → r ≡ round a b → Is a a' l → Is b b' n → pos 0 <ℤ b' → unsigned_abs a' ≤ m * unsigned_abs b' → Is r (round a' b') m
is_round_share {r} {a} {a'} {b} {b'} {l} {n} m e h k some le = record {
  same = e ∙ ap (λ x. round x b) h.same ∙ ap (round a') k.same;
  within = share_by a' b' m some le;
}

-- those two through the bits of the code's term: the last argument is `tt`
pub rounded_by : {r a a' b b' : ℤ} {m n : ℕ} → r ≡ round a b → Is a a' m → Is b b' n → pos 0 <ℤ b' → T (ltb m (2 ^ 127)) → Is (cast_signed w128 (cast_unsigned w128 r)) (round a' b') m
rounded_by e h k some t = is_cast (is_round_by e h k some) (lit< t)

pub rounded_share : {r a a' b b' : ℤ} {l n : ℕ} (m : ℕ) → r ≡ round a b → Is a a' l → Is b b' n → pos 0 <ℤ b' → unsigned_abs a' ≤ m * unsigned_abs b' → T (ltb m (2 ^ 127)) → Is (cast_signed w128 (cast_unsigned w128 r)) (round a' b') m
rounded_share m e h k some le t = is_cast (is_round_share m e h k some le) (lit< t)

-- a number of 64 bits with a sign, as one of 128
pub wide : (x : ℤ) (m : ℕ) → unsigned_abs x ≤ m → T (ltb m (2 ^ 63)) → T (ltb m (2 ^ 127)) → Is (cast_signed w128 (cast_unsigned w128 (cast_signed w64 (cast_unsigned w64 x)))) x m
wide x m h s t = is_cast (is_cast64 (is_var m h) (lit< s)) (lit< t)
