-- Mixtures stay within the bounds of what they mix.
use Rattle.std.proofs.Common.{◌≡◌, ℕ, suc, ◌+◌, ◌-◌, ◌*◌, ◌/◌, ◌^◌, ◌<◌, ◌≤◌, ℤ, pos, negsuc, neg_ℤ, ◌+ℤ◌, ◌-ℤ◌, ◌*ℤ◌, ◌≤ℤ◌, inl, inr, arith, refl, ap, subst}
use Rattle.std.specs.Prelude.{unsigned_abs}
use Rattle.std.specs.Int.{int_div_euclid}
use Rattle.std.proofs.lemmas.Int.{ints}
use Rattle.std.proofs.lemmas.Nat.{mul-le}
use Rattle.std.proofs.lemmas.Bool.{cases_lt}
use Rattle.trk_base.specs.Numbers.{round, IsBetween}
use Rattle.trk_base.proofs.Sizes.{round_pos_share}
use Rattle.fixed_imm.specs.Mixing.{share, mean, covariance}
use Rattle.fixed_imm.proofs.Squares.{square}

-- a part of n, upwards and downwards
part_up : (k n : ℕ) → k ≤ 65536 → IsBetween (pos 0) (round (pos (k * n)) (pos 65536)) (pos n)
part_up k n h = let le : k * n ≤ 65536 * n = mul-le k n 65536 n h (omega arith) in record { from = omega (arith, ints); to = omega (arith, ints) }

quotient_down : (z : ℤ) (n : ℕ) → neg_ℤ (pos (131072 * n)) ≤ℤ z → z ≤ℤ pos 131071 → IsBetween (neg_ℤ (pos n)) (int_div_euclid z (pos 131072)) (pos 0)
quotient_down (pos a) n low high = record { from = omega (arith, ints); to = omega (arith, ints) }
quotient_down (negsuc a) n low high = record { from = omega (arith, ints); to = omega (arith, ints) }

part_down : (k n : ℕ) → k ≤ 65536 → IsBetween (neg_ℤ (pos n)) (round (neg_ℤ (pos (k * n))) (pos 65536)) (pos 0)
part_down k n h =
    let le : k * n ≤ 65536 * n = mul-le k n 65536 n h (omega arith) in
    quotient_down (pos 2 *ℤ neg_ℤ (pos (k * n)) +ℤ pos 65536) n (omega (arith, ints)) (omega (arith, ints))

mean_by : (k : ℕ) (x0 x1 d : ℤ) (m : ℕ) → k ≤ 65536 → x0 -ℤ x1 ≡ d → unsigned_abs x0 ≤ m → unsigned_abs x1 ≤ m → unsigned_abs (x1 +ℤ round (pos k *ℤ d) (pos 65536)) ≤ m
mean_by k x0 x1 (pos n) m h e first second =
    let part = part_up k n h in
    omega (arith, ints, part.from, part.to)
mean_by k x0 x1 (negsuc n) m h e first second =
    let part = part_down k (suc n) h in
    omega (arith, ints, part.from, part.to)

-- a mean is no larger than the larger of both
pub mean_within : (g x0 x1 : ℤ) (m : ℕ) → IsBetween (pos 0) g (pos 65536) → unsigned_abs x0 ≤ m → unsigned_abs x1 ≤ m → unsigned_abs (mean g x0 x1) ≤ m
unfolding mean
mean_within (pos k) x0 x1 m h first second = mean_by k x0 x1 (x0 -ℤ x1) m (omega (arith, ints, h.to)) refl first second
mean_within (negsuc k) x0 x1 m h first second = absurd (omega (arith, ints, h.from))

between_by : (k : ℕ) (x0 x1 d low high : ℤ) → k ≤ 65536 → x0 -ℤ x1 ≡ d → IsBetween low x0 high → IsBetween low x1 high → IsBetween low (x1 +ℤ round (pos k *ℤ d) (pos 65536)) high
between_by k x0 x1 (pos n) low high h e first second =
    let part = part_up k n h in
    record { from = omega (arith, ints, part.from, second.from); to = omega (arith, ints, part.to, first.to) }
between_by k x0 x1 (negsuc n) low high h e first second =
    let part = part_down k (suc n) h in
    record { from = omega (arith, ints, part.from, first.from); to = omega (arith, ints, part.to, second.to) }

-- and lies between both
pub mean_between : (g x0 x1 low high : ℤ) → IsBetween (pos 0) g (pos 65536) → IsBetween low x0 high → IsBetween low x1 high → IsBetween low (mean g x0 x1) high
unfolding mean
mean_between (pos k) x0 x1 low high h first second = between_by k x0 x1 (x0 -ℤ x1) low high (omega (arith, ints, h.to)) refl first second
mean_between (negsuc k) x0 x1 low high h first second = absurd (omega (arith, ints, h.from))

-- variances by their weights k and h
weighted_low : (k h a b : ℕ) → k + h ≡ 65536 → 1 ≤ a → 1 ≤ b → 65536 ≤ k * a + h * b
weighted_low k h a b e a_low b_low = omega (arith, mul-le k 1 k a (omega arith) a_low, mul-le h 1 h b (omega arith) b_low)

weighted_high : (k h a b m : ℕ) → k + h ≡ 65536 → a ≤ m → b ≤ m → k * a + h * b ≤ 65536 * m
weighted_high k h a b m e a_high b_high =
    let sum : k * m + h * m ≡ (k + h) * m = omega arith in
    omega (arith, sum, ap (λ n. n * m) e, mul-le k a k m (omega arith) a_high, mul-le h b h m (omega arith) b_high)

-- two parts of 65,536 have at most a quarter of its square as their product
product_le_square : (k x : ℕ) → k * (k + 2 * x) ≤ (k + x) * (k + x)
product_le_square k x = omega arith

half_product : (k h x : ℕ) → k + x ≡ 32768 → h ≡ k + 2 * x → k * h ≤ 2 ^ 30
half_product k h x e f = rw f (omega (arith, product_le_square k x, ap (λ n. n * n) e))

parts_product : (k h : ℕ) → k + h ≡ 65536 → k * h ≤ 2 ^ 30
parts_product k h e =
    elim (cases_lt k 32768) [
      | inl lt ↦ half_product k h (32768 - k) (omega arith) (omega arith)
      | inr ge ↦ let turned : k * h ≡ h * k = omega arith in rw turned (half_product h k (k - 32768) (omega arith) (omega arith))
    ]

spread_high : (k h s : ℕ) → k + h ≡ 65536 → s ≤ 512000000 → k * h * (s * s) ≤ 2 ^ 30 * (512000000 * 512000000)
spread_high k h s e le = mul-le (k * h) (s * s) (2 ^ 30) (512000000 * 512000000) (parts_product k h e) (mul-le s s 512000000 512000000 le le)

variance_by : (k h a b s : ℕ) → k + h ≡ 65536 → 1 ≤ a → a ≤ 2 ^ 46 → 1 ≤ b → b ≤ 2 ^ 46 → s ≤ 512000000
    → IsBetween (pos 1) (round (pos (k * a + h * b)) (pos 65536) +ℤ round (pos (k * h * (s * s))) (pos (2 ^ 32))) (pos (256000000 * 256000000 + 2 ^ 46))
variance_by k h a b s e a_low a_high b_low b_high le =
    let low : 65536 ≤ k * a + h * b = weighted_low k h a b e a_low b_low in
    let high : k * a + h * b ≤ 65536 * 2 ^ 46 = weighted_high k h a b (2 ^ 46) e a_high b_high in
    let spread : k * h * (s * s) ≤ 2 ^ 30 * (512000000 * 512000000) = spread_high k h s e le in
    record { from = omega (arith, ints); to = omega (arith, ints) }

rest_is : (k h : ℕ) → k + h ≡ 65536 → pos 65536 -ℤ pos k ≡ pos h
rest_is k h e = omega (arith, ints)

variance_at : (k : ℕ) (q0 q1 dp : ℤ) → k ≤ 65536 → IsBetween (pos 1) q0 (pos (2 ^ 46)) → IsBetween (pos 1) q1 (pos (2 ^ 46)) → unsigned_abs dp ≤ 512000000
    → IsBetween (pos 1) (covariance (pos k) q0 q1 (dp *ℤ dp)) (pos (256000000 * 256000000 + 2 ^ 46))
unfolding covariance
variance_at k (pos a) (pos b) dp le first second near =
    rw (rest_is k (65536 - k) (omega arith), square dp)
    (variance_by k (65536 - k) a b (unsigned_abs dp) (omega arith) (omega (arith, ints, first.from)) (omega (arith, ints, first.to)) (omega (arith, ints, second.from)) (omega (arith, ints, second.to)) near)
variance_at k (negsuc a) q1 dp le first second near = absurd (omega (arith, ints, first.from))
variance_at k (pos a) (negsuc b) dp le first second near = absurd (omega (arith, ints, second.from))

-- the variance of a mixture of positions is a variance, and never more than half the greatest distance squared above the variances
pub variance_within : (g q0 q1 dp : ℤ) → IsBetween (pos 0) g (pos 65536) → IsBetween (pos 1) q0 (pos (2 ^ 46)) → IsBetween (pos 1) q1 (pos (2 ^ 46)) → unsigned_abs dp ≤ 512000000
    → IsBetween (pos 1) (covariance g q0 q1 (dp *ℤ dp)) (pos (256000000 * 256000000 + 2 ^ 46))
variance_within (pos k) q0 q1 dp part first second near = variance_at k q0 q1 dp (omega (arith, ints, part.to)) first second near
variance_within (negsuc k) q0 q1 dp part first second near = absurd (omega (arith, ints, part.from))

-- a share, as the code divides
pub share_is : (a b : ℕ) → pos ((131072 * a + (a + b)) / (2 * (a + b))) ≡ share a b
unfolding share
share_is a b =
    let twice : 131072 * a + (a + b) ≡ 2 * (65536 * a) + (a + b) = omega arith in
    ap (λ n. pos (n / (2 * (a + b)))) twice

pub share_size : (a b : ℕ) → 0 < a + b → (131072 * a + (a + b)) / (2 * (a + b)) ≤ 65536
share_size a b some =
    let twice : 131072 * a + (a + b) ≡ 2 * (65536 * a) + (a + b) = omega arith in
    rw twice (round_pos_share (65536 * a) (a + b) 65536 some (omega arith))

pub share_part : (a b : ℕ) → 0 < a + b → IsBetween (pos 0) (share a b) (pos 65536)
share_part a b some =
    let most : (131072 * a + (a + b)) / (2 * (a + b)) ≤ 65536 = share_size a b some in
    subst (λ z. IsBetween (pos 0) z (pos 65536)) (share_is a b) (record { from = omega (arith, ints); to = omega (arith, ints) })
