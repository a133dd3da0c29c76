-- A turn keeps the length, but for what rounding adds.
use Rattle.std.proofs.Common.{◌≡◌, sym, inl, inr, ℕ, suc, ◌+◌, ◌-◌, ◌*◌, ◌^◌, ◌<◌, ◌≤◌, arith, subst, ℤ, pos, negsuc, neg_ℤ, ◌+ℤ◌, ◌-ℤ◌, ◌*ℤ◌, ◌≤ℤ◌}
use Rattle.std.specs.Prelude.{unsigned_abs}
use Rattle.std.specs.Int.{int_div_euclid, abs_diff}
use Rattle.std.proofs.lemmas.Int.{ints, unsigned_abs-mul}
use Rattle.std.proofs.lemmas.Nat.{mul-le, div-add-mod'}
use Rattle.std.proofs.lemmas.Bool.{cases_lt}
use Rattle.trk_base.specs.Numbers.{round}

-- twice the rounded number times the divisor is at most twice the number and the divisor
near_quotient : (z : ℤ) (m d : ℕ) → 0 < d → z ≤ℤ pos (2 * m + d) → (neg_ℤ (pos (2 * m)) +ℤ pos d) ≤ℤ z → unsigned_abs (int_div_euclid z (pos (2 * d))) * (2 * d) ≤ 2 * m + d
near_quotient (pos a) m d h high low = omega (arith, ints, div-add-mod' a (2 * d))
near_quotient (negsuc a) m d h high low = omega (arith, ints, div-add-mod' a (2 * d))

pub round_near : (x : ℤ) (d : ℕ) → 0 < d → unsigned_abs (round x (pos d)) * (2 * d) ≤ 2 * unsigned_abs x + d
round_near x d h = near_quotient (pos 2 *ℤ x +ℤ pos d) (unsigned_abs x) d h (omega (arith, ints)) (omega (arith, ints))

gap_square : (u k : ℕ) → k * k + 2 * (u * (u + k)) ≡ u * u + (u + k) * (u + k)
gap_square u k = omega arith

diff_square : (u v : ℕ) → abs_diff u v * abs_diff u v + 2 * (u * v) ≡ u * u + v * v
diff_square u v =
    elim (cases_lt u v) [
      | inl lt ↦ (let e : v ≡ u + (v - u) = omega arith in let f : abs_diff u v ≡ v - u = omega arith in let g = gap_square u (v - u) in rw f (subst (λ w. (v - u) * (v - u) + 2 * (u * w) ≡ u * u + w * w) (sym e) g))
      | inr ge ↦ (let e : u ≡ v + (u - v) = omega arith in let f : abs_diff u v ≡ u - v = omega arith in let g = gap_square v (u - v) in rw f (subst (λ w. (u - v) * (u - v) + 2 * (w * v) ≡ w * w + v * v) (sym e) (omega (arith, g))))
    ]

-- the sum of two squares times the sum of two squares
pub norms : (a b p q : ℕ) → (a * p + b * q) * (a * p + b * q) + abs_diff (b * p) (a * q) * abs_diff (b * p) (a * q) ≡ (a * a + b * b) * (p * p + q * q)
norms a b p q = omega (arith, diff_square (b * p) (a * q))

-- one rounded number, squared
pub near_square : (r x : ℕ) → r * 2 ^ 41 ≤ 2 * x + 2 ^ 40 → x ≤ 2 ^ 81 → r * r * 2 ^ 80 ≤ x * x + 2 ^ 121 + 2 ^ 78
near_square r x h small =
    let e : r * 2 ^ 40 ≤ x + 2 ^ 39 = omega arith in
    omega (arith, mul-le (r * 2 ^ 40) (r * 2 ^ 40) (x + 2 ^ 39) (x + 2 ^ 39) e e)

-- a square root is below the root of a bound
below_root : (x n b : ℕ) → x * x ≤ n → n ≤ b * b → x ≤ b
below_root x n b h k =
    elim (cases_lt b x) [
      | inl lt ↦ absurd (omega (arith, mul-le (b + 1) (b + 1) x x (omega arith) (omega arith)))
      | inr ge ↦ ge
    ]

-- after a turn by p and q the length's square has grown by 2 ^ 44 at most
pub turned_norm : (a b p q x y r s : ℕ) → a * a + b * b ≤ 2 ^ 81 → p * p + q * q ≤ 2 ^ 80 + 2 ^ 42 → x * x + y * y ≡ (a * a + b * b) * (p * p + q * q)
    → r * 2 ^ 41 ≤ 2 * x + 2 ^ 40 → s * 2 ^ 41 ≤ 2 * y + 2 ^ 40 → r * r + s * s ≤ a * a + b * b + 2 ^ 44
turned_norm a b p q x y r s small unit same near near' =
    let n = a * a + b * b in
    let most : n * (p * p + q * q) ≤ n * (2 ^ 80 + 2 ^ 42) = mul-le n (p * p + q * q) n (2 ^ 80 + 2 ^ 42) (omega arith) unit in
    let whole : x * x + y * y ≤ n * 2 ^ 80 + 2 ^ 123 = omega arith in
    let xs : x ≤ 2 ^ 81 = below_root x (n * 2 ^ 80 + 2 ^ 123) (2 ^ 81) (omega arith) (omega arith) in
    let ys : y ≤ 2 ^ 81 = below_root y (n * 2 ^ 80 + 2 ^ 123) (2 ^ 81) (omega arith) (omega arith) in
    omega (arith, near_square r x near xs, near_square s y near' ys)

-- the two sums of a turn, whatever the signs
pub turned_sums : (s c : ℤ) (p q : ℕ) →
    unsigned_abs (s *ℤ pos p +ℤ c *ℤ pos q) * unsigned_abs (s *ℤ pos p +ℤ c *ℤ pos q) + unsigned_abs (c *ℤ pos p -ℤ s *ℤ pos q) * unsigned_abs (c *ℤ pos p -ℤ s *ℤ pos q)
    ≡ (unsigned_abs s * unsigned_abs s + unsigned_abs c * unsigned_abs c) * (p * p + q * q)
turned_sums (pos a) (pos b) p q =
    let x : unsigned_abs (pos a *ℤ pos p +ℤ pos b *ℤ pos q) ≡ a * p + b * q = omega (arith, ints) in
    let y : unsigned_abs (pos b *ℤ pos p -ℤ pos a *ℤ pos q) ≡ abs_diff (b * p) (a * q) = omega (arith, ints) in
    rw (x, y) (norms a b p q)
turned_sums (negsuc a) (negsuc b) p q =
    let x : unsigned_abs (negsuc a *ℤ pos p +ℤ negsuc b *ℤ pos q) ≡ suc a * p + suc b * q = omega (arith, ints) in
    let y : unsigned_abs (negsuc b *ℤ pos p -ℤ negsuc a *ℤ pos q) ≡ abs_diff (suc b * p) (suc a * q) = omega (arith, ints) in
    rw (x, y) (norms (suc a) (suc b) p q)
turned_sums (pos a) (negsuc b) p q =
    let x : unsigned_abs (pos a *ℤ pos p +ℤ negsuc b *ℤ pos q) ≡ abs_diff (a * p) (suc b * q) = omega (arith, ints) in
    let y : unsigned_abs (negsuc b *ℤ pos p -ℤ pos a *ℤ pos q) ≡ suc b * p + a * q = omega (arith, ints) in
    rw (x, y) (omega (arith, norms (suc b) a p q))
turned_sums (negsuc a) (pos b) p q =
    let x : unsigned_abs (negsuc a *ℤ pos p +ℤ pos b *ℤ pos q) ≡ abs_diff (suc a * p) (b * q) = omega (arith, ints) in
    let y : unsigned_abs (pos b *ℤ pos p -ℤ negsuc a *ℤ pos q) ≡ b * p + suc a * q = omega (arith, ints) in
    rw (x, y) (omega (arith, norms b (suc a) p q))

-- by a half turn
pub half_sums : (s c : ℤ) →
    unsigned_abs (s *ℤ negsuc 1099511627775 +ℤ c *ℤ pos 0) * unsigned_abs (s *ℤ negsuc 1099511627775 +ℤ c *ℤ pos 0) + unsigned_abs (c *ℤ negsuc 1099511627775 -ℤ s *ℤ pos 0) * unsigned_abs (c *ℤ negsuc 1099511627775 -ℤ s *ℤ pos 0)
    ≡ (unsigned_abs s * unsigned_abs s + unsigned_abs c * unsigned_abs c) * 2 ^ 80
half_sums s c =
    let x : unsigned_abs (s *ℤ negsuc 1099511627775 +ℤ c *ℤ pos 0) ≡ unsigned_abs s * 2 ^ 40 = omega (arith, ints, unsigned_abs-mul s (negsuc 1099511627775)) in
    let y : unsigned_abs (c *ℤ negsuc 1099511627775 -ℤ s *ℤ pos 0) ≡ unsigned_abs c * 2 ^ 40 = omega (arith, ints, unsigned_abs-mul c (negsuc 1099511627775)) in
    rw (x, y) (omega arith)
