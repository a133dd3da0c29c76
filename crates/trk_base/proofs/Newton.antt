-- Newton's method for a root: a step from an estimate that is not below the root gives one again, and a lower one as long as the square is above the number.
use Rattle.std.proofs.Common.{◌≡◌, inl, inr, ℕ, zero, suc, ◌+◌, ◌*◌, ◌/◌, ◌%◌, ◌-◌, ◌<◌, ◌≤◌, ◌^◌, arith, ap, subst, ◌∙◌, lit<}
use lib.Count.{count_leading_zeros}
use Rattle.std.proofs.lemmas.Bool.{cases_lt}
use Rattle.std.proofs.lemmas.Nat.{mul-le, div-add-mod', pow_pos, pow-add, one_shl, leading_length}
use Rattle.std.proofs.Math.Nat.{pow-le-pow_right, div-mul-le_self}

-- twice the mean squared is at least the product, four times
product_le : (a d : ℕ) → 4 * (a * (a + d)) ≤ (a + (a + d)) * (a + (a + d))
product_le a d = omega (arith, mul-le 0 0 d d (omega arith) (omega arith))

pub mean_le : (a b : ℕ) → 4 * (a * b) ≤ (a + b) * (a + b)
mean_le a b =
    elim (cases_lt a b) [
      | inl lt ↦ (let e : b ≡ a + (b - a) = omega arith in rw e (product_le a (b - a)))
      | inr ge ↦ (let e : a ≡ b + (a - b) = omega arith in rw e (omega (arith, product_le b (a - b))))
    ]

-- the next estimate isn't below the root
pub step_above : (n x : ℕ) → 0 < x → n < ((x + n / x) / 2 + 1) * ((x + n / x) / 2 + 1)
step_above n x some =
    let q = n / x in
    let y = (x + q) / 2 + 1 in
    let below : n < (q + 1) * x = omega (arith, div-add-mod' n x) in
    let wide : x + (q + 1) ≤ 2 * y = omega arith in
    omega (arith, mean_le x (q + 1), mul-le (x + (q + 1)) (x + (q + 1)) (2 * y) (2 * y) wide wide)

-- it is lower, as long as the square is above the number
pub step_below : (n x : ℕ) → n < x * x → (x + n / x) / 2 < x
step_below n x above =
    elim (cases_lt (n / x) x) [
      | inl lt ↦ omega arith
      | inr ge ↦ absurd (omega (arith, div-add-mod' n x, mul-le x x (n / x) x ge (omega arith)))
    ]

pub some_root : (n x : ℕ) → n < x * x → 0 < x
some_root n zero above = absurd (omega arith)
some_root n (suc x) above = omega arith

-- a quotient by half of the digits has the other half
pub quotient_lt : (n h k : ℕ) → n < 2 ^ (k + h) → n / 2 ^ h < 2 ^ k
quotient_lt n h k small =
    elim (cases_lt (n / 2 ^ h) (2 ^ k)) [
      | inl lt ↦ lt
      | inr ge ↦ absurd (omega (arith, div-mul-le_self n (2 ^ h), mul-le (2 ^ k) (2 ^ h) (n / 2 ^ h) (2 ^ h) ge (omega arith), pow-add 2 k h))
    ]

powers_rise : (h k : ℕ) → h ≤ k → 2 ^ h ≤ 2 ^ k
powers_rise h k le = pow-le-pow_right (lit< tt) le

start_small : (n m : ℕ) → m ≤ 64 → n < 2 ^ m → 2 ^ (m / 2) + n / 2 ^ (m / 2) < 2 ^ 33
start_small n m le small =
    let h = m / 2 in
    let e : m ≡ (m - h) + h = omega arith in
    let q : n / 2 ^ h < 2 ^ (m - h) = quotient_lt n h (m - h) (subst (λ k. n < 2 ^ k) e small) in
    let low : h ≤ 32 = omega arith in
    let high : m - h ≤ 32 = omega arith in
    omega (arith, powers_rise h 32 low, powers_rise (m - h) 32 high, q)

-- how the root of a number of 64 bits begins: the shift is a power of two, and the sum is small
pub record Begins64 (n h : ℕ) : Type 0 where
  pub power : 1 * 2 ^ h % 2 ^ 64 ≡ 2 ^ h
  pub small : 2 ^ h + n / 2 ^ h < 2 ^ 33

pub begins_64 : (n : ℕ) → n < 2 ^ 64 → Begins64 n ((64 - count_leading_zeros 64 n) / 2)
begins_64 n fits =
    let l = leading_length 64 n fits in
    let e : 64 - count_leading_zeros 64 n ≡ l.0 = omega (arith, l.1) in
    rw e (record { power = one_shl (l.0 / 2) 64 (omega (arith, l.1)); small = start_small n l.0 (omega (arith, l.1)) l.2 })

-- how the root of a larger number begins
pub record Begins128 (n h : ℕ) : Type 0 where
  pub leading : count_leading_zeros 128 n ≤ 63
  pub half : h ≤ 32
  pub upper : n / 2 ^ (2 * h) < 2 ^ 64

pub begins_128 : (n : ℕ) → 2 ^ 64 ≤ n → n < 2 ^ 128 → Begins128 n ((65 - count_leading_zeros 128 n) / 2)
begins_128 n large fits =
    let l = leading_length 128 n fits in
    let many : 65 ≤ l.0 =
    elim (cases_lt 64 l.0) [
      | inl lt ↦ omega arith
      | inr ge ↦ absurd (omega (arith, l.2, powers_rise l.0 64 ge))
    ] in
    let e : 65 - count_leading_zeros 128 n ≡ l.0 - 63 = omega (arith, l.1) in
    let h = (l.0 - 63) / 2 in
    let digits : l.0 ≤ 64 + 2 * h = omega arith in
    rw e (record { leading = omega (arith, l.1); half = omega (arith, l.1); upper = quotient_lt n (2 * h) 64 (omega (arith, powers_rise l.0 (64 + 2 * h) digits, l.2)) })

scaled : (n b h : ℕ) → n / 2 ^ (2 * h) < b * b → n < (b * 2 ^ h) * (b * 2 ^ h)
scaled n b h small =
    let e : 2 ^ (2 * h) ≡ 2 ^ h * 2 ^ h = ap (λ k. 2 ^ k) (omega arith) ∙ pow-add 2 h h in
    let rest : n % 2 ^ (2 * h) < 2 ^ (2 * h) = omega (arith, pow_pos (2 * h)) in
    let whole : (n / 2 ^ (2 * h) + 1) * 2 ^ (2 * h) ≤ (b * b) * 2 ^ (2 * h) = mul-le (n / 2 ^ (2 * h) + 1) (2 ^ (2 * h)) (b * b) (2 ^ (2 * h)) (omega arith) (omega arith) in
    let below : n < (b * b) * 2 ^ (2 * h) = omega (arith, div-add-mod' n (2 ^ (2 * h))) in
    let same : (b * b) * 2 ^ (2 * h) ≡ (b * 2 ^ h) * (b * 2 ^ h) = rw e (omega arith) in
    subst (λ k. n < k) same below

-- the root of the upper digits, with ones after it, isn't below the root
pub first_above : (n upper h : ℕ) → h ≤ 32 → upper < 2 ^ 32 → n / 2 ^ (2 * h) < (upper + 1) * (upper + 1) →
    (upper * 2 ^ h % 2 ^ 64 + (1 * 2 ^ h % 2 ^ 64 - 1) < 2 ^ 64)
    × (n < (upper * 2 ^ h % 2 ^ 64 + (1 * 2 ^ h % 2 ^ 64 - 1) + 1) * (upper * 2 ^ h % 2 ^ 64 + (1 * 2 ^ h % 2 ^ 64 - 1) + 1))
first_above n upper h le small root =
    let all : (upper + 1) * 2 ^ h ≤ 2 ^ 32 * 2 ^ 32 = mul-le (upper + 1) (2 ^ h) (2 ^ 32) (2 ^ 32) (omega arith) (powers_rise h 32 le) in
    let part : upper * 2 ^ h % 2 ^ 64 ≡ upper * 2 ^ h = omega (arith, pow_pos h) in
    let sum : upper * 2 ^ h + (2 ^ h - 1) + 1 ≡ (upper + 1) * 2 ^ h = omega (arith, pow_pos h) in
    rw (one_shl h 64 (omega arith), part) (omega (arith, pow_pos h), rw sum (scaled n (upper + 1) h root))
