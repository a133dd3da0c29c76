-- What a gain makes of the values of a model: the quotients that a correction takes fit 64 bits, since the variance of an innovation is no less than the model's own.
use Rattle.std.proofs.Common.{◌≡◌, ℕ, ◌*◌, ◌^◌, ◌≤◌, ℤ, ◌≤ℤ◌, arith}
use Rattle.std.specs.Prelude.{unsigned_abs}
use Rattle.std.proofs.Math.Nat.{le_trans}
use Rattle.std.proofs.lemmas.Int.{ints}
use Rattle.std.proofs.lemmas.Nat.{mul-le}
use Rattle.trk_base.proofs.Sizes.{Is}
use Rattle.trk_base.proofs.Roots.{square_le}
use Rattle.fixed_imm.specs.declared.motion.Motion.{Motion}
use Rattle.fixed_imm.specs.Bounds.{IsBounded}
use Rattle.fixed_imm.proofs.Fields.{size_from_range, p12_size}

pub gain_as_read : {x a y b z s : ℤ} {k m n : ℕ} → Is x a k → Is y b m → Is z s n → unsigned_abs a * unsigned_abs b ≤ 2 ^ 52 * unsigned_abs s → unsigned_abs x * unsigned_abs y ≤ 2 ^ 52 * unsigned_abs z
gain_as_read h k l le = rw (h.same, k.same, l.same) le

own : (m : Motion) (s : ℤ) → IsBounded m → m.p11 ≤ℤ s → unsigned_abs m.p11 ≤ unsigned_abs s
own m s h le = omega (arith, ints, h.p11.from)

some : (m : Motion) (s : ℤ) → IsBounded m → m.p11 ≤ℤ s → 1 ≤ unsigned_abs s
some m s h le = omega (arith, ints, h.p11.from)

scaled : (p e s k : ℕ) → p ≤ s → e ≤ 2 ^ k → 2 ^ k ≤ 2 ^ 52 → p * e ≤ 2 ^ 52 * s
scaled p e s k le small most = omega (arith, mul-le p e s (2 ^ 52) le (le_trans small most))

pub position_gain : (m : Motion) (e s : ℤ) → IsBounded m → unsigned_abs e ≤ 2 ^ 29 → m.p11 ≤ℤ s → unsigned_abs m.p11 * unsigned_abs e ≤ 2 ^ 52 * unsigned_abs s
position_gain m e s h small le = scaled _ _ _ 29 (own m s h le) small (omega arith)

pub variance_gain : (m : Motion) (s : ℤ) → IsBounded m → m.p11 ≤ℤ s → unsigned_abs m.p11 * unsigned_abs m.p11 ≤ 2 ^ 52 * unsigned_abs s
variance_gain m s h le = scaled _ _ _ 46 (own m s h le) (size_from_range h.p11) (omega arith)

pub covariance_gain : (m : Motion) (s : ℤ) → IsBounded m → m.p11 ≤ℤ s → unsigned_abs m.p11 * unsigned_abs m.p12 ≤ 2 ^ 52 * unsigned_abs s
covariance_gain m s h le = scaled _ _ _ 46 (own m s h le) (p12_size m h) (omega arith)

square_below : (m : Motion) (s : ℤ) → IsBounded m → m.p11 ≤ℤ s → unsigned_abs m.p12 * unsigned_abs m.p12 ≤ 2 ^ 46 * unsigned_abs s
square_below m s h le = omega (arith, h.p12, mul-le (unsigned_abs m.p11) (unsigned_abs m.p22) (unsigned_abs s) (2 ^ 46) (own m s h le) (size_from_range h.p22))

pub velocity_variance_gain : (m : Motion) (s : ℤ) → IsBounded m → m.p11 ≤ℤ s → unsigned_abs m.p12 * unsigned_abs m.p12 ≤ 2 ^ 52 * unsigned_abs s
velocity_variance_gain m s h le = omega (arith, square_below m s h le)

by_squares : (p e s : ℕ) → p * p ≤ 2 ^ 46 * s → e ≤ 2 ^ 29 → 1 ≤ s → p * e ≤ 2 ^ 52 * s
by_squares p e s square small one =
    let squares : p * p * (e * e) ≤ 2 ^ 46 * s * 2 ^ 58 = mul-le (p * p) (e * e) (2 ^ 46 * s) (2 ^ 58) square (mul-le e e (2 ^ 29) (2 ^ 29) small small) in
    let larger : 1 * s ≤ s * s = mul-le 1 s s s one (omega arith) in
    let turned : p * e * (p * e) ≡ p * p * (e * e) = omega arith in
    square_le (p * e) (2 ^ 52 * s) (rw turned (omega (arith, squares, larger)))

pub velocity_gain : (m : Motion) (e s : ℤ) → IsBounded m → unsigned_abs e ≤ 2 ^ 29 → m.p11 ≤ℤ s → unsigned_abs m.p12 * unsigned_abs e ≤ 2 ^ 52 * unsigned_abs s
velocity_gain m e s h small le = by_squares _ _ _ (square_below m s h le) small (some m s h le)
