-- The covariances that two variances allow.
use Rattle.std.proofs.Common.{◌≡◌, ℕ, ◌+◌, ◌*◌, ◌^◌, ◌≤◌, ℤ, pos, neg_ℤ, ◌*ℤ◌, inl, inr, arith}
use Rattle.std.specs.Prelude.{unsigned_abs}
use Rattle.std.proofs.Math.Nat.{le_trans}
use Rattle.std.proofs.lemmas.Bool.{cases_lt}
use Rattle.std.proofs.lemmas.Int.{ints, clamps, unsigned_abs-mul}
use Rattle.std.proofs.lemmas.Nat.{mul-le}
use Rattle.trk_base.specs.Numbers.{clamp, isqrt, IsBetween, IsRoot}
use Rattle.trk_base.proofs.Roots.{isqrt_root}
use Rattle.fixed_imm.specs.Constants.{variance_bound}
use Rattle.fixed_imm.proofs.Fields.{size_from_range}

root_of : (a b : ℤ) → IsBetween (pos 1) a (pos variance_bound) → IsBetween (pos 1) b (pos variance_bound) → IsRoot (unsigned_abs a * unsigned_abs b) (isqrt (unsigned_abs (a *ℤ b)))
root_of a b h k =
    let product : unsigned_abs (a *ℤ b) ≡ unsigned_abs a * unsigned_abs b = unsigned_abs-mul a b in
    let size : unsigned_abs a * unsigned_abs b ≤ 2 ^ 46 * 2 ^ 46 = mul-le (unsigned_abs a) (unsigned_abs b) (2 ^ 46) (2 ^ 46) (size_from_range h) (size_from_range k) in
    rw product (isqrt_root (unsigned_abs a * unsigned_abs b) (omega arith))

pub root_square : (a b : ℤ) → IsBetween (pos 1) a (pos variance_bound) → IsBetween (pos 1) b (pos variance_bound) → isqrt (unsigned_abs (a *ℤ b)) * isqrt (unsigned_abs (a *ℤ b)) ≤ unsigned_abs a * unsigned_abs b
root_square a b h k = (root_of a b h k).low

root_ge : (n r c : ℕ) → IsRoot n r → c * c ≤ n → c ≤ r
root_ge n r c root le =
    elim (cases_lt r c) [
      | inl lt ↦ absurd (omega (arith, root.high, mul-le (r + 1) (r + 1) c c (omega arith) (omega arith)))
      | inr ge ↦ ge
    ]

-- a square within the product is a number within the root, and the reverse
pub root_from_square : (c a b : ℤ) → IsBetween (pos 1) a (pos variance_bound) → IsBetween (pos 1) b (pos variance_bound) → unsigned_abs c * unsigned_abs c ≤ unsigned_abs a * unsigned_abs b → unsigned_abs c ≤ isqrt (unsigned_abs (a *ℤ b))
root_from_square c a b h k le = root_ge _ _ (unsigned_abs c) (root_of a b h k) le

pub square_from_root : (c a b : ℤ) → IsBetween (pos 1) a (pos variance_bound) → IsBetween (pos 1) b (pos variance_bound) → unsigned_abs c ≤ isqrt (unsigned_abs (a *ℤ b)) → unsigned_abs c * unsigned_abs c ≤ unsigned_abs a * unsigned_abs b
square_from_root c a b h k le = le_trans (mul-le (unsigned_abs c) (unsigned_abs c) _ _ le le) (root_square a b h k)

pub clamp_inside : (x : ℤ) (w : ℕ) → unsigned_abs x ≤ w → x ≡ clamp x (neg_ℤ (pos w)) (pos w)
clamp_inside x w h = omega (arith, ints, clamps)
