-- The bounds within which the filter keeps its numbers.
use Rattle.std.specs.Prelude.{ℕ, ◌*◌, ◌+◌, ◌-◌, ◌≤◌, ◌≡◌, ℤ, pos, neg_ℤ, ◌-ℤ◌, ◌*ℤ◌, ◌≤ℤ◌, unsigned_abs}
use Rattle.trk_base.specs.Limits.{plane_bound}
use Rattle.trk_base.specs.Numbers.{clamp, isqrt, IsBetween}
use Rattle.fixed_imm.specs.declared.motion.Motion.{Motion}
use Rattle.fixed_imm.specs.Constants.{least_time_step, greatest_time_step, velocity_bound, variance_bound, least_weight, greatest_weight}
use Rattle.fixed_imm.specs.Values.{AxisState}

-- the number nearest to x whose size is at most b
abbrev pub clamp_size : ℤ → ℤ → ℤ
clamp_size x b = clamp x (neg_ℤ b) b

-- the variance nearest to x
abbrev pub variance_within : ℤ → ℤ
variance_within x = clamp x (pos 1) (pos variance_bound)

-- the greatest covariance of two variances
abbrev pub covariance_bound : ℤ → ℤ → ℤ
covariance_bound a b = pos (isqrt (unsigned_abs (a *ℤ b)))

-- a model with these values, each brought into its range
unfoldable pub bounded : ℤ → ℤ → ℤ → ℤ → ℤ → Motion
bounded p v p11 p12 p22 =
    let a = variance_within p11 in
    let b = variance_within p22 in
    record {
      p = clamp_size p (pos plane_bound);
      v = clamp_size v (pos velocity_bound);
      p11 = a;
      p12 = clamp_size p12 (covariance_bound a b);
      p22 = b;
    }

-- weights of both models, in 1/65,536: the first is brought into its range, and the second is the rest
unfoldable pub weights : ℤ → ℕ × ℕ
weights x = let w = unsigned_abs (clamp x (pos least_weight) (pos greatest_weight)) in (w, 65536 - w)

-- the bounds of a model; the last says that the covariance matrix has no negative variance in any direction
pub record IsBounded (m : Motion) : Type 0 where
  pub p : unsigned_abs m.p ≤ plane_bound
  pub v : unsigned_abs m.v ≤ velocity_bound
  pub p11 : IsBetween (pos 1) m.p11 (pos variance_bound)
  pub p22 : IsBetween (pos 1) m.p22 (pos variance_bound)
  pub p12 : unsigned_abs m.p12 * unsigned_abs m.p12 ≤ unsigned_abs m.p11 * unsigned_abs m.p22

pub record IsWeights (w : ℕ × ℕ) : Type 0 where
  pub low : least_weight ≤ w.0
  pub high : w.0 ≤ greatest_weight
  pub sum : w.0 + w.1 ≡ 65536

-- the bounds of an axis
pub record IsAxis (a : AxisState) : Type 0 where
  pub first : IsBounded a.motion.0
  pub second : IsBounded a.motion.1
  pub weight : IsWeights a.weight

-- a step of time that the filter takes, in 1/128 s
pub record IsTimeStep (d : ℤ) : Type 0 where
  pub from : least_time_step ≤ℤ d
  pub to : d ≤ℤ greatest_time_step

-- how much later a time is than another, in 1/128 s
abbrev pub time_step : ℕ → ℕ → ℤ
time_step earlier later = pos later -ℤ pos earlier

-- a measured position, in 1/64 m
abbrev pub IsPosition : ℤ → Type 0
IsPosition z = unsigned_abs z ≤ plane_bound

-- the variance of a measured position, in (1/64 m)²
pub record IsVariance (r : ℕ) : Type 0 where
  pub from : 1 ≤ r
  pub to : r ≤ variance_bound

-- the variance of the position of both models together: a variance, and at most half the greatest distance squared above it
abbrev pub IsCombinedVariance : ℤ → Type 0
IsCombinedVariance x = IsBetween (pos 1) x (pos (plane_bound * plane_bound + variance_bound))
