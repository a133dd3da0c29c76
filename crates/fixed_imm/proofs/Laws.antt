-- What the filter gives stays within its bounds, whatever it is given.
use Rattle.std.proofs.Common.{ℕ, ◌+◌, ◌*◌, ◌≤◌, ℤ, pos, neg_ℤ, ◌-ℤ◌, ◌*ℤ◌, arith, eqb}
use Rattle.std.specs.Prelude.{unsigned_abs}
use Rattle.std.proofs.Math.Nat.{le_trans}
use Rattle.std.proofs.lemmas.Bool.{cond_both}
use Rattle.std.proofs.lemmas.Int.{ints, clamps}
use Rattle.std.proofs.lemmas.Nat.{mul-le}
use Rattle.trk_base.specs.Limits.{plane_bound}
use Rattle.trk_base.specs.Numbers.{clamp, isqrt, IsBetween}
use Rattle.fixed_imm.specs.declared.motion.Motion.{Motion}
use Rattle.fixed_imm.specs.Values.{AxisState}
use Rattle.fixed_imm.specs.Constants.{velocity_bound, variance_bound, steady_noise, manoeuvre_noise}
use Rattle.fixed_imm.specs.Bounds.{variance_within, bounded, weights, IsBounded, IsCombinedVariance, IsWeights, IsAxis, IsPosition, IsVariance}
use Rattle.fixed_imm.specs.Mixing.{share, mixed, overall}
use Rattle.fixed_imm.specs.Prediction.{predicted_motion}
use Rattle.fixed_imm.specs.Correction.{corrected, posterior_weights}
use Rattle.fixed_imm.specs.Filter.{started, predicted_weights, mixed_model, mixed_axis, moved, predicted, together, combined, corrected_model, measured, updated}
use Rattle.fixed_imm.proofs.Covariances.{root_square, root_from_square}
use Rattle.fixed_imm.proofs.Means.{mean_within, variance_within as spread_within}

clamp_size : (x : ℤ) (m : ℕ) → unsigned_abs (clamp x (neg_ℤ (pos m)) (pos m)) ≤ m
clamp_size x m = omega (arith, ints, clamps)

variance_range : (x : ℤ) → IsBetween (pos 1) (variance_within x) (pos variance_bound)
variance_range x = record { from = omega (arith, ints, clamps); to = omega (arith, ints, clamps) }

covariance_square : (x : ℤ) (w n : ℕ) → w * w ≤ n → unsigned_abs (clamp x (neg_ℤ (pos w)) (pos w)) * unsigned_abs (clamp x (neg_ℤ (pos w)) (pos w)) ≤ n
covariance_square x w n h = le_trans (mul-le (unsigned_abs (clamp x (neg_ℤ (pos w)) (pos w))) (unsigned_abs (clamp x (neg_ℤ (pos w)) (pos w))) w w (clamp_size x w) (clamp_size x w)) h

pub bounded_is : (p v p11 p12 p22 : ℤ) → IsBounded (bounded p v p11 p12 p22)
unfolding bounded
bounded_is p v p11 p12 p22 = record {
  p = clamp_size p 256000000;
  v = clamp_size v 1048576;
  p11 = variance_range p11;
  p22 = variance_range p22;
  p12 = covariance_square p12 _ _ (root_square (variance_within p11) (variance_within p22) (variance_range p11) (variance_range p22));
}

-- a covariance is within its bounds exactly where it is at most the root of the product of both variances
pub covariance_root : (m : Motion) → IsBounded m → unsigned_abs m.p12 ≤ isqrt (unsigned_abs (m.p11 *ℤ m.p22))
covariance_root m h = root_from_square m.p12 m.p11 m.p22 h.p11 h.p22 h.p12

pub weights_is : (x : ℤ) → IsWeights (weights x)
unfolding weights
weights_is x = record { low = omega (arith, ints, clamps); high = omega (arith, ints, clamps); sum = omega (arith, ints, clamps) }

-- a first measurement gives an axis
pub started_is : (z : ℤ) (r : ℕ) → IsPosition z → IsVariance r → IsAxis (started z r)
unfolding started
started_is z r place variance =
    let motion : IsBounded (record { p = z; v = pos 0; p11 = pos r; p12 = pos 0; p22 = pos 94371840000 }) = record {
      p = place;
      v = omega arith;
      p11 = record { from = omega (arith, ints, variance.from); to = omega (arith, ints, variance.to) };
      p22 = record { from = omega (arith, ints); to = omega (arith, ints) };
      p12 = omega arith;
    } in
    record { first = motion; second = motion; weight = record { low = omega arith; high = omega arith; sum = omega arith } }

mixed_model_is : (p0 p1 : ℕ) (a : AxisState) → IsBounded (mixed_model p0 p1 a)
unfolding mixed_model mixed
mixed_model_is p0 p1 a = bounded_is _ _ _ _ _

-- whatever was, mixing it gives an axis
pub mixed_is : (a : AxisState) → IsAxis (mixed_axis a)
unfolding mixed_axis predicted_weights
mixed_is a = record { first = mixed_model_is 62259 6554 a; second = mixed_model_is 3277 58982 a; weight = weights_is _ }

predicted_motion_is : (q d : ℤ) (m : Motion) → IsBounded (predicted_motion q d m)
unfolding predicted_motion
predicted_motion_is q d m = bounded_is _ _ _ _ _

pub moved_is : (m : AxisState) (d : ℤ) → IsWeights m.weight → IsAxis (moved m d)
unfolding moved
moved_is m d h = record { first = predicted_motion_is steady_noise d m.motion.0; second = predicted_motion_is manoeuvre_noise d m.motion.1; weight = h }

-- and a prediction is one
pub predicted_is : (a : AxisState) (d : ℤ) → IsAxis (predicted a d)
unfolding predicted
predicted_is a d = moved_is (mixed_axis a) d (mixed_is a).weight

corrected_model_is : (m : Motion) (z : ℤ) (r : ℕ) → IsBounded (corrected_model m z r)
unfolding corrected_model corrected
corrected_model_is m z r = bounded_is _ _ _ _ _

posterior_is : (c l : ℕ × ℕ) → IsWeights c → IsWeights (posterior_weights c l)
unfolding posterior_weights
posterior_is c l h = cond_both (eqb (l.0 * c.0 + l.1 * c.1) 0) c (weights (share (l.0 * c.0) (l.1 * c.1))) IsWeights (λ _. h) (λ _. weights_is _)

-- and so is what a measurement makes of it
pub updated_is : (a : AxisState) (d z : ℤ) (r : ℕ) → IsAxis (updated a d z r)
unfolding updated measured
updated_is a d z r = record {
  first = corrected_model_is _ z r;
  second = corrected_model_is _ z r;
  weight = posterior_is _ _ (predicted_is a d).weight;
}

-- the numbers of both models together
pub record IsCombined (c : ℤ × ℤ × ℤ) : Type 0 where
  pub position : unsigned_abs c.0 ≤ plane_bound
  pub velocity : unsigned_abs c.1 ≤ velocity_bound
  pub variance : IsCombinedVariance c.2

pub part_from_weights : (w : ℕ × ℕ) → IsWeights w → IsBetween (pos 0) (pos w.0) (pos 65536)
part_from_weights w h = record { from = omega (arith, ints, h.high); to = omega (arith, ints, h.high) }

near : (x y : ℤ) → unsigned_abs x ≤ 256000000 → unsigned_abs y ≤ 256000000 → unsigned_abs (x -ℤ y) ≤ 512000000
near x y h k = omega (arith, ints)

pub together_is : (b : AxisState) → IsAxis b → IsCombined (together b)
unfolding together overall
together_is b h =
    let part = part_from_weights _ h.weight in
    record {
      position = mean_within _ _ _ 256000000 part h.first.p h.second.p;
      velocity = mean_within _ _ _ 1048576 part h.first.v h.second.v;
      variance = spread_within _ _ _ _ part h.first.p11 h.second.p11 (near b.motion.0.p b.motion.1.p h.first.p h.second.p);
    }

pub moved_together : (m : AxisState) (d : ℤ) → IsAxis m → IsCombined (together (moved m d))
moved_together m d h = together_is (moved m d) (moved_is m d h.weight)

pub combined_is : (a : AxisState) (d : ℤ) → IsCombined (combined a d)
unfolding combined
combined_is a d = together_is (predicted a d) (predicted_is a d)
