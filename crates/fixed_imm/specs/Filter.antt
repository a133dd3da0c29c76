-- The filter of one axis: an interacting multiple model estimator with two models (Bar-Shalom, 11.6.6).
-- Model 0 flies on steadily, with little noise; model 1 manoeuvres.
use Rattle.std.specs.Prelude.{ℕ, ◌+◌, ◌*◌, ℤ, pos, ◌≤ℤ◌, unsigned_abs}
use Rattle.trk_base.specs.Numbers.{round}
use Rattle.fixed_imm.specs.declared.motion.Motion.{Motion}
use Rattle.fixed_imm.specs.Values.{AxisState}
use Rattle.fixed_imm.specs.Constants.{first_velocity_variance, first_weights, steady_to_steady, steady_to_manoeuvre, manoeuvre_to_steady, manoeuvre_to_manoeuvre, steady_noise, manoeuvre_noise}
use Rattle.fixed_imm.specs.Bounds.{weights, IsTimeStep}
use Rattle.fixed_imm.specs.Mixing.{share, mixed, overall}
use Rattle.fixed_imm.specs.Prediction.{predicted_motion}
use Rattle.fixed_imm.specs.Correction.{innovation, innovation_variance, corrected, likelihood, posterior_weights}

-- an axis after its first measurement: at rest there
unfoldable pub started : ℤ → ℕ → AxisState
started z r =
    let m : Motion = record { p = z; v = pos 0; p11 = pos r; p12 = pos 0; p22 = first_velocity_variance } in
    record { motion = (m, m); weight = first_weights }

-- the weights after a step of the Markov chain
unfoldable pub predicted_weights : ℕ × ℕ → ℕ × ℕ
predicted_weights m = weights (round (pos (steady_to_steady * m.0 + manoeuvre_to_steady * m.1)) (pos 65536))

-- both models mixed by how likely a target came from each, where it goes over from model 0 with p0 and from model 1 with p1 (steps 1 and 2)
unfoldable pub mixed_model : ℕ → ℕ → AxisState → Motion
mixed_model p0 p1 a = mixed (share (p0 * a.weight.0) (p1 * a.weight.1)) a.motion.0 a.motion.1

-- an axis mixed, with its weights after the step of the chain: what its predictions for any time start from
unfoldable pub mixed_axis : AxisState → AxisState
mixed_axis a = record {
  motion = (mixed_model steady_to_steady manoeuvre_to_steady a, mixed_model steady_to_manoeuvre manoeuvre_to_manoeuvre a);
  weight = predicted_weights a.weight;
}

-- a mixed axis d units of 1/128 s later
unfoldable pub moved : AxisState → ℤ → AxisState
moved m d = record { motion = (predicted_motion steady_noise d m.motion.0, predicted_motion manoeuvre_noise d m.motion.1); weight = m.weight }

-- an axis d units of 1/128 s later
unfoldable pub predicted : AxisState → ℤ → AxisState
predicted a d = moved (mixed_axis a) d

-- position, velocity and the variance of the position of both models together (step 5)
unfoldable pub together : AxisState → ℤ × ℤ × ℤ
together a = overall (pos a.weight.0) a.motion.0 a.motion.1

-- the same, d units of 1/128 s later
unfoldable pub combined : AxisState → ℤ → ℤ × ℤ × ℤ
combined a d = together (predicted a d)

-- between these two lies the position of both models together at any time at most span units of 1/128 s before or after
pub record IsExtent (a : AxisState) (span : ℤ) (extent : ℤ × ℤ) : Type 0 where
  pub least : (d : ℤ) → IsTimeStep d → pos (unsigned_abs d) ≤ℤ span → extent.0 ≤ℤ (combined a d).0
  pub greatest : (d : ℤ) → IsTimeStep d → pos (unsigned_abs d) ≤ℤ span → (combined a d).0 ≤ℤ extent.1

-- a model after a measurement
unfoldable pub corrected_model : Motion → ℤ → ℕ → Motion
corrected_model m z r = corrected m (innovation m z) (innovation_variance m r)

unfoldable pub model_likelihood : Motion → ℤ → ℕ → ℕ
model_likelihood m z r = likelihood (innovation m z) (innovation_variance m r)

-- a predicted axis after a measurement
unfoldable pub measured : AxisState → ℤ → ℕ → AxisState
measured a z r = record {
  motion = (corrected_model a.motion.0 z r, corrected_model a.motion.1 z r);
  weight = posterior_weights a.weight (model_likelihood a.motion.0 z r, model_likelihood a.motion.1 z r);
}

-- an axis after a measurement d units of 1/128 s later
unfoldable pub updated : AxisState → ℤ → ℤ → ℕ → AxisState
updated a d z r = measured (predicted a d) z r
