-- The definitions at numbers that were computed apart from them.
use Rattle.std.proofs.Common.{◌≡◌, refl, pos}
use Rattle.trk_base.specs.Numbers.{isqrt, exp2_lin}
use Rattle.fixed_imm.specs.Bounds.{bounded, weights}
use Rattle.fixed_imm.specs.Mixing.{share, mean, covariance, mixed, overall}
use Rattle.fixed_imm.specs.Prediction.{predicted_p, predicted_p11, predicted_p12, predicted_p22, predicted_motion}
use Rattle.fixed_imm.specs.Correction.{raised, lowered, corrected, likelihood, posterior_weights}
use Rattle.fixed_imm.specs.Filter.{started, predicted_weights, mixed_model, mixed_axis, moved, predicted, together, combined, corrected_model, model_likelihood, measured, updated}

-- a target that was seen at 0, and four seconds later at 1,000 m, each time with a standard deviation of 50 m
followed : updated (started (pos 0) 10240000) (pos 512) (pos 64000) 10240000 ≡ record {
  motion = (
    record { p = pos 63889; v = pos 255115; p11 = pos 10222284; p12 = pos 40818346; p22 = pos 326896892 },
    record { p = pos 63889; v = pos 255236; p11 = pos 10222300; p12 = pos 40837736; p22 = pos 416313915 },
  );
  weight = (48335, 17201);
}
unfolding isqrt exp2_lin bounded weights share mean covariance mixed predicted_p predicted_p11 predicted_p12 predicted_p22 predicted_motion raised lowered corrected likelihood posterior_weights started predicted_weights mixed_model mixed_axis moved predicted corrected_model model_likelihood measured updated
followed = refl

-- a target that was seen once, 118/128 s later: its variances to the east and to the north
first_east : combined (started (pos 0) 18496) (pos 118) ≡ (pos 0, pos 0, pos 313326663)
unfolding isqrt bounded weights share mean covariance mixed overall predicted_p predicted_p11 predicted_p12 predicted_p22 predicted_motion started predicted_weights mixed_model mixed_axis moved predicted together combined
first_east = refl

first_north : combined (started (pos 3704) 10240000) (pos 118) ≡ (pos 3704, pos 0, pos 323548167)
unfolding isqrt bounded weights share mean covariance mixed overall predicted_p predicted_p11 predicted_p12 predicted_p22 predicted_motion started predicted_weights mixed_model mixed_axis moved predicted together combined
first_north = refl
