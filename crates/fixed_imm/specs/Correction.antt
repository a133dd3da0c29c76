-- One predicted model, corrected by a measured position z with the variance r: a Kalman filter with one measured value
-- (Bar-Shalom, 5.2.3), and how likely the measurement was (11.6.6, step 3).
use Rattle.std.specs.Prelude.{ℕ, ◌^◌, ◌*◌, ◌/◌, ◌+◌, max, ℤ, pos, ◌+ℤ◌, ◌-ℤ◌, ◌*ℤ◌, unsigned_abs, ◌==◌, if◌then◌else◌}
use Rattle.std.specs.Int.{int_min}
use Rattle.trk_base.specs.Numbers.{round, isqrt, exp2_lin}
use Rattle.fixed_imm.specs.declared.motion.Motion.{Motion}
use Rattle.fixed_imm.specs.Constants.{exponent_scale, impossible_exponent}
use Rattle.fixed_imm.specs.Bounds.{bounded, weights}
use Rattle.fixed_imm.specs.Mixing.{share}

-- the innovation: how far off the prediction was
abbrev pub innovation : Motion → ℤ → ℤ
innovation m z = z -ℤ m.p

-- the variance of the innovation
abbrev pub innovation_variance : Motion → ℕ → ℤ
innovation_variance m r = m.p11 +ℤ pos r

-- a value, more and less by what the gain a / s makes of b
unfoldable pub raised : ℤ → ℤ → ℤ → ℤ → ℤ
raised x a b s = x +ℤ round (a *ℤ b) s

unfoldable pub lowered : ℤ → ℤ → ℤ → ℤ → ℤ
lowered x a b s = x -ℤ round (a *ℤ b) s

-- the model with e and s as its innovation and the variance of that
unfoldable pub corrected : Motion → ℤ → ℤ → Motion
corrected m e s =
    bounded
    (raised m.p m.p11 e s)
    (raised m.v m.p12 e s)
    (lowered m.p11 m.p11 m.p11 s)
    (lowered m.p12 m.p11 m.p12 s)
    (lowered m.p22 m.p12 m.p12 s)

-- the Gaussian density of an innovation e with the variance s, but for a factor that all have:
-- e^(-e² / 2s) is taken as a power of two in 1/65,536
unfoldable pub likelihood : ℤ → ℤ → ℕ
likelihood e s =
    exp2_lin (unsigned_abs (int_min (round (exponent_scale *ℤ e *ℤ e) s) impossible_exponent)) * 2 ^ 32 / max (isqrt (unsigned_abs s)) 1

-- the weights after likelihoods l, from the weights c before (11.6.6, step 4); those stay where no model is likely at all
unfoldable pub posterior_weights : ℕ × ℕ → ℕ × ℕ → ℕ × ℕ
posterior_weights c l =
    let n0 = l.0 * c.0 in
    let n1 = l.1 * c.1 in
    if n0 + n1 == 0 then c else weights (share n0 n1)
