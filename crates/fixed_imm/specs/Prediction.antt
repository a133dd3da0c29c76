-- One model, d units of 1/128 s later: a constant velocity, disturbed by white noise acceleration (Bar-Shalom, 6.2.2).
-- A position is in 1/64 m and a velocity in 1/1024 m/s, so a velocity v moves a position by v * d / 2,048.
-- The noise q is the variance that a velocity gains in 1/128 s.
use Rattle.std.specs.Prelude.{ℤ, pos, ◌+ℤ◌, ◌*ℤ◌, unsigned_abs}
use Rattle.trk_base.specs.Numbers.{round}
use Rattle.fixed_imm.specs.declared.motion.Motion.{Motion}
use Rattle.fixed_imm.specs.Bounds.{bounded}

unfoldable pub predicted_p : ℤ → ℤ → ℤ → ℤ
predicted_p d p v = p +ℤ round (v *ℤ d) (pos 2048)

unfoldable pub predicted_p11 : ℤ → ℤ → ℤ → ℤ → ℤ → ℤ
predicted_p11 q d p11 p12 p22 =
    p11 +ℤ round (pos 4096 *ℤ d *ℤ p12 +ℤ d *ℤ d *ℤ p22) (pos 4194304) +ℤ round (q *ℤ pos (unsigned_abs d) *ℤ d *ℤ d) (pos 12582912)

unfoldable pub predicted_p12 : ℤ → ℤ → ℤ → ℤ → ℤ
predicted_p12 q d p12 p22 = p12 +ℤ round (d *ℤ p22) (pos 2048) +ℤ round (q *ℤ pos (unsigned_abs d) *ℤ d) (pos 4096)

unfoldable pub predicted_p22 : ℤ → ℤ → ℤ → ℤ
predicted_p22 q d p22 = p22 +ℤ q *ℤ pos (unsigned_abs d)

unfoldable pub predicted_motion : ℤ → ℤ → Motion → Motion
predicted_motion q d m =
    bounded
    (predicted_p d m.p m.v)
    m.v
    (predicted_p11 q d m.p11 m.p12 m.p22)
    (predicted_p12 q d m.p12 m.p22)
    (predicted_p22 q d m.p22)
