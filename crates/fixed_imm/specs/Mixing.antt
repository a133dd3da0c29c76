-- Mixtures of two models, after Bar-Shalom, Li, Kirubarajan, "Estimation with Applications to Tracking and Navigation",
-- 1.4.16 (mixture equations) and 11.6.6 (interacting multiple model estimator).
use Rattle.std.specs.Prelude.{ℕ, ◌^◌, ◌*◌, ◌+◌, ℤ, pos, ◌+ℤ◌, ◌-ℤ◌, ◌*ℤ◌}
use Rattle.trk_base.specs.Numbers.{round}
use Rattle.fixed_imm.specs.declared.motion.Motion.{Motion}
use Rattle.fixed_imm.specs.Bounds.{bounded}

-- a part of a + b, in 1/65,536: the part that a is
unfoldable pub share : ℕ → ℕ → ℤ
share a b = round (pos (65536 * a)) (pos (a + b))

-- the mean of two values, where the first has the weight g in 1/65,536
unfoldable pub mean : ℤ → ℤ → ℤ → ℤ
mean g x0 x1 = x1 +ℤ round (g *ℤ (x0 -ℤ x1)) (pos 65536)

-- the (co)variance of a mixture: that of the models by weight, and the spread of their means
unfoldable pub covariance : ℤ → ℤ → ℤ → ℤ → ℤ
covariance g q0 q1 spread =
    round (g *ℤ q0 +ℤ (pos 65536 -ℤ g) *ℤ q1) (pos 65536) +ℤ round (g *ℤ (pos 65536 -ℤ g) *ℤ spread) (pos (2 ^ 32))

-- two models mixed, where the first has the weight g in 1/65,536
unfoldable pub mixed : ℤ → Motion → Motion → Motion
mixed g a b =
    let dp = a.p -ℤ b.p in
    let dv = a.v -ℤ b.v in
    bounded
    (mean g a.p b.p)
    (mean g a.v b.v)
    (covariance g a.p11 b.p11 (dp *ℤ dp))
    (covariance g a.p12 b.p12 (dp *ℤ dv))
    (covariance g a.p22 b.p22 (dv *ℤ dv))

-- position, velocity and the variance of the position of a mixture
unfoldable pub overall : ℤ → Motion → Motion → ℤ × ℤ × ℤ
overall g a b =
    let dp = a.p -ℤ b.p in
    (mean g a.p b.p, mean g a.v b.v, covariance g a.p11 b.p11 (dp *ℤ dp))
