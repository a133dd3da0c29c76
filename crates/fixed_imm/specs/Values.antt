-- What an axis is seen as in contracts.
use Rattle.std.specs.Prelude.{ℕ}
use Rattle.fixed_imm.specs.declared.motion.Motion.{Motion}

-- the models of an axis, model 0 first, and their weights in 1/65,536
pub record AxisState : Type 0 where
  pub motion : Motion × Motion
  pub weight : ℕ × ℕ
