-- What an aim is seen as in contracts.
use Rattle.std.specs.Prelude.{ℕ, Option}
use Rattle.trk_base.specs.Ranges.{IsCode, IsAddress}
use Rattle.fixed_imm.specs.Values.{AxisState}
use Rattle.fixed_imm.specs.Filter.{mixed_axis}

-- where a target is, and what it calls itself
pub record AimState : Type 0 where
  pub x : AxisState
  pub y : AxisState
  pub time : ℕ
  pub address : Option ℕ
  pub code : Option ℕ

pub record IsAim (a : AimState) : Type 0 where
  pub address : IsAddress a.address
  pub code : IsCode a.code

-- an aim with both axes mixed
abbrev pub mixed_aim : AimState → AimState
mixed_aim a = record { x = mixed_axis a.x; y = mixed_axis a.y; time = a.time; address = a.address; code = a.code }
