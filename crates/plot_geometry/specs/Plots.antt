-- What a plot in the plane is seen as in contracts.
use Rattle.std.specs.Prelude.{ℕ, ◌≤◌, ◌^◌, Bool, Option, ℤ, unsigned_abs}
use Rattle.trk_base.specs.declared.keys.Key.{Key}
use Rattle.trk_base.specs.Limits.{plane_bound}
use Rattle.trk_base.specs.Ranges.{IsKind, IsCode, IsLevel, IsAddress}

-- its position in 1/64 m, the variances of this, and what the radar reports of the aircraft
pub record PlanePlot : Type 0 where
  pub key : Key
  pub x : ℤ
  pub y : ℤ
  pub rx : ℕ
  pub ry : ℕ
  pub kind : ℕ
  pub spi : Bool
  pub code : Option ℕ
  pub level : Option ℤ
  pub address : Option ℕ

-- on either axis at most 4,000 km from the plane's origin, and no surer than to the unit of the position
pub record IsPlanePlot (p : PlanePlot) : Type 0 where
  pub x : unsigned_abs p.x ≤ plane_bound
  pub y : unsigned_abs p.y ≤ plane_bound
  pub rx : (1 ≤ p.rx) × (p.rx ≤ 2 ^ 46)
  pub ry : (1 ≤ p.ry) × (p.ry ≤ 2 ^ 46)
  pub kind : IsKind p.kind
  pub code : IsCode p.code
  pub level : IsLevel p.level
  pub address : IsAddress p.address
