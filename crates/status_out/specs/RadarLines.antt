-- What the state of a radar is seen as in contracts.
use Rattle.std.specs.Prelude.{ℕ, ◌<◌, ◌≤◌, ◌^◌, ℤ, FitsSigned}
use Rattle.std.specs.Int.{w16}

pub record RadarLine : Type 0 where
  pub sac : ℕ
  pub sic : ℕ
  pub con : ℕ
  pub time_ms : ℤ
  pub gain : ℤ
  pub range : ℤ
  pub azimuth : ℤ

-- each value has as many bits as its item
pub record IsRadarLine (l : RadarLine) : Type 0 where
  pub sac : l.sac < 2 ^ 8
  pub sic : l.sic < 2 ^ 8
  pub con : l.con ≤ 3
  pub time_ms : FitsSigned w16 l.time_ms
  pub gain : FitsSigned w16 l.gain
  pub range : FitsSigned w16 l.range
  pub azimuth : FitsSigned w16 l.azimuth
