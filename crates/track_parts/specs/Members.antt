-- What tracks that are folded by themselves are seen as.
use Rattle.std.specs.Prelude.{List}
use Rattle.track_life.specs.declared.settings.LifeSettings.{LifeSettings}
use Rattle.track_life.specs.Tracks.{TrackState}

-- some tracks, and how long tracks live
pub record Tracks : Type 0 where
  pub life : LifeSettings
  pub table : List TrackState
