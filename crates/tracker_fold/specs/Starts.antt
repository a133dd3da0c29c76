-- Where the tracker's fold begins.
use Rattle.std.specs.Prelude.{[]}
use Rattle.admission_log.specs.declared.settings.Settings.{Settings}
use Rattle.tracker_fold.specs.declared.state.TrackerState.{TrackerState}

-- no tracks, and the radars as the settings have them
abbrev pub start : Settings → TrackerState
start settings = record { life = settings.life; radars = settings.radars; table = [] }
