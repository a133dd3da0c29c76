-- What is shown of a log at its last tick: tracks, and states of radars.
use Rattle.std.specs.Prelude.{ℕ, ◌<◌, ◌==◌, Bool, ◌&&◌, is_some, unwrap_or, List, filter, Option}
use Rattle.std.specs.List.{AllByRecursion, IsDistinct}
use Rattle.trk_base.specs.Numbers.{slot_of}
use Rattle.plot_geometry.specs.declared.biases.Bias.{Bias}
use Rattle.track_life.specs.declared.settings.LifeSettings.{LifeSettings}
use Rattle.track_life.specs.Tracks.{TrackState}
use Rattle.track_life.specs.Tables.{unexpired}
use Rattle.track_life.specs.Numbers.{held}
use Rattle.admission_log.specs.declared.settings.Settings.{Settings}
use Rattle.admission_log.specs.Histories.{History, last_of}
use Rattle.edition_form.specs.Numbered.{in_rising_number}
use Rattle.edition_form.specs.Folding.{table_of}
use Rattle.edition_form.specs.Radars.{services_of, biases_of}

-- a track is shown if it is confirmed and has a number
abbrev pub is_shown : TrackState → Bool
is_shown t = t.confirmed && is_some t.number

abbrev pub number_of : TrackState → ℕ
number_of t = unwrap_or t.number 0

-- the tracks of a table that are shown at a time: those that haven't expired, in rising number
abbrev pub shown_tracks : LifeSettings → ℕ → List TrackState → List TrackState
shown_tracks life time table = in_rising_number number_of (filter is_shown (unexpired life (slot_of time) table))

-- what is shown, and when; of each radar the biases that hold, and the last tick at its newest service message
pub record Picture : Type 0 where
  pub time : ℕ
  pub tracks : List TrackState
  pub biases : List Bias
  pub services : List (Option ℕ)

-- of a table, at a time
abbrev pub picture : Settings → List Bias → List TrackState → List (Option ℕ) → ℕ → Picture
picture settings biases table services time = record { time = time; tracks = shown_tracks settings.life time table; biases = biases; services = services }

-- of a log, at its last tick
abbrev pub picture_of : Settings → History → Picture
picture_of settings log = picture settings (biases_of settings log) (table_of settings log) (services_of settings log) (last_of log)

-- ---- what is asked of a table that is shown

-- no two tracks have one number
abbrev pub HaveOwnNumbers : List TrackState → Type 0
HaveOwnNumbers tracks = IsDistinct ◌==◌ (held tracks)

-- the last plot of each track is from before that time
abbrev pub AreEarlier : ℕ → List TrackState → Type 0
AreEarlier time tracks = AllByRecursion (λ t. t.aim.time < time) tracks
