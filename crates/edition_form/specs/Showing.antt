-- The number by which a track is shown in a slot.
use Rattle.std.specs.Prelude.{ℕ, ◌&&◌, if◌then◌else◌, Option, None}
use Rattle.track_life.specs.declared.settings.LifeSettings.{LifeSettings}
use Rattle.track_life.specs.Tracks.{TrackState}
use Rattle.track_life.specs.Tables.{is_kept}

-- its number, if it is shown in a slot
abbrev pub shown_number : LifeSettings → ℕ → TrackState → Option ℕ
shown_number life slot t = if t.confirmed && is_kept life slot t then t.number else None
