-- Tables of tracks, and expiry.
use Rattle.std.specs.Prelude.{ℕ, ◌+◌, ◌-◌, ◌*◌, ◌<◌, ◌^◌, List, map, length, nat_le, Bool, if◌then◌else◌}
use Rattle.std.specs.List.{filter}
use Rattle.std.specs.List.Sorted.{IsStrictlySortedBy}
use Rattle.trk_base.specs.Keys.{key_cmp}
use Rattle.track_life.specs.declared.settings.LifeSettings.{LifeSettings}
use Rattle.track_life.specs.Tracks.{TrackState}

-- tracks in strictly rising birth, as many as the places of a pairing can name
pub record IsTable (ts : List TrackState) : Type 0 where
  pub births : IsStrictlySortedBy key_cmp (map (λ t. t.birth) ts)
  pub fewer : length ts < 2 ^ 32 - 1

-- for how long a track is kept without a plot, in seconds
abbrev pub keep : LifeSettings → Bool → ℕ
keep life confirmed = if confirmed then life.keep_confirmed else life.keep_tentative

-- a track is kept in a slot whose start is no farther from its last plot than that
abbrev pub is_kept : LifeSettings → ℕ → TrackState → Bool
is_kept life slot t = nat_le (64 * slot) (t.aim.time + 128 * keep life t.confirmed)

-- expiry: the tracks that are kept in a slot
unfoldable pub unexpired : LifeSettings → ℕ → List TrackState → List TrackState
unexpired life slot ts = filter (is_kept life slot) ts
