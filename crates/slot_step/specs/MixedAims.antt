-- Aims that were mixed for the gates of a batch, each with the index of its track.
use Rattle.std.specs.Prelude.{◌≡◌, ℕ, List, All}
use Rattle.fixed_imm.specs.Aims.{AimState, mixed_aim}
use Rattle.track_life.specs.Tracks.{TrackState}
use Rattle.slot_step.specs.Certificates.{IsAt}

-- the aim of the track at this index, mixed
abbrev pub IsMixedOf : List TrackState → ℕ × AimState → Type 0
IsMixedOf ts m = (t : TrackState) → IsAt ts m.0 t → m.1 ≡ mixed_aim t.aim

abbrev pub AreMixed : List TrackState → List (ℕ × AimState) → Type 0
AreMixed ts ms = All (IsMixedOf ts) ms
