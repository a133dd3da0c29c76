-- The tracker's tracks and plots in the step of a slot.
use Rattle.std.specs.Prelude.{ℕ, List, Option}
use Rattle.trk_base.specs.declared.keys.Key.{Key}
use Rattle.plot_geometry.specs.Plots.{PlanePlot}
use Rattle.gating.specs.Gating.{gate}
use Rattle.track_life.specs.declared.settings.LifeSettings.{LifeSettings}
use Rattle.track_life.specs.Tracks.{TrackState, begun, continued}
use Rattle.track_life.specs.Tables.{is_kept}
use Rattle.track_life.specs.Numbers.{with_number, assigned}
use Rattle.slot_step.specs.Batches.{Tracking}
use Rattle.slot_step.specs.Slots.{Ordered, run}
use Rattle.slot_step.specs.Numbers.{Numbering, slot_step}
use Rattle.slot_step.specs.Keyed.{keyed}

-- the cost of pairing a track with a plot
abbrev pub track_gate : TrackState → PlanePlot → Option ℕ
track_gate t p = gate t.aim p

-- a track gates, goes on and begins as these settings have it
abbrev pub tracking : LifeSettings → Tracking TrackState PlanePlot
tracking life = record { gate = track_gate; update = continued life.hits; begin = begun life.hits }

-- tracks by birth and plots by key, in the one order of keys; a track expires when these settings say
abbrev pub ordered : LifeSettings → Ordered TrackState PlanePlot Key
ordered life = keyed (λ t. t.birth) (λ p. p.key) (is_kept life)

-- track numbers, where a table's tracks without one are given theirs like this
abbrev pub numbering : (List TrackState → List TrackState) → Numbering TrackState
numbering assigned = record { number = λ t. t.number; with_number = with_number; assigned = assigned }

-- the tracker's tracks after slot n with these plots, by the run without numbers
abbrev pub run_tracks : LifeSettings → List TrackState → ℕ → List PlanePlot → List TrackState
run_tracks life ts n ps = run (tracking life) (ordered life) ts n ps

-- and by the step with numbers
abbrev pub step_tracks : LifeSettings → List TrackState → ℕ → List PlanePlot → List TrackState
step_tracks life ts n ps = slot_step (tracking life) (ordered life) (numbering assigned) ts n ps
