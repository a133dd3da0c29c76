-- What the program keeps for each radar: the aircraft by phase, so that a time has its aircraft at hand.
use Rattle.std.specs.Prelude.{◌≡◌, ◌<◌, ℕ, ◌%◌, ◌==◌, List, [], length, map, filter, filter_map, get_or, slice_index}
use Rattle.std.specs.List.{All}
use Rattle.recording.specs.Items.{Item}
use Rattle.scene_gen.specs.declared.fleet.Aircraft.{Aircraft}
use Rattle.scene_gen.specs.declared.radars.SceneRadar.{SceneRadar}
use Rattle.scene_gen.specs.declared.sweeps.Sweep.{Sweep}
use Rattle.scene_gen.specs.Datagrams.{plot}
use Rattle.scene_gen.specs.Radars.{radars}

-- a radar of a scene
pub record IsRadar (r : SceneRadar) : Type 0 where
  pub feed : r.feed < 3
  pub turns : 0 < r.period

-- each aircraft's phase lies within a turn of the radar
abbrev pub HavePhases : SceneRadar → List Aircraft → Type 0
HavePhases r aircraft = All (λ a. slice_index a.phases r.feed < r.period) aircraft

-- the aircraft of one phase
abbrev pub with_phase : SceneRadar → List Aircraft → ℕ → List Aircraft
with_phase r aircraft phase = filter (λ a. phase == slice_index a.phases r.feed) aircraft

-- a list for each phase
pub record IsWhole (s : Sweep) : Type 0 where
  pub turns : 0 < s.radar.period
  pub count : length s.by_phase ≡ s.radar.period

-- in each list the aircraft of that phase
abbrev pub HasByPhase : List Aircraft → Sweep → Type 0
HasByPhase aircraft s = (phase : ℕ) → phase < s.radar.period → get_or s.by_phase phase [] ≡ with_phase s.radar aircraft phase

-- the sweeps of all radars, in order
pub record AreSweeps (aircraft : List Aircraft) (sweeps : List Sweep) : Type 0 where
  pub radars_are : map (λ s. s.radar) sweeps ≡ radars
  pub whole : All IsWhole sweeps
  pub by_phase : All (HasByPhase aircraft) sweeps

-- the plots of a sweep at a time
abbrev pub seen_by : ℕ → Sweep → List Item
seen_by time s = filter_map (plot s.radar time) (get_or s.by_phase (time % s.radar.period) [])
