-- A scene as a recording: what comes, in the order of time. Times are in 1/128 s since the start.
use Rattle.std.specs.Prelude.{ℕ, ◌+◌, ◌*◌, ◌%◌, ◌==◌, ◌&&◌, nat_lt, if◌then◌else◌, List, [], ◌∷◌, ◌++◌, map, filter, filter_map, flat_map}
use Rattle.std.specs.List.{range_with_len}
use Rattle.recording.specs.declared.header.Header.TheVariants.{First}
use Rattle.recording.specs.Items.{Item, tick}
use Rattle.recording.specs.Raw.{second}
use Rattle.recording.specs.Readings.{recording}
use Rattle.scene_gen.specs.declared.fleet.Aircraft.{Aircraft}
use Rattle.scene_gen.specs.Datagrams.{north_marker, plot, start}
use Rattle.scene_gen.specs.Delays.{Plot, Sent, delayed}
use Rattle.scene_gen.specs.Draws.{after, generator_of}
use Rattle.scene_gen.specs.Fleets.{fleet_from}
use Rattle.scene_gen.specs.Radars.{radars}
use Rattle.scene_gen.specs.Sightings.{sees}

-- the plots that are seen at a time: by radar, then by aircraft
abbrev pub seen_at : List Aircraft → ℕ → List Item
seen_at aircraft time = flat_map (λ r. filter_map (plot r time) (filter (sees r time) aircraft)) radars

-- plots that were seen at a time
abbrev pub plots_of : ℕ → List Item → List Plot
plots_of time items = map (λ item. record { seen = time; item = item }) items

-- all plots of so many seconds: by time, radar and aircraft
abbrev pub plots : List Aircraft → ℕ → List Plot
plots aircraft seconds = flat_map (λ time. plots_of time (seen_at aircraft time)) (range_with_len 0 (second * seconds))

-- the same with their delays, which are drawn after all aircraft are: nine words each
abbrev pub coming : ℕ → ℕ → ℕ → ℕ → List Sent
coming seed aircraft seconds late = delayed late (after (9 * aircraft) (generator_of seed)) (plots (fleet_from (generator_of seed) aircraft) seconds)

-- the north markers of a time: a period after the last one, of each radar
abbrev pub north_markers : ℕ → ℕ → List Item
north_markers seconds time = if nat_lt time (second * seconds) then map (north_marker time) (filter (λ r. time % r.period == 0) radars) else []

-- the plots that come at a time, in the order in which they were seen
abbrev pub come_at : List Sent → ℕ → List Item
come_at plots time = map (λ p. p.item) (filter (λ p. p.time == time) plots)

-- a tick each second after the start
abbrev pub tick_at : ℕ → List Item
tick_at time = if time % second == 0 && nat_lt 0 time then tick (start + time) ∷ [] else []

-- ten seconds after the last plot was seen all have come
abbrev pub last_tick : ℕ → ℕ
last_tick seconds = second * (seconds + 10)

-- what there is at a time: north markers by radar, then the plots that come, then the tick
abbrev pub items_at : List Sent → ℕ → ℕ → List Item
items_at plots seconds time = north_markers seconds time ++ (come_at plots time ++ tick_at time)

-- what there is at each time up to the last tick
abbrev pub items : List Sent → ℕ → List Item
items plots seconds = flat_map (items_at plots seconds) (range_with_len 0 (last_tick seconds + 1))

-- The recording of a scene.
unfoldable pub scene : ℕ → ℕ → ℕ → ℕ → List ℕ
scene seed aircraft seconds late = recording First start (items (coming seed aircraft seconds late) seconds)
