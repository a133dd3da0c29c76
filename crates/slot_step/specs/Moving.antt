-- What a pairing does with the tracks of a table.
use Rattle.std.specs.Prelude.{ℕ, List, ◌++◌, Option}
use Rattle.slot_step.specs.Batches.{Tracking, entries, paired_plot, updated_tracks, begun_tracks}

-- each track goes on with the plot that is paired with it, and plots that are paired with none begin tracks at the end
abbrev pub moved : {T P : Type 0} → Tracking T P → List T → List P → List (Option ℕ) → List T
moved k ts ps xs = updated_tracks k.update (paired_plot (entries ps xs)) ts ++ begun_tracks k.begin (entries ps xs)
