use Rattle.std.proofs.Common.{◌≡◌, take}
use Rattle.std.specs.List.{filter}
use Rattle.track_life.specs.Tables.{is_kept}
use Rattle.track_life.proofs.tables.expire.Given as goal

abbrev pub invariant-loop-track : goal.invariant-loop-track
invariant-loop-track l = l.kept.items ≡ filter (is_kept l.life l.slot) (take l.track-index l.track-items)
