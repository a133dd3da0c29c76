use Rattle.std.proofs.Common.{subst, sym}
use Rattle.track_life.specs.Tables.{IsTable}
use Rattle.track_life.proofs.Expiry.{no_tracks}
use Rattle.track_life.proofs.tables.Table.empty.Goals as goal

pub invariant_of-result : goal.invariant_of-result
invariant_of-result c = subst IsTable (sym c.new.ensures.items) no_tracks
