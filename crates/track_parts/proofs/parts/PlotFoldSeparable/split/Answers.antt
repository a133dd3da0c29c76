use Rattle.std.proofs.Common.{sym, subst, ◌==◌}
use Rattle.track_life.specs.Tables.{IsTable}
use Rattle.track_parts.proofs.Picks.{picked_table}
use Rattle.track_parts.proofs.parts.PlotFoldSeparable.split.Goals as goal

pub of-requires : goal.of-requires
of-requires c = subst IsTable (sym c.in_ok-picked.ensures) (picked_table (λ k. k == c.args.part) c.args.numbers.now c.tracks.result.now c.tracks.ensures.table)
