use Rattle.std.proofs.Common.{arith}
use Rattle.track_parts.proofs.parts.PlotFoldSeparable.members.Goals as goal

pub overflow_cast-result : goal.overflow_cast-result
overflow_cast-result c = omega (arith, c.tracks.ensures.table.fewer)
