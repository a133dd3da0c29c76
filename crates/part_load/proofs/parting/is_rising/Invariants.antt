use Rattle.std.proofs.Common.{ℕ, ◌<◌}
use Rattle.part_load.specs.Spans.{IsAbove}
use Rattle.part_load.proofs.parting.is_rising.Given as goal

abbrev pub invariant-loop-index : goal.invariant-loop-index
invariant-loop-index l = (i : ℕ) → i < l.index → IsAbove l.plots i
