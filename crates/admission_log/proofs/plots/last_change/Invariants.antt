use Rattle.std.proofs.Common.{◌≡◌, take}
use Rattle.admission_log.specs.Biases.{last_change}
use Rattle.admission_log.proofs.plots.last_change.Given as goal

abbrev pub invariant-loop-entry : goal.invariant-loop-entry
invariant-loop-entry l = l.last ≡ last_change l.radar l.slot (take l.entry-index l.changes)
