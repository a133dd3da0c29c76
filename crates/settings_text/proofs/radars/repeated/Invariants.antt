use Rattle.std.proofs.Common.{take}
use Rattle.admission_log.specs.Sources.{HaveOwnSources}
use Rattle.settings_text.proofs.radars.repeated.Given as goal

abbrev pub invariant-loop-index : goal.invariant-loop-index
invariant-loop-index l = HaveOwnSources (take l.index l.radars)
