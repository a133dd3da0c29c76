use Rattle.std.proofs.Common.{map, take}
use Rattle.admission_log.specs.Messages.{report}
use Rattle.admission_log.specs.Brought.{BringsMessages}
use Rattle.admission_log.proofs.delivery.Delivery.add_reports.Given as goal

abbrev pub invariant-loop-report : goal.invariant-loop-report
invariant-loop-report l = BringsMessages l.settings l.last (map report (take l.report-index l.reports)) l.fn.self l.self
