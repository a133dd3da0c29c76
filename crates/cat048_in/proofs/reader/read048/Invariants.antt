use Rattle.std.proofs.Common.{◌≡◌, take}
use Rattle.std.specs.Prelude.{map}
use Rattle.asterix_frame.proofs.Mapped.{made_at}
use Rattle.cat048_in.specs.Reports.{report_of}
use Rattle.cat048_in.proofs.reader.read048.Given as goal

-- the reports so far are those of the records so far
abbrev pub invariant-loop-record : goal.invariant-loop-record
invariant-loop-record l = l.reports.items ≡ map (made_at report_of l.block.body.now) (take l.record-index l.record-items)
