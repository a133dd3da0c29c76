use Rattle.std.proofs.Common.{◌-◌, length}
use Rattle.cat062_out.proofs.ProfileReading.{SoFar}
use Rattle.status_out.specs.declared.service_line.Line065.{Line065}
use Rattle.status_out.specs.ServiceRecords.{IsLine065, service_items}
use Rattle.asterix_frame.specs.declared.tables.Uap.TheVariants.{Cat065}
use Rattle.status_out.proofs.service_reader.read065.Given as goal

abbrev pub invariant-loop-from : goal.invariant-loop-from
invariant-loop-from l = SoFar Line065 Cat065 IsLine065 service_items l.block.body.now l.from l.lines.items

abbrev pub decreases-loop-from : goal.decreases-loop-from
decreases-loop-from l = length l.block.body.now - l.from
