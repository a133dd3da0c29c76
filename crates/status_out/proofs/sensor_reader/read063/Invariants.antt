use Rattle.std.proofs.Common.{◌-◌, length}
use Rattle.cat062_out.proofs.ProfileReading.{SoFar}
use Rattle.status_out.specs.SensorRecords.{Message, IsMessage, sensor_items}
use Rattle.asterix_frame.specs.declared.tables.Uap.TheVariants.{Cat063}
use Rattle.status_out.proofs.sensor_reader.read063.Given as goal

abbrev pub invariant-loop-from : goal.invariant-loop-from
invariant-loop-from l = SoFar Message Cat063 IsMessage sensor_items l.block.body.now l.from l.messages.items

abbrev pub decreases-loop-from : goal.decreases-loop-from
decreases-loop-from l = length l.block.body.now - l.from
