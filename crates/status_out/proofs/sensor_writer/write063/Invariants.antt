use Rattle.status_out.proofs.SensorBlocks.{Holds}
use Rattle.status_out.proofs.sensor_writer.write063.Given as goal

-- the records of the radars so far are in the block
abbrev pub invariant-loop-line : goal.invariant-loop-line
invariant-loop-line l = Holds l.stamp l.radars l.block l.line-index
