use Rattle.std.proofs.Common.{List, length, ◌-◌}
use Rattle.asterix_frame.specs.Datagrams.{Content}
use Rattle.admission_log.proofs.Reading.{Holds}
use Rattle.admission_log.proofs.messages.read_messages.Given as goal

abbrev pub invariant-loop-from : goal.invariant-loop-from
invariant-loop-from l = (contents : List Content) × Holds l.datagram l.from l.messages contents

abbrev pub decreases-loop-from : goal.decreases-loop-from
decreases-loop-from l = length l.datagram - l.from
