use Rattle.asterix_frame.specs.Names.{known}
use Rattle.asterix_frame.specs.Presence.{Continues}
use Rattle.asterix_frame.proofs.presence.field_len.Given as goal

abbrev pub invariant-loop-offset : goal.invariant-loop-offset
invariant-loop-offset l = Continues (known l.names) l.octets l.offset
