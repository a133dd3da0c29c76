use Rattle.std.proofs.Common.{◌≡◌, take}
use Rattle.std.specs.Prelude.{map}
use Rattle.asterix_frame.proofs.Mapped.{made_at}
use Rattle.cat034_in.specs.Services.{service_of}
use Rattle.cat034_in.proofs.reader.read034.Given as goal

-- the service messages so far are those of the records so far
abbrev pub invariant-loop-record : goal.invariant-loop-record
invariant-loop-record l = l.services.items ≡ map (made_at service_of l.block.body.now) (take l.record-index l.record-items)
