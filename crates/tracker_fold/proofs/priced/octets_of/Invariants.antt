use Rattle.std.proofs.Common.{◌≡◌, take}
use Rattle.tracker_fold.specs.Priced.{told_octets}
use Rattle.tracker_fold.proofs.priced.octets_of.Given as goal

abbrev pub invariant-loop-keyed : goal.invariant-loop-keyed
invariant-loop-keyed l = l.octets.items ≡ told_octets (take l.keyed-index l.certs)
