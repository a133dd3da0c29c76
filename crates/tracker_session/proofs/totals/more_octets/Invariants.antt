use Rattle.std.proofs.Common.{◌≡◌, ◌+◌, length, take}
use Rattle.std.specs.List.{concat}
use Rattle.tracker_session.specs.Counting.{counted}
use Rattle.tracker_session.proofs.totals.more_octets.Given as goal

-- those of the datagrams so far
abbrev pub invariant-loop-datagram : goal.invariant-loop-datagram
invariant-loop-datagram l = l.octets ≡ counted (l.count + length (concat (take l.datagram-index l.datagrams)))
