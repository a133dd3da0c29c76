use Rattle.std.proofs.Common.{arith, rules, ◌+◌, ◌*◌, ◌<◌, get_or, length}
use Rattle.recording.proofs.ItemOctets.{datagram_cut}
use Rattle.recording.proofs.recorded.first_datagram.Goals as goal

pub returns-in_default-clause-none : goal.returns-in_default-clause-none
returns-in_default-clause-none c = λ h. datagram_cut h c.args.octets.now (λ i. omega (arith, c.type_inv.octets i)) (omega (arith, c.in_default.len_below))

pub returns-then-after-length-clause-none : goal.returns-then-after-length-clause-none
returns-then-after-length-clause-none c =
    let octets = c.args.octets.now in
    let short : length octets < 3 + 256 * get_or octets 1 0 + get_or octets 2 0 = search rules in
    λ h. datagram_cut h octets (λ i. omega (arith, c.type_inv.octets i)) short
