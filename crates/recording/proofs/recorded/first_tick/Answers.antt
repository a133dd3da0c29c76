use Rattle.std.proofs.Common.{arith}
use Rattle.recording.proofs.ItemOctets.{tick_cut}
use Rattle.recording.proofs.recorded.first_tick.Goals as goal

pub returns-in_default-clause-none : goal.returns-in_default-clause-none
returns-in_default-clause-none c = λ h. tick_cut h c.args.octets.now (λ i. omega (arith, c.type_inv.octets i)) c.in_default.ensures.none
