use Rattle.slot_step.proofs.Paired.{ArePaired}
use Rattle.slot_step.proofs.pairing.pair.Given as goal

abbrev pub invariant-loop-component : goal.invariant-loop-component
invariant-loop-component l = ArePaired l.tracks l.plots l.whole l.component-items l.fn.certs.items l.component-index l.pairing.items l.certs.items
