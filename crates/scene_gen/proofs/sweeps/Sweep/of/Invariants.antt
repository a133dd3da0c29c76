use Rattle.scene_gen.proofs.Phases.{Filled}
use Rattle.scene_gen.proofs.sweeps.Sweep.of.Given as goal

abbrev pub invariant-loop-aircraft : goal.invariant-loop-aircraft
invariant-loop-aircraft l = Filled l.radar l.fleet l.aircraft-index l.by_phase
