use Rattle.std.proofs.Common.{take}
use Rattle.gating.specs.Gating.{gate}
use Rattle.slot_step.specs.Gates.{AreAdded}
use Rattle.slot_step.proofs.gates.add_gates.Given as goal

abbrev pub invariant-loop-place : goal.invariant-loop-place
invariant-loop-place l = AreAdded (gate l.aim) l.plots (take l.place-index l.near) l.index l.initial.edges.items l.edges.items
