use Rattle.slot_step.specs.MixedAims.{AreMixed}
use Rattle.slot_step.specs.Tracker.{track_gate}
use Rattle.slot_step.proofs.Edges.{AreFound}
use Rattle.slot_step.proofs.gates.edges_of.Given as goal

abbrev pub invariant-loop-index : goal.invariant-loop-index
invariant-loop-index l = AreFound track_gate l.tracks l.plots l.index l.edges.items × AreMixed l.tracks l.aims.items
