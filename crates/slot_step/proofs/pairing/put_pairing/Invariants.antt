use Rattle.std.proofs.Common.{◌≡◌, ℕ, length, get_or, take, None}
use Rattle.std.specs.Prelude.{Contains}
use Rattle.assignment_dual.specs.Parts.{at_plots}
use Rattle.assignment_dual.specs.Renumbering.{renumbered}
use Rattle.slot_step.proofs.pairing.put_pairing.Given as goal

abbrev pub invariant-loop-index : goal.invariant-loop-index
invariant-loop-index l = record {
  count : length l.pairing ≡ length l.fn.pairing;
  own : at_plots None l.pairing (take l.index l.component.plots) ≡ renumbered l.component.tracks (take l.index l.own);
  others : (plot : ℕ) → (Contains l.component.plots plot → ⊥) → get_or l.pairing plot None ≡ get_or l.fn.pairing plot None;
}
