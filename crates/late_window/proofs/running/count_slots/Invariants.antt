use Rattle.std.proofs.Common.{◌≡◌, ◌+◌, length}
use Rattle.late_window.specs.Folding.{Rises, slots}
use Rattle.late_window.proofs.running.count_slots.Given as goal

abbrev pub invariant-loop-rest : goal.invariant-loop-rest
invariant-loop-rest g l = record {
  sum : l.count + length (slots g.F.Fold.slot_of l.rest) ≡ length (slots g.F.Fold.slot_of l.items);
  rising : Rises g.F.Item.Ord.cmp g.F.Fold.key_of l.rest;
}

abbrev pub decreases-loop-rest : goal.decreases-loop-rest
decreases-loop-rest g l = length l.rest
