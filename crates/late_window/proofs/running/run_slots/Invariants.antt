use Rattle.std.proofs.Common.{◌≡◌, ◌≤◌, ◌++◌, length}
use Rattle.late_window.specs.Folding.{Rises, BeforeFirst, slots, states, AreOutsOf, latest}
use Rattle.late_window.proofs.running.run_slots.Given as goal

abbrev pub invariant-loop-rest : goal.invariant-loop-rest
invariant-loop-rest g l =
    let F = g.F.Fold in
    let state = latest l.start l.states.items in
    record {
      states : l.states.items ++ states F.next F.slot_of state l.rest ≡ states F.next F.slot_of l.start l.items;
      outs : (os : _) → AreOutsOf F.next F.slot_of F.is_out state l.rest os → AreOutsOf F.next F.slot_of F.is_out l.start l.items (l.outs.items ++ os);
      before : BeforeFirst F.is_before F.slot_of state l.rest;
      rising : Rises g.F.Item.Ord.cmp F.key_of l.rest;
      paid : length (slots F.slot_of l.rest) ≤ l.ticket;
    }

abbrev pub decreases-loop-rest : goal.decreases-loop-rest
decreases-loop-rest g l = length l.rest
