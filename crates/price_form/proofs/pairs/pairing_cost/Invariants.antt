use Rattle.std.proofs.Common.{◌≡◌, ◌≤◌, ◌*◌, take}
use Rattle.assignment_dual.specs.Pairings.{AllGate, cost}
use Rattle.price_form.specs.Checks.{first_rows}
use Rattle.price_form.proofs.pairs.pairing_cost.Given as goal

abbrev pub invariant-loop-plot : goal.invariant-loop-plot
invariant-loop-plot g l =
    let edges = g.E.Column.list l.edges in
    let pairing = g.X.Column.list l.pairing in
    record {
      gates : AllGate (first_rows edges l.plot) (take l.plot pairing);
      sum : l.sum ≡ cost (first_rows edges l.plot) (take l.plot pairing);
      size : l.sum ≤ l.plot * 65535;
    }
