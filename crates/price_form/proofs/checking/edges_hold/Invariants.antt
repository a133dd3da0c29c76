use Rattle.std.proofs.Common.{◌≤ℤ◌, ◌+ℤ◌, pos}
use Rattle.std.specs.List.{AllWithin}
use Rattle.assignment_dual.specs.Problems.{price_at}
use Rattle.price_form.proofs.checking.edges_hold.Given as goal

abbrev pub invariant-loop-i : goal.invariant-loop-i
invariant-loop-i g l = AllWithin (λ e. (price_at (g.P.Column.list l.u) e.0 +ℤ price_at (g.P.Column.list l.v) e.1) ≤ℤ pos e.2) (g.E.Column.list l.edges) 0 l.i
