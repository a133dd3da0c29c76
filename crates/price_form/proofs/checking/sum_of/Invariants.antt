use Rattle.std.proofs.Common.{◌≡◌, ◌≤◌, ◌*◌, ◌^◌, take}
use Rattle.std.specs.Prelude.{unsigned_abs}
use Rattle.assignment_dual.specs.Problems.{total}
use Rattle.price_form.proofs.checking.sum_of.Given as goal

abbrev pub invariant-loop-i : goal.invariant-loop-i
invariant-loop-i g l = record { value : l.sum ≡ total (take l.i (g.P.Column.list l.prices)); size : unsigned_abs l.sum ≤ l.i * 2 ^ 63 }
