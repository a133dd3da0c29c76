use Rattle.std.proofs.Common.{◌≤ℤ◌}
use Rattle.std.specs.List.{AllWithin}
use Rattle.price_form.proofs.checking.are_at_most.Given as goal

abbrev pub invariant-loop-i : goal.invariant-loop-i
invariant-loop-i g l = AllWithin (λ p. p ≤ℤ l.most) (g.P.Column.list l.prices) 0 l.i
