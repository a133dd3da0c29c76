use Rattle.std.proofs.Common.{◌<◌}
use Rattle.std.specs.List.{AllWithin}
use Rattle.std.specs.Option.{IfSome}
use Rattle.price_form.proofs.reading.name_below.Given as goal

abbrev pub invariant-loop-i : goal.invariant-loop-i
invariant-loop-i g l = AllWithin (λ x. IfSome x (λ t. t < l.tracks)) (g.X.Column.list l.pairing) 0 l.i
