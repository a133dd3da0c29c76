use Rattle.std.proofs.Common.{◌≡◌, ◌++◌, take}
use Rattle.std.specs.List.{flat_map}
use Rattle.price_form.specs.Octets.{edge_octets}
use Rattle.price_form.proofs.numbers.put_edges.Given as goal

abbrev pub invariant-loop-plot : goal.invariant-loop-plot
invariant-loop-plot l = l.out.items ≡ l.initial.out.items ++ flat_map edge_octets (take l.plot-index l.edges)
