use Rattle.std.proofs.Common.{◌≡◌, ◌++◌, take}
use Rattle.std.specs.List.{flat_map}
use Rattle.price_form.specs.Octets.{price_octets}
use Rattle.price_form.proofs.numbers.put_prices.Given as goal

abbrev pub invariant-loop-price : goal.invariant-loop-price
invariant-loop-price l = l.out.items ≡ l.initial.out.items ++ flat_map price_octets (take l.price-index l.prices)
