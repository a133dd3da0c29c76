-- Items as they lie in memory.
use Rattle.std.specs.Prelude.{List, map}
use Rattle.recording.specs.declared.item.Item.{Item}
use Rattle.recording.specs.declared.item.Item.TheVariants.{Datagram, Tick, Bias}
use Rattle.recording.specs.Items as items

abbrev pub item_of : Item → items.Item
item_of (Datagram feed octets) = items.datagram feed octets.now
item_of (Tick time) = items.tick time
item_of (Bias radar slot bias) = items.bias radar slot bias

abbrev pub items_of : List Item → List items.Item
items_of is = map item_of is
