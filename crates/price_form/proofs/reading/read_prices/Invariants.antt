use Rattle.std.proofs.Common.{◌≡◌, ◌≤◌, ◌-◌, ◌++◌, length, take}
use Rattle.std.specs.List.{All, flat_map}
use Rattle.price_form.specs.Files.{IsRecord, StandFrom, magic}
use Rattle.price_form.specs.Encoding.{price_record_octets}
use Rattle.price_form.proofs.reading.read_prices.Given as goal

abbrev pub invariant-loop-at : goal.invariant-loop-at
invariant-loop-at l = record {
  inside : l.at ≤ length l.bytes;
  encoded : take l.at l.bytes ≡ magic ++ flat_map price_record_octets l.records.items;
  each : All IsRecord l.records.items;
  places : StandFrom 4 l.records.items;
}

abbrev pub decreases-loop-at : goal.decreases-loop-at
decreases-loop-at l = length l.bytes - l.at
