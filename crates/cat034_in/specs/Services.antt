-- The service messages that records of category 034 tell, by their items (ASTERIX, Part 2b).
use Rattle.std.specs.Prelude.{List, map}
use Rattle.std.specs.Option.{ForSome}
use Rattle.trk_base.specs.Ranges.{IsTimeOfDay}
use Rattle.asterix_frame.specs.declared.tables.Uap.TheVariants.{Cat034}
use Rattle.asterix_frame.specs.Elements.{Element}
use Rattle.asterix_frame.specs.Values.{one_octet, two_octets}
use Rattle.asterix_frame.specs.DataRecords.{DataRecord, item_octets, source_of, time_of}
use Rattle.cat034_in.specs.declared.service.Service.{Service}

-- FRN 2 is I034/000, the message type, 4 is 020, the sector, and 5 is 041, the rotation period.
-- Beside the source and the time of day all other items are passed over.
unfoldable pub service_of : List Element → Service
service_of items = record {
  source = source_of items;
  kind = one_octet (item_octets 2 items);
  tod = time_of Cat034 items;
  sector = one_octet (item_octets 4 items);
  rotation = two_octets (item_octets 5 items);
}

-- the service messages of these records, in order
abbrev pub services_of : List DataRecord → List Service
services_of records = map (λ r. service_of r.items) records

-- a time of day, if there is one, is below a day
abbrev pub IsTimed : Service → Type 0
IsTimed s = ForSome s.tod IsTimeOfDay
