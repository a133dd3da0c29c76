-- The reports that records tell, by their items.
use Rattle.std.specs.Prelude.{List, map}
use Rattle.asterix_frame.specs.declared.tables.Uap.TheVariants.{Cat048}
use Rattle.asterix_frame.specs.Elements.{Element}
use Rattle.asterix_frame.specs.DataRecords.{DataRecord, item_octets, source_of, time_of}
use Rattle.cat048_in.specs.declared.report.Report.{Report}
use Rattle.cat048_in.specs.Values.{below_day, kind_of, simulated_of, spi_of, monitor_of, test_of, polar_of, code_of, level_of, address_of}
use Rattle.cat048_in.specs.InRange.{kind_in_range, time_in_range, code_in_range, level_in_range, address_in_range}

-- FRN 3 is I048/020, 4 is 040, 5 is 070, 6 is 090, and 8 is 220. Beside the source and the time of
-- day all other items are passed over.
unfoldable pub report_of : List Element → Report
report_of items = record {
  source = source_of items;
  tod = below_day (time_of Cat048 items);
  kind = kind_of (item_octets 3 items);
  simulated = simulated_of (item_octets 3 items);
  test = test_of (item_octets 3 items);
  spi = spi_of (item_octets 3 items);
  monitor = monitor_of (item_octets 3 items);
  polar = polar_of (item_octets 4 items);
  code = code_of (item_octets 5 items);
  level = level_of (item_octets 6 items);
  address = address_of (item_octets 8 items);
  kind_range = kind_in_range (item_octets 3 items);
  in_day = time_in_range (time_of Cat048 items);
  code_range = code_in_range (item_octets 5 items);
  level_range = level_in_range (item_octets 6 items);
  address_range = address_in_range (item_octets 8 items);
}

-- the reports of these records, in order
abbrev pub reports_of : List DataRecord → List Report
reports_of records = map (λ r. report_of r.items) records
