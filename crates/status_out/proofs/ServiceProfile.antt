-- The items of what is told of the service are a record of category 065, and no two lines have the same ones.
use Rattle.std.proofs.Common.{◌≡◌, ◌∙◌, ap, sym, refl, rules, ◌*◌, ◌/◌, ◌==◌, List, arith, if◌then◌else◌}
use Rattle.std.specs.Prelude.{slice_index}
use Rattle.asterix_frame.specs.declared.tables.Uap.TheVariants.{Cat065}
use Rattle.asterix_frame.specs.Elements.{Element}
use Rattle.asterix_frame.specs.DataRecords.{item_octets}
use Rattle.asterix_frame.specs.Values.{three_octets}
use Rattle.asterix_frame.specs.Encoding.{AreDataItems}
use Rattle.cat062_out.specs.Tracks.{Stamp}
use Rattle.cat062_out.specs.Reading.{time_in_day}
use Rattle.cat062_out.proofs.Written.{time_back}
use Rattle.cat062_out.proofs.Profiles.{IsProfile}
use Rattle.status_out.specs.declared.service_line.Line065.{Line065}
use Rattle.status_out.specs.declared.service_line.Line065.TheVariants.{Status, End}
use Rattle.status_out.specs.ServiceRecords.{IsLine065, service_items}
use Rattle.status_out.proofs.SensorProfile.{fixed_item, time_item}

items_are : (line : Line065) → IsLine065 line → AreDataItems Cat065 (service_items line)
unfolding service_items
items_are (Status stamp nogo) h = record {
  rising = search rules;
  are_items = (
    fixed_item Cat065 0 2 _ refl (λ e. absurd (cc)) refl,
    (
      fixed_item Cat065 1 1 _ refl (λ e. absurd (cc)) refl,
      (
        fixed_item Cat065 2 1 _ refl (λ e. absurd (cc)) refl,
        (
          time_item Cat065 3 stamp.tod refl h.0.tod,
          (
            fixed_item Cat065 5 1 _ refl (λ e. absurd (cc)) refl,
            tt,
          ),
        ),
      ),
    ),
  );
}
items_are (End stamp batch) h = record {
  rising = search rules;
  are_items = (
    fixed_item Cat065 0 2 _ refl (λ e. absurd (cc)) refl,
    (
      fixed_item Cat065 1 1 _ refl (λ e. absurd (cc)) refl,
      (
        fixed_item Cat065 2 1 _ refl (λ e. absurd (cc)) refl,
        (
          time_item Cat065 3 stamp.tod refl h.0.tod,
          (
            fixed_item Cat065 4 1 _ refl (λ e. absurd (cc)) refl,
            tt,
          ),
        ),
      ),
    ),
  );
}

-- ---- what the items tell

abbrev told_stamp : List Element → Stamp
told_stamp ps = record { sac = slice_index (item_octets 1 ps) 0; sic = slice_index (item_octets 1 ps) 1; service = slice_index (item_octets 3 ps) 0; tod = time_in_day (three_octets (item_octets 4 ps)) }

-- the line that items tell, if they are those of one
abbrev pub told_line : List Element → Line065
told_line ps = if slice_index (item_octets 2 ps) 0 == 1 then Status (told_stamp ps) (slice_index (item_octets 6 ps) 0 / 64) else End (told_stamp ps) (slice_index (item_octets 5 ps) 0)

pub line_back : (line : Line065) → IsLine065 line → told_line (service_items line) ≡ line
unfolding service_items
line_back (Status stamp nogo) h =
    let number : 64 * nogo / 64 ≡ nogo = omega arith in
    (λ i. Status (record { sac = stamp.sac; sic = stamp.sic; service = stamp.service; tod = time_back stamp.tod h.0.tod i }) (number i))
line_back (End stamp batch) h = λ i. End (record { sac = stamp.sac; sic = stamp.sic; service = stamp.service; tod = time_back stamp.tod h.0.tod i }) batch

pub service_profile : IsProfile Cat065 IsLine065 service_items
service_profile = record { are_items = items_are; one_value = λ v w h k e. sym (line_back v h) ∙ ap told_line e ∙ line_back w k }
