-- The items of each state of a radar are a record of category 063, and no two states have the same ones.
use Rattle.std.proofs.Common.{◌≡◌, ◌∙◌, ap, sym, refl, subst, rules, ℕ, ◌+◌, ◌*◌, ◌/◌, ◌<◌, ◌≤◌, List, [], ◌∷◌, length, arith, ℤ, FitsSigned, w16}
use Rattle.std.specs.Prelude.{slice_index, IfSome}
use Rattle.asterix_frame.specs.declared.tables.Uap.{Uap}
use Rattle.asterix_frame.specs.declared.tables.Uap.TheVariants.{Cat063}
use Rattle.asterix_frame.specs.declared.tables.ItemFormat.TheVariants.{Fixed}
use Rattle.asterix_frame.specs.Tables.{table_of, time_frn}
use Rattle.asterix_frame.specs.Items.{item_at}
use Rattle.asterix_frame.specs.Elements.{Element}
use Rattle.asterix_frame.specs.Values.{big_endian, three_octets, signed}
use Rattle.asterix_frame.specs.DataRecords.{IsDataItem, item_octets}
use Rattle.asterix_frame.specs.Encoding.{AreDataItems}
use Rattle.asterix_frame.proofs.Written.{three_written}
use Rattle.trk_base.specs.Numbers.{day}
use Rattle.cat062_out.specs.TrackRecords.{two_signed, complement}
use Rattle.cat062_out.specs.Reading.{time_in_day, number_of, velocity_of}
use Rattle.cat062_out.proofs.Written.{number_back, time_back, velocity_back}
use Rattle.cat062_out.proofs.Profiles.{IsProfile}
use Rattle.status_out.specs.SensorRecords.{Message, IsMessage, sensor_items}

-- an item of so many octets that isn't the time of day
pub fixed_item : (uap : Uap) (number size : ℕ) (octets : List ℕ) → item_at (table_of uap) number ≡ Fixed size → (number + 1 ≡ time_frn uap → ⊥) → length octets ≡ size → IsDataItem uap number octets
fixed_item uap number size octets table other e = record { whole = rw table e; in_day = λ h. absurd (other h) }

-- the time of day
pub time_item : (uap : Uap) (number tod : ℕ) → item_at (table_of uap) number ≡ Fixed 3 → tod < day → IsDataItem uap number (big_endian 3 tod)
time_item uap number tod table h = record { whole = rw table refl; in_day = λ _. subst (λ o. IfSome o (λ t. t < day)) (sym (three_written tod (omega (arith, h)))) h }

status_item : (con : ℕ) → con ≤ 3 → IsDataItem Cat063 4 (64 * con ∷ [])
status_item con h = record {
  whole = record { some = omega arith; goes_on = λ i lt. absurd (omega (arith, lt)); ends = omega arith };
  in_day = λ e. absurd (cc);
}

items_are : (m : Message) → IsMessage m → AreDataItems Cat063 (sensor_items m)
unfolding sensor_items
items_are m h = record {
  rising = search rules;
  are_items = (
    fixed_item Cat063 0 2 _ refl (λ e. absurd (cc)) refl,
    (
      fixed_item Cat063 1 1 _ refl (λ e. absurd (cc)) refl,
      (
        time_item Cat063 2 m.0.tod refl h.0.tod,
        (
          fixed_item Cat063 3 2 _ refl (λ e. absurd (cc)) refl,
          (
            status_item m.1.con h.1.con,
            (
              fixed_item Cat063 5 2 _ refl (λ e. absurd (cc)) refl,
              (
                fixed_item Cat063 6 4 _ refl (λ e. absurd (cc)) refl,
                (
                  fixed_item Cat063 7 2 _ refl (λ e. absurd (cc)) refl,
                  tt,
                ),
              ),
            ),
          ),
        ),
      ),
    ),
  );
}

-- ---- what the items tell

-- a signed number in two octets
abbrev number_in : List ℕ → ℤ
number_in octets = signed 16 (number_of octets)

number_in_back : (z : ℤ) → FitsSigned w16 z → number_in (two_signed z) ≡ z
number_in_back z h = ap (signed 16) (number_back (complement 16 z) (grind arith)) ∙ grind arith

-- the state that items tell, if they are those of one
abbrev pub told_message : List Element → Message
told_message ps = (
  record { sac = slice_index (item_octets 1 ps) 0; sic = slice_index (item_octets 1 ps) 1; service = slice_index (item_octets 2 ps) 0; tod = time_in_day (three_octets (item_octets 3 ps)) },
  record {
    sac = slice_index (item_octets 4 ps) 0;
    sic = slice_index (item_octets 4 ps) 1;
    con = slice_index (item_octets 5 ps) 0 / 64;
    time_ms = number_in (item_octets 6 ps);
    gain = (velocity_of (item_octets 7 ps)).0;
    range = (velocity_of (item_octets 7 ps)).1;
    azimuth = number_in (item_octets 8 ps);
  },
)

pub message_back : (m : Message) → IsMessage m → told_message (sensor_items m) ≡ m
unfolding sensor_items
message_back m h =
    let con : 64 * m.1.con / 64 ≡ m.1.con = omega arith in
    let ranges = velocity_back m.1.gain m.1.range h.1.gain h.1.range in
    λ i. (
      record { sac = m.0.sac; sic = m.0.sic; service = m.0.service; tod = time_back m.0.tod h.0.tod i },
      record {
        sac = m.1.sac;
        sic = m.1.sic;
        con = con i;
        time_ms = number_in_back m.1.time_ms h.1.time_ms i;
        gain = (ranges i).0;
        range = (ranges i).1;
        azimuth = number_in_back m.1.azimuth h.1.azimuth i;
      },
    )

pub sensor_profile : IsProfile Cat063 IsMessage sensor_items
sensor_profile = record { are_items = items_are; one_value = λ v w h k e. sym (message_back v h) ∙ ap told_message e ∙ message_back w k }
