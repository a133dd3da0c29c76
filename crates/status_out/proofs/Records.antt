-- A record that was put together item by item is the record of what it tells.
use Rattle.std.proofs.Common.{◌≡◌, ◌∙◌, ap, sym, refl, ℕ, ◌*◌, List, [], ◌∷◌, ◌++◌, length}
use Rattle.asterix_frame.specs.Elements.{Element}
use Rattle.asterix_frame.specs.Values.{big_endian}
use Rattle.asterix_frame.specs.DataRecords.{record_octets}
use Rattle.asterix_frame.specs.Encoding.{item_of, record_of, field_of, field_octet}
use Rattle.cat062_out.specs.Tracks.{Stamp}
use Rattle.cat062_out.specs.TrackRecords.{two_signed}
use Rattle.status_out.specs.SensorRecords.{Message, sensor_items, sensor_record}
use Rattle.status_out.specs.declared.service_line.Line065.{Line065}
use Rattle.status_out.specs.declared.service_line.Line065.TheVariants.{Status, End}
use Rattle.status_out.specs.ServiceRecords.{common_items, service_items, service_record}

module _ (line : Line065) (stamp : Stamp) (number : ℕ) (common items : List Element) (octets : List ℕ) where
  pub status_record : line ≡ Status stamp number → common ≡ common_items stamp 1 → items ≡ common ++ item_of 6 (64 * number ∷ []) ∷ [] → octets ≡ record_octets (record_of items) → octets ≡ service_record line
  unfolding service_record service_items
  status_record l c i o = o ∙ ap (λ x. record_octets (record_of x)) (i ∙ ap (λ x. x ++ item_of 6 (64 * number ∷ []) ∷ []) c) ∙ ap service_record (sym l)

  pub end_record : line ≡ End stamp number → common ≡ common_items stamp 2 → items ≡ common ++ item_of 5 (number ∷ []) ∷ [] → octets ≡ record_octets (record_of items) → octets ≡ service_record line
  unfolding service_record service_items
  end_record l c i o = o ∙ ap (λ x. record_octets (record_of x)) (i ∙ ap (λ x. x ++ item_of 5 (number ∷ []) ∷ []) c) ∙ ap service_record (sym l)

-- each has nine octets
pub service_size : (line : Line065) → length (service_record line) ≡ 9
unfolding service_record service_items field_of field_octet
service_size (Status stamp number) = refl
service_size (End stamp number) = refl

-- ---- the state of a radar

abbrev with_item : List Element → Element → List Element
with_item items one = items ++ one ∷ []

-- what was put in one after the other
pub eight : (i1 i2 i3 i4 i5 i6 i7 i8 : Element) (w0 w1 w2 w3 w4 w5 w6 w7 w8 : List Element) → w0 ≡ [] → w1 ≡ w0 ++ i1 ∷ [] → w2 ≡ w1 ++ i2 ∷ [] → w3 ≡ w2 ++ i3 ∷ [] → w4 ≡ w3 ++ i4 ∷ []
    → w5 ≡ w4 ++ i5 ∷ [] → w6 ≡ w5 ++ i6 ∷ [] → w7 ≡ w6 ++ i7 ∷ [] → w8 ≡ w7 ++ i8 ∷ [] → w8 ≡ i1 ∷ i2 ∷ i3 ∷ i4 ∷ i5 ∷ i6 ∷ i7 ∷ i8 ∷ []
eight i1 i2 i3 i4 i5 i6 i7 i8 w0 w1 w2 w3 w4 w5 w6 w7 w8 e0 e1 e2 e3 e4 e5 e6 e7 e8 =
    let a1 = e1 ∙ ap (λ w. with_item w i1) e0 in
    let a2 = e2 ∙ ap (λ w. with_item w i2) a1 in
    let a3 = e3 ∙ ap (λ w. with_item w i3) a2 in
    let a4 = e4 ∙ ap (λ w. with_item w i4) a3 in
    let a5 = e5 ∙ ap (λ w. with_item w i5) a4 in
    let a6 = e6 ∙ ap (λ w. with_item w i6) a5 in
    let a7 = e7 ∙ ap (λ w. with_item w i7) a6 in
    e8 ∙ ap (λ w. with_item w i8) a7

-- the items of a state by their octets
pub sensor_record_is : (m : Message) (time time_bias ranges azimuth : List ℕ) (items : List Element) (octets : List ℕ) → time ≡ big_endian 3 m.0.tod → time_bias ≡ two_signed m.1.time_ms → ranges ≡ two_signed m.1.gain ++ two_signed m.1.range
    → azimuth ≡ two_signed m.1.azimuth
    → items ≡ item_of 1 (m.0.sac ∷ m.0.sic ∷ []) ∷ item_of 2 (m.0.service ∷ []) ∷ item_of 3 time ∷ item_of 4 (m.1.sac ∷ m.1.sic ∷ []) ∷ item_of 5 (64 * m.1.con ∷ []) ∷ item_of 6 time_bias ∷ item_of 7 ranges ∷ item_of 8 azimuth ∷ []
    → octets ≡ record_octets (record_of items) → octets ≡ sensor_record m
unfolding sensor_record sensor_items
sensor_record_is m time time_bias ranges azimuth items octets t b r a e o =
    o ∙ ap (λ x. record_octets (record_of x)) (e ∙ (λ i. item_of 1 (m.0.sac ∷ m.0.sic ∷ []) ∷ item_of 2 (m.0.service ∷ []) ∷ item_of 3 (t i) ∷ item_of 4 (m.1.sac ∷ m.1.sic ∷ []) ∷ item_of 5 (64 * m.1.con ∷ []) ∷ item_of 6 (b i) ∷ item_of 7 (r i) ∷ item_of 8 (a i) ∷ []))

-- it has 19 octets
pub sensor_size : (m : Message) → length (sensor_record m) ≡ 19
unfolding sensor_record sensor_items field_of field_octet
sensor_size m = refl
