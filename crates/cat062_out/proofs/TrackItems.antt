-- The items of a track's record, put in part by part.
use Rattle.std.proofs.Common.{◌≡◌, ◌∙◌, ap, ◌+◌, List, [], ◌∷◌, ◌++◌, length, arith, append_assoc, length-append}
use Rattle.asterix_frame.specs.Elements.{Element, numbers, octets_of}
use Rattle.asterix_frame.specs.Values.{big_endian}
use Rattle.asterix_frame.specs.DataRecords.{record_octets}
use Rattle.asterix_frame.specs.Encoding.{has, field_length, field_of, item_of, last_frn, record_of}
use Rattle.asterix_frame.proofs.Encodings.{length-field}
use Rattle.cat062_out.specs.Tracks.{Stamp, TrackLine}
use Rattle.cat062_out.specs.TrackRecords.{where_known, two_signed, address_octets, accuracy_octets, stamp_items, motion_items, status_items, track_items, track_record}

more : {A : Type 0} (x y a b : List A) → x ≡ a → y ≡ x ++ b → y ≡ a ++ b
more x y a b e f = f ∙ ap (λ t. t ++ b) e

regrouped : {A : Type 0} (a b c d e f g : List A) → ((((((a ++ b) ++ c) ++ d) ++ e) ++ f) ++ g) ≡ a ++ (b ++ (c ++ (d ++ (e ++ (f ++ g)))))
regrouped a b c d e f g =
    append_assoc (((((a ++ b) ++ c) ++ d) ++ e)) f g ∙ append_assoc ((((a ++ b) ++ c) ++ d)) e (f ++ g) ∙ append_assoc (((a ++ b) ++ c)) d (e ++ (f ++ g)) ∙ append_assoc ((a ++ b)) c (d ++ (e ++ (f ++ g)))
    ∙ append_assoc a b (c ++ (d ++ (e ++ (f ++ g))))

module _ (s : Stamp) (l : TrackLine) (at-stamp at-motion at-code at-address at-status at-level all : List Element) where
  pub all_put : at-stamp ≡ stamp_items s → at-motion ≡ at-stamp ++ motion_items l → at-code ≡ at-motion ++ where_known 9 (λ code. big_endian 2 code) l.code → at-address ≡ at-code ++ where_known 11 address_octets l.address
      → at-status ≡ at-address ++ status_items l → at-level ≡ at-status ++ where_known 17 two_signed l.level → all ≡ at-level ++ item_of 27 (accuracy_octets l) ∷ [] → all ≡ track_items s l
  unfolding track_items
  all_put e1 e2 e3 e4 e5 e6 e7 =
      more at-level all _ _ (more at-status at-level _ _ (more at-address at-status _ _ (more at-code at-address _ _ (more at-motion at-code _ _ (more at-stamp at-motion _ _ e1 e2) e3) e4) e5) e6) e7
      ∙ regrouped (stamp_items s) (motion_items l) (where_known 9 (λ code. big_endian 2 code) l.code) (where_known 11 address_octets l.address) (status_items l) (where_known 17 two_signed l.level) (item_of 27 (accuracy_octets l) ∷ [])

-- the octets of that record
pub record_put : (s : Stamp) (l : TrackLine) (all : List Element) → all ≡ track_items s l → record_octets (record_of all) ≡ track_record s l
unfolding track_record
record_put s l all e = ap (λ items. record_octets (record_of items)) e

-- how many they are, where the last item has that FRN
pub record_size : (items : List Element) → last_frn items ≡ 27 → length (record_octets (record_of items)) ≡ 4 + length (octets_of items)
unfolding field_of
record_size items e = omega (arith, e, length-append (field_of (numbers items)) (octets_of items), length-field (has (numbers items)) 0 (field_length (numbers items)))
