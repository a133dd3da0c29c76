-- Tracks are a profile: the items of each are a record of the category, and tell the track.
use Rattle.std.proofs.Common.{◌≡◌, ◌≢◌, ◌∙◌, ap, sym, refl, subst, ℕ, ◌+◌, ◌-◌, ◌<◌, ◌≤◌, List, [], ◌∷◌, ◌++◌, length, take, drop, arith, true, false, Option, Some, None, nat_eq}
use Rattle.std.specs.Prelude.{IfSome}
use Rattle.std.specs.List.{AllByRecursion}
use Rattle.std.proofs.lemmas.List.{take_at}
use Rattle.std.specs.Cmp.Lexicographic.{pointwise, bytes_decides}
use Rattle.trk_base.specs.Numbers.{day}
use Rattle.trk_base.specs.Ranges.{IsTimeOfDay}
use Rattle.asterix_frame.specs.declared.tables.Uap.TheVariants.{Cat062}
use Rattle.asterix_frame.specs.declared.walk.ItemSpans.{ItemSpans}
use Rattle.asterix_frame.specs.Tables.{cat062, update_ages, aircraft_data, accuracies}
use Rattle.asterix_frame.specs.Items.{IsItem, IsSubfield, item_at, subfield_at}
use Rattle.asterix_frame.specs.Elements.{Element, numbers}
use Rattle.asterix_frame.specs.Values.{big_endian}
use Rattle.asterix_frame.specs.DataRecords.{DataRecord, IsDataItem, record_octets}
use Rattle.asterix_frame.specs.Bodies.{HasDataRecord, elements_at}
use Rattle.asterix_frame.specs.Encoding.{RiseFrom, item_of}
use Rattle.asterix_frame.proofs.Encodings.{is_compound}
use Rattle.asterix_frame.proofs.Written.{three_written}
use Rattle.cat062_out.specs.Tracks.{Stamp, IsStamp, TrackLine, IsTrackLine}
use Rattle.cat062_out.specs.TrackRecords.{where_known, two_signed, address_octets, ages, ages_octets, accuracy_octets, status_items, track_items, track_record, IsTrack, items_of}
use Rattle.cat062_out.specs.Reading.{stamp_of, line_of}
use Rattle.cat062_out.specs.Profile.{written, BeginsValue, BeginsForeign}
use Rattle.cat062_out.proofs.KnownItems.{rising, all_of}
use Rattle.cat062_out.proofs.Profiles.{IsProfile}
use Rattle.cat062_out.proofs.ProfileReading.{value_there, foreign_there}
use Rattle.cat062_out.proofs.TrackReading.{stamp_back, line_back}

-- ---- items of the category

abbrev IsItemOf : Element → Type 0
IsItemOf p = IsDataItem Cat062 p.number p.octets

time_item : (tod : ℕ) → IsTimeOfDay tod → IsItemOf (item_of 4 (big_endian 3 tod))
time_item tod h = record { whole = refl; in_day = λ _. subst (λ o. IfSome o (λ t. t < day)) (sym (three_written tod (omega (arith, h)))) h }

address_item : (address : ℕ) → IsItemOf (item_of 11 (address_octets address))
address_item address = record {
  whole = is_compound aircraft_data (item_of 1 (big_endian 3 address) ∷ []) (record { rising = (omega arith, tt); are_subfields = (refl, tt) });
  in_day = λ e. absurd (omega (arith, e));
}

abbrev one_age : ℕ → List ℕ
one_age age = age ∷ []

abbrev IsAgeField : Element → Type 0
IsAgeField p = IsSubfield (subfield_at update_ages p.number) p.octets

last_rises : (mds : Option ℕ) → RiseFrom 3 (numbers (where_known 4 one_age mds))
last_rises None = tt
last_rises (Some age) = (omega arith, tt)

last_is : (mds : Option ℕ) → AllByRecursion IsAgeField (where_known 4 one_age mds)
last_is None = tt
last_is (Some age) = (refl, tt)

ages_item : (l : TrackLine) → IsItemOf (item_of 14 (ages_octets l))
ages_item l =
    let after_psr = where_known 3 one_age l.ssr ++ where_known 4 one_age l.mds in
    record {
      whole = is_compound update_ages (ages l) (record {
        rising = rising 2 one_age 0 l.psr after_psr (omega arith) (rising 3 one_age 2 l.ssr (where_known 4 one_age l.mds) (omega arith) (last_rises l.mds));
        are_subfields = all_of 2 one_age IsAgeField l.psr after_psr (λ _ _. refl) (all_of 3 one_age IsAgeField l.ssr (where_known 4 one_age l.mds) (λ _ _. refl) (last_is l.mds));
      });
      in_day = λ e. absurd (omega (arith, e));
    }

accuracy_item : (l : TrackLine) → IsItemOf (item_of 27 (accuracy_octets l))
accuracy_item l = record {
  whole = is_compound accuracies (item_of 1 (big_endian 2 l.sx ++ big_endian 2 l.sy) ∷ []) (record { rising = (omega arith, tt); are_subfields = (refl, tt) });
  in_day = λ e. absurd (omega (arith, e));
}

-- an item of a fixed number of octets
fixed : (frn : ℕ) (octets : List ℕ) → IsItem (item_at cat062 (frn - 1)) octets → (frn - 1 + 1 ≡ 4 → ⊥) → IsItemOf (item_of frn octets)
fixed frn octets whole other = record { whole = whole; in_day = λ e. absurd (other e) }

module _ (s : Stamp) (l : TrackLine) where
  -- what stands from the status on, and from the address on
  abbrev from_status : List Element
  from_status = status_items l ++ (where_known 17 two_signed l.level ++ item_of 27 (accuracy_octets l) ∷ [])

  abbrev from_address : List Element
  from_address = where_known 11 address_octets l.address ++ from_status

  track_rises : RiseFrom 0 (numbers (track_items s l))
  unfolding track_items
  track_rises =
      let at-level = rising 17 two_signed 14 l.level (item_of 27 (accuracy_octets l) ∷ []) (omega arith) (omega arith, tt) in
      let at-status : RiseFrom 11 (numbers from_status) = (omega arith, (omega arith, (omega arith, at-level))) in
      let at-address = rising 11 address_octets 9 l.address from_status (omega arith) at-status in
      let at-code = rising 9 (λ code. big_endian 2 code) 7 l.code from_address (omega arith) at-address in
      (omega arith, (omega arith, (omega arith, (omega arith, (omega arith, at-code)))))

  track_are : IsStamp s → AllByRecursion IsItemOf (track_items s l)
  unfolding track_items
  track_are h =
      let at-level = all_of 17 two_signed IsItemOf l.level (item_of 27 (accuracy_octets l) ∷ []) (λ z _. fixed 17 (two_signed z) refl (λ e. omega (arith, e))) (accuracy_item l, tt) in
      let at-status : AllByRecursion IsItemOf from_status = (fixed 12 _ refl (λ e. omega (arith, e)), (fixed 13 _ refl (λ e. omega (arith, e)), (ages_item l, at-level))) in
      let at-address = all_of 11 address_octets IsItemOf l.address from_status (λ a _. address_item a) at-status in
      let at-code = all_of 9 (λ code. big_endian 2 code) IsItemOf l.code from_address (λ code _. fixed 9 (big_endian 2 code) refl (λ e. omega (arith, e))) at-address in (
        fixed 1 _ refl (λ e. omega (arith, e)),
        (fixed 3 _ refl (λ e. omega (arith, e)), (time_item s.tod h.tod, (fixed 6 _ refl (λ e. omega (arith, e)), (fixed 7 _ refl (λ e. omega (arith, e)), at-code)))),
      )

-- ---- the profile

pub tracks : IsProfile Cat062 IsTrack items_of
tracks = record {
  are_items = λ t h. record { rising = track_rises t.0 t.1; are_items = track_are t.0 t.1 h.0 };
  one_value = λ t u h k e. λ i. ((sym (stamp_back t.0 t.1 h.0) ∙ ap stamp_of e ∙ stamp_back u.0 u.1 k.0) i, (sym (line_back t.0 t.1 h.1) ∙ ap line_of e ∙ line_back u.0 u.1 k.1) i);
}

-- ---- the record that begins there

pub written_is : (s : Stamp) (l : TrackLine) → track_record s l ≡ written items_of (s, l)
unfolding track_record
written_is s l = refl

module _ (body : List ℕ) (from : ℕ) (r : DataRecord) (found : ItemSpans) (has : HasDataRecord Cat062 body from r found) (within : found.next ≤ length body) (s : Stamp) (l : TrackLine) (octets : List ℕ) (is_written : octets ≡ track_record s l) where
  there : take (found.next - from) (drop from body) ≡ record_octets r
  there =
      let size : found.next - from ≡ length (record_octets r) = omega (arith, has.next) in
      ap (λ n. take n (drop from body)) size ∙ ap (take (length (record_octets r))) has.octets ∙ take_at (record_octets r) (drop found.next body) (length (record_octets r)) refl

  pub track_there : IsStamp s → IsTrackLine l → pointwise nat_eq octets (take (found.next - from) (drop from body)) ≡ true → BeginsValue IsTrack items_of body from (s, l) found.next
  track_there hs hl e = value_there (Stamp × TrackLine) Cat062 IsTrack items_of body from r found (s, l) has (hs, hl) within (sym (written_is s l) ∙ sym is_written ∙ (bytes_decides octets (take (found.next - from) (drop from body))).0 e)

  pub no_track_there : s ≡ stamp_of (elements_at body found.frns.items) → l ≡ line_of (elements_at body found.frns.items) → pointwise nat_eq octets (take (found.next - from) (drop from body)) ≡ false
      → BeginsForeign Cat062 IsTrack items_of body from
  no_track_there stamp line e = foreign_there (Stamp × TrackLine) Cat062 IsTrack items_of tracks body from r found (Some (s, l)) has reads other where
    reads : (t : Stamp × TrackLine) → IsTrack t → items_of t ≡ elements_at body found.frns.items → Some (s, l) ≡ Some t
    reads t h same = λ i. Some ((stamp ∙ ap stamp_of (sym same) ∙ stamp_back t.0 t.1 h.0) i, (line ∙ ap line_of (sym same) ∙ line_back t.0 t.1 h.1) i)

    other : (t : Stamp × TrackLine) → Some (s, l) ≡ Some t → written items_of t ≢ record_octets r
    other t same is =
        let one : (s, l) ≡ t = (let f = same in cc) in
        let equal : octets ≡ take (found.next - from) (drop from body) = is_written ∙ written_is s l ∙ ap (written items_of) one ∙ is ∙ sym there in
        let yes = (bytes_decides octets (take (found.next - from) (drop from body))).1 equal in
        (let no : true ≡ false = sym yes ∙ e in cc)
