-- The field of some rising numbers names exactly these, so what is encoded by it is a record or a compound item.
use Rattle.std.proofs.Common.{◌≡◌, ◌∙◌, ap, sym, refl, subst, inl, inr, zero, suc, ℕ, ◌+◌, ◌-◌, ◌*◌, ◌/◌, ◌%◌, ◌<◌, ◌≤◌, Bool, true, false, List, [], ◌∷◌, ◌++◌, length, drop, get_or, arith, append-nil, append_assoc, length-append, eq-eqb}
use Rattle.std.specs.Prelude.{if◌then◌else◌}
use Rattle.std.specs.Int.{bit_at}
use Rattle.std.specs.List.{AllByRecursion}
use Rattle.std.proofs.lemmas.Bool.{cases_eq, cases_lt, ne_eqb}
use Rattle.std.proofs.lemmas.Nat.Bits.{bit_at-zero}
use Rattle.std.proofs.lemmas.List.{drop_at, drop-drop}
use Rattle.asterix_frame.specs.declared.tables.Uap.{Uap}
use Rattle.asterix_frame.specs.declared.tables.ItemFormat.{ItemFormat}
use Rattle.asterix_frame.specs.declared.tables.ItemFormat.TheVariants as formats
use Rattle.asterix_frame.specs.declared.tables.SubfieldFormat.{SubfieldFormat}
use Rattle.asterix_frame.specs.declared.tables.SubfieldFormat.TheVariants as subfields
use Rattle.asterix_frame.specs.Tables.{table_of}
use Rattle.asterix_frame.specs.Presence.{fx, IsExtended, IsField, presence, present_from, present}
use Rattle.asterix_frame.specs.Elements.{Element, numbers, octets_of}
use Rattle.asterix_frame.specs.Items.{IsItem, IsSubfield, IsCompound, is_item, is_subfield, item_at, subfield_at}
use Rattle.asterix_frame.specs.Records.{knows, spans, HasRecord}
use Rattle.asterix_frame.specs.DataRecords.{DataRecord, IsDataItem, IsDataRecord, record_octets}
use Rattle.asterix_frame.specs.Encoding.{has, bit, field_octet, field_from, end_from, field_length, field_of, RiseFrom, AreDataItems, record_of, AreSubfields, compound_of}
use Rattle.asterix_frame.proofs.Prefixes.{present_more, present_less}

-- ---- numbers

pub has_first : (n : ℕ) (ms : List ℕ) → has (n ∷ ms) n ≡ true
has_first n ms = ap (λ (b : Bool). if b then true else has ms n) (eq-eqb n n refl)

pub has_rest : (m : ℕ) (ms : List ℕ) (n : ℕ) → (m ≡ n → ⊥) → has (m ∷ ms) n ≡ has ms n
has_rest m ms n other = ap (λ (b : Bool). if b then true else has ms n) (ne_eqb m n other)

-- rising numbers have none before the first
pub has_before : (k : ℕ) (ms : List ℕ) (n : ℕ) → RiseFrom k ms → n < k → has ms n ≡ false
has_before k [] n h lt = refl
has_before k (m ∷ ms) n h lt = has_rest m ms n (λ e. omega (arith, h.0)) ∙ has_before (suc m) ms n h.1 (omega (arith, h.0))

pub has_all : (P : ℕ → Type 0) (ms : List ℕ) (n : ℕ) → AllByRecursion P ms → has ms n ≡ true → P n
has_all P [] n all h = absurd (let e : false ≡ true = h in cc)
has_all P (m ∷ ms) n all h =
    elim (cases_eq m n) [
      | inl same ↦ subst P same all.0
      | inr other ↦ has_all P ms n all.1 (sym (has_rest m ms n other) ∙ h)
    ]

pub end_after : (n : ℕ) (ms : List ℕ) → RiseFrom n ms → n ≤ end_from n ms
end_after n [] h = omega arith
end_after n (m ∷ ms) h = omega (arith, h.0, end_after (suc m) ms h.1)

pub rise_on : (n : ℕ) (ms : List ℕ) → RiseFrom (suc n) ms → RiseFrom n ms
rise_on n [] h = tt
rise_on n (m ∷ ms) h = (omega (arith, h.0), h.1)

-- a field that has these numbers' bits, among so many, has them present
rising_present : (field : List ℕ) (n count : ℕ) (ns : List ℕ) → RiseFrom n ns → end_from n ns ≤ n + count → ((k : ℕ) → n ≤ k → k < n + count → presence field k ≡ bit (has ns k)) → present_from field n count ≡ ns
rising_present field n zero [] rise below bits = refl
rising_present field n zero (m ∷ ns) rise below bits = absurd (omega (arith, rise.0, below, end_after (suc m) ns rise.1))
rising_present field n (suc count) [] rise below bits =
    present_less field n count (λ e. let none : presence field n ≡ 0 = bits n (omega arith) (omega arith) in omega arith)
    ∙ rising_present field (suc n) count [] tt (omega arith) (λ k above lt. bits k (omega arith) (omega arith))
rising_present field n (suc count) (m ∷ ns) rise below bits =
    elim (cases_eq m n) [
      | inl same ↦
          let here : presence field n ≡ 1 = bits n (omega arith) (omega arith) ∙ ap bit (ap (λ k. has (m ∷ ns) k) (sym same) ∙ has_first m ns) in
          let rest = subst (λ k. RiseFrom (suc k) ns) same rise.1 in
          let next = rising_present field (suc n) count ns rest (subst (λ k. end_from k ns ≤ suc n + count) (ap suc same) (omega (arith, below))) (λ k above lt. bits k (omega arith) (omega arith) ∙ ap bit (has_rest m ns k (λ e. omega (arith, e, same, above)))) in
          present_more field n count here ∙ (λ i. sym same i ∷ next i)
      | inr other ↦
          let later : suc n ≤ m = omega (arith, rise.0, other) in
          let none : presence field n ≡ 0 = bits n (omega arith) (omega arith) ∙ ap bit (has_before (suc n) (m ∷ ns) n (later, rise.1) (omega arith)) in
          present_less field n count (λ e. omega arith)
          ∙ rising_present field (suc n) count (m ∷ ns) (later, rise.1) (omega (arith, below)) (λ k above lt. bits k (omega arith) (omega arith))
    ]

-- ---- bits of an octet

bit_small : (b : Bool) → bit b ≤ 1
bit_small true = omega arith
bit_small false = omega arith

module _ (a b c d e f g x : ℕ) (ha : a ≤ 1) (hb : b ≤ 1) (hc : c ≤ 1) (hd : d ≤ 1) (he : e ≤ 1) (hf : f ≤ 1) (hg : g ≤ 1) (hx : x ≤ 1) where
  abbrev octet : ℕ
  octet = 128 * a + 64 * b + 32 * c + 16 * d + 8 * e + 4 * f + 2 * g + x

  bit_7 : bit_at octet 7 ≡ a
  bit_7 = omega arith

  bit_6 : bit_at octet 6 ≡ b
  bit_6 = omega arith

  bit_5 : bit_at octet 5 ≡ c
  bit_5 = omega arith

  bit_4 : bit_at octet 4 ≡ d
  bit_4 = omega arith

  bit_3 : bit_at octet 3 ≡ e
  bit_3 = omega arith

  bit_2 : bit_at octet 2 ≡ f
  bit_2 = omega arith

  bit_1 : bit_at octet 1 ≡ g
  bit_1 = omega arith

  bit_0 : bit_at octet 0 ≡ x
  bit_0 = omega arith

module _ (named : ℕ → Bool) where
  -- the bit of each number of an octet
  octet_bit : (i : ℕ) (goes_on : Bool) (r : ℕ) → r < 7 → bit_at (field_octet named i goes_on) (7 - r) ≡ bit (named (7 * i + r))
  unfolding field_octet
  octet_bit i goes_on zero h =
      bit_7 _ _ _ _ _ _ _ _ (bit_small (named (7 * i))) (bit_small (named (7 * i + 1))) (bit_small (named (7 * i + 2))) (bit_small (named (7 * i + 3))) (bit_small (named (7 * i + 4))) (bit_small (named (7 * i + 5))) (bit_small (named (7 * i + 6))) (bit_small goes_on)
      ∙ ap (λ k. bit (named k)) (omega arith)
  octet_bit i goes_on (suc zero) h =
      bit_6 _ _ _ _ _ _ _ _ (bit_small (named (7 * i))) (bit_small (named (7 * i + 1))) (bit_small (named (7 * i + 2))) (bit_small (named (7 * i + 3))) (bit_small (named (7 * i + 4))) (bit_small (named (7 * i + 5))) (bit_small (named (7 * i + 6))) (bit_small goes_on)
  octet_bit i goes_on (suc (suc zero)) h =
      bit_5 _ _ _ _ _ _ _ _ (bit_small (named (7 * i))) (bit_small (named (7 * i + 1))) (bit_small (named (7 * i + 2))) (bit_small (named (7 * i + 3))) (bit_small (named (7 * i + 4))) (bit_small (named (7 * i + 5))) (bit_small (named (7 * i + 6))) (bit_small goes_on)
  octet_bit i goes_on (suc (suc (suc zero))) h =
      bit_4 _ _ _ _ _ _ _ _ (bit_small (named (7 * i))) (bit_small (named (7 * i + 1))) (bit_small (named (7 * i + 2))) (bit_small (named (7 * i + 3))) (bit_small (named (7 * i + 4))) (bit_small (named (7 * i + 5))) (bit_small (named (7 * i + 6))) (bit_small goes_on)
  octet_bit i goes_on (suc (suc (suc (suc zero)))) h =
      bit_3 _ _ _ _ _ _ _ _ (bit_small (named (7 * i))) (bit_small (named (7 * i + 1))) (bit_small (named (7 * i + 2))) (bit_small (named (7 * i + 3))) (bit_small (named (7 * i + 4))) (bit_small (named (7 * i + 5))) (bit_small (named (7 * i + 6))) (bit_small goes_on)
  octet_bit i goes_on (suc (suc (suc (suc (suc zero))))) h =
      bit_2 _ _ _ _ _ _ _ _ (bit_small (named (7 * i))) (bit_small (named (7 * i + 1))) (bit_small (named (7 * i + 2))) (bit_small (named (7 * i + 3))) (bit_small (named (7 * i + 4))) (bit_small (named (7 * i + 5))) (bit_small (named (7 * i + 6))) (bit_small goes_on)
  octet_bit i goes_on (suc (suc (suc (suc (suc (suc zero)))))) h =
      bit_1 _ _ _ _ _ _ _ _ (bit_small (named (7 * i))) (bit_small (named (7 * i + 1))) (bit_small (named (7 * i + 2))) (bit_small (named (7 * i + 3))) (bit_small (named (7 * i + 4))) (bit_small (named (7 * i + 5))) (bit_small (named (7 * i + 6))) (bit_small goes_on)
  octet_bit i goes_on (suc (suc (suc (suc (suc (suc (suc r))))))) h = absurd (omega arith)

  octet_fx : (i : ℕ) (goes_on : Bool) → fx (field_octet named i goes_on) ≡ bit goes_on
  unfolding field_octet
  octet_fx i goes_on =
      bit_0 _ _ _ _ _ _ _ _ (bit_small (named (7 * i))) (bit_small (named (7 * i + 1))) (bit_small (named (7 * i + 2))) (bit_small (named (7 * i + 3))) (bit_small (named (7 * i + 4))) (bit_small (named (7 * i + 5))) (bit_small (named (7 * i + 6))) (bit_small goes_on)

  -- ---- the octets of a field

  pub length-field : (i count : ℕ) → length (field_from named i count) ≡ count
  length-field i zero = refl
  length-field i (suc zero) = refl
  length-field i (suc (suc count)) = ap suc (length-field (suc i) (suc count))

  octet_on : (i count k : ℕ) → k + 1 < count → get_or (field_from named i count) k 0 ≡ field_octet named (i + k) true
  octet_on i zero k h = absurd (omega arith)
  octet_on i (suc zero) k h = absurd (omega arith)
  octet_on i (suc (suc count)) zero h = ap (λ n. field_octet named n true) (omega arith)
  octet_on i (suc (suc count)) (suc k) h = octet_on (suc i) (suc count) k (omega arith) ∙ ap (λ n. field_octet named n true) (omega arith)

  octet_last : (i count k : ℕ) → k + 1 ≡ count → get_or (field_from named i count) k 0 ≡ field_octet named (i + k) false
  octet_last i zero k h = absurd (omega arith)
  octet_last i (suc zero) zero h = ap (λ n. field_octet named n false) (omega arith)
  octet_last i (suc zero) (suc k) h = absurd (omega arith)
  octet_last i (suc (suc count)) zero h = absurd (omega arith)
  octet_last i (suc (suc count)) (suc k) h = octet_last (suc i) (suc count) k (omega arith) ∙ ap (λ n. field_octet named n false) (omega arith)

  octet_past : (i count k : ℕ) → count ≤ k → get_or (field_from named i count) k 0 ≡ 0
  octet_past i zero k h = refl
  octet_past i (suc zero) zero h = absurd (omega arith)
  octet_past i (suc zero) (suc k) h = refl
  octet_past i (suc (suc count)) zero h = absurd (omega arith)
  octet_past i (suc (suc count)) (suc k) h = octet_past (suc i) (suc count) k (omega arith)

  extended : (count : ℕ) → 0 < count → IsExtended (field_from named 0 count)
  extended count some =
      let long = length-field 0 count in
      let last : length (field_from named 0 count) - 1 + 1 ≡ count = omega (arith, long) in
      record {
        some = omega (arith, long);
        goes_on = λ i lt. ap fx (octet_on 0 count i (omega (arith, long))) ∙ octet_fx (0 + i) true;
        ends = ap fx (octet_last 0 count (length (field_from named 0 count) - 1) last) ∙ octet_fx (0 + (length (field_from named 0 count) - 1)) false;
      }

  presence_in : (count n : ℕ) → n < 7 * count → presence (field_from named 0 count) n ≡ bit (named n)
  presence_in count n h =
      let at : 7 * (0 + n / 7) + n % 7 ≡ n = omega arith in
      let small : n % 7 < 7 = omega arith in
      elim (cases_eq (n / 7 + 1) count) [
        | inl last ↦ ap (λ o. bit_at o (7 - n % 7)) (octet_last 0 count (n / 7) last) ∙ octet_bit (0 + n / 7) false (n % 7) small ∙ ap (λ k. bit (named k)) at
        | inr on ↦ ap (λ o. bit_at o (7 - n % 7)) (octet_on 0 count (n / 7) (omega arith)) ∙ octet_bit (0 + n / 7) true (n % 7) small ∙ ap (λ k. bit (named k)) at
      ]

  presence_past : (count n : ℕ) → 7 * count ≤ n → presence (field_from named 0 count) n ≡ 0
  presence_past count n h = ap (λ o. bit_at o (7 - n % 7)) (octet_past 0 count (n / 7) (omega arith)) ∙ bit_at-zero (7 - n % 7)

-- ---- the field of some numbers

long_enough : (ns : List ℕ) → end_from 0 ns ≤ 7 * field_length ns
long_enough ns = omega arith

bit_is : (b : Bool) → bit b ≡ 1 → b ≡ true
bit_is true h = refl
bit_is false h = absurd (omega arith)

pub field_known : (known : ℕ → Bool) (ns : List ℕ) → AllByRecursion (λ n. known n ≡ true) ns → IsField known (field_of ns)
unfolding field_of
field_known known ns all = record {
  extended = extended (has ns) (field_length ns) (omega arith);
  all_known = λ n here. elim (cases_lt n (7 * field_length ns)) [
    | inl within ↦ has_all (λ n. known n ≡ true) ns n all (bit_is (has ns n) (sym (presence_in (has ns) (field_length ns) n within) ∙ here))
    | inr past ↦ absurd (omega (arith, here, presence_past (has ns) (field_length ns) n past))
  ];
}

pub field_present : (ns : List ℕ) → RiseFrom 0 ns → present (field_of ns) ≡ ns
unfolding field_of
field_present ns rise =
    let field = field_from (has ns) 0 (field_length ns) in
    let long : 7 * length field ≡ 7 * field_length ns = ap (λ k. 7 * k) (length-field (has ns) 0 (field_length ns)) in
    rising_present field 0 (7 * length field) ns rise (omega (arith, long, long_enough ns)) (λ k above lt. presence_in (has ns) (field_length ns) k (omega (arith, long)))

-- ---- records

known_item : (item : ItemFormat) (octets : List ℕ) → IsItem item octets → is_item item ≡ true
known_item formats.Spare octets h = absurd h
known_item (formats.Fixed size) octets h = refl
known_item formats.Extended octets h = refl
known_item (formats.Repetitive size) octets h = refl
known_item formats.Explicit octets h = refl
known_item (formats.Compound compound) octets h = refl

known_subfield : (subfield : SubfieldFormat) (octets : List ℕ) → IsSubfield subfield octets → is_subfield subfield ≡ true
known_subfield subfields.Spare octets h = absurd h
known_subfield (subfields.Fixed size) octets h = refl
known_subfield (subfields.Repetitive size) octets h = refl

items_known : (uap : Uap) (items : List Element) → AllByRecursion (λ p. IsDataItem uap p.number p.octets) items → AllByRecursion (λ n. knows (table_of uap) n ≡ true) (numbers items)
items_known uap [] h = tt
items_known uap (p ∷ ps) h = (known_item (item_at (table_of uap) p.number) p.octets h.0.whole, items_known uap ps h.1)

subfields_known : (table : List SubfieldFormat) (es : List Element) → AllByRecursion (λ p. IsSubfield (subfield_at table p.number) p.octets) es → AllByRecursion (λ n. is_subfield (subfield_at table n) ≡ true) (numbers es)
subfields_known table [] h = tt
subfields_known table (p ∷ ps) h = (known_subfield (subfield_at table p.number) p.octets h.0, subfields_known table ps h.1)

-- items of the category make a record of it
pub is_record : (uap : Uap) (items : List Element) → AreDataItems uap items → IsDataRecord uap (record_of items)
is_record uap items h = record {
  is_fspec = field_known (knows (table_of uap)) (numbers items) (items_known uap items h.are_items);
  in_order = field_present (numbers items) h.rising;
  are_items = h.are_items;
}

-- subfields of a compound item make one
pub is_compound : (table : List SubfieldFormat) (subfields : List Element) → AreSubfields table subfields → IsCompound table (compound_of subfields)
is_compound table es h =
    let field = field_of (numbers es) in (
      field,
      es,
      record {
        is_field = field_known (λ n. is_subfield (subfield_at table n)) (numbers es) (subfields_known table es h.are_subfields);
        in_order = field_present (numbers es) h.rising ∙ sym (append-nil (numbers es));
        are_elements = h.are_subfields;
        whole = ap (λ t. field ++ t) (sym (append-nil (octets_of es)));
      },
    )

items_whole : (uap : Uap) (items : List Element) → AllByRecursion (λ p. IsDataItem uap p.number p.octets) items → AllByRecursion (λ p. IsItem (item_at (table_of uap) p.number) p.octets) items
items_whole uap [] h = tt
items_whole uap (p ∷ ps) h = (h.0.whole, items_whole uap ps h.1)

-- a record, where it stands, is walked as its items
pub has_record : (uap : Uap) (r : DataRecord) (body : List ℕ) (from : ℕ) (rest : List ℕ) → IsDataRecord uap r → drop from body ≡ record_octets r ++ rest
    → HasRecord (table_of uap) body from (spans (from + length r.fspec) r.items) (from + length (record_octets r))
has_record uap r body from rest h e =
    let left : drop (from + length (record_octets r)) body ≡ rest =
    sym (drop-drop (length (record_octets r)) from body) ∙ ap (drop (length (record_octets r))) e ∙ drop_at (record_octets r) rest (length (record_octets r)) refl in
    record {
      fspec = r.fspec;
      items = r.items;
      begins = record {
        is_field = h.is_fspec;
        in_order = h.in_order ∙ sym (append-nil (numbers r.items));
        are_elements = items_whole uap r.items h.are_items;
        whole = e ∙ append_assoc r.fspec (octets_of r.items) rest ∙ ap (λ t. r.fspec ++ (octets_of r.items ++ t)) (sym left);
      };
      found_are = refl;
      next_is = omega (arith, length-append r.fspec (octets_of r.items));
    }
