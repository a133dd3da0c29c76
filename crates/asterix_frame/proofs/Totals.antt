-- Octets always begin a whole field, item or record, or have a fault.
use Rattle.std.proofs.Common.{◌≡◌, ◌∙◌, ap, sym, refl, subst, inl, inr, zero, suc, ℕ, ◌+◌, ◌-◌, ◌*◌, ◌/◌, ◌%◌, ◌<◌, ◌≤◌, ◌⊎◌, Bool, true, false, List, [], ◌∷◌, length, get_or, take, drop, arith, length-take, Result, Ok, Err}
use Rattle.std.specs.Int.{bit_at}
use Rattle.std.proofs.lemmas.Bool.{cases_eq, cases_lt, cases_Bool}
use Rattle.std.proofs.lemmas.List.{get_or-take, get_or_past}
use Rattle.asterix_frame.specs.declared.block.Malformed.{Malformed}
use Rattle.asterix_frame.specs.Causes.{fspec_end, spare_frn, item_end, length_zero, unknown_subfield}
use Rattle.asterix_frame.specs.declared.tables.ItemFormat.{ItemFormat}
use Rattle.asterix_frame.specs.declared.tables.ItemFormat.TheVariants as formats
use Rattle.asterix_frame.specs.declared.tables.SubfieldFormat.{SubfieldFormat}
use Rattle.asterix_frame.specs.declared.tables.SubfieldFormat.TheVariants as subfields
use Rattle.asterix_frame.specs.Tables.{subfields_of}
use Rattle.asterix_frame.specs.Presence.{fx, presence, present_from, IsExtended, IsField, Continues, EndsInField, HasSpare}
use Rattle.asterix_frame.specs.Elements.{Element}
use Rattle.asterix_frame.specs.Items.{IsRepetitive, EndsInRepetitive, IsExplicit, BeginsNoExplicit, IsSubfield, EndsInSubfield, is_subfield, subfield_at, IsCompound, BeginsNoCompound, ends_in_field, ends_in_subfield, IsItem, BeginsNoItem, is_item, item_at}
use Rattle.asterix_frame.specs.Items.{has_spare as has_unknown}
use Rattle.asterix_frame.specs.Records.{knows, spans, ends_in_fspec, has_spare, in_item, Walks}
use Rattle.asterix_frame.proofs.Prefixes.{ReadTo, read_none, read_more, read_less, read_next, read_all, read_whole}
use Rattle.asterix_frame.proofs.Walked.{left_at}

-- ---- fields

no_bit : (k : ℕ) → bit_at 0 k ≡ 0
no_bit k = omega arith

module _ (known : ℕ → Bool) (octets : List ℕ) where
  pub data FieldCase : Type 0 where
    whole : (len : ℕ) → len ≤ length octets → IsField known (take len octets) → FieldCase
    ends : EndsInField known octets → FieldCase
    spare : (offset : ℕ) → HasSpare known octets offset → FieldCase

  abbrev KnowsBits : ℕ → ℕ → Type 0
  KnowsBits offset k = (b : ℕ) → b < k → presence octets (7 * offset + b) ≡ 1 → known (7 * offset + b) ≡ true

  record Unknown (offset : ℕ) : Type 0 where
    number : ℕ
    at_offset : number / 7 ≡ offset
    is_present : presence octets number ≡ 1
    unknown : known number ≡ false

  bits_case : (offset k : ℕ) → k ≤ 7 → KnowsBits offset k ⊎ Unknown offset
  bits_case offset zero h = inl (λ b lt. absurd (omega arith))
  bits_case offset (suc k) h =
      let at : (7 * offset + k) / 7 ≡ offset = omega arith in
      elim (bits_case offset k (omega arith)) [
        | inr u ↦ inr u
        | inl all ↦ elim (cases_Bool (known (7 * offset + k))) [
          | inl is-known ↦ inl (more k all (λ _. is-known))
          | inr unknown ↦ elim (cases_eq (presence octets (7 * offset + k)) 1) [
            | inl here ↦ inr (record { number = 7 * offset + k; at_offset = at; is_present = here; unknown = unknown })
            | inr absent ↦ inl (more k all (λ here. absurd (absent here)))
          ]
        ]
      ] where
        more : (k : ℕ) → KnowsBits offset k → (presence octets (7 * offset + k) ≡ 1 → known (7 * offset + k) ≡ true) → KnowsBits offset (suc k)
        more k all last b lt =
            elim (cases_eq b k) [
              | inl same ↦ subst (λ c. presence octets (7 * offset + c) ≡ 1 → known (7 * offset + c) ≡ true) (sym same) last
              | inr other ↦ all b (omega arith)
            ]

  all_more : (count : ℕ) → Continues known octets count → KnowsBits count 7 → (n : ℕ) → n / 7 < count + 1 → presence octets n ≡ 1 → known n ≡ true
  all_more count on bits n below here =
      elim (cases_lt (n / 7) count) [
        | inl lt ↦ on.all_known n lt here
        | inr ge ↦
            let n-is : 7 * count + n % 7 ≡ n = omega arith in
            let at : presence octets (7 * count + n % 7) ≡ 1 = subst (λ m. presence octets m ≡ 1) (sym n-is) here in
            subst (λ m. known m ≡ true) n-is (bits (n % 7) (omega arith) at)
      ]

  field_here : (count : ℕ) → count < length octets → Continues known octets count → KnowsBits count 7 → fx (get_or octets count 0) ≡ 0 → IsField known (take (count + 1) octets)
  field_here count within on bits off =
      let len : length (take (count + 1) octets) ≡ count + 1 = omega (arith, length-take (count + 1) octets) in
      let last : length (take (count + 1) octets) - 1 ≡ count = omega arith in
      record {
        extended = record {
          some = omega arith;
          goes_on = λ i lt. ap fx (get_or-take (count + 1) octets i 0 (omega arith)) ∙ on.goes_on i (omega arith);
          ends = ap (λ k. fx (get_or (take (count + 1) octets) k 0)) last ∙ ap fx (get_or-take (count + 1) octets count 0 (omega arith)) ∙ off;
        };
        all_known = λ n here. elim (cases_lt (n / 7) (count + 1)) [
          | inl lt ↦ all_more count on bits n lt (sym (ap (λ o. bit_at o (7 - n % 7)) (get_or-take (count + 1) octets (n / 7) 0 lt)) ∙ here)
          | inr ge ↦
              let zero-is : presence (take (count + 1) octets) n ≡ 0 = ap (λ o. bit_at o (7 - n % 7)) (get_or_past (take (count + 1) octets) (n / 7) 0 (omega arith)) ∙ no_bit (7 - n % 7) in
              let one-zero : ◌≡◌ {A = ℕ} 1 0 = sym here ∙ zero-is in
              absurd (omega arith)
        ];
      }

  goes_on_more : (count : ℕ) → Continues known octets count → KnowsBits count 7 → fx (get_or octets count 0) ≡ 1 → Continues known octets (count + 1)
  goes_on_more count on bits set = record {
    goes_on = λ i lt. elim (cases_eq i count) [
      | inl same ↦ ap (λ k. fx (get_or octets k 0)) same ∙ set
      | inr other ↦ on.goes_on i (omega arith)
    ];
    all_known = all_more count on bits;
  }

  field_from : (fuel count : ℕ) → count + fuel ≡ length octets → Continues known octets count → FieldCase
  field_from zero count e on = let all : count ≡ length octets = omega arith in ends (subst (Continues known octets) all on)
  field_from (suc fuel) count e on =
      elim (bits_case count 7 (omega arith)) [
        | inr u ↦ spare count (record { within = omega arith; prefix = on; number = u.number; at_offset = u.at_offset; is_present = u.is_present; unknown = u.unknown })
        | inl bits ↦ elim (cases_eq (fx (get_or octets count 0)) 1) [
          | inl set ↦ field_from fuel (count + 1) (omega arith) (goes_on_more count on bits set)
          | inr unset ↦ whole (count + 1) (omega arith) (field_here count (omega arith) on bits (omega arith))
        ]
      ]

  pub field_case : FieldCase
  field_case = field_from (length octets) 0 (omega arith) (record { goes_on = λ i lt. absurd (omega arith); all_known = λ n lt. absurd (omega arith) })

-- ---- a field and its elements

pub data Case (Is : List ℕ → Type 0) (None : List ℕ → ℕ → ℕ → Type 0) (octets : List ℕ) : Type 0 where
  begins : (len : ℕ) → len ≤ length octets → Is (take len octets) → Case Is None octets
  fails : (inside cause : ℕ) → None octets inside cause → Case Is None octets

module _ (known : ℕ → Bool) (IsElement : ℕ → List ℕ → Type 0) (None : ℕ → List ℕ → ℕ → ℕ → Type 0) (total : (n : ℕ) → known n ≡ true → (octets : List ℕ) → Case (IsElement n) (None n) octets) (octets field : List ℕ) where
  pub data PartsCase : Type 0 where
    all_read : (n at : ℕ) (elements : List Element) → 7 * length field ≤ n → ReadTo known IsElement octets field n at elements → PartsCase
    stopped : (n at : ℕ) (elements : List Element) (inside cause : ℕ) → n < 7 * length field → presence field n ≡ 1 → ReadTo known IsElement octets field n at elements → None n (drop at octets) inside cause → PartsCase

  pub parts_case : (fuel n at : ℕ) (elements : List Element) → 7 * length field ≤ n + fuel → ReadTo known IsElement octets field n at elements → PartsCase
  parts_case zero n at elements e r = all_read n at elements (omega arith) r
  parts_case (suc fuel) n at elements e r =
      elim (cases_lt n (7 * length field)) [
        | inr past ↦ all_read n at elements past r
        | inl below ↦ elim (cases_eq (presence field n) 1) [
          | inr absent ↦ parts_case fuel (n + 1) at elements (omega arith) (read_less known IsElement octets field n at elements r below absent)
          | inl here ↦ elim (total n (r.begins.is_field.all_known n here) (drop at octets)) [
            | begins len fits element ↦ parts_case fuel (n + 1) (at + len) _ (omega arith) (read_more known IsElement octets field n at len elements r below here fits element)
            | fails inside cause none ↦ stopped n at elements inside cause below here r none
          ]
        ]
      ]

nothing_left : (field : List ℕ) (n : ℕ) → 7 * length field ≤ n → present_from field n (7 * length field - n) ≡ []
nothing_left field n past = let none : 7 * length field - n ≡ 0 = omega arith in ap (present_from field n) none

-- ---- items

repetitive_case : (size : ℕ) (octets : List ℕ) → Case (IsRepetitive size) (λ o i c. EndsInRepetitive size o × (i ≡ 0) × (c ≡ item_end)) octets
repetitive_case size [] = fails 0 item_end (tt, refl, refl)
repetitive_case size (n ∷ rest) =
    elim (cases_lt (length rest) (n * size)) [
      | inl short ↦ fails 0 item_end (short, refl, refl)
      | inr long ↦ begins (suc (n * size)) (omega (arith, long)) (omega (arith, long, length-take (n * size) rest))
    ]

explicit_case : (octets : List ℕ) → Case IsExplicit (λ o i c. BeginsNoExplicit o c × (i ≡ 0)) octets
explicit_case [] = fails 0 item_end (refl, refl)
explicit_case (zero ∷ rest) = fails 0 length_zero (refl, refl)
explicit_case (suc n ∷ rest) =
    elim (cases_lt (length rest) n) [
      | inl short ↦ fails 0 item_end ((short, refl), refl)
      | inr long ↦ begins (suc n) (omega arith) (ap suc (let e : length (take n rest) ≡ n = omega (arith, length-take n rest) in e))
    ]

fixed_case : (size : ℕ) (octets : List ℕ) → Case (λ o. length o ≡ size) (λ o i c. (length o < size) × (i ≡ 0) × (c ≡ item_end)) octets
fixed_case size octets =
    elim (cases_lt (length octets) size) [
      | inl short ↦ fails 0 item_end (short, refl, refl)
      | inr long ↦ begins size long (omega (arith, length-take size octets))
    ]

extended_case : (octets : List ℕ) → Case IsExtended (λ o i c. ((k : ℕ) → k < length o → fx (get_or o k 0) ≡ 1) × (i ≡ 0) × (c ≡ item_end)) octets
extended_case octets =
    elim (field_case (λ _. true) octets) [
      | whole len fits h ↦ begins len fits h.extended
      | ends h ↦ fails 0 item_end (h.goes_on, refl, refl)
      | spare offset h ↦ (let e : true ≡ false = h.unknown in cc)
    ]

subfield_case : (s : SubfieldFormat) → is_subfield s ≡ true → (octets : List ℕ) → Case (IsSubfield s) (λ o i c. EndsInSubfield s o × (i ≡ 0) × (c ≡ item_end)) octets
subfield_case subfields.Spare h octets = absurd cc
subfield_case (subfields.Fixed size) h octets = fixed_case size octets
subfield_case (subfields.Repetitive size) h octets = repetitive_case size octets

compound_case : (table : List SubfieldFormat) (octets : List ℕ) → Case (IsCompound table) (BeginsNoCompound table) octets
compound_case table octets =
    elim (field_case (λ n. is_subfield (subfield_at table n)) octets) [
      | ends h ↦ fails 0 item_end (ends_in_field h refl refl)
      | spare offset h ↦ fails offset unknown_subfield (has_unknown h refl)
      | whole len fits h ↦
          let known : ℕ → Bool = λ n. is_subfield (subfield_at table n) in
          let field = take len octets in
          elim (parts_case known (λ n o. IsSubfield (subfield_at table n) o) (λ n o i c. EndsInSubfield (subfield_at table n) o × (i ≡ 0) × (c ≡ item_end)) (λ n k. subfield_case (subfield_at table n) k) octets field (7 * length field) 0 len [] (omega arith) (read_none known (λ n o. IsSubfield (subfield_at table n) o) octets len fits h)) [
            | all_read n at elements past r ↦ begins at r.within (field, elements, read_whole known (λ n o. IsSubfield (subfield_at table n) o) octets field n at elements r (nothing_left field n past))
            | stopped n at elements inside cause below here r none ↦ fails 0 item_end (ends_in_subfield (record {
              field = field;
              elements = elements;
              number = n;
              left = present_from field (suc n) (7 * length field - suc n);
              rest = drop at octets;
              begins = read_next known (λ n o. IsSubfield (subfield_at table n) o) octets field n at elements r below here;
              ends = none.0;
            }) refl refl)
          ]
    ]

item_case : (item : ItemFormat) → is_item item ≡ true → (octets : List ℕ) → Case (IsItem item) (BeginsNoItem item) octets
item_case formats.Spare h octets = absurd cc
item_case (formats.Fixed size) h octets = fixed_case size octets
item_case formats.Extended h octets = extended_case octets
item_case (formats.Repetitive size) h octets = repetitive_case size octets
item_case formats.Explicit h octets = explicit_case octets
item_case (formats.Compound compound) h octets = compound_case (subfields_of compound) octets

-- ---- records

-- from each offset on a body has a walk
pub some_walk : (table : List ItemFormat) (offset : ℕ) (body : List ℕ) (from : ℕ) → (found : List (ℕ × ℕ × ℕ)) × (end : Result ℕ Malformed) × Walks table offset body from found end
some_walk table offset body from =
    let octets = drop from body in
    elim (field_case (knows table) octets) [
      | ends h ↦ ([], Err (record { offset = offset + length body; cause = fspec_end }), (length body, refl, ends_in_fspec h refl refl refl))
      | spare octet h ↦ ([], Err (record { offset = offset + (from + octet); cause = spare_frn }), (from + octet, refl, has_spare octet h refl refl refl))
      | whole len fits h ↦
          let field = take len octets in
          elim (parts_case (knows table) (λ n o. IsItem (item_at table n) o) (λ n. BeginsNoItem (item_at table n)) (λ n k. item_case (item_at table n) k) octets field (7 * length field) 0 len [] (omega arith) (read_none (knows table) (λ n o. IsItem (item_at table n) o) octets len fits h)) [
            | all_read n at elements past r ↦ (
              spans (from + length field) elements,
              Ok (from + at),
              record {
                fspec = field;
                items = elements;
                begins = rw (left_at body from at) at (read_all (knows table) (λ n o. IsItem (item_at table n) o) octets field n at elements r (nothing_left field n past));
                found_are = refl;
                next_is = omega (arith, r.at_is);
              },
            )
            | stopped n at elements inside cause below here r none ↦ (
              spans (from + length field) elements,
              Err (record { offset = offset + (from + at + inside); cause = cause }),
              (
                from + at + inside,
                refl,
                in_item (record {
                  fspec = field;
                  items = elements;
                  number = n;
                  left = present_from field (suc n) (7 * length field - suc n);
                  at = from + at;
                  inside = inside;
                  begins = rw (left_at body from at) at (read_next (knows table) (λ n o. IsItem (item_at table n) o) octets field n at elements r below here);
                  none = rw (left_at body from at) at none;
                  found_are = refl;
                  at_is = omega (arith, r.at_is);
                  offset_is = refl;
                }),
              ),
            )
          ]
    ]
