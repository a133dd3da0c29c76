-- A field and the elements after it, read number by number.
use Rattle.std.proofs.Common.{◌≡◌, ◌∙◌, ap, sym, refl, subst, inl, inr, zero, suc, ℕ, ◌+◌, ◌-◌, ◌*◌, ◌/◌, ◌<◌, ◌≤◌, Bool, true, false, List, [], ◌∷◌, ◌++◌, length, take, drop, arith, append_assoc, append-nil, length-append, length-take, length-drop, eq-eqb, add-one}
use Rattle.std.specs.Prelude.{if◌then◌else◌}
use Rattle.std.specs.List.{AllByRecursion}
use Rattle.std.proofs.lemmas.Bool.{cases_eq, ne_eqb}
use Rattle.std.proofs.lemmas.List.{take-append-drop, take_at, drop-drop}
use Rattle.asterix_frame.specs.Presence.{IsField, presence, present_from}
use Rattle.asterix_frame.specs.Elements.{Element, BeginsElements, numbers, octets_of}

pub present_more : (field : List ℕ) (n count : ℕ) → presence field n ≡ 1 → present_from field n (suc count) ≡ n ∷ present_from field (suc n) count
present_more field n count e = ap (λ (b : Bool). (if b then n ∷ [] else []) ++ present_from field (suc n) count) (eq-eqb (presence field n) 1 e)

pub present_less : (field : List ℕ) (n count : ℕ) → (presence field n ≡ 1 → ⊥) → present_from field n (suc count) ≡ present_from field (suc n) count
present_less field n count e = ap (λ (b : Bool). (if b then n ∷ [] else []) ++ present_from field (suc n) count) (ne_eqb (presence field n) 1 e)

-- no number is present where none is known
pub present_none : (known : ℕ → Bool) (field : List ℕ) (n count : ℕ) → ((m : ℕ) → presence field m ≡ 1 → known m ≡ true) → ((m : ℕ) → n ≤ m → known m ≡ false) → present_from field n count ≡ []
present_none known field n zero all none = refl
present_none known field n (suc count) all none =
    elim (cases_eq (presence field n) 1) [
      | inl e ↦ (let yes : known n ≡ true = all n e in let no : known n ≡ false = none n (omega arith) in absurd cc)
      | inr e ↦ present_less field n count e ∙ present_none known field (suc n) count all (λ m h. none m (omega arith))
    ]

numbers-push : (ps : List Element) (p : Element) (left : List ℕ) → numbers ps ++ p.number ∷ left ≡ numbers (ps ++ p ∷ []) ++ left
numbers-push [] p left = refl
numbers-push (q ∷ ps) p left = ap (λ t. q.number ∷ t) (numbers-push ps p left)

pub octets-push : (ps : List Element) (p : Element) → octets_of (ps ++ p ∷ []) ≡ octets_of ps ++ p.octets
octets-push [] p = append-nil p.octets
octets-push (q ∷ ps) p = ap (λ t. q.octets ++ t) (octets-push ps p) ∙ sym (append_assoc q.octets (octets_of ps) p.octets)

elements-push : (P : Element → Type 0) (ps : List Element) (p : Element) → AllByRecursion P ps → P p → AllByRecursion P (ps ++ p ∷ [])
elements-push P [] p all h = (h, tt)
elements-push P (q ∷ ps) p all h = (all.0, elements-push P ps p all.1 h)

-- The numbers of the field below n are read, up to the octet at an offset.
pub record ReadTo (known : ℕ → Bool) (IsElement : ℕ → List ℕ → Type 0) (octets field : List ℕ) (n at : ℕ) (elements : List Element) : Type 0 where
  pub begins : BeginsElements known IsElement octets field elements (present_from field n (7 * length field - n)) (drop at octets)
  pub within : at ≤ length octets
  pub at_is : at ≡ length field + length (octets_of elements)

pub read_none : (known : ℕ → Bool) (IsElement : ℕ → List ℕ → Type 0) (octets : List ℕ) (len : ℕ) → len ≤ length octets → IsField known (take len octets) → ReadTo known IsElement octets (take len octets) 0 len []
read_none known IsElement octets len within h = record {
  begins = record { is_field = h; in_order = ap (present_from (take len octets) 0) (omega arith); are_elements = tt; whole = sym (take-append-drop len octets) };
  within = within;
  at_is = omega (arith, length-take len octets);
}

pub read_more : (known : ℕ → Bool) (IsElement : ℕ → List ℕ → Type 0) (octets field : List ℕ) (n at len : ℕ) (elements : List Element) → ReadTo known IsElement octets field n at elements
    → n < 7 * length field → presence field n ≡ 1 → len ≤ length (drop at octets) → IsElement n (take len (drop at octets))
    → ReadTo known IsElement octets field (n + 1) (at + len) (elements ++ record { number = n; octets = take len (drop at octets) } ∷ [])
read_more known IsElement octets field n at len elements r below here fits element =
    let p : Element = record { number = n; octets = take len (drop at octets) } in
    let count : 7 * length field - n ≡ suc (7 * length field - suc n) = omega arith in
    let left = present_from field (suc n) (7 * length field - suc n) in
    let order = r.begins.in_order ∙ ap (λ t. numbers elements ++ t) (ap (present_from field n) count ∙ present_more field n (7 * length field - suc n) here) in
    let len-is : length (take len (drop at octets)) ≡ len = omega (arith, length-take len (drop at octets)) in
    let next : take len (drop at octets) ++ drop (at + len) octets ≡ drop at octets = ap (λ t. take len (drop at octets) ++ t) (sym (drop-drop len at octets)) ∙ take-append-drop len (drop at octets) in
    subst (λ k. ReadTo known IsElement octets field k (at + len) (elements ++ p ∷ [])) (sym (add-one n)) (record {
      begins = record {
        is_field = r.begins.is_field;
        in_order = order ∙ numbers-push elements p left;
        are_elements = elements-push (λ p. IsElement p.number p.octets) elements p r.begins.are_elements element;
        whole = r.begins.whole ∙ ap (λ t. field ++ t) (ap (λ t. octets_of elements ++ t) (sym next) ∙ sym (append_assoc (octets_of elements) p.octets (drop (at + len) octets)) ∙ ap (λ t. t ++ drop (at + len) octets) (sym (octets-push elements p)));
      };
      within = omega (arith, fits, length-drop at octets, r.within);
      at_is = omega (arith, r.at_is, len-is, ap length (octets-push elements p), length-append (octets_of elements) p.octets);
    })

pub read_less : (known : ℕ → Bool) (IsElement : ℕ → List ℕ → Type 0) (octets field : List ℕ) (n at : ℕ) (elements : List Element) → ReadTo known IsElement octets field n at elements
    → n < 7 * length field → (presence field n ≡ 1 → ⊥) → ReadTo known IsElement octets field (n + 1) at elements
read_less known IsElement octets field n at elements r below absent =
    let count : 7 * length field - n ≡ suc (7 * length field - suc n) = omega arith in
    subst (λ k. ReadTo known IsElement octets field k at elements) (sym (add-one n)) (record {
      begins = record {
        is_field = r.begins.is_field;
        in_order = r.begins.in_order ∙ ap (λ t. numbers elements ++ t) (ap (present_from field n) count ∙ present_less field n (7 * length field - suc n) absent);
        are_elements = r.begins.are_elements;
        whole = r.begins.whole;
      };
      within = r.within;
      at_is = r.at_is;
    })

-- the next number
pub read_next : (known : ℕ → Bool) (IsElement : ℕ → List ℕ → Type 0) (octets field : List ℕ) (n at : ℕ) (elements : List Element) → ReadTo known IsElement octets field n at elements
    → n < 7 * length field → presence field n ≡ 1 → BeginsElements known IsElement octets field elements (n ∷ present_from field (suc n) (7 * length field - suc n)) (drop at octets)
read_next known IsElement octets field n at elements r below here =
    let count : 7 * length field - n ≡ suc (7 * length field - suc n) = omega arith in
    record {
      is_field = r.begins.is_field;
      in_order = r.begins.in_order ∙ ap (λ t. numbers elements ++ t) (ap (present_from field n) count ∙ present_more field n (7 * length field - suc n) here);
      are_elements = r.begins.are_elements;
      whole = r.begins.whole;
    }

-- no number is left
pub read_all : (known : ℕ → Bool) (IsElement : ℕ → List ℕ → Type 0) (octets field : List ℕ) (n at : ℕ) (elements : List Element) → ReadTo known IsElement octets field n at elements
    → present_from field n (7 * length field - n) ≡ [] → BeginsElements known IsElement octets field elements [] (drop at octets)
read_all known IsElement octets field n at elements r none = record {
  is_field = r.begins.is_field;
  in_order = r.begins.in_order ∙ ap (λ t. numbers elements ++ t) none;
  are_elements = r.begins.are_elements;
  whole = r.begins.whole;
}

-- the octets up to the end, alone
pub read_whole : (known : ℕ → Bool) (IsElement : ℕ → List ℕ → Type 0) (octets field : List ℕ) (n at : ℕ) (elements : List Element) → ReadTo known IsElement octets field n at elements
    → present_from field n (7 * length field - n) ≡ [] → BeginsElements known IsElement (take at octets) field elements [] []
read_whole known IsElement octets field n at elements r none =
    let prefix : take at octets ≡ field ++ octets_of elements =
    ap (take at) (r.begins.whole ∙ sym (append_assoc field (octets_of elements) (drop at octets))) ∙ take_at (field ++ octets_of elements) (drop at octets) at (length-append field (octets_of elements) ∙ sym r.at_is) in
    record {
      is_field = r.begins.is_field;
      in_order = r.begins.in_order ∙ ap (λ t. numbers elements ++ t) none;
      are_elements = r.begins.are_elements;
      whole = prefix ∙ ap (λ t. field ++ t) (sym (append-nil (octets_of elements)));
    }

-- after the field's end no number is present
pub past_field : (field : List ℕ) (n : ℕ) → length field ≤ n / 7 → present_from field n (7 * length field - n) ≡ []
past_field field n past = let none : 7 * length field - n ≡ 0 = omega arith in ap (present_from field n) none
