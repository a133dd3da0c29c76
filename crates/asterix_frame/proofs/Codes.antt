-- Octets begin one thing at most: a whole field, element, item or record, or one fault.
use Rattle.std.proofs.Common.{◌≡◌, ◌∙◌, ap, sym, refl, subst, inl, inr, ℕ, ◌-◌, ◌/◌, ◌%◌, ◌<◌, ◌⊎◌, Bool, List, [], ◌∷◌, ◌++◌, length, get_or, arith, append_assoc, length-append}
use Rattle.std.specs.List.{AllByRecursion}
use Rattle.std.specs.Int.{bit_at}
use Rattle.std.proofs.lemmas.Bool.{cases_order, cases_lt}
use Rattle.std.proofs.lemmas.List.{get_or_append_left}
use Rattle.asterix_frame.specs.Presence.{fx, presence, present, IsExtended, IsField, EndsInField, HasSpare}
use Rattle.asterix_frame.specs.Elements.{Element, BeginsElements, numbers, octets_of}
use Rattle.asterix_frame.proofs.Heads.{split_same}

-- What octets may begin, and how they fail to.
pub record IsCode (Is : List ℕ → Type 0) (None : List ℕ → ℕ → ℕ → Type 0) : Type 0 where
  pub one : (p q x y : List ℕ) → Is p → Is q → p ++ x ≡ q ++ y → length p ≡ length q
  pub not_both : (p x : List ℕ) (inside cause : ℕ) → Is p → None (p ++ x) inside cause → ⊥
  pub one_fault : (o : List ℕ) (i c i' c' : ℕ) → None o i c → None o i' c' → (i ≡ i') × (c ≡ c')

same_at : (p q x y : List ℕ) (i : ℕ) → p ++ x ≡ q ++ y → i < length p → i < length q → get_or p i 0 ≡ get_or q i 0
same_at p q x y i e h k = sym (get_or_append_left p x 0 i h) ∙ ap (λ (t : List ℕ). get_or t i 0) e ∙ get_or_append_left q y 0 i k

-- ---- octets with FX

longer : (p q x y : List ℕ) → IsExtended p → IsExtended q → p ++ x ≡ q ++ y → length p < length q → ⊥
longer p q x y hp hq e lt =
    let some = hp.some in
    let same : get_or p (length p - 1) 0 ≡ get_or q (length p - 1) 0 = same_at p q x y (length p - 1) e (omega arith) (omega arith) in
    let on : fx (get_or q (length p - 1) 0) ≡ 1 = hq.goes_on (length p - 1) (omega arith) in
    let one-zero : ◌≡◌ {A = ℕ} 1 0 = sym on ∙ sym (ap fx same) ∙ hp.ends in
    omega arith

pub extended_one : (p q x y : List ℕ) → IsExtended p → IsExtended q → p ++ x ≡ q ++ y → length p ≡ length q
extended_one p q x y hp hq e =
    elim (cases_order (length p) (length q)) [
      | inl same ↦ same
      | inr (inl lt) ↦ absurd (longer p q x y hp hq e lt)
      | inr (inr lt) ↦ absurd (longer q p y x hq hp (sym e) lt)
    ]

pub extended_ends : (p x : List ℕ) (count : ℕ) → IsExtended p → ((i : ℕ) → i < count → fx (get_or (p ++ x) i 0) ≡ 1) → count < length p
extended_ends p x count h on =
    elim (cases_lt count (length p)) [
      | inl lt ↦ lt
      | inr ge ↦
          let some = h.some in
          let same : get_or (p ++ x) (length p - 1) 0 ≡ get_or p (length p - 1) 0 = get_or_append_left p x 0 (length p - 1) (omega arith) in
          let set : fx (get_or (p ++ x) (length p - 1) 0) ≡ 1 = on (length p - 1) (omega arith) in
          let one-zero : ◌≡◌ {A = ℕ} 1 0 = sym set ∙ ap fx same ∙ h.ends in
          omega arith
    ]

-- ---- fields

module _ (known : ℕ → Bool) where
  same_presence : (p x : List ℕ) (n : ℕ) → n / 7 < length p → presence (p ++ x) n ≡ presence p n
  same_presence p x n h = ap (λ octet. bit_at octet (7 - n % 7)) (get_or_append_left p x 0 (n / 7) h)

  pub field_not_ends : (p x : List ℕ) → IsField known p → EndsInField known (p ++ x) → ⊥
  field_not_ends p x h f = let lt = extended_ends p x (length (p ++ x)) h.extended f.goes_on in omega (arith, lt, length-append p x)

  pub field_not_spare : (p x : List ℕ) (offset : ℕ) → IsField known p → HasSpare known (p ++ x) offset → ⊥
  field_not_spare p x offset h f =
      let lt = extended_ends p x offset h.extended f.prefix.goes_on in
      let within : f.number / 7 < length p = omega (arith, lt, f.at_offset) in
      let here : presence p f.number ≡ 1 = sym (same_presence p x f.number within) ∙ f.is_present in
      let yes = h.all_known f.number here in
      let no = f.unknown in
      cc

  pub ends_not_spare : (o : List ℕ) (offset : ℕ) → EndsInField known o → HasSpare known o offset → ⊥
  ends_not_spare o offset f g =
      let yes = f.all_known g.number (omega (arith, g.at_offset, g.within)) g.is_present in
      let no = g.unknown in
      cc

  earlier_spare : (o : List ℕ) (a b : ℕ) → HasSpare known o a → HasSpare known o b → a < b → ⊥
  earlier_spare o a b f g lt =
      let yes = g.prefix.all_known f.number (omega (arith, f.at_offset)) f.is_present in
      let no = f.unknown in
      cc

  pub one_spare : (o : List ℕ) (a b : ℕ) → HasSpare known o a → HasSpare known o b → a ≡ b
  one_spare o a b f g =
      elim (cases_order a b) [
        | inl same ↦ same
        | inr (inl lt) ↦ absurd (earlier_spare o a b f g lt)
        | inr (inr lt) ↦ absurd (earlier_spare o b a g f lt)
      ]

-- ---- a field and its elements

module _ (known : ℕ → Bool) (IsElement : ℕ → List ℕ → Type 0) (None : ℕ → List ℕ → ℕ → ℕ → Type 0) (codes : (n : ℕ) → IsCode (IsElement n) (None n)) where
  -- nothing is left to read, or the next element begins nowhere
  pub record Stops (left rest : List ℕ) : Type 0 where
    pub stops : (left ≡ []) ⊎ ((n : ℕ) × (more : List ℕ) × (inside : ℕ) × (cause : ℕ) × (left ≡ n ∷ more) × None n rest inside cause)

  goes_past : (q : Element) (left more rest after : List ℕ) → Stops left rest → left ≡ q.number ∷ more → rest ≡ q.octets ++ after → IsElement q.number q.octets → ⊥
  goes_past q left more rest after s l r h =
      elim s.stops [
        | inl nil ↦ (let e : q.number ∷ more ≡ [] = sym l ∙ nil in cc)
        | inr (n, more', inside, cause, e, none) ↦
            let same : n ≡ q.number = (let f : n ∷ more' ≡ q.number ∷ more = sym e ∙ l in cc) in
            let none' : None q.number (q.octets ++ after) inside cause = subst (λ k. None k (q.octets ++ after) inside cause) same (subst (λ t. None n t inside cause) r none) in
            (codes q.number).not_both q.octets after inside cause h none'
      ]

  elements_same : (ps qs : List Element) (left left' rest rest' : List ℕ) → AllByRecursion (λ p. IsElement p.number p.octets) ps → AllByRecursion (λ p. IsElement p.number p.octets) qs
      → numbers ps ++ left ≡ numbers qs ++ left' → octets_of ps ++ rest ≡ octets_of qs ++ rest' → Stops left rest → Stops left' rest' → (ps ≡ qs) × (left ≡ left') × (rest ≡ rest')
  elements_same [] [] left left' rest rest' hp hq n o s s' = (refl, n, o)
  elements_same [] (q ∷ qs) left left' rest rest' hp hq n o s s' = absurd (goes_past q left (numbers qs ++ left') rest (octets_of qs ++ rest') s n (o ∙ append_assoc q.octets (octets_of qs) rest') hq.0)
  elements_same (p ∷ ps) [] left left' rest rest' hp hq n o s s' = absurd (goes_past p left' (numbers ps ++ left) rest' (octets_of ps ++ rest) s' (sym n) (sym o ∙ append_assoc p.octets (octets_of ps) rest) hp.0)
  elements_same (p ∷ ps) (q ∷ qs) left left' rest rest' hp hq n o s s' =
      let number : p.number ≡ q.number = cc in
      let others : numbers ps ++ left ≡ numbers qs ++ left' = cc in
      let octets : p.octets ++ (octets_of ps ++ rest) ≡ q.octets ++ (octets_of qs ++ rest') = sym (append_assoc p.octets (octets_of ps) rest) ∙ o ∙ append_assoc q.octets (octets_of qs) rest' in
      let hq' : IsElement p.number q.octets = subst (λ k. IsElement k q.octets) (sym number) hq.0 in
      let long = (codes p.number).one p.octets q.octets _ _ hp.0 hq' octets in
      let split = split_same p.octets q.octets (octets_of ps ++ rest) (octets_of qs ++ rest') long octets in
      let next = elements_same ps qs left left' rest rest' hp.1 hq.1 others split.1 s s' in
      ((λ i. record { number = number i; octets = split.0 i } ∷ next.0 i), next.1, next.2)

  pub begins_same : (octets f g : List ℕ) (ps qs : List Element) (left left' rest rest' : List ℕ) → BeginsElements known IsElement octets f ps left rest → BeginsElements known IsElement octets g qs left' rest'
      → Stops left rest → Stops left' rest' → (f ≡ g) × (ps ≡ qs) × (left ≡ left') × (rest ≡ rest')
  begins_same octets f g ps qs left left' rest rest' b c s s' =
      let whole : f ++ (octets_of ps ++ rest) ≡ g ++ (octets_of qs ++ rest') = sym b.whole ∙ c.whole in
      let long = extended_one f g _ _ b.is_field.extended c.is_field.extended whole in
      let split = split_same f g (octets_of ps ++ rest) (octets_of qs ++ rest') long whole in
      let order : numbers ps ++ left ≡ numbers qs ++ left' = sym b.in_order ∙ ap present split.0 ∙ c.in_order in
      let next = elements_same ps qs left left' rest rest' b.are_elements c.are_elements order split.1 s s' in
      (split.0, next.0, next.1, next.2)

-- the same, with more octets after
pub begins_on : (known : ℕ → Bool) (IsElement : ℕ → List ℕ → Type 0) (octets field : List ℕ) (elements : List Element) (left rest x : List ℕ) → BeginsElements known IsElement octets field elements left rest → BeginsElements known IsElement (octets ++ x) field elements left (rest ++ x)
begins_on known IsElement octets field elements left rest x b = record {
  is_field = b.is_field;
  in_order = b.in_order;
  are_elements = b.are_elements;
  whole = ap (λ t. t ++ x) b.whole ∙ append_assoc field (octets_of elements ++ rest) x ∙ ap (λ t. field ++ t) (append_assoc (octets_of elements) rest x);
}
