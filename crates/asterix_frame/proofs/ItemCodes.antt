-- Octets begin at most one item of a shape, or one fault, and at most one record.
use Rattle.std.proofs.Common.{◌≡◌, ◌∙◌, ap, sym, refl, subst, inl, inr, zero, suc, ℕ, ◌+◌, ◌*◌, List, [], ◌∷◌, ◌++◌, length, arith, length-append}
use Rattle.asterix_frame.specs.Causes.{item_end}
use Rattle.asterix_frame.specs.declared.tables.ItemFormat.{ItemFormat}
use Rattle.asterix_frame.specs.declared.tables.ItemFormat.TheVariants as formats
use Rattle.asterix_frame.specs.declared.tables.SubfieldFormat.{SubfieldFormat}
use Rattle.asterix_frame.specs.declared.tables.SubfieldFormat.TheVariants as subfields
use Rattle.asterix_frame.specs.Tables.{subfields_of}
use Rattle.asterix_frame.specs.Presence.{EndsInField, HasSpare}
use Rattle.asterix_frame.specs.Elements.{Element, octets_of}
use Rattle.asterix_frame.specs.Items.{IsRepetitive, EndsInRepetitive, IsExplicit, BeginsNoExplicit, IsSubfield, EndsInSubfield, is_subfield, subfield_at, BeginsCompound, IsCompound, EndsInNext, BeginsNoCompound, ends_in_field, has_spare, ends_in_subfield, IsItem, BeginsNoItem}
use Rattle.asterix_frame.proofs.Codes.{IsCode, extended_one, extended_ends, field_not_ends, field_not_spare, ends_not_spare, one_spare, Stops, begins_same, begins_on}

-- ---- repeated and explicit items

repetitive_one : (size : ℕ) (p q x y : List ℕ) → IsRepetitive size p → IsRepetitive size q → p ++ x ≡ q ++ y → length p ≡ length q
repetitive_one size [] q x y hp hq e = absurd hp
repetitive_one size (n ∷ p) [] x y hp hq e = absurd hq
repetitive_one size (n ∷ p) (m ∷ q) x y hp hq e =
    let same : n ≡ m = cc in
    ap suc (hp ∙ ap (λ k. k * size) same ∙ sym hq)

repetitive_not_ends : (size : ℕ) (p x : List ℕ) → IsRepetitive size p → EndsInRepetitive size (p ++ x) → ⊥
repetitive_not_ends size [] x h f = absurd h
repetitive_not_ends size (n ∷ p) x h f = omega (arith, h, f, length-append p x)

explicit_one : (p q x y : List ℕ) → IsExplicit p → IsExplicit q → p ++ x ≡ q ++ y → length p ≡ length q
explicit_one [] q x y hp hq e = absurd hp
explicit_one (n ∷ p) [] x y hp hq e = absurd hq
explicit_one (n ∷ p) (m ∷ q) x y hp hq e =
    let same : n ≡ m = cc in
    hp ∙ same ∙ sym hq

explicit_not_none : (p x : List ℕ) (cause : ℕ) → IsExplicit p → BeginsNoExplicit (p ++ x) cause → ⊥
explicit_not_none [] x cause h f = absurd h
explicit_not_none (zero ∷ p) x cause h f = omega (arith, h)
explicit_not_none (suc n ∷ p) x cause h f = omega (arith, h, f.0, length-append p x)

explicit_cause : (o : List ℕ) (c d : ℕ) → BeginsNoExplicit o c → BeginsNoExplicit o d → c ≡ d
explicit_cause [] c d f g = f ∙ sym g
explicit_cause (zero ∷ o) c d f g = f ∙ sym g
explicit_cause (suc n ∷ o) c d f g = f.1 ∙ sym g.1

-- ---- subfields

abbrev NoSubfield : SubfieldFormat → List ℕ → ℕ → ℕ → Type 0
NoSubfield s octets inside cause = EndsInSubfield s octets × (inside ≡ 0) × (cause ≡ item_end)

subfield_one : (s : SubfieldFormat) (p q x y : List ℕ) → IsSubfield s p → IsSubfield s q → p ++ x ≡ q ++ y → length p ≡ length q
subfield_one subfields.Spare p q x y hp hq e = absurd hp
subfield_one (subfields.Fixed size) p q x y hp hq e = hp ∙ sym hq
subfield_one (subfields.Repetitive size) p q x y hp hq e = repetitive_one size p q x y hp hq e

subfield_not_ends : (s : SubfieldFormat) (p x : List ℕ) → IsSubfield s p → EndsInSubfield s (p ++ x) → ⊥
subfield_not_ends subfields.Spare p x h f = absurd h
subfield_not_ends (subfields.Fixed size) p x h f = omega (arith, h, f, length-append p x)
subfield_not_ends (subfields.Repetitive size) p x h f = repetitive_not_ends size p x h f

subfield_code : (s : SubfieldFormat) → IsCode (λ octets. IsSubfield s octets) (NoSubfield s)
subfield_code s = record {
  one = subfield_one s;
  not_both = λ p x inside cause h f. subfield_not_ends s p x h f.0;
  one_fault = λ o i c i' c' f g. (f.1 ∙ sym g.1, f.2 ∙ sym g.2);
}

-- ---- compound items

abbrev CompoundStops : List SubfieldFormat → List ℕ → List ℕ → Type 0
CompoundStops table = Stops (λ n. is_subfield (subfield_at table n)) (λ n octets. IsSubfield (subfield_at table n) octets) (λ n. NoSubfield (subfield_at table n)) (λ n. subfield_code (subfield_at table n))

module _ (table : List SubfieldFormat) where
  compound_same : (octets f g : List ℕ) (ps qs : List Element) (left left' rest rest' : List ℕ) → BeginsCompound table octets f ps left rest → BeginsCompound table octets g qs left' rest'
      → CompoundStops table left rest → CompoundStops table left' rest' → (f ≡ g) × (ps ≡ qs) × (left ≡ left') × (rest ≡ rest')
  compound_same octets f g ps qs left left' rest rest' b c s s' =
      begins_same (λ n. is_subfield (subfield_at table n)) (λ n octets. IsSubfield (subfield_at table n) octets) (λ n. NoSubfield (subfield_at table n)) (λ n. subfield_code (subfield_at table n)) octets f g ps qs left left' rest rest' b c s s'

  whole_stops : (rest : List ℕ) → CompoundStops table [] rest
  whole_stops rest = record { stops = inl refl }

  next_stops : (n : ℕ) (more rest : List ℕ) → EndsInSubfield (subfield_at table n) rest → CompoundStops table (n ∷ more) rest
  next_stops n more rest h = record { stops = inr (n, more, 0, item_end, refl, (h, refl, refl)) }

  compound_on : (p x : List ℕ) (h : IsCompound table p) → BeginsCompound table (p ++ x) h.0 h.1 [] x
  compound_on p x h = begins_on (λ n. is_subfield (subfield_at table n)) (λ n octets. IsSubfield (subfield_at table n) octets) p h.0 h.1 [] [] x h.2

  compound_length : (p : List ℕ) (h : IsCompound table p) → length p ≡ length h.0 + length (octets_of h.1)
  compound_length p h = omega (arith, ap length h.2.whole, length-append h.0 (octets_of h.1 ++ []), length-append (octets_of h.1) [])

  compound_one : (p q x y : List ℕ) → IsCompound table p → IsCompound table q → p ++ x ≡ q ++ y → length p ≡ length q
  compound_one p q x y hp hq e =
      let b = subst (λ t. BeginsCompound table t hp.0 hp.1 [] x) e (compound_on p x hp) in
      let same = compound_same (q ++ y) hp.0 hq.0 hp.1 hq.1 [] [] x y b (compound_on q y hq) (whole_stops x) (whole_stops y) in
      compound_length p hp ∙ (λ i. length (same.0 i) + length (octets_of (same.1 i))) ∙ sym (compound_length q hq)

  compound_not_none : (p x : List ℕ) (inside cause : ℕ) → IsCompound table p → BeginsNoCompound table (p ++ x) inside cause → ⊥
  compound_not_none p x inside cause h (ends_in_field f i c) =
      let b = compound_on p x h in
      field_not_ends (λ n. is_subfield (subfield_at table n)) h.0 (octets_of h.1 ++ x) b.is_field (subst (λ t. EndsInField (λ n. is_subfield (subfield_at table n)) t) b.whole f)
  compound_not_none p x inside cause h (has_spare f c) =
      let b = compound_on p x h in
      field_not_spare (λ n. is_subfield (subfield_at table n)) h.0 (octets_of h.1 ++ x) inside b.is_field (subst (λ t. HasSpare (λ n. is_subfield (subfield_at table n)) t inside) b.whole f)
  compound_not_none p x inside cause h (ends_in_subfield f i c) =
      let same = compound_same (p ++ x) h.0 f.field h.1 f.elements [] (f.number ∷ f.left) x f.rest (compound_on p x h) f.begins (whole_stops x) (next_stops f.number f.left f.rest f.ends) in
      let e = same.2 in
      cc

  next_not_ends : (o : List ℕ) → EndsInNext table o → EndsInField (λ n. is_subfield (subfield_at table n)) o → ⊥
  next_not_ends o f g = field_not_ends (λ n. is_subfield (subfield_at table n)) f.field (octets_of f.elements ++ f.rest) f.begins.is_field (subst (λ t. EndsInField (λ n. is_subfield (subfield_at table n)) t) f.begins.whole g)

  next_not_spare : (o : List ℕ) (offset : ℕ) → EndsInNext table o → HasSpare (λ n. is_subfield (subfield_at table n)) o offset → ⊥
  next_not_spare o offset f g = field_not_spare (λ n. is_subfield (subfield_at table n)) f.field (octets_of f.elements ++ f.rest) offset f.begins.is_field (subst (λ t. HasSpare (λ n. is_subfield (subfield_at table n)) t offset) f.begins.whole g)

  compound_fault : (o : List ℕ) (i c i' c' : ℕ) → BeginsNoCompound table o i c → BeginsNoCompound table o i' c' → (i ≡ i') × (c ≡ c')
  compound_fault o i c i' c' (ends_in_field f a b) (ends_in_field g d e) = (a ∙ sym d, b ∙ sym e)
  compound_fault o i c i' c' (ends_in_field f a b) (has_spare g e) = absurd (ends_not_spare (λ n. is_subfield (subfield_at table n)) o i' f g)
  compound_fault o i c i' c' (ends_in_field f a b) (ends_in_subfield g d e) = (a ∙ sym d, b ∙ sym e)
  compound_fault o i c i' c' (has_spare f b) (ends_in_field g d e) = absurd (ends_not_spare (λ n. is_subfield (subfield_at table n)) o i g f)
  compound_fault o i c i' c' (has_spare f b) (has_spare g e) = (one_spare (λ n. is_subfield (subfield_at table n)) o i i' f g, b ∙ sym e)
  compound_fault o i c i' c' (has_spare f b) (ends_in_subfield g d e) = absurd (next_not_spare o i g f)
  compound_fault o i c i' c' (ends_in_subfield f a b) (ends_in_field g d e) = (a ∙ sym d, b ∙ sym e)
  compound_fault o i c i' c' (ends_in_subfield f a b) (has_spare g e) = absurd (next_not_spare o i' f g)
  compound_fault o i c i' c' (ends_in_subfield f a b) (ends_in_subfield g d e) = (a ∙ sym d, b ∙ sym e)

-- ---- all items

item_one : (item : ItemFormat) (p q x y : List ℕ) → IsItem item p → IsItem item q → p ++ x ≡ q ++ y → length p ≡ length q
item_one formats.Spare p q x y hp hq e = absurd hp
item_one (formats.Fixed size) p q x y hp hq e = hp ∙ sym hq
item_one formats.Extended p q x y hp hq e = extended_one p q x y hp hq e
item_one (formats.Repetitive size) p q x y hp hq e = repetitive_one size p q x y hp hq e
item_one formats.Explicit p q x y hp hq e = explicit_one p q x y hp hq e
item_one (formats.Compound compound) p q x y hp hq e = compound_one (subfields_of compound) p q x y hp hq e

item_not_none : (item : ItemFormat) (p x : List ℕ) (inside cause : ℕ) → IsItem item p → BeginsNoItem item (p ++ x) inside cause → ⊥
item_not_none formats.Spare p x inside cause h f = absurd h
item_not_none (formats.Fixed size) p x inside cause h f = omega (arith, h, f.0, length-append p x)
item_not_none formats.Extended p x inside cause h f = let lt = extended_ends p x (length (p ++ x)) h f.0 in omega (arith, lt, length-append p x)
item_not_none (formats.Repetitive size) p x inside cause h f = repetitive_not_ends size p x h f.0
item_not_none formats.Explicit p x inside cause h f = explicit_not_none p x cause h f.0
item_not_none (formats.Compound compound) p x inside cause h f = compound_not_none (subfields_of compound) p x inside cause h f

item_fault : (item : ItemFormat) (o : List ℕ) (i c i' c' : ℕ) → BeginsNoItem item o i c → BeginsNoItem item o i' c' → (i ≡ i') × (c ≡ c')
item_fault formats.Spare o i c i' c' f g = absurd f
item_fault (formats.Fixed size) o i c i' c' f g = (f.1 ∙ sym g.1, f.2 ∙ sym g.2)
item_fault formats.Extended o i c i' c' f g = (f.1 ∙ sym g.1, f.2 ∙ sym g.2)
item_fault (formats.Repetitive size) o i c i' c' f g = (f.1 ∙ sym g.1, f.2 ∙ sym g.2)
item_fault formats.Explicit o i c i' c' f g = (f.1 ∙ sym g.1, explicit_cause o c c' f.0 g.0)
item_fault (formats.Compound compound) o i c i' c' f g = compound_fault (subfields_of compound) o i c i' c' f g

pub item_code : (item : ItemFormat) → IsCode (λ octets. IsItem item octets) (BeginsNoItem item)
item_code item = record { one = item_one item; not_both = item_not_none item; one_fault = item_fault item }
