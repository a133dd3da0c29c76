-- Octets begin one record at most, or have one fault; and a walk over a record decides which.
use Rattle.std.proofs.Common.{◌≡◌, ◌∙◌, ap, sym, refl, subst, inl, inr, ℕ, ◌+◌, ◌-◌, ◌<◌, ◌≤◌, List, [], ◌∷◌, ◌++◌, length, take, drop, arith, append_assoc, append-nil, length-append, length-drop, Option, Some, None, Result, Ok, Err}
use Rattle.std.specs.Prelude.{IfSome, IsSomeAnd}
use Rattle.std.specs.List.{AllByRecursion}
use Rattle.std.proofs.lemmas.List.{drop-drop, drop_at}
use Rattle.trk_base.specs.Numbers.{day}
use Rattle.asterix_frame.specs.declared.block.Malformed.{Malformed}
use Rattle.asterix_frame.specs.Causes.{time_range}
use Rattle.asterix_frame.specs.declared.tables.Uap.{Uap}
use Rattle.asterix_frame.specs.Tables.{table_of, time_frn}
use Rattle.asterix_frame.specs.Presence.{EndsInField, HasSpare}
use Rattle.asterix_frame.specs.Elements.{Element, octets_of}
use Rattle.asterix_frame.specs.Records.{knows, spans, BeginsRecord, Walks}
use Rattle.asterix_frame.specs.Records.{ends_in_fspec as walk_ends, has_spare as walk_spare, in_item as walk_item}
use Rattle.asterix_frame.specs.DataRecords.{time_in, time_of, IsDataItem, BeginsNoDataItem, no_item, DataRecord, record_octets, IsDataRecord, BeginsDataRecord, FaultyDataItem, BeginsNoDataRecord, ends_in_fspec, has_spare, in_item}
use Rattle.asterix_frame.specs.Bodies.{span_of, elements_at}
use Rattle.asterix_frame.proofs.Codes.{Stops, begins_same, field_not_ends, field_not_spare, ends_not_spare, one_spare}
use Rattle.asterix_frame.proofs.DataItems.{data_item_code, items_rise, judged}
use Rattle.asterix_frame.proofs.Placed.{elements_are, out_of_range_fault}
use Rattle.asterix_frame.proofs.Sequences.{AreCode}

module _ (uap : Uap) where
  abbrev RecordStops : List ℕ → List ℕ → Type 0
  RecordStops = Stops (knows (table_of uap)) (λ n octets. IsDataItem uap n octets) (λ n. BeginsNoDataItem uap n) (λ n. data_item_code uap n)

  items_same : (o f g : List ℕ) (ps qs : List Element) (left left' rest rest' : List ℕ) → BeginsDataRecord uap o f ps left rest → BeginsDataRecord uap o g qs left' rest'
      → RecordStops left rest → RecordStops left' rest' → (f ≡ g) × (ps ≡ qs) × (left ≡ left') × (rest ≡ rest')
  items_same o f g ps qs left left' rest rest' b c s s' =
      begins_same (knows (table_of uap)) (λ n octets. IsDataItem uap n octets) (λ n. BeginsNoDataItem uap n) (λ n. data_item_code uap n) o f g ps qs left left' rest rest' b c s s'

  whole_stops : (rest : List ℕ) → RecordStops [] rest
  whole_stops rest = record { stops = inl refl }

  fault_stops : (n : ℕ) (more rest : List ℕ) (inside cause : ℕ) → BeginsNoDataItem uap n rest inside cause → RecordStops (n ∷ more) rest
  fault_stops n more rest inside cause h = record { stops = inr (n, more, inside, cause, refl, h) }

  begins_of : (r : DataRecord) (x : List ℕ) → IsDataRecord uap r → BeginsDataRecord uap (record_octets r ++ x) r.fspec r.items [] x
  begins_of r x h = record {
    is_field = h.is_fspec;
    in_order = h.in_order ∙ sym (append-nil _);
    are_elements = h.are_items;
    whole = append_assoc r.fspec (octets_of r.items) x;
  }

  not_ends : (o f : List ℕ) (ps : List Element) (left rest : List ℕ) → BeginsDataRecord uap o f ps left rest → EndsInField (knows (table_of uap)) o → ⊥
  not_ends o f ps left rest b h = field_not_ends (knows (table_of uap)) f (octets_of ps ++ rest) b.is_field (subst (λ t. EndsInField (knows (table_of uap)) t) b.whole h)

  not_spare : (o f : List ℕ) (ps : List Element) (left rest : List ℕ) (body_offset : ℕ) → BeginsDataRecord uap o f ps left rest → HasSpare (knows (table_of uap)) o body_offset → ⊥
  not_spare o f ps left rest body_offset b h = field_not_spare (knows (table_of uap)) f (octets_of ps ++ rest) body_offset b.is_field (subst (λ t. HasSpare (knows (table_of uap)) t body_offset) b.whole h)

  some : (r : DataRecord) → IsDataRecord uap r → 0 < length (record_octets r)
  some r h = omega (arith, h.is_fspec.extended.some, length-append r.fspec (octets_of r.items))

  same : (r s : DataRecord) (x y : List ℕ) → IsDataRecord uap r → IsDataRecord uap s → record_octets r ++ x ≡ record_octets s ++ y → (r ≡ s) × (x ≡ y)
  same r s x y hr hs e =
      let b = subst (λ t. BeginsDataRecord uap t s.fspec s.items [] y) (sym e) (begins_of s y hs) in
      let one = items_same (record_octets r ++ x) r.fspec s.fspec r.items s.items [] [] x y (begins_of r x hr) b (whole_stops x) (whole_stops y) in
      (λ i. record { fspec = one.0 i; items = one.1 i }, one.3)

  not_none : (r : DataRecord) (x : List ℕ) (inside cause : ℕ) → IsDataRecord uap r → BeginsNoDataRecord uap (record_octets r ++ x) inside cause → ⊥
  not_none r x inside cause h (ends_in_fspec l f i c) = not_ends (record_octets r ++ x) r.fspec r.items [] x (begins_of r x h) f
  not_none r x inside cause h (has_spare f c) = not_spare (record_octets r ++ x) r.fspec r.items [] x inside (begins_of r x h) f
  not_none r x inside cause h (in_item f) =
      let one = items_same (record_octets r ++ x) r.fspec f.fspec r.items f.items [] (f.number ∷ f.left) x f.rest (begins_of r x h) f.begins (whole_stops x) (fault_stops f.number f.left f.rest f.within cause f.none) in
      let e = one.2 in
      cc

  not_empty : (inside cause : ℕ) → BeginsNoDataRecord uap [] inside cause → ⊥
  not_empty inside cause (ends_in_fspec l f i c) = omega (arith, l)
  not_empty inside cause (has_spare f c) = omega (arith, f.within)
  not_empty inside cause (in_item f) = omega (arith, f.begins.is_field.extended.some, ap length f.begins.whole, length-append f.fspec (octets_of f.items ++ f.rest))

  one_item : (o : List ℕ) (i c i' c' : ℕ) → FaultyDataItem uap o i c → FaultyDataItem uap o i' c' → (i ≡ i') × (c ≡ c')
  one_item o i c i' c' f g =
      let one = items_same o f.fspec g.fspec f.items g.items (f.number ∷ f.left) (g.number ∷ g.left) f.rest g.rest f.begins g.begins (fault_stops f.number f.left f.rest f.within c f.none) (fault_stops g.number g.left g.rest g.within c' g.none) in
      let left = one.2 in
      let number : f.number ≡ g.number = cc in
      let none : BeginsNoDataItem uap g.number g.rest f.within c = subst (λ n. BeginsNoDataItem uap n g.rest f.within c) number (subst (λ t. BeginsNoDataItem uap f.number t f.within c) one.3 f.none) in
      let fault = (data_item_code uap g.number).one_fault g.rest f.within c g.within c' none g.none in
      (f.inside_is ∙ (λ k. length (one.0 k) + length (octets_of (one.1 k)) + fault.0 k) ∙ sym g.inside_is, fault.1)

  one_fault : (o : List ℕ) (i c i' c' : ℕ) → BeginsNoDataRecord uap o i c → BeginsNoDataRecord uap o i' c' → (i ≡ i') × (c ≡ c')
  one_fault o i c i' c' (ends_in_fspec l f a b) (ends_in_fspec m g d e) = (a ∙ sym d, b ∙ sym e)
  one_fault o i c i' c' (ends_in_fspec l f a b) (has_spare g e) = absurd (ends_not_spare (knows (table_of uap)) o i' f g)
  one_fault o i c i' c' (ends_in_fspec l f a b) (in_item g) = absurd (not_ends o g.fspec g.items (g.number ∷ g.left) g.rest g.begins f)
  one_fault o i c i' c' (has_spare f b) (ends_in_fspec m g d e) = absurd (ends_not_spare (knows (table_of uap)) o i g f)
  one_fault o i c i' c' (has_spare f b) (has_spare g e) = (one_spare (knows (table_of uap)) o i i' f g, b ∙ sym e)
  one_fault o i c i' c' (has_spare f b) (in_item g) = absurd (not_spare o g.fspec g.items (g.number ∷ g.left) g.rest i g.begins f)
  one_fault o i c i' c' (in_item f) (ends_in_fspec m g d e) = absurd (not_ends o f.fspec f.items (f.number ∷ f.left) f.rest f.begins g)
  one_fault o i c i' c' (in_item f) (has_spare g e) = absurd (not_spare o f.fspec f.items (f.number ∷ f.left) f.rest i' f.begins g)
  one_fault o i c i' c' (in_item f) (in_item g) = one_item o i c i' c' f g

  pub record_code : AreCode DataRecord record_octets (IsDataRecord uap) (BeginsNoDataRecord uap)
  record_code = record { some = some; same = same; not_none = not_none; not_empty = not_empty; one_fault = one_fault }

  -- ---- a walk, and the time of day among its items

  module _ (body : List ℕ) (from offset : ℕ) (found : List (ℕ × ℕ × ℕ)) where
    -- a whole record
    pub record Taken (next : ℕ) : Type 0 where
      pub one : DataRecord
      pub is_record : IsDataRecord uap one
      pub octets : drop from body ≡ record_octets one ++ drop next body
      pub items : elements_at body found ≡ one.items
      pub spans_are : found ≡ spans (from + length one.fspec) one.items
      pub next_is : next ≡ from + length (record_octets one)

    -- a fault there
    pub record Refused (m : Malformed) : Type 0 where
      pub inside : ℕ
      pub none : BeginsNoDataRecord uap (drop from body) inside m.cause
      pub offset_is : m.offset ≡ offset + from + inside

    elements_of : (fspec : List ℕ) (items : List Element) (left rest : List ℕ) → BeginsRecord (table_of uap) (drop from body) fspec items left rest → found ≡ spans (from + length fspec) items → elements_at body found ≡ items
    elements_of fspec items left rest b e =
        ap (elements_at body) e ∙ elements_are body (from + length fspec) items rest (sym (drop-drop (length fspec) from body) ∙ ap (drop (length fspec)) b.whole ∙ drop_at fspec (octets_of items ++ rest) (length fspec) refl)

    in_day : (fspec : List ℕ) (items : List Element) (left rest : List ℕ) → BeginsRecord (table_of uap) (drop from body) fspec items left rest → found ≡ spans (from + length fspec) items → IfSome (time_of uap (elements_at body found)) (λ t. t < day)
        → AllByRecursion (λ p. IsDataItem uap p.number p.octets) items
    in_day fspec items left rest b e t = judged uap items 0 b.are_elements (items_rise fspec items left b.in_order) (subst (λ ps. IfSome (time_of uap ps) (λ t. t < day)) (elements_of fspec items left rest b e) t)

    pub taken : (next : ℕ) → Walks (table_of uap) offset body from found (Ok next) → IfSome (time_of uap (elements_at body found)) (λ t. t < day) → Taken next
    taken next w t = record {
      one = record { fspec = w.fspec; items = w.items };
      is_record = record {
        is_fspec = w.begins.is_field;
        in_order = w.begins.in_order ∙ append-nil _;
        are_items = in_day w.fspec w.items [] (drop next body) w.begins w.found_are t;
      };
      octets = w.begins.whole ∙ sym (append_assoc w.fspec (octets_of w.items) (drop next body));
      items = elements_of w.fspec w.items [] (drop next body) w.begins w.found_are;
      spans_are = w.found_are;
      next_is = omega (arith, w.next_is, length-append w.fspec (octets_of w.items));
    }

    pub refused : (m : Malformed) → from < length body → Walks (table_of uap) offset body from found (Err m) → IfSome (time_of uap (elements_at body found)) (λ t. t < day) → Refused m
    refused m h (body_offset, e, walk_ends f nil i c) t = record {
      inside = length (drop from body);
      none = ends_in_fspec (omega (arith, h, length-drop from body)) f refl c;
      offset_is = omega (arith, e, i, h, length-drop from body);
    }
    refused m h (body_offset, e, walk_spare inside f nil i c) t = record { inside = inside; none = has_spare f c; offset_is = omega (arith, e, i) }
    refused m h (body_offset, e, walk_item f) t = record {
      inside = length f.fspec + length (octets_of f.items) + f.inside;
      none = in_item (record {
        fspec = f.fspec;
        items = f.items;
        number = f.number;
        left = f.left;
        rest = drop f.at body;
        within = f.inside;
        begins = record {
          is_field = f.begins.is_field;
          in_order = f.begins.in_order;
          are_elements = in_day f.fspec f.items (f.number ∷ f.left) (drop f.at body) f.begins f.found_are t;
          whole = f.begins.whole;
        };
        none = no_item f.none;
        inside_is = refl;
      });
      offset_is = omega (arith, e, f.offset_is, f.at_is);
    }

    none_found : (first end : ℕ) → found ≡ [] → span_of (time_frn uap) found ≡ Some (first, end) → ⊥
    none_found first end nil e = let f : ◌≡◌ {A = Option (ℕ × ℕ)} None (Some (first, end)) = sym (ap (span_of (time_frn uap)) nil) ∙ e in cc

    out_of_range_at : (fspec : List ℕ) (items : List Element) (left rest : List ℕ) (first end : ℕ) → BeginsRecord (table_of uap) (drop from body) fspec items left rest → found ≡ spans (from + length fspec) items
        → span_of (time_frn uap) found ≡ Some (first, end) → IsSomeAnd (time_in (take (end - first) (drop first body))) (λ t. day ≤ t) → Refused (record { offset = offset + first; cause = time_range })
    out_of_range_at fspec items left rest first end b e s out_of_range =
        let f = out_of_range_fault uap body from fspec items left rest first end b (ap (span_of (time_frn uap)) (sym e) ∙ s) out_of_range in
        record { inside = f.inside; none = in_item f.fault; offset_is = omega (arith, f.first_is) }

    pub refused_out_of_range : (end : Result ℕ Malformed) (first last : ℕ) → Walks (table_of uap) offset body from found end → span_of (time_frn uap) found ≡ Some (first, last)
        → IsSomeAnd (time_in (take (last - first) (drop first body))) (λ t. day ≤ t) → Refused (record { offset = offset + first; cause = time_range })
    refused_out_of_range (Ok next) first last w s out_of_range = out_of_range_at w.fspec w.items [] (drop next body) first last w.begins w.found_are s out_of_range
    refused_out_of_range (Err m) first last (body_offset, e, walk_ends f nil i c) s out_of_range = absurd (none_found first last nil s)
    refused_out_of_range (Err m) first last (body_offset, e, walk_spare inside f nil i c) s out_of_range = absurd (none_found first last nil s)
    refused_out_of_range (Err m) first last (body_offset, e, walk_item f) s out_of_range = out_of_range_at f.fspec f.items (f.number ∷ f.left) (drop f.at body) first last f.begins f.found_are s out_of_range
