-- A offset of a body begins one record, or has one fault.
use Rattle.std.proofs.Common.{◌≡◌, ◌∙◌, ap, sym, refl, subst, inl, inr, ℕ, ◌+◌, List, [], ◌∷◌, ◌++◌, length, drop, Result, Ok, Err}
use Rattle.asterix_frame.specs.declared.block.Malformed.{Malformed}
use Rattle.asterix_frame.specs.declared.tables.ItemFormat.{ItemFormat}
use Rattle.asterix_frame.specs.Presence.{EndsInField, HasSpare}
use Rattle.asterix_frame.specs.Elements.{Element, octets_of}
use Rattle.asterix_frame.specs.Items.{IsItem, BeginsNoItem, item_at}
use Rattle.asterix_frame.specs.Records.{knows, BeginsRecord, spans, HasRecord, FaultyItem, RecordFault, ends_in_fspec, has_spare, in_item, Walks}
use Rattle.asterix_frame.proofs.Codes.{field_not_ends, field_not_spare, ends_not_spare, one_spare, Stops, begins_same}
use Rattle.asterix_frame.proofs.ItemCodes.{item_code}

-- where a walk may stop: at the record's end, or where the next item begins nowhere
abbrev pub RecordStops : List ItemFormat → List ℕ → List ℕ → Type 0
RecordStops table = Stops (knows table) (λ n octets. IsItem (item_at table n) octets) (λ n. BeginsNoItem (item_at table n)) (λ n. item_code (item_at table n))

-- The octets of a record give its FSPEC and its items.
pub record_same : (table : List ItemFormat) (octets f g : List ℕ) (ps qs : List Element) (left left' rest rest' : List ℕ) → BeginsRecord table octets f ps left rest → BeginsRecord table octets g qs left' rest'
    → RecordStops table left rest → RecordStops table left' rest' → (f ≡ g) × (ps ≡ qs) × (left ≡ left') × (rest ≡ rest')
record_same table octets f g ps qs left left' rest rest' b c s s' =
    begins_same (knows table) (λ n octets. IsItem (item_at table n) octets) (λ n. BeginsNoItem (item_at table n)) (λ n. item_code (item_at table n)) octets f g ps qs left left' rest rest' b c s s'

pub whole_stops : (table : List ItemFormat) (rest : List ℕ) → RecordStops table [] rest
whole_stops table rest = record { stops = inl refl }

pub fault_stops : (table : List ItemFormat) (n : ℕ) (more rest : List ℕ) (inside cause : ℕ) → BeginsNoItem (item_at table n) rest inside cause → RecordStops table (n ∷ more) rest
fault_stops table n more rest inside cause h = record { stops = inr (n, more, inside, cause, refl, h) }

module _ (table : List ItemFormat) (body : List ℕ) (from : ℕ) where
  prefix_not_ends : (f : List ℕ) (ps : List Element) (left rest : List ℕ) → BeginsRecord table (drop from body) f ps left rest → EndsInField (knows table) (drop from body) → ⊥
  prefix_not_ends f ps left rest b h = field_not_ends (knows table) f (octets_of ps ++ rest) b.is_field (subst (λ t. EndsInField (knows table) t) b.whole h)

  prefix_not_spare : (f : List ℕ) (ps : List Element) (left rest : List ℕ) (offset : ℕ) → BeginsRecord table (drop from body) f ps left rest → HasSpare (knows table) (drop from body) offset → ⊥
  prefix_not_spare f ps left rest offset b h = field_not_spare (knows table) f (octets_of ps ++ rest) offset b.is_field (subst (λ t. HasSpare (knows table) t offset) b.whole h)

  pub one_record : (found found' : List (ℕ × ℕ × ℕ)) (next next' : ℕ) → HasRecord table body from found next → HasRecord table body from found' next' → (found ≡ found') × (next ≡ next')
  one_record found found' next next' a b =
      let same = record_same table (drop from body) a.fspec b.fspec a.items b.items [] [] (drop next body) (drop next' body) a.begins b.begins (whole_stops table (drop next body)) (whole_stops table (drop next' body)) in (
        a.found_are ∙ (λ i. spans (from + length (same.0 i)) (same.1 i)) ∙ sym b.found_are,
        a.next_is ∙ (λ i. from + length (same.0 i) + length (octets_of (same.1 i))) ∙ sym b.next_is,
      )

  pub record_no_fault : (found found' : List (ℕ × ℕ × ℕ)) (next offset cause : ℕ) → HasRecord table body from found next → RecordFault table body from found' offset cause → ⊥
  record_no_fault found found' next offset cause a (ends_in_fspec h e f g) = prefix_not_ends a.fspec a.items [] (drop next body) a.begins h
  record_no_fault found found' next offset cause a (has_spare inside h e f g) = prefix_not_spare a.fspec a.items [] (drop next body) inside a.begins h
  record_no_fault found found' next offset cause a (in_item h) =
      let same = record_same table (drop from body) a.fspec h.fspec a.items h.items [] (h.number ∷ h.left) (drop next body) (drop h.at body) a.begins h.begins (whole_stops table (drop next body)) (fault_stops table h.number h.left (drop h.at body) h.inside cause h.none) in
      let e = same.2 in
      cc

  one_faulty_item : (found found' : List (ℕ × ℕ × ℕ)) (offset offset' cause cause' : ℕ) → FaultyItem table body from found offset cause → FaultyItem table body from found' offset' cause' → (found ≡ found') × (offset ≡ offset') × (cause ≡ cause')
  one_faulty_item found found' offset offset' cause cause' a b =
      let same = record_same table (drop from body) a.fspec b.fspec a.items b.items (a.number ∷ a.left) (b.number ∷ b.left) (drop a.at body) (drop b.at body) a.begins b.begins (fault_stops table a.number a.left (drop a.at body) a.inside cause a.none) (fault_stops table b.number b.left (drop b.at body) b.inside cause' b.none) in
      let left = same.2 in
      let number : a.number ≡ b.number = cc in
      let none : BeginsNoItem (item_at table b.number) (drop b.at body) a.inside cause = subst (λ n. BeginsNoItem (item_at table n) (drop b.at body) a.inside cause) number (subst (λ t. BeginsNoItem (item_at table a.number) t a.inside cause) same.3 a.none) in
      let fault = (item_code (item_at table b.number)).one_fault (drop b.at body) a.inside cause b.inside cause' none b.none in
      let at : a.at ≡ b.at = a.at_is ∙ (λ i. from + length (same.0 i) + length (octets_of (same.1 i))) ∙ sym b.at_is in (
        a.found_are ∙ (λ i. spans (from + length (same.0 i)) (same.1 i)) ∙ sym b.found_are,
        a.offset_is ∙ (λ i. at i + fault.0 i) ∙ sym b.offset_is,
        fault.1,
      )

  pub one_record_fault : (found found' : List (ℕ × ℕ × ℕ)) (offset offset' cause cause' : ℕ) → RecordFault table body from found offset cause → RecordFault table body from found' offset' cause' → (found ≡ found') × (offset ≡ offset') × (cause ≡ cause')
  one_record_fault found found' offset offset' cause cause' (ends_in_fspec h e f g) (ends_in_fspec h' e' f' g') = (e ∙ sym e', f ∙ sym f', g ∙ sym g')
  one_record_fault found found' offset offset' cause cause' (ends_in_fspec h e f g) (has_spare inside h' e' f' g') = absurd (ends_not_spare (knows table) (drop from body) inside h h')
  one_record_fault found found' offset offset' cause cause' (ends_in_fspec h e f g) (in_item b) = absurd (prefix_not_ends b.fspec b.items (b.number ∷ b.left) (drop b.at body) b.begins h)
  one_record_fault found found' offset offset' cause cause' (has_spare inside h e f g) (ends_in_fspec h' e' f' g') = absurd (ends_not_spare (knows table) (drop from body) inside h' h)
  one_record_fault found found' offset offset' cause cause' (has_spare inside h e f g) (has_spare inside' h' e' f' g') =
      (e ∙ sym e', f ∙ ap (λ k. from + k) (one_spare (knows table) (drop from body) inside inside' h h') ∙ sym f', g ∙ sym g')
  one_record_fault found found' offset offset' cause cause' (has_spare inside h e f g) (in_item b) = absurd (prefix_not_spare b.fspec b.items (b.number ∷ b.left) (drop b.at body) inside b.begins h)
  one_record_fault found found' offset offset' cause cause' (in_item a) (ends_in_fspec h' e' f' g') = absurd (prefix_not_ends a.fspec a.items (a.number ∷ a.left) (drop a.at body) a.begins h')
  one_record_fault found found' offset offset' cause cause' (in_item a) (has_spare inside h' e' f' g') = absurd (prefix_not_spare a.fspec a.items (a.number ∷ a.left) (drop a.at body) inside a.begins h')
  one_record_fault found found' offset offset' cause cause' (in_item a) (in_item b) = one_faulty_item found found' offset offset' cause cause' a b

  -- A walk has one answer.
  pub one_walk : (offset : ℕ) (found found' : List (ℕ × ℕ × ℕ)) (end end' : Result ℕ Malformed) → Walks table offset body from found end → Walks table offset body from found' end' → (found ≡ found') × (end ≡ end')
  one_walk offset found found' (Ok next) (Ok next') a b = let same = one_record found found' next next' a b in (same.0, ap Ok same.1)
  one_walk offset found found' (Ok next) (Err m) a b = absurd (record_no_fault found found' next b.0 m.cause a b.2)
  one_walk offset found found' (Err m) (Ok next) a b = absurd (record_no_fault found' found next a.0 m.cause b a.2)
  one_walk offset found found' (Err m) (Err m') a b =
      let same = one_record_fault found found' a.0 b.0 m.cause m'.cause a.2 b.2 in
      let offsets : m.offset ≡ m'.offset = a.1 ∙ ap (λ k. offset + k) same.1 ∙ sym b.1 in
      (same.0, λ i. Err (record { offset = offsets i; cause = same.2 i }))
