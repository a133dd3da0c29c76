-- Where the items of a record lie, and which of them is a time of day past a day.
use Rattle.std.proofs.Common.{◌≡◌, ◌∙◌, ap, sym, refl, subst, inl, inr, ℕ, ◌+◌, ◌-◌, ◌≤◌, List, [], ◌∷◌, ◌++◌, length, take, drop, arith, append_assoc, length-append, eq-eqb, ne_eqb, Option, Some, None, Result, Ok, Err}
use Rattle.std.specs.Prelude.{if◌then◌else◌, All, IsSomeAnd}
use Rattle.std.specs.List.{AllByRecursion}
use Rattle.std.specs.Option.{option_map}
use Rattle.std.proofs.lemmas.Bool.{cases_eq}
use Rattle.std.proofs.lemmas.List.{drop-drop, drop_at, take_at, map-append}
use Rattle.std.proofs.lemmas.List.Elements.{All-same, All-nil, All-from_recursion}
use Rattle.std.proofs.lemmas.Grind.{flat_map-append}
use Rattle.trk_base.specs.Numbers.{day}
use Rattle.asterix_frame.specs.declared.block.Malformed.{Malformed}
use Rattle.asterix_frame.specs.Causes.{time_range}
use Rattle.asterix_frame.specs.declared.tables.Uap.{Uap}
use Rattle.asterix_frame.specs.Tables.{table_of, time_frn}
use Rattle.asterix_frame.specs.Elements.{Element, numbers, octets_of}
use Rattle.asterix_frame.specs.Items.{IsItem, item_at}
use Rattle.asterix_frame.specs.Records.{BeginsRecord, spans, ends_in_fspec, has_spare, in_item, Walks}
use Rattle.asterix_frame.specs.DataRecords.{item, time_in, IsDataItem, time_out_of_range, FaultyDataItem}
use Rattle.asterix_frame.specs.Bodies.{IsSpan, span_of, element_at, elements_at}
use Rattle.asterix_frame.proofs.DataItems.{item_here, item_later}
use Rattle.asterix_frame.proofs.Walked.{prefix_within}

-- ---- items by offsets

-- the items lie one after the other
pub lie_at : (body : List ℕ) (at : ℕ) (p : Element) (ps : List Element) (rest : List ℕ) → drop at body ≡ octets_of (p ∷ ps) ++ rest
    → (take (length p.octets) (drop at body) ≡ p.octets) × (drop (at + length p.octets) body ≡ octets_of ps ++ rest)
lie_at body at p ps rest e =
    let whole = e ∙ append_assoc p.octets (octets_of ps) rest in (
      ap (take (length p.octets)) whole ∙ take_at p.octets (octets_of ps ++ rest) (length p.octets) refl,
      sym (drop-drop (length p.octets) at body) ∙ ap (drop (length p.octets)) whole ∙ drop_at p.octets (octets_of ps ++ rest) (length p.octets) refl,
    )

pub elements_are : (body : List ℕ) (at : ℕ) (ps : List Element) (rest : List ℕ) → drop at body ≡ octets_of ps ++ rest → elements_at body (spans at ps) ≡ ps
elements_are body at [] rest e = refl
elements_are body at (p ∷ ps) rest e =
    let here = lie_at body at p ps rest e in
    let number : p.number + 1 - 1 ≡ p.number = omega arith in
    let long : at + length p.octets - at ≡ length p.octets = omega arith in
    let octets : take (at + length p.octets - at) (drop at body) ≡ p.octets = ap (λ n. take n (drop at body)) long ∙ here.0 in
    let next = elements_are body (at + length p.octets) ps rest here.1 in
    λ i. record { number = number i; octets = octets i } ∷ next i

-- the item of an FRN is what lies at its body_offset
pub item_is_at : (body : List ℕ) (frn : ℕ) (found : List (ℕ × ℕ × ℕ)) → AllByRecursion (IsSpan body) found → item frn (elements_at body found) ≡ option_map (λ s. take (s.1 - s.0) (drop s.0 body)) (span_of frn found)
item_is_at body frn [] h = refl
item_is_at body frn (s ∷ ss) h =
    let number : s.0 - 1 + 1 ≡ s.0 = omega (arith, h.0.0) in
    elim (cases_eq s.0 frn) [
      | inl same ↦ item_here frn (element_at body s) (elements_at body ss) (number ∙ same) ∙ sym (ap (λ b. option_map (λ s. take (s.1 - s.0) (drop s.0 body)) (if b then Some (s.1, s.2) else span_of frn ss)) (eq-eqb s.0 frn same))
      | inr other ↦
          item_later frn (element_at body s) (elements_at body ss) (λ e. other (sym number ∙ e)) ∙ item_is_at body frn ss h.1
          ∙ sym (ap (λ b. option_map (λ s. take (s.1 - s.0) (drop s.0 body)) (if b then Some (s.1, s.2) else span_of frn ss)) (ne_eqb s.0 frn other))
    ]

-- the item that is found lies in the body
pub span_within : (body : List ℕ) (frn : ℕ) (found : List (ℕ × ℕ × ℕ)) (first last : ℕ) → AllByRecursion (IsSpan body) found → span_of frn found ≡ Some (first, last) → (first ≤ last) × (last ≤ length body)
span_within body frn [] first last h e = absurd (let f : ◌≡◌ {A = Option (ℕ × ℕ)} None (Some (first, last)) = e in cc)
span_within body frn (s ∷ ss) first last h e =
    elim (cases_eq s.0 frn) [
      | inl same ↦
          let f : ◌≡◌ {A = Option (ℕ × ℕ)} (Some (s.1, s.2)) (Some (first, last)) = sym (ap (λ b. if b then Some (s.1, s.2) else span_of frn ss) (eq-eqb s.0 frn same)) ∙ e in
          let pair : ◌≡◌ {A = ℕ × ℕ} (s.1, s.2) (first, last) = cc in
          subst (λ (x : ℕ × ℕ). (x.0 ≤ x.1) × (x.1 ≤ length body)) pair h.0.1
      | inr other ↦ span_within body frn ss first last h.1 (sym (ap (λ b. if b then Some (s.1, s.2) else span_of frn ss) (ne_eqb s.0 frn other)) ∙ e)
    ]

-- ---- the item that is found

-- items, of which the first with that FRN lies there
pub record FoundAt (frn : ℕ) (items : List Element) (at first end : ℕ) : Type 0 where
  pub before : List Element
  pub found : Element
  pub after : List Element
  pub split : items ≡ before ++ found ∷ after
  pub earlier : AllByRecursion (λ p. p.number + 1 ≡ frn → ⊥) before
  pub is_frn : found.number + 1 ≡ frn
  pub first_is : first ≡ at + length (octets_of before)
  pub end_is : end ≡ first + length found.octets

pub found_at : (frn : ℕ) (items : List Element) (at first end : ℕ) → span_of frn (spans at items) ≡ Some (first, end) → FoundAt frn items at first end
found_at frn [] at first end e = absurd (let f : ◌≡◌ {A = Option (ℕ × ℕ)} None (Some (first, end)) = e in cc)
found_at frn (p ∷ ps) at first end e =
    elim (cases_eq (p.number + 1) frn) [
      | inl same ↦
          let f : ◌≡◌ {A = Option (ℕ × ℕ)} (Some (at, at + length p.octets)) (Some (first, end)) = sym (ap (λ b. if b then Some (at, at + length p.octets) else span_of frn (spans (at + length p.octets) ps)) (eq-eqb (p.number + 1) frn same)) ∙ e in
          let pair : ◌≡◌ {A = ℕ × ℕ} (at, at + length p.octets) (first, end) = cc in
          let begin : at ≡ first = ap (λ s. s.0) pair in
          let finish : at + length p.octets ≡ end = ap (λ s. s.1) pair in
          record { before = []; found = p; after = ps; split = refl; earlier = tt; is_frn = same; first_is = omega (arith, begin); end_is = omega (arith, begin, finish) }
      | inr other ↦
          let f : span_of frn (spans (at + length p.octets) ps) ≡ Some (first, end) = sym (ap (λ b. if b then Some (at, at + length p.octets) else span_of frn (spans (at + length p.octets) ps)) (ne_eqb (p.number + 1) frn other)) ∙ e in
          let next = found_at frn ps (at + length p.octets) first end f in
          record {
            before = p ∷ next.before;
            found = next.found;
            after = next.after;
            split = ap (λ t. p ∷ t) next.split;
            earlier = (other, next.earlier);
            is_frn = next.is_frn;
            first_is = omega (arith, next.first_is, length-append p.octets (octets_of next.before));
            end_is = next.end_is;
          }
    ]

-- ---- a time out of range

module _ (uap : Uap) where
  not_times : (before after : List Element) → AllByRecursion (λ p. p.number + 1 ≡ time_frn uap → ⊥) before → AllByRecursion (λ p. IsItem (item_at (table_of uap) p.number) p.octets) (before ++ after)
      → AllByRecursion (λ p. IsDataItem uap p.number p.octets) before × AllByRecursion (λ p. IsItem (item_at (table_of uap) p.number) p.octets) after
  not_times [] after other h = (tt, h)
  not_times (p ∷ ps) after other h =
      let next = not_times ps after other.1 h.1 in
      ((record { whole = h.0; in_day = λ e. absurd (other.0 e) }, next.0), next.1)

  -- the items of a record, of which one is a time out of range
  pub record OutOfRangeFault (octets : List ℕ) (from first : ℕ) : Type 0 where
    pub inside : ℕ
    pub first_is : first ≡ from + inside
    pub fault : FaultyDataItem uap octets inside time_range

  pub out_of_range_fault : (body : List ℕ) (from : ℕ) (fspec : List ℕ) (items : List Element) (left rest : List ℕ) (first end : ℕ) → BeginsRecord (table_of uap) (drop from body) fspec items left rest
      → span_of (time_frn uap) (spans (from + length fspec) items) ≡ Some (first, end) → IsSomeAnd (time_in (take (end - first) (drop first body))) (λ t. day ≤ t) → OutOfRangeFault (drop from body) from first
  out_of_range_fault body from fspec items left rest first end b e out_of_range =
      let f = found_at (time_frn uap) items (from + length fspec) first end e in
      let are = subst (λ t. AllByRecursion (λ p. IsItem (item_at (table_of uap) p.number) p.octets) t) f.split b.are_elements in
      let apart = not_times f.before (f.found ∷ f.after) f.earlier are in
      let encoded : octets_of items ≡ octets_of f.before ++ (f.found.octets ++ octets_of f.after) = ap octets_of f.split ∙ flat_map-append (λ p. p.octets) f.before (f.found ∷ f.after) in
      let whole : drop from body ≡ fspec ++ (octets_of f.before ++ (f.found.octets ++ (octets_of f.after ++ rest))) =
      b.whole ∙ ap (λ t. fspec ++ (t ++ rest)) encoded ∙ ap (λ t. fspec ++ t) (append_assoc (octets_of f.before) (f.found.octets ++ octets_of f.after) rest ∙ ap (λ t. octets_of f.before ++ t) (append_assoc f.found.octets (octets_of f.after) rest)) in
      let after : drop first body ≡ f.found.octets ++ (octets_of f.after ++ rest) =
      ap (λ k. drop k body) (f.first_is ∙ sym_sum from (length fspec) (length (octets_of f.before))) ∙ sym (drop-drop (length fspec + length (octets_of f.before)) from body) ∙ ap (drop (length fspec + length (octets_of f.before))) (whole ∙ sym (append_assoc fspec (octets_of f.before) (f.found.octets ++ (octets_of f.after ++ rest))))
      ∙ drop_at (fspec ++ octets_of f.before) (f.found.octets ++ (octets_of f.after ++ rest)) (length fspec + length (octets_of f.before)) (length-append fspec (octets_of f.before)) in
      let long : end - first ≡ length f.found.octets = omega (arith, f.end_is) in
      let time : take (end - first) (drop first body) ≡ f.found.octets = ap (λ k. take k (drop first body)) long ∙ ap (take (length f.found.octets)) after ∙ take_at f.found.octets (octets_of f.after ++ rest) (length f.found.octets) refl in
      record {
        inside = length fspec + length (octets_of f.before);
        first_is = omega (arith, f.first_is);
        fault = record {
          fspec = fspec;
          items = f.before;
          number = f.found.number;
          left = numbers f.after ++ left;
          rest = f.found.octets ++ (octets_of f.after ++ rest);
          within = 0;
          begins = record {
            is_field = b.is_field;
            in_order = b.in_order ∙ ap (λ t. t ++ left) (ap numbers f.split ∙ map-append (λ (p : Element). p.number) f.before (f.found ∷ f.after)) ∙ append_assoc (numbers f.before) (numbers (f.found ∷ f.after)) left;
            are_elements = apart.0;
            whole = whole;
          };
          none = time_out_of_range (record {
            time = f.found.octets;
            rest = octets_of f.after ++ rest;
            is_time = f.is_frn;
            is_item = apart.1.0;
            begins = refl;
            out_of_range = subst (λ o. IsSomeAnd (time_in o) (λ t. day ≤ t)) time out_of_range;
          }) refl refl;
          inside_is = omega arith;
        };
      } where
        sym_sum : (a b c : ℕ) → a + b + c ≡ a + (b + c)
        sym_sum a b c = omega arith

-- ---- the offsets lie in the body

are_spans : (body : List ℕ) (at : ℕ) (ps : List Element) → at + length (octets_of ps) ≤ length body → AllByRecursion (IsSpan body) (spans at ps)
are_spans body at [] h = tt
are_spans body at (p ∷ ps) h =
    let long = length-append p.octets (octets_of ps) in
    ((omega arith, (omega arith, omega (arith, long, h))), are_spans body (at + length p.octets) ps (omega (arith, long, h)))

module _ (uap : Uap) (body : List ℕ) (from : ℕ) where
  prefix_spans : (found : List (ℕ × ℕ × ℕ)) (fspec : List ℕ) (items : List Element) (left rest : List ℕ) → BeginsRecord (table_of uap) (drop from body) fspec items left rest → found ≡ spans (from + length fspec) items → All (IsSpan body) found
  prefix_spans found fspec items left rest b e =
      All-same (IsSpan body) found (spans (from + length fspec) items) e (All-from_recursion (IsSpan body) (spans (from + length fspec) items) (are_spans body (from + length fspec) items (prefix_within (table_of uap) body from fspec items left rest b).1))

  pub walk_spans : (offset : ℕ) (found : List (ℕ × ℕ × ℕ)) (end : Result ℕ Malformed) → Walks (table_of uap) offset body from found end → All (IsSpan body) found
  walk_spans offset found (Ok next) w = prefix_spans found w.fspec w.items [] (drop next body) w.begins w.found_are
  walk_spans offset found (Err m) (body_offset, e, ends_in_fspec h nil f g) = All-same (IsSpan body) found [] nil (All-nil (IsSpan body))
  walk_spans offset found (Err m) (body_offset, e, has_spare inside h nil f g) = All-same (IsSpan body) found [] nil (All-nil (IsSpan body))
  walk_spans offset found (Err m) (body_offset, e, in_item h) = prefix_spans found h.fspec h.items (h.number ∷ h.left) (drop h.at body) h.begins h.found_are
