-- The items of a record, one by one, and where they lie.
use Rattle.std.proofs.Common.{◌≡◌, ◌∙◌, ap, sym, refl, ℕ, ◌+◌, ◌<◌, ◌≤◌, List, [], ◌∷◌, ◌++◌, length, take, drop, arith, append_assoc, length-append, length-drop, Result, Ok, Err}
use Rattle.std.specs.Prelude.{All, IfOk}
use Rattle.std.specs.List.{AllByRecursion}
use Rattle.std.proofs.lemmas.List.{drop-drop, drop_at, take_at}
use Rattle.std.proofs.lemmas.List.Elements.{All-same, All-nil, All-from_recursion}
use Rattle.asterix_frame.specs.declared.block.Malformed.{Malformed}
use Rattle.asterix_frame.specs.declared.tables.ItemFormat.{ItemFormat}
use Rattle.asterix_frame.specs.Elements.{Element, octets_of}
use Rattle.asterix_frame.specs.Records.{BeginsRecord, LiesIn, spans, HasRecord, ends_in_fspec, has_spare, in_item, Walks}

pub spans_more : (at : ℕ) (ps : List Element) (p : Element) (first end : ℕ) → first ≡ at + length (octets_of ps) → end ≡ first + length p.octets → spans at (ps ++ p ∷ []) ≡ spans at ps ++ (p.number + 1, first, end) ∷ []
spans_more at [] p first end e f =
    let begin : at ≡ first = omega arith in
    let finish : at + length p.octets ≡ end = omega arith in
    λ i. (p.number + 1, begin i, finish i) ∷ []
spans_more at (q ∷ ps) p first end e f =
    ap (λ t. (q.number + 1, at, at + length q.octets) ∷ t) (spans_more (at + length q.octets) ps p first end (omega (arith, length-append q.octets (octets_of ps))) f)

-- what is left after a body_offset of what is left
pub left_at : (body : List ℕ) (from end : ℕ) → drop end (drop from body) ≡ drop (from + end) body
left_at body from end = drop-drop end from body

-- ---- where the items lie

spans_lie : (body : List ℕ) (at : ℕ) (ps : List Element) → at + length (octets_of ps) ≤ length body → AllByRecursion (LiesIn body) (spans at ps)
spans_lie body at [] h = tt
spans_lie body at (p ∷ ps) h =
    let long = length-append p.octets (octets_of ps) in
    ((omega arith, omega (arith, long, h)), spans_lie body (at + length p.octets) ps (omega (arith, long, h)))

-- A prefix of a record lies in the body.
pub prefix_within : (table : List ItemFormat) (body : List ℕ) (from : ℕ) (fspec : List ℕ) (items : List Element) (left rest : List ℕ) → BeginsRecord table (drop from body) fspec items left rest
    → (0 < length fspec) × (from + length fspec + length (octets_of items) ≤ length body)
prefix_within table body from fspec items left rest b =
    let some = b.is_field.extended.some in
    let long = ap length b.whole in
    (some, omega (arith, some, long, length-drop from body, length-append fspec (octets_of items ++ rest), length-append (octets_of items) rest))

spans_in : (table : List ItemFormat) (body : List ℕ) (from : ℕ) (found : List (ℕ × ℕ × ℕ)) (fspec : List ℕ) (items : List Element) (left rest : List ℕ) → BeginsRecord table (drop from body) fspec items left rest
    → found ≡ spans (from + length fspec) items → All (LiesIn body) found
spans_in table body from found fspec items left rest b e =
    All-same (LiesIn body) found (spans (from + length fspec) items) e (All-from_recursion (LiesIn body) (spans (from + length fspec) items) (spans_lie body (from + length fspec) items (prefix_within table body from fspec items left rest b).1))

pub walk_within : (table : List ItemFormat) (offset : ℕ) (body : List ℕ) (from : ℕ) (found : List (ℕ × ℕ × ℕ)) (end : Result ℕ Malformed) → Walks table offset body from found end → All (LiesIn body) found
walk_within table offset body from found (Ok next) w = spans_in table body from found w.fspec w.items [] (drop next body) w.begins w.found_are
walk_within table offset body from found (Err m) (body_offset, e, ends_in_fspec h nil f g) = All-same (LiesIn body) found [] nil (All-nil (LiesIn body))
walk_within table offset body from found (Err m) (body_offset, e, has_spare inside h nil f g) = All-same (LiesIn body) found [] nil (All-nil (LiesIn body))
walk_within table offset body from found (Err m) (body_offset, e, in_item h) = spans_in table body from found h.fspec h.items (h.number ∷ h.left) (drop h.at body) h.begins h.found_are

pub record_advances : (table : List ItemFormat) (body : List ℕ) (from : ℕ) (found : List (ℕ × ℕ × ℕ)) (next : ℕ) → HasRecord table body from found next → (from < next) × (next ≤ length body)
record_advances table body from found next h =
    let within = prefix_within table body from h.fspec h.items [] (drop next body) h.begins in
    (omega (arith, within.0, h.next_is), omega (arith, within.1, h.next_is))

pub walk_advances : (table : List ItemFormat) (offset : ℕ) (body : List ℕ) (from : ℕ) (found : List (ℕ × ℕ × ℕ)) (end : Result ℕ Malformed) → Walks table offset body from found end → IfOk end (λ next. (from < next) × (next ≤ length body))
walk_advances table offset body from found (Ok next) w = record_advances table body from found next w
walk_advances table offset body from found (Err m) w = tt

-- ---- what lies there

-- the spans are those of the elements, with their octets
abbrev pub AreSpansOf : List ℕ → List (ℕ × ℕ × ℕ) → List Element → Type 0
AreSpansOf body [] [] = Unit {0}
AreSpansOf body (s ∷ ss) (p ∷ ps) = (s.0 ≡ p.number + 1) × (s.2 ≡ s.1 + length p.octets) × (take (length p.octets) (drop s.1 body) ≡ p.octets) × AreSpansOf body ss ps
AreSpansOf body _ _ = ⊥

pub spans_of : (body : List ℕ) (at : ℕ) (ps : List Element) (rest : List ℕ) → drop at body ≡ octets_of ps ++ rest → AreSpansOf body (spans at ps) ps
spans_of body at [] rest e = tt
spans_of body at (p ∷ ps) rest e =
    let whole = e ∙ append_assoc p.octets (octets_of ps) rest in
    let next : drop (at + length p.octets) body ≡ octets_of ps ++ rest = sym (drop-drop (length p.octets) at body) ∙ ap (drop (length p.octets)) whole ∙ drop_at p.octets (octets_of ps ++ rest) (length p.octets) refl in
    (refl, refl, ap (take (length p.octets)) whole ∙ take_at p.octets (octets_of ps ++ rest) (length p.octets) refl, spans_of body (at + length p.octets) ps rest next)

-- the items of a prefix of a record
pub prefix_spans : (table : List ItemFormat) (body : List ℕ) (from : ℕ) (fspec : List ℕ) (items : List Element) (left rest : List ℕ) → BeginsRecord table (drop from body) fspec items left rest → AreSpansOf body (spans (from + length fspec) items) items
prefix_spans table body from fspec items left rest b =
    spans_of body (from + length fspec) items rest (sym (drop-drop (length fspec) from body) ∙ ap (drop (length fspec)) b.whole ∙ drop_at fspec (octets_of items ++ rest) (length fspec) refl)
