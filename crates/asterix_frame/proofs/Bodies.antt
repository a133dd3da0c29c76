-- A body has exactly one reading: it is whole records, or has one first fault.
use Rattle.std.proofs.Common.{◌≡◌, ◌∙◌, ap, sym, refl, subst, inl, inr, ℕ, ◌+◌, ◌-◌, ◌<◌, ◌≤◌, ◌⊎◌, List, [], ◌∷◌, ◌++◌, length, map, take, drop, arith, append_assoc, append-nil, length-append, Option, Some, None, Result, Ok, Err}
use Rattle.std.specs.Prelude.{All, IfSome, IsSomeAnd}
use Rattle.std.specs.List.{AllByRecursion}
use Rattle.std.specs.Option.{option_map, option_and_then}
use Rattle.std.proofs.lemmas.Bool.{cases_lt}
use Rattle.std.proofs.lemmas.List.{drop_all}
use Rattle.std.proofs.lemmas.List.Elements.{recursion_from_All, All-nil, All-push}
use Rattle.std.proofs.lemmas.Grind.{flat_map-append}
use Rattle.trk_base.specs.Numbers.{day}
use Rattle.asterix_frame.specs.declared.block.Block.{Block}
use Rattle.asterix_frame.specs.declared.block.Malformed.{Malformed}
use Rattle.asterix_frame.specs.declared.walk.ItemSpans.{ItemSpans}
use Rattle.asterix_frame.specs.Causes.{time_range}
use Rattle.asterix_frame.specs.declared.tables.Uap.{Uap}
use Rattle.asterix_frame.specs.Tables.{table_of, time_frn}
use Rattle.asterix_frame.specs.Records.{Walks}
use Rattle.asterix_frame.specs.DataRecords.{time_in, time_of, DataRecord, record_octets, IsDataRecord, BeginsNoDataRecord}
use Rattle.asterix_frame.specs.Bodies.{IsSpan, span_of, elements_at, AreDataRecords, IsBody, BodyFault, body_of, HasDataRecord, HaveDataRecords, HasRecords, AreSpans, IsFaultFrom, IsFaultOfBody, IsTimeOutOfRange}
use Rattle.asterix_frame.proofs.Sequences as sequences
use Rattle.asterix_frame.proofs.Placed.{item_is_at, walk_spans}
use Rattle.asterix_frame.proofs.DataRecordCodes.{record_code, Taken, Refused, taken, refused, refused_out_of_range}
use Rattle.asterix_frame.proofs.Totals.{some_walk}

-- ---- one reading

module _ (uap : Uap) where
  abbrev WholeBody : List ℕ → List DataRecord → Type 0
  WholeBody = sequences.Whole DataRecord record_octets (IsDataRecord uap) (BeginsNoDataRecord uap)

  abbrev FaultyBody : List ℕ → ℕ → ℕ → Type 0
  FaultyBody = sequences.FirstFault DataRecord record_octets (IsDataRecord uap) (BeginsNoDataRecord uap)

  to_whole : (body : List ℕ) (rs : List DataRecord) → IsBody uap body rs → WholeBody body rs
  to_whole body rs h = record { all = h.are_records; whole = h.whole }

  to_fault : (body : List ℕ) (p c : ℕ) → BodyFault uap body p c → FaultyBody body p c
  to_fault body p c f = record { prefix = f.prefix; rest = f.rest; inside = f.inside; all = f.are_records; whole = f.whole; none = f.none; offset_is = f.offset_is }

  pub one_list : (body : List ℕ) (rs rs' : List DataRecord) → IsBody uap body rs → IsBody uap body rs' → rs ≡ rs'
  one_list body rs rs' a b = sequences.one_list DataRecord record_octets (IsDataRecord uap) (BeginsNoDataRecord uap) (record_code uap) body rs rs' (to_whole body rs a) (to_whole body rs' b)

  pub one_fault : (body : List ℕ) (p c p' c' : ℕ) → BodyFault uap body p c → BodyFault uap body p' c' → (p ≡ p') × (c ≡ c')
  one_fault body p c p' c' f g = sequences.one_fault DataRecord record_octets (IsDataRecord uap) (BeginsNoDataRecord uap) (record_code uap) body p c p' c' (to_fault body p c f) (to_fault body p' c' g)

  pub not_both : (body : List ℕ) (rs : List DataRecord) (p c : ℕ) → IsBody uap body rs → BodyFault uap body p c → ⊥
  not_both body rs p c a f = sequences.not_both DataRecord record_octets (IsDataRecord uap) (BeginsNoDataRecord uap) (record_code uap) body rs p c (to_whole body rs a) (to_fault body p c f)

  -- ---- there is one

  -- the time of day among the items found is below a day, or there is one out of range
  module _ (body : List ℕ) (found : List (ℕ × ℕ × ℕ)) (spans : AllByRecursion (IsSpan body) found) where
    abbrev OutOfRange : Type 0
    OutOfRange = (first : ℕ) × IsTimeOutOfRange uap body found first

    pub time_is : time_of uap (elements_at body found) ≡ option_and_then time_in (option_map (λ s. take (s.1 - s.0) (drop s.0 body)) (span_of (time_frn uap) found))
    time_is = ap (option_and_then time_in) (item_is_at body (time_frn uap) found spans)

    judge_time : (o : Option ℕ) → IfSome o (λ t. t < day) ⊎ IsSomeAnd o (λ t. day ≤ t)
    judge_time None = inl tt
    judge_time (Some t) = cases_lt t day

    pub no_time : span_of (time_frn uap) found ≡ None → time_of uap (elements_at body found) ≡ None
    no_time e = time_is ∙ ap (λ s. option_and_then time_in (option_map (λ s. take (s.1 - s.0) (drop s.0 body)) s)) e

    pub time_at : (first last : ℕ) → span_of (time_frn uap) found ≡ Some (first, last) → time_of uap (elements_at body found) ≡ time_in (take (last - first) (drop first body))
    time_at first last e = time_is ∙ ap (λ s. option_and_then time_in (option_map (λ s. take (s.1 - s.0) (drop s.0 body)) s)) e

    judge_at : (o : Option (ℕ × ℕ)) → span_of (time_frn uap) found ≡ o → IfSome (time_of uap (elements_at body found)) (λ t. t < day) ⊎ OutOfRange
    judge_at None e = inl (subst (λ o. IfSome o (λ t. t < day)) (sym (no_time e)) tt)
    judge_at (Some (first, last)) e =
        elim (judge_time (time_in (take (last - first) (drop first body)))) [
          | inl early ↦ inl (subst (λ o. IfSome o (λ t. t < day)) (sym (time_at first last e)) early)
          | inr out_of_range ↦ inr (first, record { end = last; at = e; out_of_range = out_of_range })
        ]

    pub judge : IfSome (time_of uap (elements_at body found)) (λ t. t < day) ⊎ OutOfRange
    judge = judge_at (span_of (time_frn uap) found) refl

  abbrev BodyStep : List ℕ → Type 0
  BodyStep o = sequences.Step DataRecord record_octets (IsDataRecord uap) (BeginsNoDataRecord uap) (record_code uap) (λ _. Unit {0}) o

  step_refused : (o : List ℕ) (offset : ℕ) (found : List (ℕ × ℕ × ℕ)) (m : Malformed) → Refused uap o 0 offset found m → BodyStep o
  step_refused o offset found m r = record { step = inr (r.inside, m.cause, r.none) }

  step_of : (o : List ℕ) (found : List (ℕ × ℕ × ℕ)) (end : Result ℕ Malformed) → 0 < length o → Walks (table_of uap) 0 o 0 found end → IfSome (time_of uap (elements_at o found)) (λ t. t < day) → BodyStep o
  step_of o found (Ok next) h w t = let r = taken uap o 0 0 found next w t in record { step = inl (r.one, drop next o, r.is_record, r.octets, tt) }
  step_of o found (Err m) h w t = step_refused o 0 found m (refused uap o 0 0 found m h w t)

  step : (o : List ℕ) → Unit {0} → 0 < length o → BodyStep o
  step o good h =
      let walk = some_walk (table_of uap) 0 o 0 in
      let spans = recursion_from_All (IsSpan o) walk.0 (walk_spans uap o 0 0 walk.0 walk.1 walk.2) in
      elim (judge o walk.0 spans) [
        | inl early ↦ step_of o walk.0 walk.1 h walk.2 early
        | inr out_of_range ↦ step_refused o 0 walk.0 _ (refused_out_of_range uap o 0 0 walk.0 walk.1 out_of_range.0 out_of_range.1.end walk.2 out_of_range.1.at out_of_range.1.out_of_range)
      ]

  pub some_reading : (body : List ℕ) → ((rs : List DataRecord) × IsBody uap body rs) ⊎ ((p : ℕ) × (c : ℕ) × BodyFault uap body p c)
  some_reading body =
      elim (sequences.some_reading DataRecord record_octets (IsDataRecord uap) (BeginsNoDataRecord uap) (record_code uap) (λ _. Unit {0}) step (length body) body (omega arith) tt).reading [
        | inl (rs, w) ↦ inl (rs, record { are_records = w.all; whole = w.whole })
        | inr (p, c, f) ↦ inr (p, c, record { prefix = f.prefix; rest = f.rest; inside = f.inside; are_records = f.all; whole = f.whole; none = f.none; offset_is = f.offset_is })
      ]

  -- ---- one record

  -- the walk's answer as that of a record
  record_at : (body : List ℕ) (from offset : ℕ) (s : ItemSpans) → Taken uap body from offset s.frns.items s.next → (r : DataRecord) × HasDataRecord uap body from r s
  record_at body from offset s t = (t.one, record { is_record = t.is_record; octets = t.octets; items = t.items; spans_are = t.spans_are; next = t.next_is })

  fault_from : (block : Block) (from : ℕ) (found : List (ℕ × ℕ × ℕ)) (m : Malformed) → Refused uap block.body.now from block.at found m → IsFaultFrom uap block from m
  fault_from block from found m r = record { inside = r.inside; none = r.none; offset_is = r.offset_is }

  pub out_of_range_from : (block : Block) (from : ℕ) (found seen : List (ℕ × ℕ × ℕ)) (end : Result ℕ Malformed) (first : ℕ) → Walks (table_of uap) block.at block.body.now from found end → seen ≡ found → IsTimeOutOfRange uap block.body.now seen first
      → IsFaultFrom uap block from (record { offset = block.at + first; cause = time_range })
  out_of_range_from block from found seen end first w e h =
      let out_of_range = subst (λ found. IsTimeOutOfRange uap block.body.now found first) e h in
      fault_from block from found (record { offset = block.at + first; cause = time_range }) (refused_out_of_range uap block.body.now from block.at found end first out_of_range.end w out_of_range.at out_of_range.out_of_range)

  early_at : (body : List ℕ) (found seen : List (ℕ × ℕ × ℕ)) → seen ≡ found → IfSome (time_of uap (elements_at body seen)) (λ t. t < day) → IfSome (time_of uap (elements_at body found)) (λ t. t < day)
  early_at body found seen e t = subst (λ found. IfSome (time_of uap (elements_at body found)) (λ t. t < day)) e t

  pub record_from : (block : Block) (from : ℕ) (s : ItemSpans) (seen : List (ℕ × ℕ × ℕ)) (end : Result ℕ Malformed) → Walks (table_of uap) block.at block.body.now from s.frns.items end → end ≡ Ok s.next → seen ≡ s.frns.items
      → IfSome (time_of uap (elements_at block.body.now seen)) (λ t. t < day) → (r : DataRecord) × HasDataRecord uap block.body.now from r s
  record_from block from s seen end w is e t =
      record_at block.body.now from block.at s (taken uap block.body.now from block.at s.frns.items s.next (subst (λ end. Walks (table_of uap) block.at block.body.now from s.frns.items end) is w) (early_at block.body.now s.frns.items seen e t))

  pub refused_from : (block : Block) (from : ℕ) (found seen : List (ℕ × ℕ × ℕ)) (end : Result ℕ Malformed) (m : Malformed) → from < length block.body.now → Walks (table_of uap) block.at block.body.now from found end → end ≡ Err m → seen ≡ found
      → IfSome (time_of uap (elements_at block.body.now seen)) (λ t. t < day) → IsFaultFrom uap block from m
  refused_from block from found seen end m h w is e t =
      fault_from block from found m (refused uap block.body.now from block.at found m h (subst (λ end. Walks (table_of uap) block.at block.body.now from found end) is w) (early_at block.body.now found seen e t))

  -- an offset begins one record at most, or has one fault
  pub only_record : (body : List ℕ) (from : ℕ) (s : ItemSpans) (r : DataRecord) (rest : List ℕ) → (q : DataRecord) × HasDataRecord uap body from q s → IsDataRecord uap r → drop from body ≡ record_octets r ++ rest → HasDataRecord uap body from r s
  only_record body from s r rest (q, h) k e =
      let same = (record_code uap).same q r (drop s.next body) rest h.is_record k (sym h.octets ∙ e) in
      subst (λ r. HasDataRecord uap body from r s) same.0 h

  pub record_or_fault : (block : Block) (from : ℕ) (m : Malformed) (r : DataRecord) (rest : List ℕ) → IsFaultFrom uap block from m → IsDataRecord uap r → drop from block.body.now ≡ record_octets r ++ rest → ⊥
  record_or_fault block from m r rest f k e = (record_code uap).not_none r rest f.inside m.cause k (subst (λ t. BeginsNoDataRecord uap t f.inside m.cause) e f.none)

  pub same_fault_from : (block : Block) (from : ℕ) (m n : Malformed) → IsFaultFrom uap block from m → IsFaultFrom uap block from n → m ≡ n
  same_fault_from block from m n f g =
      let one = (record_code uap).one_fault (drop from block.body.now) f.inside m.cause g.inside n.cause f.none g.none in
      let offset : m.offset ≡ n.offset = f.offset_is ∙ ap (λ k. block.at + from + k) one.0 ∙ sym g.offset_is in
      λ i. record { offset = offset i; cause = one.1 i }

  -- ---- records, one by one

  pub have_push : (body : List ℕ) (from : ℕ) (rs : List DataRecord) (found : List ItemSpans) (r : DataRecord) (s : ItemSpans) → HaveDataRecords uap body from rs found
      → HasDataRecord uap body (from + length (body_of rs)) r s → HaveDataRecords uap body from (rs ++ r ∷ []) (found ++ s ∷ [])
  have_push body from [] [] r s h k = (subst (λ n. HasDataRecord uap body n r s) (omega arith) k, tt)
  have_push body from [] (t ∷ ts) r s h k = absurd h
  have_push body from (q ∷ qs) [] r s h k = absurd h
  have_push body from (q ∷ qs) (t ∷ ts) r s h k =
      (h.0, have_push body t.next qs ts r s h.1 (subst (λ n. HasDataRecord uap body n r s) (omega (arith, h.0.next, length-append (record_octets q) (body_of qs))) k))

  -- what lies at the offsets found are the records' items
  pub have_items : (body : List ℕ) (from : ℕ) (rs : List DataRecord) (found : List ItemSpans) → HaveDataRecords uap body from rs found → map (λ s. elements_at body s.frns.items) found ≡ map (λ r. r.items) rs
  have_items body from [] [] h = refl
  have_items body from [] (t ∷ ts) h = absurd h
  have_items body from (q ∷ qs) [] h = absurd h
  have_items body from (q ∷ qs) (t ∷ ts) h = let next = have_items body t.next qs ts h.1 in λ i. h.0.items i ∷ next i

  -- the records before an offset, as they were found
  pub record SoFar (body : List ℕ) (from : ℕ) (found : List ItemSpans) : Type 0 where
    pub prefix : List DataRecord
    pub are_records : AreDataRecords uap prefix
    pub whole : body ≡ body_of prefix ++ drop from body
    pub from_is : from ≡ length (body_of prefix)
    pub within : from ≤ length body
    pub have : HaveDataRecords uap body 0 prefix found
    pub spans : All (AreSpans body) found

  pub so_far_none : (body : List ℕ) → SoFar body 0 []
  so_far_none body = record { prefix = []; are_records = tt; whole = refl; from_is = refl; within = omega arith; have = tt; spans = All-nil (AreSpans body) }

  all_push : (rs : List DataRecord) (r : DataRecord) → AreDataRecords uap rs → IsDataRecord uap r → AreDataRecords uap (rs ++ r ∷ [])
  all_push [] r h k = (k, tt)
  all_push (q ∷ qs) r h k = (h.0, all_push qs r h.1 k)

  body_push : (rs : List DataRecord) (r : DataRecord) → body_of (rs ++ r ∷ []) ≡ body_of rs ++ record_octets r
  body_push rs r = flat_map-append record_octets rs (r ∷ []) ∙ ap (λ t. body_of rs ++ t) (append-nil (record_octets r))

  pub so_far_more : (body : List ℕ) (from : ℕ) (found : List ItemSpans) (r : DataRecord) (s : ItemSpans) → SoFar body from found → HasDataRecord uap body from r s → s.next ≤ length body → AreSpans body s
      → SoFar body s.next (found ++ s ∷ [])
  so_far_more body from found r s f h within spans = record {
    prefix = f.prefix ++ r ∷ [];
    are_records = all_push f.prefix r f.are_records h.is_record;
    whole = f.whole ∙ ap (λ t. body_of f.prefix ++ t) h.octets ∙ sym (append_assoc (body_of f.prefix) (record_octets r) (drop s.next body)) ∙ sym (ap (λ t. t ++ drop s.next body) (body_push f.prefix r));
    from_is = omega (arith, h.next, f.from_is, ap length (body_push f.prefix r), length-append (body_of f.prefix) (record_octets r));
    within = within;
    have = have_push body 0 f.prefix found r s f.have (subst (λ n. HasDataRecord uap body n r s) (omega (arith, f.from_is)) h);
    spans = All-push (AreSpans body) found s f.spans spans;
  }

  -- nothing is left
  pub so_far_all : (body : List ℕ) (from : ℕ) (found : List ItemSpans) → SoFar body from found → length body ≤ from → HasRecords uap body found
  so_far_all body from found f past = record {
    records = f.prefix;
    is_body = record { are_records = f.are_records; whole = f.whole ∙ ap (λ t. body_of f.prefix ++ t) (drop_all from body past) ∙ append-nil (body_of f.prefix) };
    have = f.have;
  }

  -- what is left begins no record
  pub so_far_fault : (block : Block) (from : ℕ) (found : List ItemSpans) (m : Malformed) → SoFar block.body.now from found → IsFaultFrom uap block from m → IsFaultOfBody uap block m
  so_far_fault block from found m f h = record {
    body_offset = from + h.inside;
    fault = record {
      prefix = f.prefix;
      rest = drop from block.body.now;
      inside = h.inside;
      are_records = f.are_records;
      whole = f.whole;
      none = h.none;
      offset_is = omega (arith, f.from_is);
    };
    offset_is = omega (arith, h.offset_is);
  }

  pub same_records : (body : List ℕ) (found : List ItemSpans) (rs : List DataRecord) → HasRecords uap body found → IsBody uap body rs → HaveDataRecords uap body 0 rs found
  same_records body found rs h b = subst (λ rs. HaveDataRecords uap body 0 rs found) (one_list body h.records rs h.is_body b) h.have

  pub same_fault : (block : Block) (m n : Malformed) → IsFaultOfBody uap block m → IsFaultOfBody uap block n → m ≡ n
  same_fault block m n f g =
      let one = one_fault block.body.now f.body_offset m.cause g.body_offset n.cause f.fault g.fault in
      let offset : m.offset ≡ n.offset = f.offset_is ∙ ap (λ k. block.at + k) one.0 ∙ sym g.offset_is in
      λ i. record { offset = offset i; cause = one.1 i }
