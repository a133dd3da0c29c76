-- One line more of two lists, by the indices of what is left of them.
use Rattle.std.proofs.Common.{◌≡◌, ◌∙◌, ap, subst, sym, refl, ℕ, ◌<◌, ◌≤◌, ◌+◌, List, [], ◌∷◌, ◌++◌, true, false, length, map, take, drop, get_or, arith, leb, append_assoc, append-nil, Option}
use Rattle.std.specs.Prelude.{not, ◌||◌, ◌⊎◌}
use Rattle.std.specs.Option.{option_to_list}
use Rattle.std.proofs.lemmas.List.{take_more, drop_more, drop_all, take-append-drop, map-append}
use Rattle.std.proofs.lemmas.Bool.{cases_lt, true≢false}
use Rattle.std.proofs.Common.{inl, inr}
use Rattle.asterix_frame.specs.Packing.{ArePacked, IsPackingOf, Packed}
use Rattle.cat062_out.specs.Tracks.{Stamp, TrackLine}
use Rattle.cat062_out.specs.TrackRecords.{track_record}
use Rattle.edition_form.specs.declared.lines.ShownLine.{ShownLine}
use Rattle.edition_form.specs.declared.telling.Told.{Told}
use Rattle.edition_form.specs.Lines.{told_lines}
use Rattle.edition_form.specs.Telling.{DontFall, Climb, IsKnown, AreUnderway, IsUnderway, lines_left, left, old_first, is_first, told_old, past_old, past_now}
use Rattle.edition_form.proofs.Merging.{past_old_told, past_old_left, past_now_told, past_now_left}

-- no line shown now is left
pub old_alone : (old : List ShownLine) (n2 : List ShownLine) (i : ℕ) → i < length old → n2 ≡ [] → old_first (drop i old) n2 ≡ true
old_alone [] n2 i inside e = absurd (omega (arith, inside))
old_alone (o ∷ os) n2 i inside e = rw (e, drop_more (o ∷ os) i o inside) refl

pub old_comes : (old now : List ShownLine) (i j : ℕ) → i < length old → leb (length now) j ≡ true → length now ≤ j → leb (length now) j ≡ old_first (drop i old) (drop j now)
old_comes old now i j inside e past = e ∙ sym (old_alone old (drop j now) i inside (drop_all j now past))

-- what is left at an index begins with the line there
whole : (xs : List ShownLine) (i : ℕ) (d : ShownLine) → i < length xs → take i xs ++ get_or xs i d ∷ drop (i + 1) xs ≡ xs
whole xs i d inside = ap (λ ys. take i xs ++ ys) (sym (drop_more xs i d inside)) ∙ take-append-drop i xs

pub past_old_step : (old now : List ShownLine) (t : Told) (d : ShownLine) → IsUnderway old now t → t.old_count < length old → old_first (drop t.old_count old) (drop t.now_count now) ≡ true
    → IsUnderway old now (past_old t (get_or old t.old_count d) (drop t.now_count now))
past_old_step old now t d h inside first =
    let o = get_or old t.old_count d in
    let o1 = take t.old_count old in
    let o2 = drop (t.old_count + 1) old in
    let n1 = take t.now_count now in
    let n2 = drop t.now_count now in
    let at = drop_more old t.old_count d inside in
    let told : AreUnderway o1 (o ∷ o2) n1 n2 t.known = subst (λ xs. AreUnderway o1 xs n1 n2 t.known) at h.are_told in
    let next = past_old_told o1 o o2 n1 n2 t.known told (subst (λ xs. old_first xs n2 ≡ true) at first) in
    record {
      old_within = omega (arith, inside);
      now_within = h.now_within;
      are_told = subst (λ xs. AreUnderway xs o2 n1 n2 (t.known || is_first o n2)) (sym (take_more old t.old_count d inside)) next;
    }

pub past_old_lines : (old now : List ShownLine) (t : Told) (d : ShownLine) → IsUnderway old now t → t.old_count < length old → old_first (drop t.old_count old) (drop t.now_count now) ≡ true
    → left old now t ≡ option_to_list (told_old (get_or old t.old_count d) (drop t.now_count now)) ++ left old now (past_old t (get_or old t.old_count d) (drop t.now_count now))
past_old_lines old now t d h inside first =
    let o = get_or old t.old_count d in
    let o1 = take t.old_count old in
    let o2 = drop (t.old_count + 1) old in
    let n1 = take t.now_count now in
    let n2 = drop t.now_count now in
    let at = drop_more old t.old_count d inside in
    let told : AreUnderway o1 (o ∷ o2) n1 n2 t.known = subst (λ xs. AreUnderway o1 xs n1 n2 t.known) at h.are_told in
    let lines = past_old_left o1 o o2 n1 n2 t.known told (subst (λ xs. old_first xs n2 ≡ true) at first) in
    ap (λ xs. lines_left old now xs n2) at
    ∙ subst (λ ys. lines_left old ys (o ∷ o2) n2 ≡ option_to_list (told_old o n2) ++ lines_left old ys o2 n2) (take-append-drop t.now_count now)
    (subst (λ xs. lines_left xs (n1 ++ n2) (o ∷ o2) n2 ≡ option_to_list (told_old o n2) ++ lines_left xs (n1 ++ n2) o2 n2) (whole old t.old_count d inside) lines)

pub past_now_step : (old now : List ShownLine) (t : Told) (d : ShownLine) → IsUnderway old now t → t.now_count < length now → old_first (drop t.old_count old) (drop t.now_count now) ≡ false → IsUnderway old now (past_now t)
past_now_step old now t d h inside first =
    let n = get_or now t.now_count d in
    let o1 = take t.old_count old in
    let o2 = drop t.old_count old in
    let n1 = take t.now_count now in
    let n2 = drop (t.now_count + 1) now in
    let at = drop_more now t.now_count d inside in
    let told : AreUnderway o1 o2 n1 (n ∷ n2) t.known = subst (λ xs. AreUnderway o1 o2 n1 xs t.known) at h.are_told in
    let next = past_now_told o1 o2 n1 n n2 t.known told (subst (λ xs. old_first o2 xs ≡ false) at first) in
    record {
      old_within = h.old_within;
      now_within = omega (arith, inside);
      are_told = subst (λ xs. AreUnderway o1 o2 xs n2 false) (sym (take_more now t.now_count d inside)) next;
    }

pub past_now_lines : (old now : List ShownLine) (t : Told) (d : ShownLine) → IsUnderway old now t → t.now_count < length now → old_first (drop t.old_count old) (drop t.now_count now) ≡ false
    → left old now t ≡ (record (get_or now t.now_count d).line { first = not t.known; ended = false }) ∷ left old now (past_now t)
past_now_lines old now t d h inside first =
    let n = get_or now t.now_count d in
    let o1 = take t.old_count old in
    let o2 = drop t.old_count old in
    let n1 = take t.now_count now in
    let n2 = drop (t.now_count + 1) now in
    let at = drop_more now t.now_count d inside in
    let told : AreUnderway o1 o2 n1 (n ∷ n2) t.known = subst (λ xs. AreUnderway o1 o2 n1 xs t.known) at h.are_told in
    let lines = past_now_left o1 o2 n1 n n2 t.known told (subst (λ xs. old_first o2 xs ≡ false) at first) in
    let line : TrackLine = record n.line { first = not t.known; ended = false } in
    ap (λ xs. lines_left old now o2 xs) at
    ∙ subst (λ ys. lines_left old ys o2 (n ∷ n2) ≡ line ∷ lines_left old ys o2 n2) (whole now t.now_count d inside)
    (subst (λ xs. lines_left xs (n1 ++ n ∷ n2) o2 (n ∷ n2) ≡ line ∷ lines_left xs (n1 ++ n ∷ n2) o2 n2) (take-append-drop t.old_count old) lines)

-- ---- at first, and at the end

none_known : (now : List ShownLine) → IsKnown [] now false
none_known [] = refl
none_known (n ∷ now) = refl

pub none_told : (old now : List ShownLine) → DontFall old → Climb now → IsUnderway old now (record { old_count = 0; now_count = 0; known = false })
none_told old now h k = record {
  old_within = omega arith;
  now_within = omega arith;
  are_told = record { old = h; now = k; apart = tt; passed = tt; is_known = none_known now };
}

pub none_left : (old now : List ShownLine) (t : Told) → length old ≤ t.old_count → length now ≤ t.now_count → left old now t ≡ []
none_left old now t h k = rw (drop_all t.old_count old h, drop_all t.now_count now k) refl

-- ---- which list goes on

pub some_line : (xs : List ShownLine) (i : ℕ) → i < length xs → ShownLine
some_line [] i inside = absurd (omega (arith, inside))
some_line (x ∷ xs) i inside = x

pub old_inside : (old n2 : List ShownLine) (i : ℕ) → old_first (drop i old) n2 ≡ true → i < length old
old_inside old n2 i first =
    elim (cases_lt i (length old)) [
      | inl lt ↦ lt
      | inr le ↦ absurd (true≢false (sym first ∙ ap (λ xs. old_first xs n2) (drop_all i old le)))
    ]

pub now_inside : (old now : List ShownLine) (i j : ℕ) → (i < length old) ⊎ (j < length now) → old_first (drop i old) (drop j now) ≡ false → j < length now
now_inside old now i j (inr inside) first = inside
now_inside old now i j (inl inside) first =
    elim (cases_lt j (length now)) [
      | inl lt ↦ lt
      | inr le ↦ absurd (true≢false (sym (old_alone old (drop j now) i inside (drop_all j now le)) ∙ first))
    ]

-- ---- the records that were packed so far

pub record ArePackedSoFar (stamp : Stamp) (old now : List ShownLine) (t : Told) (packing : Packed) : Type 0 where
  pub told : IsUnderway old now t
  pub done : List TrackLine
  pub packed : IsPackingOf 62 (map (track_record stamp) done) packing
  pub all : told_lines old now ≡ done ++ left old now t

pub told_so : (old now : List ShownLine) (o p : Option TrackLine) (t u : Told) → o ≡ p → t ≡ u → option_to_list o ++ left old now t ≡ option_to_list p ++ left old now u
told_so old now o p t u h k = ap (λ x. option_to_list x ++ left old now t) h ∙ ap (λ x. option_to_list p ++ left old now x) k

pub packed_none : (stamp : Stamp) (old now : List ShownLine) (packing : Packed) → DontFall old → Climb now → IsPackingOf 62 [] packing → ArePackedSoFar stamp old now (record { old_count = 0; now_count = 0; known = false }) packing
packed_none stamp old now packing h k p = record { told = none_told old now h k; done = []; packed = p; all = refl }

pub packed_more : (stamp : Stamp) (old now : List ShownLine) (t u : Told) (line : Option TrackLine) (packing more : Packed) → ArePackedSoFar stamp old now t packing → IsUnderway old now u → left old now t ≡ option_to_list line ++ left old now u
    → ((records : List (List ℕ)) → IsPackingOf 62 records packing → IsPackingOf 62 (records ++ map (track_record stamp) (option_to_list line)) more) → ArePackedSoFar stamp old now u more
packed_more stamp old now t u line packing more h told e f = record {
  told = told;
  done = h.done ++ option_to_list line;
  packed = subst (λ rs. IsPackingOf 62 rs more) (sym (map-append (track_record stamp) h.done (option_to_list line))) (f (map (track_record stamp) h.done) h.packed);
  all = h.all ∙ ap (λ ls. h.done ++ ls) e ∙ sym (append_assoc h.done (option_to_list line) (left old now u));
}

pub packed_all : (stamp : Stamp) (old now : List ShownLine) (t : Told) (packing : Packed) (blocks : List (List ℕ)) → ArePackedSoFar stamp old now t packing → length old ≤ t.old_count → length now ≤ t.now_count
    → ((records : List (List ℕ)) → IsPackingOf 62 records packing → ArePacked 62 records blocks) → ArePacked 62 (map (track_record stamp) (told_lines old now)) blocks
packed_all stamp old now t packing blocks h a b f =
    let all : told_lines old now ≡ h.done = h.all ∙ ap (λ ls. h.done ++ ls) (none_left old now t a b) ∙ append-nil h.done in
    subst (λ ls. ArePacked 62 (map (track_record stamp) ls) blocks) (sym all) (f (map (track_record stamp) h.done) h.packed)
