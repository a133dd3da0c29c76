-- Old lines and lines shown now, told one after the other by their numbers.
use Rattle.std.proofs.Common.{◌≡◌, ◌∙◌, ap, subst, sym, refl, ℕ, suc, cond, ◌<◌, ◌≤◌, List, [], ◌∷◌, ◌++◌, Bool, true, false, map, arith, append_assoc, eqb, Some, None}
use Rattle.std.specs.Prelude.{not, ◌||◌}
use Rattle.std.specs.Option.{option_to_list}
use Rattle.std.specs.Ordering.{is_eq, ordering_reverse}
use Rattle.std.specs.declared.cmp.Ordering.{Ordering}
use Rattle.std.specs.declared.cmp.Ordering.TheVariants.{Less, Equal, Greater}
use Rattle.std.specs.List.{AllByRecursion}
use Rattle.std.proofs.lemmas.List.Folds.{list_any-append}
use Rattle.std.proofs.lemmas.Bool.{eqb-true, eq-eqb, ne_eqb, leb-true, leb-false}
use Rattle.std.specs.Cmp.{both_ways}
use Rattle.late_window.proofs.Lists.{all_weaker, all_append, filter_keeps}
use Rattle.trk_base.specs.Keys.{key_cmp}
use Rattle.trk_base.specs.KeyOrder.{key_cmp_total}
use Rattle.cat062_out.specs.Tracks.{TrackLine}
use Rattle.edition_form.specs.declared.lines.ShownLine.{ShownLine}
use Rattle.edition_form.specs.Numbered.{in_rising_number}
use Rattle.edition_form.specs.Lines.{are_of_one_track, ended_tracks, is_among, ended_line, line_now}
use Rattle.edition_form.specs.Telling.{DontFall, Climb, IsKnown, AreUnderway, lines_left, old_first, is_first, told_old}
use Rattle.edition_form.proofs.Rising.{first_lowest, middle_lowest}

-- ---- lists that don't fall, and that climb

dont_fall_rest : (o1 o2 : List ShownLine) → DontFall (o1 ++ o2) → DontFall o2
dont_fall_rest [] o2 h = h
dont_fall_rest (o ∷ o1) o2 h = dont_fall_rest o1 o2 h.1

climb_rest : (n1 n2 : List ShownLine) → Climb (n1 ++ n2) → Climb n2
climb_rest [] n2 h = h
climb_rest (n ∷ n1) n2 h = climb_rest n1 n2 h.1

-- ---- lines of one track

eq_back : (a b : Ordering) → a ≡ ordering_reverse b → is_eq a ≡ is_eq b
eq_back a Less e = rw e refl
eq_back a Equal e = rw e refl
eq_back a Greater e = rw e refl

eqb_back : (m n : ℕ) → eqb m n ≡ eqb n m
eqb_back m n = both_ways (eqb m n) (eqb n m) (λ e. eq-eqb n m (sym (eqb-true m n e))) (λ e. eq-eqb m n (sym (eqb-true n m e)))

same_back : (a b : ShownLine) → are_of_one_track a b ≡ are_of_one_track b a
same_back a b = rw (eqb_back a.line.number b.line.number, eq_back (key_cmp a.birth b.birth) (key_cmp b.birth a.birth) (key_cmp_total.antisymm a.birth b.birth)) refl

lower_number : (a b : ShownLine) → a.line.number < b.line.number → are_of_one_track a b ≡ false
lower_number a b h = rw (ne_eqb a.line.number b.line.number (λ e. omega (arith, h, e))) refl

higher_number : (a b : ShownLine) → b.line.number < a.line.number → are_of_one_track a b ≡ false
higher_number a b h = rw (ne_eqb a.line.number b.line.number (λ e. omega (arith, h, e))) refl

none_of : (s : ShownLine) (xs : List ShownLine) → AllByRecursion (λ x. are_of_one_track s x ≡ false) xs → is_among xs s ≡ false
none_of s [] h = refl
none_of s (x ∷ xs) h = rw (h.0, none_of s xs h.1) refl

among_both : (s : ShownLine) (xs ys : List ShownLine) → is_among (xs ++ ys) s ≡ (is_among xs s || is_among ys s)
among_both s xs ys = list_any-append (are_of_one_track s) xs ys

or_false : (b : Bool) → (b || false) ≡ b
or_false true = refl
or_false false = refl

-- ---- past an old line

no_higher : (o n : ShownLine) (n2 : List ShownLine) → old_first (o ∷ []) (n ∷ n2) ≡ true → o.line.number ≤ n.line.number
no_higher o n n2 h = leb-true o.line.number n.line.number h

among_left : (o : ShownLine) (n2 : List ShownLine) → Climb n2 → old_first (o ∷ []) n2 ≡ true → is_among n2 o ≡ is_first o n2
among_left o [] climb first = refl
among_left o (n ∷ n2) climb first =
    let at_most : o.line.number ≤ n.line.number = no_higher o n n2 first in
    let none : is_among n2 o ≡ false = none_of o n2 (all_weaker (λ m. n.line.number < m.line.number) (λ m. are_of_one_track o m ≡ false) (λ m h. lower_number o m (omega (arith, at_most, h))) n2 climb.0) in
    rw none (or_false (are_of_one_track o n))

-- its track is among those shown now exactly where it is the next of them
among_now : (n1 : List ShownLine) (o : ShownLine) (n2 : List ShownLine) → Climb n2 → AllByRecursion (λ n. n.line.number < o.line.number) n1 → old_first (o ∷ []) n2 ≡ true → is_among (n1 ++ n2) o ≡ is_first o n2
among_now n1 o n2 climb before first =
    among_both o n1 n2 ∙ ap (λ b. b || is_among n2 o) (none_of o n1 (all_weaker (λ n. n.line.number < o.line.number) (λ n. are_of_one_track o n ≡ false) (λ n h. higher_number o n h) n1 before)) ∙ among_left o n2 climb first

-- the old line o isn't above those that are left
not_above : (o : ShownLine) (n2 : List ShownLine) → Climb n2 → old_first (o ∷ []) n2 ≡ true → AllByRecursion (λ n. o.line.number ≤ n.line.number) n2
not_above o [] climb first = tt
not_above o (n ∷ n2) climb first =
    let at_most : o.line.number ≤ n.line.number = no_higher o n n2 first in
    (at_most, all_weaker (λ m. n.line.number < m.line.number) (λ m. o.line.number ≤ m.line.number) (λ m h. omega (arith, at_most, h)) n2 climb.0)

first_of_more : (o : ShownLine) (o2 n2 : List ShownLine) → old_first (o ∷ o2) n2 ≡ true → old_first (o ∷ []) n2 ≡ true
first_of_more o o2 [] h = h
first_of_more o o2 (n ∷ n2) h = h

known_more : (o1 : List ShownLine) (o : ShownLine) (n2 : List ShownLine) (known : Bool) → IsKnown o1 n2 known → IsKnown (o1 ++ o ∷ []) n2 (known || is_first o n2)
known_more o1 o [] known h = rw h refl
known_more o1 o (n ∷ n2) known h = rw (h, among_both n o1 (o ∷ []), or_false (are_of_one_track n o), same_back n o) refl

pub past_old_told : (o1 : List ShownLine) (o : ShownLine) (o2 n1 n2 : List ShownLine) (known : Bool) → AreUnderway o1 (o ∷ o2) n1 n2 known → old_first (o ∷ o2) n2 ≡ true
    → AreUnderway (o1 ++ o ∷ []) o2 n1 n2 (known || is_first o n2)
past_old_told o1 o o2 n1 n2 known t first = record {
  old = subst DontFall (sym (append_assoc o1 (o ∷ []) o2)) t.old;
  now = t.now;
  apart = all_weaker (λ n. AllByRecursion (λ x. n.line.number < x.line.number) (o ∷ o2)) (λ n. AllByRecursion (λ x. n.line.number < x.line.number) o2) (λ n h. h.1) n1 t.apart;
  passed = all_append (λ x. AllByRecursion (λ n. x.line.number ≤ n.line.number) n2) o1 (o ∷ []) t.passed (not_above o n2 (climb_rest n1 n2 t.now) (first_of_more o o2 n2 first), tt);
  is_known = known_more o1 o n2 known t.is_known;
}

-- ---- numbers of the lines that are told

number_of_line : TrackLine → ℕ
number_of_line l = l.number

ended_lines_above : (k : ℕ) (ss : List ShownLine) → AllByRecursion (λ s. k ≤ s.line.number) ss → AllByRecursion (λ l. k ≤ l.number) (map ended_line ss)
ended_lines_above k [] h = tt
ended_lines_above k (s ∷ ss) h = (h.0, ended_lines_above k ss h.1)

lines_now_above : (old : List ShownLine) (k : ℕ) (ss : List ShownLine) → AllByRecursion (λ s. k ≤ s.line.number) ss → AllByRecursion (λ l. k ≤ l.number) (map (line_now old) ss)
lines_now_above old k [] h = tt
lines_now_above old k (s ∷ ss) h = (h.0, lines_now_above old k ss h.1)

ended_above : (now : List ShownLine) (k : ℕ) (ss : List ShownLine) → AllByRecursion (λ s. k ≤ s.line.number) ss → AllByRecursion (λ l. k ≤ l.number) (map ended_line (ended_tracks ss now))
ended_above now k ss h = ended_lines_above k (ended_tracks ss now) (filter_keeps (λ s. k ≤ s.line.number) (λ s. not (is_among now s)) ss h)

pub past_old_left : (o1 : List ShownLine) (o : ShownLine) (o2 n1 n2 : List ShownLine) (known : Bool) → AreUnderway o1 (o ∷ o2) n1 n2 known → old_first (o ∷ o2) n2 ≡ true
    → lines_left (o1 ++ o ∷ o2) (n1 ++ n2) (o ∷ o2) n2 ≡ option_to_list (told_old o n2) ++ lines_left (o1 ++ o ∷ o2) (n1 ++ n2) o2 n2
past_old_left o1 o o2 n1 n2 known t first =
    let old = o1 ++ o ∷ o2 in
    let now = n1 ++ n2 in
    let before : AllByRecursion (λ n. n.line.number < o.line.number) n1 = all_weaker (λ n. AllByRecursion (λ x. n.line.number < x.line.number) (o ∷ o2)) (λ n. n.line.number < o.line.number) (λ n h. h.0) n1 t.apart in
    let climb = climb_rest n1 n2 t.now in
    let among : is_among now o ≡ is_first o n2 = among_now n1 o n2 climb before (first_of_more o o2 n2 first) in
    let rest = map ended_line (ended_tracks o2 now) ++ map (line_now old) n2 in
    let above : AllByRecursion (λ l. o.line.number ≤ l.number) rest =
    all_append (λ l. o.line.number ≤ l.number) (map ended_line (ended_tracks o2 now)) (map (line_now old) n2)
    (ended_above now o.line.number o2 (dont_fall_rest o1 (o ∷ o2) t.old).0)
    (lines_now_above old o.line.number n2 (not_above o n2 climb (first_of_more o o2 n2 first))) in
    elim (is_first o n2) as (λ b. is_among now o ≡ b → in_rising_number (λ l. l.number) (map ended_line (ended_tracks (o ∷ o2) now) ++ map (line_now old) n2) ≡ option_to_list (cond b None (Some (ended_line o))) ++ in_rising_number (λ l. l.number) rest) [
      | true ↦ λ e. rw e refl
      | false ↦ λ e. rw e (first_lowest (λ l. l.number) (ended_line o) rest above)
    ] among

-- ---- past a line that is shown now

above_now : (n : ShownLine) (o2 n2 : List ShownLine) → DontFall o2 → old_first o2 (n ∷ n2) ≡ false → AllByRecursion (λ o. n.line.number < o.line.number) o2
above_now n [] n2 h first = tt
above_now n (o ∷ o2) n2 h first =
    let above : n.line.number < o.line.number = leb-false o.line.number n.line.number first in
    (above, all_weaker (λ x. o.line.number ≤ x.line.number) (λ x. n.line.number < x.line.number) (λ x k. omega (arith, above, k)) o2 h.0)

known_next : (o1 : List ShownLine) (n : ShownLine) (n2 : List ShownLine) → AllByRecursion (λ o. o.line.number ≤ n.line.number) o1 → AllByRecursion (λ m. n.line.number < m.line.number) n2 → IsKnown o1 n2 false
known_next o1 n [] h k = refl
known_next o1 n (m ∷ n2) h k = sym (none_of m o1 (all_weaker (λ o. o.line.number ≤ n.line.number) (λ o. are_of_one_track m o ≡ false) (λ o e. higher_number m o (omega (arith, e, k.0))) o1 h))

heads : (o1 : List ShownLine) (n : ShownLine) (n2 : List ShownLine) → AllByRecursion (λ o. AllByRecursion (λ m. o.line.number ≤ m.line.number) (n ∷ n2)) o1 → AllByRecursion (λ o. o.line.number ≤ n.line.number) o1
heads o1 n n2 h = all_weaker (λ o. AllByRecursion (λ m. o.line.number ≤ m.line.number) (n ∷ n2)) (λ o. o.line.number ≤ n.line.number) (λ o k. k.0) o1 h

pub past_now_told : (o1 o2 n1 : List ShownLine) (n : ShownLine) (n2 : List ShownLine) (known : Bool) → AreUnderway o1 o2 n1 (n ∷ n2) known → old_first o2 (n ∷ n2) ≡ false
    → AreUnderway o1 o2 (n1 ++ n ∷ []) n2 false
past_now_told o1 o2 n1 n n2 known t first = record {
  old = t.old;
  now = subst Climb (sym (append_assoc n1 (n ∷ []) n2)) t.now;
  apart = all_append (λ m. AllByRecursion (λ o. m.line.number < o.line.number) o2) n1 (n ∷ []) t.apart (above_now n o2 n2 (dont_fall_rest o1 o2 t.old) first, tt);
  passed = all_weaker (λ o. AllByRecursion (λ m. o.line.number ≤ m.line.number) (n ∷ n2)) (λ o. AllByRecursion (λ m. o.line.number ≤ m.line.number) n2) (λ o h. h.1) o1 t.passed;
  is_known = known_next o1 n n2 (heads o1 n n2 t.passed) (climb_rest n1 (n ∷ n2) t.now).0;
}

pub past_now_left : (o1 o2 n1 : List ShownLine) (n : ShownLine) (n2 : List ShownLine) (known : Bool) → AreUnderway o1 o2 n1 (n ∷ n2) known → old_first o2 (n ∷ n2) ≡ false
    → lines_left (o1 ++ o2) (n1 ++ n ∷ n2) o2 (n ∷ n2) ≡ (record n.line { first = not known; ended = false }) ∷ lines_left (o1 ++ o2) (n1 ++ n ∷ n2) o2 n2
past_now_left o1 o2 n1 n n2 known t first =
    let old = o1 ++ o2 in
    let now = n1 ++ n ∷ n2 in
    let above = above_now n o2 n2 (dont_fall_rest o1 o2 t.old) first in
    let later : is_among o2 n ≡ false = none_of n o2 (all_weaker (λ o. n.line.number < o.line.number) (λ o. are_of_one_track n o ≡ false) (λ o h. lower_number n o h) o2 above) in
    let among : is_among old n ≡ known = among_both n o1 o2 ∙ (rw later (or_false (is_among o1 n)) ∙ sym t.is_known) in
    let ended_lines = map ended_line (ended_tracks o2 now) in
    let rest = map (line_now old) n2 in
    let line : line_now old n ≡ record n.line { first = not known; ended = false } = ap (λ b. record n.line { first = not b; ended = false }) among in
    middle_lowest (λ l. l.number) ended_lines (line_now old n) rest
    (all_weaker (λ l. suc n.line.number ≤ l.number) (λ l. n.line.number < l.number) (λ l h. h) ended_lines (ended_above now (suc n.line.number) o2 above))
    (lines_now_above old n.line.number n2 (all_weaker (λ m. n.line.number < m.line.number) (λ m. n.line.number ≤ m.line.number) (λ m h. omega (arith, h)) n2 (climb_rest n1 (n ∷ n2) t.now).0))
    ∙ ap (λ l. l ∷ in_rising_number (λ l. l.number) (ended_lines ++ rest)) line
