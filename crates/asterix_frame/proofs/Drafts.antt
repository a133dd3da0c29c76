-- A record in the making: its elements by their sizes, and what one more does to them.
use Rattle.std.proofs.Common.{◌≡◌, ◌∙◌, ap, sym, refl, zero, suc, ℕ, ◌+◌, ◌-◌, ◌*◌, ◌/◌, inl, inr, ◌<◌, ◌≤◌, true, false, List, [], ◌∷◌, ◌++◌, length, take, drop, get_or, arith, append-nil, length-append, length-drop, length-take, add_comm}
use borrow.Rule.Slice.PartMut.{put_mid}
use Rattle.std.specs.Prelude.{◌==◌, nat_lt, slice_set}
use Rattle.std.proofs.lemmas.Bool.{cases_lt, eq-eqb, ne_eqb}
use Rattle.std.proofs.lemmas.Bool.Decides.{nat_tests}
use Rattle.std.proofs.lemmas.List.{drop-drop, take-append-le, drop-append-le, take-append-drop, length-set, get_or-set_other, take_at, drop_at}
use Rattle.asterix_frame.specs.Elements.{Element, numbers, octets_of}
use Rattle.asterix_frame.specs.DataRecords.{record_octets}
use Rattle.asterix_frame.specs.Encoding.{has, field_from, end_from, field_length, field_of, RiseFrom, item_of, last_frn, record_of, elements_by_size, sized, total_size, IsDraft}
use Rattle.asterix_frame.proofs.Prefixes.{octets-push}
use Rattle.asterix_frame.proofs.Encodings.{has_first, has_rest, has_before, rise_on}

positive : (s : ℕ) → nat_lt 0 (suc s) ≡ true
positive s = grind (arith, nat_tests)

-- ---- elements by their sizes

elements_rise : (n : ℕ) (sizes octets : List ℕ) → RiseFrom n (numbers (elements_by_size n sizes octets))
elements_rise n [] octets = tt
elements_rise n (zero ∷ sizes) octets = rise_on n (numbers (elements_by_size (suc n) sizes octets)) (elements_rise (suc n) sizes octets)
elements_rise n (suc s ∷ sizes) octets = (omega arith, elements_rise (suc n) sizes (drop (suc s) octets))

has_sized : (n : ℕ) (sizes octets : List ℕ) (k : ℕ) → has (numbers (elements_by_size n sizes octets)) (n + k) ≡ sized sizes k
has_sized n [] octets k = refl
has_sized n (zero ∷ sizes) octets zero = has_before (suc n) (numbers (elements_by_size (suc n) sizes octets)) (n + 0) (elements_rise (suc n) sizes octets) (omega arith)
has_sized n (zero ∷ sizes) octets (suc k) = ap (has (numbers (elements_by_size (suc n) sizes octets))) (omega arith) ∙ has_sized (suc n) sizes octets k
has_sized n (suc s ∷ sizes) octets zero =
    let rest = numbers (elements_by_size (suc n) sizes (drop (suc s) octets)) in
    ap (has (n ∷ rest)) (omega arith) ∙ has_first n rest ∙ sym (positive s)
has_sized n (suc s ∷ sizes) octets (suc k) =
    let rest = numbers (elements_by_size (suc n) sizes (drop (suc s) octets)) in
    has_rest n rest (n + suc k) (λ e. omega arith) ∙ ap (has rest) (omega arith) ∙ has_sized (suc n) sizes (drop (suc s) octets) k

pub octets_elements : (n : ℕ) (sizes octets : List ℕ) → total_size sizes ≡ length octets → octets_of (elements_by_size n sizes octets) ≡ octets
octets_elements n [] [] e = refl
octets_elements n [] (x ∷ octets) e = absurd (omega arith)
octets_elements n (zero ∷ sizes) octets e = octets_elements (suc n) sizes octets (omega (arith, e))
octets_elements n (suc s ∷ sizes) octets e =
    ap (λ t. take (suc s) octets ++ t) (octets_elements (suc n) sizes (drop (suc s) octets) (omega (arith, e, length-drop (suc s) octets))) ∙ take-append-drop (suc s) octets

elements_none : (n : ℕ) (sizes octets : List ℕ) → ((j : ℕ) → get_or sizes j 0 ≡ 0) → elements_by_size n sizes octets ≡ []
elements_none n [] octets none = refl
elements_none n (zero ∷ sizes) octets none = elements_none (suc n) sizes octets (λ j. none (suc j))
elements_none n (suc s ∷ sizes) octets none = absurd (let e : suc s ≡ 0 = none 0 in omega arith)

sum_none : (sizes : List ℕ) → ((j : ℕ) → get_or sizes j 0 ≡ 0) → total_size sizes ≡ 0
sum_none [] none = refl
sum_none (s ∷ sizes) none = let here : s ≡ 0 = none 0 in let rest = sum_none sizes (λ j. none (suc j)) in omega (arith, here, rest)

first_only : (n k : ℕ) (sizes p : List ℕ) → ((j : ℕ) → get_or sizes j 0 ≡ 0) → 0 < length p → n ≡ k → elements_by_size n (length p ∷ sizes) p ≡ record { number = k; octets = p } ∷ []
first_only n k sizes [] none some e = absurd (omega arith)
first_only n k sizes (x ∷ p) none some e =
    let whole : take (length p) p ≡ p = ap (take (length p)) (sym (append-nil p)) ∙ take_at p [] (length p) refl in
    let rest = elements_none (suc n) sizes (drop (suc (length p)) (x ∷ p)) none in
    λ i. record { number = e i; octets = x ∷ whole i } ∷ rest i

elements_push : (n : ℕ) (sizes : List ℕ) (k : ℕ) (octets p : List ℕ) → total_size sizes ≡ length octets → k < length sizes → ((j : ℕ) → k ≤ j → get_or sizes j 0 ≡ 0) → 0 < length p
    → elements_by_size n (slice_set sizes k (length p)) (octets ++ p) ≡ elements_by_size n sizes octets ++ record { number = n + k; octets = p } ∷ []
elements_push n [] k octets p e lt none some = absurd (omega arith)
elements_push n (s ∷ sizes) zero [] p e lt none some =
    let here : s ≡ 0 = none 0 (omega arith) in
    let rest : (j : ℕ) → get_or sizes j 0 ≡ 0 = λ j. none (suc j) (omega arith) in
    first_only n (n + 0) sizes p rest some (omega arith) ∙ ap (λ t. t ++ record { number = n + 0; octets = p } ∷ []) (sym (ap (λ z. elements_by_size n (z ∷ sizes) []) here ∙ elements_none (suc n) sizes [] rest))
elements_push n (s ∷ sizes) zero (x ∷ octets) p e lt none some =
    absurd (omega (arith, e, none 0 (omega arith), sum_none sizes (λ j. none (suc j) (omega arith))))
elements_push n (zero ∷ sizes) (suc k) octets p e lt none some =
    elements_push (suc n) sizes k octets p (omega (arith, e)) (omega arith) (λ j h. none (suc j) (omega arith)) some
    ∙ ap (λ m. elements_by_size (suc n) sizes octets ++ record { number = m; octets = p } ∷ []) (omega arith)
elements_push n (suc s ∷ sizes) (suc k) octets p e lt none some =
    let long : suc s ≤ length octets = omega (arith, e) in
    let next = elements_push (suc n) sizes k (drop (suc s) octets) p (omega (arith, e, length-drop (suc s) octets)) (omega arith) (λ j h. none (suc j) (omega arith)) some in
    let here = take-append-le (suc s) octets p long in
    let after = drop-append-le (suc s) octets p long in
    let number : suc n + k ≡ n + suc k = omega arith in
    (λ i. record { number = n; octets = here i } ∷ elements_by_size (suc n) (slice_set sizes k (length p)) (after i))
    ∙ ap (λ t. record { number = n; octets = take (suc s) octets } ∷ t) (next ∙ ap (λ m. elements_by_size (suc n) sizes (drop (suc s) octets) ++ record { number = m; octets = p } ∷ []) number)

sum_set : (sizes : List ℕ) (k v : ℕ) → k < length sizes → get_or sizes k 0 ≡ 0 → total_size (slice_set sizes k v) ≡ total_size sizes + v
sum_set [] k v lt none = absurd (omega arith)
sum_set (s ∷ sizes) zero v lt none = omega arith
sum_set (s ∷ sizes) (suc k) v lt none = omega (arith, sum_set sizes k v (omega arith) none)

end_push : (n : ℕ) (es : List Element) (e : Element) → end_from n (numbers (es ++ e ∷ [])) ≡ suc e.number
end_push n [] e = refl
end_push n (p ∷ es) e = end_push (suc p.number) es e

-- ---- drafts

none_in : (sizes : List ℕ) → total_size sizes ≡ 0 → (n : ℕ) → get_or sizes n 0 ≡ 0
none_in [] e n = refl
none_in (s ∷ sizes) e zero = omega (arith, e)
none_in (s ∷ sizes) e (suc n) = none_in sizes (omega (arith, e)) n

abbrev no_sizes : List ℕ
no_sizes = 0 ∷ 0 ∷ 0 ∷ 0 ∷ 0 ∷ 0 ∷ 0 ∷ 0 ∷ 0 ∷ 0 ∷ 0 ∷ 0 ∷ 0 ∷ 0 ∷ 0 ∷ 0 ∷ 0 ∷ 0 ∷ 0 ∷ 0 ∷ 0 ∷ 0 ∷ 0 ∷ 0 ∷ 0 ∷ 0 ∷ 0 ∷ 0 ∷ []

pub draft_none : IsDraft [] no_sizes 0
draft_none = record {
  room = λ lt. refl;
  limited = omega arith;
  count = refl;
  total = refl;
  last_is = refl;
  in_table = omega arith;
  none_after = λ n h. none_in no_sizes refl n;
}

-- a draft with room for the FSPEC, and its items
pub record IsBegun (octets sizes : List ℕ) (last : ℕ) (items : List Element) : Type 0 where
  pub draft : IsDraft octets sizes last
  pub long : 4 ≤ length octets
  pub items_are : elements_by_size 0 sizes (drop 4 octets) ≡ items

pub begun_first : (octets sizes : List ℕ) (last : ℕ) (items : List Element) → IsDraft octets sizes last → elements_by_size 0 sizes (drop 4 octets) ≡ items → octets ≡ [] → IsBegun (0 ∷ 0 ∷ 0 ∷ 0 ∷ []) sizes last items
begun_first octets sizes last items d e none =
    let same : drop 4 octets ≡ [] = ap (drop 4) none in
    record {
      draft = record {
        room = λ lt. absurd (omega arith);
        limited = omega arith;
        count = d.count;
        total = d.total ∙ ap length same;
        last_is = d.last_is ∙ ap (λ t. last_frn (elements_by_size 0 sizes t)) same;
        in_table = d.in_table;
        none_after = d.none_after;
      };
      long = omega arith;
      items_are = sym (ap (elements_by_size 0 sizes) same) ∙ e;
    }

pub begun_more : (octets sizes : List ℕ) (last : ℕ) (items : List Element) → IsDraft octets sizes last → elements_by_size 0 sizes (drop 4 octets) ≡ items → (octets ≡ [] → ⊥) → IsBegun octets sizes last items
begun_more octets sizes last items d e some = record { draft = d; long = long; items_are = e } where
  long : 4 ≤ length octets
  long = elim (cases_lt (length octets) 4) [ inl lt ↦ absurd (some (d.room lt)) | inr le ↦ le ]

module _ (octets sizes : List ℕ) (last frn : ℕ) (items : List Element) (p : List ℕ) (b : IsBegun octets sizes last items) (rising : last_frn items < frn) (in_table : frn ≤ 28) (some : 0 < length p) where
  last_is : last ≡ last_frn items
  last_is = b.draft.last_is ∙ ap last_frn b.items_are

  free : (j : ℕ) → frn - 1 ≤ j → get_or sizes j 0 ≡ 0
  free j h = b.draft.none_after j (omega (arith, last_is, rising))

  within : frn - 1 < length sizes
  within = omega (arith, in_table, rising, b.draft.count)

  apart : drop 4 (octets ++ p) ≡ drop 4 octets ++ p
  apart = drop-append-le 4 octets p b.long

  pub items_put : elements_by_size 0 (slice_set sizes (frn - 1) (length p)) (drop 4 (octets ++ p)) ≡ items ++ item_of frn p ∷ []
  items_put =
      ap (elements_by_size 0 (slice_set sizes (frn - 1) (length p))) apart ∙ elements_push 0 sizes (frn - 1) (drop 4 octets) p b.draft.total within free some
      ∙ (λ i. b.items_are i ++ record { number = number i; octets = p } ∷ []) where
        number : 0 + (frn - 1) ≡ frn - 1
        number = omega arith

  pub last_put : last_frn (items ++ item_of frn p ∷ []) ≡ frn
  last_put = end_push 0 items (item_of frn p) ∙ omega (arith, rising)

  pub size_put : length (octets_of (items ++ item_of frn p ∷ [])) ≡ length (octets_of items) + length p
  size_put = ap length (octets-push items (item_of frn p)) ∙ length-append (octets_of items) p

  size_is : length octets ≡ 4 + length (octets_of items)
  size_is =
      let same = ap (λ t. length (octets_of t)) (sym b.items_are) ∙ ap length (octets_elements 0 sizes (drop 4 octets) b.draft.total) in
      omega (arith, same, length-drop 4 octets, b.long)

  pub draft_put : length (octets_of items) + length p + 4 ≤ 1000 → IsDraft (octets ++ p) (slice_set sizes (frn - 1) (length p)) frn
  draft_put few = record {
    room = λ lt. absurd (omega (arith, lt, length-append octets p, b.long));
    limited = omega (arith, few, size_is, length-append octets p);
    count = length-set sizes (frn - 1) (length p) ∙ b.draft.count;
    total = sum_set sizes (frn - 1) (length p) within (free (frn - 1) (omega arith)) ∙ ap (λ n. n + length p) b.draft.total ∙ sym (length-append (drop 4 octets) p) ∙ ap length (sym apart);
    last_is = sym last_put ∙ ap last_frn (sym items_put);
    in_table = in_table;
    none_after = λ n h. get_or-set_other sizes (frn - 1) n (length p) 0 (λ e. omega (arith, e, h, rising)) ∙ free n (omega arith);
  }

-- ---- the record's octets

end_some : (n : ℕ) (ns : List ℕ) → 1 ≤ n → 1 ≤ end_from n ns
end_some n [] h = h
end_some n (m ∷ ns) h = end_some (suc m) ns (omega arith)

some_end : (es : List Element) → 0 < length es → 1 ≤ last_frn es
some_end [] h = absurd (omega arith)
some_end (p ∷ es) h = end_some (suc p.number) (numbers es) (omega arith)

module _ (octets sizes : List ℕ) (last : ℕ) (items : List Element) (d : IsDraft octets sizes last) (e : elements_by_size 0 sizes (drop 4 octets) ≡ items) where
  named : has (numbers items) ≡ sized sizes
  named = ap (λ es. has (numbers es)) (sym e) ∙ (λ i k. (ap (has (numbers (elements_by_size 0 sizes (drop 4 octets)))) (number k) ∙ has_sized 0 sizes (drop 4 octets) k) i) where
    number : (k : ℕ) → k ≡ 0 + k
    number k = omega arith

  last_of : last ≡ last_frn items
  last_of = d.last_is ∙ ap last_frn e

  pub some_last : 0 < length items → 1 ≤ last
  some_last h = omega (arith, last_of, some_end items h)

  pub record_is : (fspec : List ℕ) → fspec ≡ field_from (sized sizes) 0 ((last - 1) / 7 + 1) → fspec ++ drop 4 octets ≡ record_octets (record_of items)
  unfolding field_of
  record_is fspec f =
      let count : (last - 1) / 7 + 1 ≡ field_length (numbers items) = ap (λ n. (n - 1) / 7 + 1) last_of in
      let same = octets_elements 0 sizes (drop 4 octets) d.total in
      ap (λ t. t ++ drop 4 octets) f ∙ (λ i. field_from (sym named i) 0 (count i) ++ (sym same ∙ ap octets_of e) i)

-- ---- tests of the code

pub none_of : (xs : List ℕ) (n : ℕ) → length xs ≡ n → true ≡ (n == 0) → xs ≡ []
none_of [] n e h = refl
none_of (x ∷ xs) n e h = absurd (let no : (n == 0) ≡ false = ne_eqb n 0 (λ k. omega (arith, e, k)) in let b = h ∙ no in cc)

pub some_of : (xs : List ℕ) (n : ℕ) → length xs ≡ n → false ≡ (n == 0) → xs ≡ [] → ⊥
some_of [] n e h k = let yes : false ≡ true = h ∙ eq-eqb n 0 (sym e) in cc
some_of (x ∷ xs) n e h k = cc

-- where there is an item, there is room for the FSPEC
pub long_of : (octets sizes : List ℕ) (last : ℕ) → IsDraft octets sizes last → 1 ≤ last → 4 ≤ length octets
long_of octets sizes last d some =
    elim (cases_lt (length octets) 4) [
      | inl lt ↦
          let none : drop 4 octets ≡ [] = ap (drop 4) (d.room lt) in
          let nothing = elements_none 0 sizes (drop 4 octets) (none_in sizes (d.total ∙ ap length none)) in
          let zero_is : last_frn (elements_by_size 0 sizes (drop 4 octets)) ≡ 0 = ap last_frn nothing in
          absurd (omega (arith, zero_is, d.last_is, some))
      | inr le ↦ le
    ]

-- the FSPEC written over the end of its room, and the rest of the room taken away
pub cut : (octets fspec moved short : List ℕ) (count : ℕ) → 4 ≤ length octets → count ≤ 4 → length fspec ≡ count → moved ≡ take (4 - count) octets ++ (fspec ++ drop 4 octets)
    → short ≡ take (length moved - (4 - count)) (drop (4 - count) moved ++ take (4 - count) moved) → short ≡ fspec ++ drop 4 octets
cut octets fspec moved short count long few size m s =
    let front : length (take (4 - count) octets) ≡ 4 - count = omega (arith, long, length-take (4 - count) octets) in
    let after : drop (4 - count) moved ≡ fspec ++ drop 4 octets = ap (drop (4 - count)) m ∙ drop_at (take (4 - count) octets) (fspec ++ drop 4 octets) (4 - count) front in
    let size_is : length (fspec ++ drop 4 octets) ≡ length moved - (4 - count) = omega (arith, ap length m, front, length-append (take (4 - count) octets) (fspec ++ drop 4 octets)) in
    s ∙ ap (λ t. take (length moved - (4 - count)) (t ++ take (4 - count) moved)) after ∙ take_at (fspec ++ drop 4 octets) (take (4 - count) moved) (length moved - (4 - count)) size_is

-- what a vector holds after a write to a part of it
pub moved_is : (octets before written fspec : List ℕ) (unused len : ℕ) → before ≡ octets → written ≡ fspec → len ≡ length octets → unused ≤ 4 → length fspec ≡ 4 - unused → 4 ≤ length octets
    → take len (put_mid unused (4 - unused) before written ++ drop (length (put_mid unused (4 - unused) before written)) octets) ≡ take unused octets ++ (fspec ++ drop 4 octets)
moved_is octets before written fspec unused len b w l few size long =
    let at : 4 - unused + unused ≡ 4 = omega arith in
    let whole : put_mid unused (4 - unused) before written ≡ take unused octets ++ (fspec ++ drop 4 octets) =
    (λ i. put_mid unused (4 - unused) (b i) (w i)) ∙ ap (λ t. take unused octets ++ (fspec ++ t)) (drop-drop (4 - unused) unused octets ∙ ap (λ n. drop n octets) (add_comm unused (4 - unused) ∙ at)) in
    let long_as : length (take unused octets ++ (fspec ++ drop 4 octets)) ≡ len =
    omega (arith, l, size, long, length-append (take unused octets) (fspec ++ drop 4 octets), length-append fspec (drop 4 octets), length-take unused octets, length-drop 4 octets) in
    (λ i. take len (whole i ++ drop (length (whole i)) octets)) ∙ take_at (take unused octets ++ (fspec ++ drop 4 octets)) (drop (length (take unused octets ++ (fspec ++ drop 4 octets))) octets) len long_as
