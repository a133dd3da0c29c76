-- New items are put behind those that rise, and what stands from their least slot on is sorted.
use Rattle.std.proofs.Common.{◌≡◌, ◌≢◌, ◌∙◌, ap, sym, refl, subst, ℕ, zero, suc, ◌+◌, ◌-◌, ◌≤◌, ◌<◌, List, [], ◌∷◌, ◌++◌, true, false, cond, eqb, length, take, drop, get_or, append_assoc, append-nil, arith, inl, inr}
use borrow.Rule.Slice.PartMut.{put_mid, post_of}
use Rattle.std.specs.Cmp.{IsTotalOrder}
use Rattle.std.specs.List.{AllByRecursion, swap}
use Rattle.std.specs.List.Sorted.{IsPermutation, IsSorted}
use Rattle.std.specs.Ordering.{is_lt, ordering_reverse}
use Rattle.std.specs.declared.cmp.Ordering.{Ordering}
use Rattle.std.specs.declared.cmp.Ordering.TheVariants.{Less, Equal, Greater}
use Rattle.std.proofs.Math.Seq.{take-append_seam}
use Rattle.std.proofs.lemmas.Bool.{cases_Bool, eqb-true, eq-eqb}
use Rattle.std.specs.Prelude.{OnOk}
use Rattle.std.specs.Result.{is_err}
use Rattle.std.specs.declared.result.Result.{Result}
use Rattle.std.specs.declared.result.Result.TheVariants.{Ok, Err}
use Rattle.std.proofs.lemmas.List.{length-drop, length-append, length-take-le, take_all, drop_all, take-append-le, drop-append-le}
use Rattle.std.proofs.lemmas.List.Edits.{Swapped, swapped_from_swap, length-swap}
use Rattle.std.proofs.lemmas.List.Elements.{recursion_from_All, All-from_recursion}
use Rattle.std.proofs.lemmas.List.Sorted.{IsPermutation-trans, IsPermutation-append_right, IsPermutation-append_comm, IsPermutation-keeps, All-permutation, ranks_by, sorted_far}
use Rattle.late_window.specs.Folding.{ComesBefore, Rises, below, from}
use Rattle.late_window.specs.Windows.{Differ, AreNew}
use Rattle.late_window.proofs.Groups.{slots_rise}
use Rattle.late_window.proofs.Lists.{all_weaker, all_append}
use Rattle.late_window.proofs.Orders.{rises_cut, rises_filter}
use Rattle.late_window.proofs.Cuts

-- what was said of a success holds where there was no error
pub ok_holds : {T E : Type 0} {P : Type 0} (r : Result T E) → is_err r ≡ false → OnOk r P → P
ok_holds (Ok x) e h = h
ok_holds (Err x) e h = cc

-- a list behind which another was put, from a place in it on
pub drop_behind : {X : Type 0} (k : ℕ) (items new all lent highs : List X) → lent ≡ all → all ≡ items ++ new → k ≤ length items → drop k items ≡ highs → take (length lent - k) (drop k lent) ≡ highs ++ new
drop_behind k items new all lent highs e f within is =
    take_all (length lent - k) (drop k lent) (omega (arith, length-drop k lent)) ∙ ap (drop k) (e ∙ f) ∙ drop-append-le k items new within ∙ ap (λ l. l ++ new) is

-- such a list, where that part was lent and came back as ys
pub came_behind : {X : Type 0} (n k : ℕ) (items new all lent lows ys : List X) → lent ≡ all → length lent ≡ n → all ≡ items ++ new → k ≤ length items → take k items ≡ lows → length ys ≡ length (take (length lent - k) (drop k lent))
    → take n (put_mid k (length lent - k) lent ys ++ drop (length (put_mid k (length lent - k) lent ys)) all) ≡ lows ++ ys
came_behind n k items new all lent lows ys e long f within is size =
    let more : length lent ≡ length items + length new = ap length (e ∙ f) ∙ length-append items new in
    let none : post_of k (length lent - k) lent ≡ [] = drop_all (length lent - k) (drop k lent) (omega (arith, length-drop k lent)) in
    let whole : put_mid k (length lent - k) lent ys ≡ lows ++ ys =
    ap (λ l. take k lent ++ (ys ++ l)) none ∙ ap (λ l. take k lent ++ l) (append-nil ys) ∙ ap (λ l. take k l ++ ys) (e ∙ f) ∙ ap (λ l. l ++ ys) (take-append-le k items new within ∙ is) in
    let short : length (take (length lent - k) (drop k lent)) ≡ length (drop k lent) = ap length (take_all (length lent - k) (drop k lent) (omega (arith, length-drop k lent))) in
    let left : length lows ≡ k = sym (ap length is) ∙ length-take-le k items within in
    let same : n ≡ length (lows ++ ys) = omega (arith, long, more, within, size, short, left, length-drop k lent, length-append lows ys) in
    (λ i. take n (whole i ++ drop (length (whole i)) all)) ∙ ap (λ m. take m ((lows ++ ys) ++ drop (length (lows ++ ys)) all)) same ∙ take-append_seam (lows ++ ys) (drop (length (lows ++ ys)) all)

-- where two places are exchanged, the place from which one comes
abbrev came_from : ℕ → ℕ → ℕ → ℕ
came_from a b i = cond (eqb i a) b (cond (eqb i b) a i)

came_twice : (a b i : ℕ) → came_from a b (came_from a b i) ≡ i
came_twice a b i = elim (cases_Bool (eqb i a)) [
  | inl t ↦ elim (cases_Bool (eqb b a)) [
    | inl u ↦ rw t (rw u (omega (arith, eqb-true i a t, eqb-true b a u)))
    | inr u ↦ rw t (rw (u, eq-eqb b b refl) (sym (eqb-true i a t)))
  ]
  | inr t ↦ elim (cases_Bool (eqb i b)) [
    | inl u ↦ rw (t, u) (rw (eq-eqb a a refl) (sym (eqb-true i b u)))
    | inr u ↦ rw (t, u) (rw (t, u) refl)
  ]
]

came_within : (a b i n : ℕ) → a < n → b < n → i < n → came_from a b i < n
came_within a b i n h k l = elim (eqb i a) as (λ c. cond c b (cond (eqb i b) a i) < n) [ true ↦ k | false ↦ elim (eqb i b) as (λ c. cond c a i < n) [ true ↦ h | false ↦ l ] ]

module _ {I K : Type 0} (key : I → K) where
  -- no two places have one key
  abbrev pub AreApart : List I → Type 0
  AreApart xs = (i j : ℕ) (d : I) → i < length xs → j < length xs → key (get_or xs i d) ≡ key (get_or xs j d) → i ≡ j

  pub apart_from_differ : (xs : List I) → Differ key xs → AreApart xs
  apart_from_differ [] h i j d l r e = absurd (omega (arith, l))
  apart_from_differ (x ∷ xs) h zero zero d l r e = refl
  apart_from_differ (x ∷ xs) h zero (suc j) d l r e = absurd (All-from_recursion (λ y. key x ≢ key y) xs h.0 j d (omega (arith, r)) e)
  apart_from_differ (x ∷ xs) h (suc i) zero d l r e = absurd (All-from_recursion (λ y. key x ≢ key y) xs h.0 i d (omega (arith, l)) (sym e))
  apart_from_differ (x ∷ xs) h (suc i) (suc j) d l r e = ap suc (apart_from_differ xs h.1 i j d (omega (arith, l)) (omega (arith, r)) e)

  swapped_at : (xs : List I) (a b i : ℕ) (d : I) → a < length xs → b < length xs → get_or (swap xs a b) i d ≡ get_or xs (came_from a b i) d
  swapped_at xs a b i d h k =
      let s : Swapped (λ m. get_or xs m d) (λ m. get_or (swap xs a b) m d) a b = swapped_from_swap xs (swap xs a b) a b d h k refl in
      elim (cases_Bool (eqb i a)) [
        | inl t ↦ rw t (ap (λ m. get_or (swap xs a b) m d) (eqb-true i a t) ∙ s.0)
        | inr t ↦ elim (cases_Bool (eqb i b)) [
          | inl u ↦ rw (t, u) (ap (λ m. get_or (swap xs a b) m d) (eqb-true i b u) ∙ s.1)
          | inr u ↦ rw (t, u) (s.2 i (λ e. false_is i a e t) (λ e. false_is i b e u))
        ]
      ]
    where
      false_is : (m n : ℕ) → m ≡ n → eqb m n ≡ false → ⊥
      false_is m n e f = let t : eqb m n ≡ true = eq-eqb m n e in cc

  apart_swap : (xs : List I) (a b : ℕ) → a < length xs → b < length xs → AreApart xs → AreApart (swap xs a b)
  apart_swap xs a b h k apart i j d l r e =
      let n : length (swap xs a b) ≡ length xs = length-swap xs a b in
      let one : came_from a b i ≡ came_from a b j =
      apart (came_from a b i) (came_from a b j) d (came_within a b i (length xs) h k (omega (arith, n, l))) (came_within a b j (length xs) h k (omega (arith, n, r)))
      (sym (ap key (swapped_at xs a b i d h k)) ∙ e ∙ ap key (swapped_at xs a b j d h k)) in
      sym (came_twice a b i) ∙ ap (came_from a b) one ∙ came_twice a b j

  apart_moved : (xs ys : List I) → IsPermutation xs ys → AreApart xs → AreApart ys
  apart_moved xs ys moves h = IsPermutation-keeps xs AreApart h (λ l a b i j k. apart_swap l a b i j k) ys moves

  apart_tail : (x : I) (xs : List I) → AreApart (x ∷ xs) → AreApart xs
  apart_tail x xs h i j d l r e = let s : suc i ≡ suc j = h (suc i) (suc j) d (omega (arith, l)) (omega (arith, r)) e in omega (arith, s)

  apart_right : (xs ys : List I) → AreApart (xs ++ ys) → AreApart ys
  apart_right [] ys h = h
  apart_right (x ∷ xs) ys h = apart_right xs ys (apart_tail x (xs ++ ys) h)

  differ_append : (xs ys : List I) → Differ key xs → Differ key ys → AllByRecursion (λ x. AllByRecursion (λ y. key y ≢ key x) ys) xs → Differ key (xs ++ ys)
  differ_append [] ys h k a = k
  differ_append (x ∷ xs) ys h k a = (all_append (λ y. key x ≢ key y) xs ys h.0 (all_weaker (λ y. key y ≢ key x) (λ y. key x ≢ key y) (λ y d e. d (sym e)) ys a.0), differ_append xs ys h.1 k a.1)

  module _ (cmp : I → I → Ordering) (total : IsTotalOrder cmp) (exact : (x y : I) → cmp x y ≡ Equal → x ≡ y) where
    differ_rise : (xs : List I) → Rises cmp key xs → Differ key xs
    differ_rise [] h = tt
    differ_rise (x ∷ xs) h = (all_weaker (ComesBefore cmp key x) (λ y. key x ≢ key y) (λ y c. c.keys) xs h.0, differ_rise xs h.1)

    before_is : (x y : I) → is_lt (cmp y x) ≡ false → key x ≢ key y → (o : Ordering) → cmp x y ≡ o → cmp x y ≡ Less
    before_is x y n d Less e = e
    before_is x y n d Equal e = absurd (d (ap key (exact x y e)))
    before_is x y n d Greater e = absurd (let t : is_lt (cmp y x) ≡ true = ap is_lt (total.antisymm y x ∙ ap ordering_reverse e) in cc)

    sorted_tail : (x : I) (xs : List I) → IsSorted cmp (x ∷ xs) → IsSorted cmp xs
    sorted_tail x xs h = λ k d low within.
        let e : suc k + 1 ≡ suc (k + 1) = omega arith in
        subst (λ n. is_lt (cmp (get_or (x ∷ xs) n d) (get_or xs k d)) ≡ false) e (h (suc k) d (omega arith) (omega arith))

    pub sorted_rises : (xs : List I) → IsSorted cmp xs → AreApart xs → Rises cmp key xs
    sorted_rises [] h a = tt
    sorted_rises (x ∷ xs) h a = (
      recursion_from_All (ComesBefore cmp key x) xs (λ k d within.
          let keys : key x ≢ key (get_or xs k d) = λ e. let n : zero ≡ suc k = a 0 (suc k) d (omega arith) (omega (arith, within)) e in omega (arith, n) in
          record { order = before_is x (get_or xs k d) (sorted_far (λ u v. is_lt (cmp u v)) (ranks_by total (λ u. u)) (x ∷ xs) h 0 (suc k) d (omega arith) (omega (arith, within))) keys (cmp x (get_or xs k d)) refl; keys = keys }),
      sorted_rises xs (sorted_tail x xs h) (apart_tail x xs a),
    )

    module _ (slot : I → ℕ) (in_order : (x y : I) → cmp x y ≡ Less → slot x ≤ slot y) (slot_in_key : (x y : I) → key x ≡ key y → slot x ≡ slot y) where
      -- items that rise came as ys where new ones, of which none is below slot n, were merged into them
      pub record AreMerged (n : ℕ) (items new ys : List I) : Type 0 where
        pub rise : Rises cmp key ys
        pub more : IsPermutation (new ++ items) ys
        pub low : below slot n ys ≡ below slot n items

      pub merged : (n : ℕ) (items new ys : List I) → Rises cmp key items → AreNew key items new → AllByRecursion (λ x. n ≤ slot x) new → IsPermutation (from slot n items ++ new) ys → IsSorted cmp ys → AreMerged n items new (below slot n items ++ ys)
      merged n items new ys rise fresh least moves up =
          let lows = below slot n items in
          let highs = from slot n items in
          let cut : items ≡ lows ++ highs = Cuts.cut_at slot n items (slots_rise cmp key slot in_order items rise) in
          let behind : IsPermutation (new ++ items) (lows ++ (highs ++ new)) =
          subst (IsPermutation (new ++ items)) (ap (λ l. l ++ new) cut ∙ append_assoc lows highs new) (IsPermutation-append_comm new items) in
          let more : IsPermutation (new ++ items) (lows ++ ys) = IsPermutation-trans (new ++ items) (lows ++ (highs ++ new)) (lows ++ ys) behind (IsPermutation-append_right lows (highs ++ new) ys moves) in
          let apart : AreApart (lows ++ ys) = apart_moved (new ++ items) (lows ++ ys) more (apart_from_differ (new ++ items) (differ_append new items fresh.differ (differ_rise items rise) fresh.apart)) in
          let high : AllByRecursion (λ x. n ≤ slot x) ys =
          recursion_from_All (λ x. n ≤ slot x) ys (All-permutation (λ x. n ≤ slot x) (highs ++ new) ys moves (All-from_recursion (λ x. n ≤ slot x) (highs ++ new) (all_append (λ x. n ≤ slot x) highs new (Cuts.from_le slot n items) least))) in
          let c : Cuts.AreCut slot n lows ys = record { low = Cuts.below_lt slot n items; high = high } in
          record {
            rise = rises_cut cmp key total slot in_order exact slot_in_key n lows ys c (rises_filter cmp key _ items rise) (sorted_rises ys up (apart_right lows ys apart));
            more = more;
            low = Cuts.below_cut slot n lows ys c;
          }
