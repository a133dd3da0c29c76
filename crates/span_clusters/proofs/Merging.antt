-- Two rising lists become one, item by item.
use Rattle.std.proofs.Common.{◌≡◌, ◌≢◌, ◌∙◌, ap, sym, refl, ◌<◌, List, [], ◌∷◌, ◌++◌, length, drop, get_or, arith, subst}
use Rattle.std.specs.Prelude.{Contains}
use Rattle.std.specs.List.{AllByRecursion}
use Rattle.std.specs.Cmp.{IsTotalOrder}
use Rattle.std.specs.Ordering.{ordering_reverse}
use Rattle.std.specs.declared.cmp.Ordering.{Ordering}
use Rattle.std.specs.declared.cmp.Ordering.TheVariants.{Less, Equal, Greater}
use Rattle.late_window.specs.Folding.{Rises, ComesBefore}
use Rattle.span_clusters.specs.Interleavings.{Interleaved, KeysDiffer}
use Rattle.span_clusters.specs.Interleavings.Interleaved.{neither, first, second}
use Rattle.span_clusters.proofs.Interleavings.{contains_first, contains_later, all_contains}

pub all_second : {X : Type 0} (ys : List X) → Interleaved [] ys ys
all_second [] = neither
all_second (y ∷ ys) = second y [] ys ys (all_second ys)

pub one_after_other : {X : Type 0} (xs ys : List X) → Interleaved xs ys (xs ++ ys)
one_after_other [] ys = all_second ys
one_after_other (x ∷ xs) ys = first x xs ys (xs ++ ys) (one_after_other xs ys)

all_of : {X : Type 0} (P : X → Type 0) (xs : List X) → ((x : X) → Contains xs x → P x) → AllByRecursion P xs
all_of P [] f = tt
all_of P (x ∷ xs) f = (f x (contains_first x x xs refl), all_of P xs (λ y c. f y (contains_later x y xs c)))

snoc_append : {X : Type 0} (xs : List X) (x : X) (ys : List X) → (xs ++ x ∷ []) ++ ys ≡ xs ++ x ∷ ys
snoc_append [] x ys = refl
snoc_append {X} (z ∷ xs) x ys = ap (λ (l : List X). z ∷ l) (snoc_append xs x ys)

pub three : {X : Type 0} (xs ys zs : List X) → (xs ++ ys) ++ zs ≡ xs ++ (ys ++ zs)
three [] ys zs = refl
three {X} (x ∷ xs) ys zs = ap (λ (l : List X). x ∷ l) (three xs ys zs)

module _ {I K : Type 0} (cmp : I → I → Ordering) (key : I → K) where
  all_between : (P : I → Type 0) (before ls rs : List I) (x : I) → AllByRecursion P (before ++ x ∷ ls) → AllByRecursion P (before ++ rs) → AllByRecursion P (before ++ x ∷ rs)
  all_between P [] ls rs x h k = (h.0, k)
  all_between P (a ∷ before) ls rs x h k = (h.0, all_between P before ls rs x h.1 k.1)

  rises_between : (before ls rs : List I) (x : I) → Rises cmp key (before ++ x ∷ ls) → Rises cmp key (before ++ rs) → AllByRecursion (ComesBefore cmp key x) rs → Rises cmp key (before ++ x ∷ rs)
  rises_between [] ls rs x h k a = (a, k)
  rises_between (b ∷ before) ls rs x h k a = (all_between (ComesBefore cmp key b) before ls rs x h.0 k.0, rises_between before ls rs x h.1 k.1 a)

  end_rises : (before xs : List I) → Rises cmp key (before ++ xs) → Rises cmp key xs
  end_rises [] xs h = h
  end_rises (a ∷ before) xs h = end_rises before xs h.1

  -- the lesser first item comes before all of the other list
  before_all : IsTotalOrder cmp → (x y : I) (xs rs : List I) → cmp x y ≡ Less → Rises cmp key (y ∷ rs) → KeysDiffer key (x ∷ xs) (y ∷ rs) → AllByRecursion (ComesBefore cmp key x) (y ∷ rs)
  before_all t x y xs rs lt h d = all_of (ComesBefore cmp key x) (y ∷ rs) (λ z c. record { order = less z c; keys = d x z (contains_first x x xs refl) c })
    where
      less : (z : I) → Contains (y ∷ rs) z → cmp x z ≡ Less
      less z c = all_contains (λ w. cmp x w ≡ Less) z (y ∷ rs) (lt, all_of (λ w. cmp x w ≡ Less) rs (λ w e. t.trans x y w lt (all_contains (ComesBefore cmp key y) w rs h.0 e).order)) c

  -- what was put together, and what is left of both
  pub record Underway (one other items left right : List I) : Type 0 where
    pub both : (zs : List I) → Interleaved left right zs → Interleaved one other (items ++ zs)
    pub one_rises : Rises cmp key (items ++ left)
    pub other_rises : Rises cmp key (items ++ right)
    pub differ : KeysDiffer key left right

  pub underway_first : (one other : List I) → Rises cmp key one → Rises cmp key other → KeysDiffer key one other → Underway one other [] one other
  underway_first one other h k d = record { both = λ zs m. m; one_rises = h; other_rises = k; differ = d }

  take_left : IsTotalOrder cmp → (one other items left right : List I) (x y : I) (ls rs : List I) → Underway one other items left right → left ≡ x ∷ ls → right ≡ y ∷ rs → cmp x y ≡ Less → Underway one other (items ++ x ∷ []) ls right
  take_left t one other items left right x y ls rs u e f lt = record {
    both = λ zs m. subst (Interleaved one other) (sym (snoc_append items x zs)) (u.both (x ∷ zs) (subst (λ (l : List I). Interleaved l right (x ∷ zs)) (sym e) (first x ls right zs m)));
    one_rises = subst (Rises cmp key) (sym (snoc_append items x ls)) (subst (λ (l : List I). Rises cmp key (items ++ l)) e u.one_rises);
    other_rises = subst (Rises cmp key) (sym (snoc_append items x right)) (rises_between items ls right x (subst (λ (l : List I). Rises cmp key (items ++ l)) e u.one_rises) u.other_rises
        (subst (AllByRecursion (ComesBefore cmp key x)) (sym f) (before_all t x y ls rs lt (subst (Rises cmp key) f (end_rises items right u.other_rises)) (subst (λ (l : List I). KeysDiffer key l (y ∷ rs)) e (subst (λ (l : List I). KeysDiffer key left l) f u.differ)))));
    differ = λ a b c d. u.differ a b (subst (λ (l : List I). Contains l a) (sym e) (contains_later x a ls c)) d;
  }

  turned : (xs ys : List I) → KeysDiffer key xs ys → KeysDiffer key ys xs
  turned xs ys d a b c e q = d b a e c (sym q)

  take_right : IsTotalOrder cmp → (one other items left right : List I) (x y : I) (ls rs : List I) → Underway one other items left right → left ≡ x ∷ ls → right ≡ y ∷ rs → cmp y x ≡ Less → Underway one other (items ++ y ∷ []) left rs
  take_right t one other items left right x y ls rs u e f lt = record {
    both = λ zs m. subst (Interleaved one other) (sym (snoc_append items y zs)) (u.both (y ∷ zs) (subst (λ (l : List I). Interleaved left l (y ∷ zs)) (sym f) (second y left rs zs m)));
    one_rises = subst (Rises cmp key) (sym (snoc_append items y left)) (rises_between items rs left y (subst (λ (l : List I). Rises cmp key (items ++ l)) f u.other_rises) u.one_rises
        (subst (AllByRecursion (ComesBefore cmp key y)) (sym e) (before_all t y x rs ls lt (subst (Rises cmp key) e (end_rises items left u.one_rises)) (turned (x ∷ ls) (y ∷ rs) (subst (λ (l : List I). KeysDiffer key l (y ∷ rs)) e (subst (λ (l : List I). KeysDiffer key left l) f u.differ))))));
    other_rises = subst (Rises cmp key) (sym (snoc_append items y rs)) (subst (λ (l : List I). Rises cmp key (items ++ l)) f u.other_rises);
    differ = λ a b c d. u.differ a b c (subst (λ (l : List I). Contains l b) (sym f) (contains_later y b rs d));
  }

  other_less : IsTotalOrder cmp → ((x y : I) → cmp x y ≡ Equal → x ≡ y) → (x y : I) → key x ≢ key y → (cmp x y ≡ Less → ⊥) → cmp y x ≡ Less
  other_less t exact x y d n = cases (cmp x y) refl
    where
      cases : (o : Ordering) → cmp x y ≡ o → cmp y x ≡ Less
      cases Less e = absurd (n e)
      cases Equal e = absurd (d (ap key (exact x y e)))
      cases Greater e = t.antisymm y x ∙ ap ordering_reverse e

  cut_first : (xs : List I) (x : I) → 0 < length xs → x ≡ get_or xs 0 x → xs ≡ x ∷ drop 1 xs
  cut_first [] x l e = absurd (omega (arith, l))
  cut_first (y ∷ xs) x l e = ap (λ z. z ∷ xs) (sym e)

  pub took_left : IsTotalOrder cmp → (one other items left right : List I) (x y : I) → Underway one other items left right → 0 < length left → x ≡ get_or left 0 x → 0 < length right → y ≡ get_or right 0 y → cmp x y ≡ Less → Underway one other (items ++ x ∷ []) (drop 1 left) right
  took_left t one other items left right x y u l e m f lt = take_left t one other items left right x y (drop 1 left) (drop 1 right) u (cut_first left x l e) (cut_first right y m f) lt

  pub took_right : IsTotalOrder cmp → ((x y : I) → cmp x y ≡ Equal → x ≡ y) → (one other items left right : List I) (x y : I) → Underway one other items left right → 0 < length left → x ≡ get_or left 0 x → 0 < length right → y ≡ get_or right 0 y → (cmp x y ≡ Less → ⊥) → Underway one other (items ++ y ∷ []) left (drop 1 right)
  took_right t exact one other items left right x y u l e m f n =
      let a : left ≡ x ∷ drop 1 left = cut_first left x l e in
      let b : right ≡ y ∷ drop 1 right = cut_first right y m f in
      let d : key x ≢ key y = u.differ x y (subst (λ (k : List I). Contains k x) (sym a) (contains_first x x (drop 1 left) refl)) (subst (λ (k : List I). Contains k y) (sym b) (contains_first y y (drop 1 right) refl)) in
      take_right t one other items left right x y (drop 1 left) (drop 1 right) u a b (other_less t exact x y d n)

  -- once one of both is gone
  pub merged_both : (one other items left right : List I) → Underway one other items left right → Interleaved one other (items ++ (left ++ right))
  merged_both one other items left right u = u.both (left ++ right) (one_after_other left right)

  pub merged_rises : (one other items left right : List I) → Underway one other items left right → length left ≡ 0 → Rises cmp key (items ++ (left ++ right))
  merged_rises one other items [] right u e = u.other_rises
  merged_rises one other items (x ∷ left) right u e = absurd (omega (arith, e))

  pub merged_rises_left : (one other items left right : List I) → Underway one other items left right → length right ≡ 0 → Rises cmp key (items ++ (left ++ right))
  merged_rises_left one other items left [] u e = subst (λ (l : List I). Rises cmp key (items ++ l)) (sym (append_none left)) u.one_rises
    where
      append_none : (xs : List I) → xs ++ [] ≡ xs
      append_none [] = refl
      append_none (x ∷ xs) = ap (λ (l : List I). x ∷ l) (append_none xs)
  merged_rises_left one other items left (y ∷ right) u e = absurd (omega (arith, e))
