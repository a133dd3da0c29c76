-- Lists in rising order: a list has one such order, for a total order that tells all things apart.
use Rattle.std.proofs.Common.{◌≡◌, ◌∙◌, ap, sym, subst, refl, ℕ, zero, suc, ◌+◌, ◌<◌, Bool, true, false, cond, List, [], ◌∷◌, length, get_or, arith}
use Rattle.std.specs.Prelude.{sum_by}
use Rattle.std.specs.Cmp.{IsStrictWeakOrder}
use Rattle.std.specs.Ordering.{is_lt, ordering_reverse}
use Rattle.std.specs.declared.cmp.Ordering.{Ordering}
use Rattle.std.specs.declared.cmp.Ordering.TheVariants.{Less, Equal, Greater}
use Rattle.std.specs.List.{AllByRecursion}
use Rattle.std.specs.List.Sorted.{IsSorted, IsPermutation}
use Rattle.std.proofs.lemmas.List.Sorted.{IsPermutation-refl, IsPermutation-cons, IsPermutation-trans, IsPermutation-sym, IsPermutation-middle, sum_by-IsPermutation, ranks_by, sorted_far}
use Rattle.std.proofs.lemmas.List.Elements.{recursion_from_All}
use Rattle.std.proofs.lemmas.List.Sums.{sum_by-append}
use Rattle.plot_geometry.specs.Plots.{PlanePlot}
use Rattle.plot_geometry.specs.PlotOrder.{plot_cmp}
use Rattle.plot_geometry.specs.PlotOrder.{plot_cmp_total, plot_cmp_exact}
use Rattle.admission_log.specs.Plots.{put, in_rising_key}

-- none behind is below x
abbrev pub AreNotBelow : PlanePlot → List PlanePlot → Type 0
AreNotBelow x ys = AllByRecursion (λ y. is_lt (plot_cmp y x) ≡ false) ys

-- none is below an earlier one
abbrev pub Rises : List PlanePlot → Type 0
Rises [] = Unit {0}
Rises (x ∷ xs) = AreNotBelow x xs × Rises xs

-- ---- the order

not_below_itself : (x : PlanePlot) → is_lt (plot_cmp x x) ≡ false
not_below_itself x =
    let h : (o : Ordering) → o ≡ ordering_reverse o → is_lt o ≡ false = λ o. elim o as (λ o. o ≡ ordering_reverse o → is_lt o ≡ false) [ Less ↦ λ e. absurd (cc) | Equal ↦ λ e. refl | Greater ↦ λ e. refl ] in
    h (plot_cmp x x) (plot_cmp_total.antisymm x x)

-- things that aren't below one another are one
same : (x y : PlanePlot) → is_lt (plot_cmp x y) ≡ false → is_lt (plot_cmp y x) ≡ false → x ≡ y
same x y p q =
    let h : (o o' : Ordering) → o ≡ ordering_reverse o' → is_lt o ≡ false → is_lt o' ≡ false → o ≡ Equal =
    λ o o'. elim o as (λ o. o ≡ ordering_reverse o' → is_lt o ≡ false → is_lt o' ≡ false → o ≡ Equal) [
      | Less ↦ λ e a b. absurd (cc)
      | Equal ↦ λ e a b. refl
      | Greater ↦ λ e a b. elim o' as (λ o'. Greater ≡ ordering_reverse o' → is_lt o' ≡ false → Greater ≡ Equal) [ Less ↦ λ e b. absurd (cc) | Equal ↦ λ e b. absurd (cc) | Greater ↦ λ e b. absurd (cc) ] e b
    ] in
    plot_cmp_exact x y (h (plot_cmp x y) (plot_cmp y x) (plot_cmp_total.antisymm x y) p q)

order : IsStrictWeakOrder (λ x y. is_lt (plot_cmp x y))
order = ranks_by plot_cmp_total (λ x. x)

-- ---- putting one in its place

not_below_put : (x p : PlanePlot) (ps : List PlanePlot) → is_lt (plot_cmp p x) ≡ false → AreNotBelow x ps → AreNotBelow x (put p ps)
not_below_put x p [] h all = (h, tt)
not_below_put x p (q ∷ qs) h all = elim (is_lt (plot_cmp q p)) as (λ b. AreNotBelow x (cond b (q ∷ put p qs) (p ∷ q ∷ qs))) [
  | true ↦ (all.0, not_below_put x p qs h all.1)
  | false ↦ (h, all)
]

-- what isn't below the first isn't below p either, where the first isn't below p
not_below_all : (p q : PlanePlot) (qs : List PlanePlot) → is_lt (plot_cmp q p) ≡ false → AreNotBelow q qs → AreNotBelow p qs
not_below_all p q [] h all = tt
not_below_all p q (r ∷ rs) h all = (order.chain r q p all.0 h, not_below_all p q rs h all.1)

put_rises : (p : PlanePlot) (ps : List PlanePlot) → Rises ps → Rises (put p ps)
put_rises p [] h = (tt, tt)
put_rises p (q ∷ qs) h =
    let at : (b : Bool) → is_lt (plot_cmp q p) ≡ b → Rises (cond b (q ∷ put p qs) (p ∷ q ∷ qs)) = λ b. elim b as (λ b. is_lt (plot_cmp q p) ≡ b → Rises (cond b (q ∷ put p qs) (p ∷ q ∷ qs))) [
      | true ↦ λ e. (not_below_put q p qs (order.one_way q p e) h.0, put_rises p qs h.1)
      | false ↦ λ e. ((e, not_below_all p q qs e h.0), h)
    ] in
    at (is_lt (plot_cmp q p)) refl

pub all_rise : (ps : List PlanePlot) → Rises (in_rising_key ps)
all_rise [] = tt
all_rise (p ∷ ps) = put_rises p (in_rising_key ps) (all_rise ps)

put_moves : (p : PlanePlot) (ps : List PlanePlot) → IsPermutation (p ∷ ps) (put p ps)
put_moves p [] = IsPermutation-refl (p ∷ [])
put_moves p (q ∷ qs) = elim (is_lt (plot_cmp q p)) as (λ b. IsPermutation (p ∷ q ∷ qs) (cond b (q ∷ put p qs) (p ∷ q ∷ qs))) [
  | true ↦ IsPermutation-trans (p ∷ q ∷ qs) (q ∷ p ∷ qs) (q ∷ put p qs) (IsPermutation-sym (q ∷ p ∷ qs) (p ∷ q ∷ qs) (IsPermutation-middle (q ∷ []) p qs)) (IsPermutation-cons q (p ∷ qs) (put p qs) (put_moves p qs))
  | false ↦ IsPermutation-refl (p ∷ q ∷ qs)
]

pub all_move : (ps : List PlanePlot) → IsPermutation ps (in_rising_key ps)
all_move [] = IsPermutation-refl []
all_move (p ∷ ps) = IsPermutation-trans (p ∷ ps) (p ∷ in_rising_key ps) (put p (in_rising_key ps)) (IsPermutation-cons p ps (in_rising_key ps) (all_move ps)) (put_moves p (in_rising_key ps))

-- ---- std's words for the order

next_not_below : (x : PlanePlot) (xs : List PlanePlot) (d : PlanePlot) → 0 < length xs → AreNotBelow x xs → is_lt (plot_cmp (get_or xs 0 d) x) ≡ false
next_not_below x [] d h all = absurd (omega arith)
next_not_below x (y ∷ ys) d h all = all.0

sorted : (xs : List PlanePlot) → Rises xs → (k : ℕ) (d : PlanePlot) → k + 1 < length xs → is_lt (plot_cmp (get_or xs (k + 1) d) (get_or xs k d)) ≡ false
sorted [] h k d within = absurd (omega arith)
sorted (x ∷ xs) h zero d within = next_not_below x xs d (omega arith) h.0
sorted (x ∷ xs) h (suc k) d within =
    let e : suc (k + 1) ≡ suc k + 1 = omega arith in
    subst (λ n. is_lt (plot_cmp (get_or (x ∷ xs) n d) (get_or xs k d)) ≡ false) e (sorted xs h.1 k d (omega arith))

pub is_sorted : (ps : List PlanePlot) → IsSorted plot_cmp (in_rising_key ps)
is_sorted ps = λ k d low within. sorted (in_rising_key ps) (all_rise ps) k d within

tail_sorted : (x : PlanePlot) (xs : List PlanePlot) → IsSorted plot_cmp (x ∷ xs) → IsSorted plot_cmp xs
tail_sorted x xs h = λ k d low within.
    let e : suc k + 1 ≡ suc (k + 1) = omega arith in
    subst (λ n. is_lt (plot_cmp (get_or (x ∷ xs) n d) (get_or xs k d)) ≡ false) e (h (suc k) d (omega arith) (omega arith))

rises_sorted : (xs : List PlanePlot) → IsSorted plot_cmp xs → Rises xs
rises_sorted [] h = tt
rises_sorted (x ∷ xs) h =
    (recursion_from_All (λ y. is_lt (plot_cmp y x) ≡ false) xs (λ k d within. sorted_far (λ a b. is_lt (plot_cmp a b)) order (x ∷ xs) h 0 (suc k) d (omega arith) (omega arith)), rises_sorted xs (tail_sorted x xs h))

-- ---- one order

-- one has as many of each as the other
pub record Alike (xs ys : List PlanePlot) : Type 0 where
  pub sums : (f : PlanePlot → ℕ) → sum_by f xs ≡ sum_by f ys

sum_by-cons : (f : PlanePlot → ℕ) (x : PlanePlot) (xs : List PlanePlot) → sum_by f (x ∷ xs) ≡ f x + sum_by f xs
sum_by-cons f x xs = omega (arith, sum_by-append f (x ∷ []) xs)

-- none of them is counted as below y
none_below : (y : PlanePlot) (ys : List PlanePlot) → AreNotBelow y ys → sum_by (λ z. cond (is_lt (plot_cmp z y)) 1 0) ys ≡ 0
none_below y [] all = refl
none_below y (z ∷ zs) all =
    let f : PlanePlot → ℕ = λ z. cond (is_lt (plot_cmp z y)) 1 0 in
    let first : f z ≡ 0 = ap (λ b. cond b 1 0) all.0 in
    omega (arith, sum_by-cons f z zs, first, none_below y zs all.1)

-- the first of one isn't below the first of the other
first_not_below : (x y : PlanePlot) (xs ys : List PlanePlot) → AreNotBelow y ys → Alike (x ∷ xs) (y ∷ ys) → is_lt (plot_cmp x y) ≡ false
first_not_below x y xs ys all alike =
    let f : PlanePlot → ℕ = λ z. cond (is_lt (plot_cmp z y)) 1 0 in
    let zeros = none_below y (y ∷ ys) (not_below_itself y, all) in
    let at : (b : Bool) → is_lt (plot_cmp x y) ≡ b → b ≡ false = λ b. elim b as (λ b. is_lt (plot_cmp x y) ≡ b → b ≡ false) [
      | true ↦ λ e. let one : f x ≡ 1 = ap (λ b. cond b 1 0) e in absurd (omega (arith, sum_by-cons f x xs, one, alike.sums f, zeros))
      | false ↦ λ e. refl
    ] in
    at (is_lt (plot_cmp x y)) refl

one_order : (xs ys : List PlanePlot) → Rises xs → Rises ys → Alike xs ys → xs ≡ ys
one_order [] [] h k alike = refl
one_order [] (y ∷ ys) h k alike = absurd (omega (arith, alike.sums (λ _. 1), sum_by-cons (λ _. 1) y ys))
one_order (x ∷ xs) [] h k alike = absurd (omega (arith, alike.sums (λ _. 1), sum_by-cons (λ _. 1) x xs))
one_order (x ∷ xs) (y ∷ ys) h k alike =
    let back : Alike (y ∷ ys) (x ∷ xs) = record { sums = λ f. sym (alike.sums f) } in
    let first = same x y (first_not_below x y xs ys k.0 alike) (first_not_below y x ys xs h.0 back) in
    let rest : Alike xs ys = record { sums = λ f. omega (arith, alike.sums f, sum_by-cons f x xs, sum_by-cons f y ys, ap f first) } in
    let others = one_order xs ys h.1 k.1 rest in
    λ i. first i ∷ others i

pub one_rising : (ps qs : List PlanePlot) → IsPermutation ps qs → IsSorted plot_cmp qs → qs ≡ in_rising_key ps
one_rising ps qs moves up =
    let alike : Alike qs (in_rising_key ps) = record { sums = λ f. sum_by-IsPermutation f ps qs moves ∙ sym (sum_by-IsPermutation f ps (in_rising_key ps) (all_move ps)) } in
    one_order qs (in_rising_key ps) (rises_sorted qs up) (all_rise ps) alike
