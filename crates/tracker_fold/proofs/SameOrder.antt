-- Two lists in rising order with as many of each element are one list.
use Rattle.std.proofs.Common.{◌≡◌, ap, sym, refl, ℕ, ◌+◌, Bool, true, false, cond, List, [], ◌∷◌, arith}
use Rattle.std.specs.Prelude.{sum_by}
use Rattle.std.specs.Ordering.{is_lt, ordering_reverse}
use Rattle.std.specs.declared.cmp.Ordering.{Ordering}
use Rattle.std.specs.declared.cmp.Ordering.TheVariants.{Less, Equal, Greater}
use Rattle.std.proofs.lemmas.List.Sums.{sum_by-append}
use Rattle.plot_geometry.specs.Plots.{PlanePlot}
use Rattle.plot_geometry.specs.PlotOrder.{plot_cmp, plot_cmp_total, plot_cmp_exact}
use Rattle.admission_log.proofs.Rising.{AreNotBelow, Rises, Alike}

not_below_itself : (x : PlanePlot) → is_lt (plot_cmp x x) ≡ false
not_below_itself x = at (plot_cmp x x) (plot_cmp_total.antisymm x x)
  where
    at : (o : Ordering) → o ≡ ordering_reverse o → is_lt o ≡ false
    at Less e = absurd (cc)
    at Equal e = refl
    at Greater e = refl

pub neither_below : (o o' : Ordering) → o ≡ ordering_reverse o' → is_lt o ≡ false → is_lt o' ≡ false → o ≡ Equal
neither_below Less o' e a b = absurd (cc)
neither_below Equal o' e a b = refl
neither_below Greater Less e a b = absurd (cc)
neither_below Greater Equal e a b = absurd (cc)
neither_below Greater Greater e a b = absurd (cc)

same : (x y : PlanePlot) → is_lt (plot_cmp x y) ≡ false → is_lt (plot_cmp y x) ≡ false → x ≡ y
same x y p q = plot_cmp_exact x y (neither_below (plot_cmp x y) (plot_cmp y x) (plot_cmp_total.antisymm x y) p q)

one_more : (f : PlanePlot → ℕ) (x : PlanePlot) (xs : List PlanePlot) → sum_by f (x ∷ xs) ≡ f x + sum_by f xs
one_more f x xs = omega (arith, sum_by-append f (x ∷ []) xs)

-- none of them is counted as below y
none_below : (y : PlanePlot) (ys : List PlanePlot) → AreNotBelow y ys → sum_by (λ z. cond (is_lt (plot_cmp z y)) 1 0) ys ≡ 0
none_below y [] all = refl
none_below y (z ∷ zs) all =
    let f : PlanePlot → ℕ = λ z. cond (is_lt (plot_cmp z y)) 1 0 in
    let first : f z ≡ 0 = ap (λ b. cond b 1 0) all.0 in
    omega (arith, one_more f z zs, first, none_below y zs all.1)

-- the first of one isn't below the first of the other
first_not_below : (x y : PlanePlot) (xs ys : List PlanePlot) → AreNotBelow y ys → Alike (x ∷ xs) (y ∷ ys) → is_lt (plot_cmp x y) ≡ false
first_not_below x y xs ys all alike = at (is_lt (plot_cmp x y)) refl
  where
    f : PlanePlot → ℕ
    f z = cond (is_lt (plot_cmp z y)) 1 0

    at : (b : Bool) → is_lt (plot_cmp x y) ≡ b → b ≡ false
    at true e = absurd (let one : f x ≡ 1 = ap (λ b. cond b 1 0) e in omega (arith, one_more f x xs, one, alike.sums f, none_below y (y ∷ ys) (not_below_itself y, all)))
    at false e = refl

pub one_order : (xs ys : List PlanePlot) → Rises xs → Rises ys → Alike xs ys → xs ≡ ys
one_order [] [] h k alike = refl
one_order [] (y ∷ ys) h k alike = absurd (omega (arith, alike.sums (λ _. 1), one_more (λ _. 1) y ys))
one_order (x ∷ xs) [] h k alike = absurd (omega (arith, alike.sums (λ _. 1), one_more (λ _. 1) x xs))
one_order (x ∷ xs) (y ∷ ys) h k alike =
    let back : Alike (y ∷ ys) (x ∷ xs) = record { sums = λ f. sym (alike.sums f) } in
    let first = same x y (first_not_below x y xs ys k.0 alike) (first_not_below y x ys xs h.0 back) in
    let rest : Alike xs ys = record { sums = λ f. omega (arith, alike.sums f, one_more f x xs, one_more f y ys, ap f first) } in
    let others = one_order xs ys h.1 k.1 rest in
    λ i. first i ∷ others i
