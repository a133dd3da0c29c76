-- The edges of a component make its part of the batch's problem.
use Rattle.std.proofs.Common.{◌≡◌, ◌∙◌, ap, sym, refl, ℕ, zero, suc, ◌+◌, ◌<◌, ◌≤◌, append_assoc, true, false, eqb, ltb, leb, List, [], ◌∷◌, ◌++◌, length, get_or, map, take, drop, arith, subst, inl, inr}
use Rattle.std.specs.List.{AllByRecursion}
use Rattle.std.specs.List.Sorted.{IsStrictlyIncreasing, IsNonDecreasingBy, IsPartitionedBy, IsPartitionPoint}
use Rattle.std.proofs.lemmas.Bool.{eq-eqb, ltb-true, ltb-false, leb-true, le-leb, lt-ltb}
use Rattle.std.proofs.lemmas.List.{get_or-drop, get_or_default, length-drop, length-take-le}
use Rattle.std.proofs.lemmas.List.Sorted.{IsNonDecreasingBy-from_default}
use Rattle.std.proofs.lemmas.Bool.{cases_order}
use Rattle.assignment_dual.specs.Problems.{Edge, edge_at}
use Rattle.cluster_split.proofs.Ranges.{rises_far}
use Rattle.price_form.specs.Checks.{Rises}
use Rattle.slot_step.specs.ComponentEdges.{index_of, edges_at}
use Rattle.slot_step.proofs.Interleavings.{all_weaker}
use Rattle.slot_step.proofs.Passing.{halves, passing, passing_rest}

-- the plots of edges that rise don't fall
pub plots_rise : (es : List Edge) → Rises es → IsNonDecreasingBy (λ e. e.0) es
plots_rise es h = IsNonDecreasingBy-from_default (λ e. e.0) es (0, 0, 0) (λ i j le lt. elim (cases_order i j) [
  | inl e ↦ omega (arith, ap (λ k. (edge_at es k).0) e)
  | inr (inl l) ↦ elim (h i j l lt) [ inl m ↦ omega (arith, m) | inr m ↦ omega (arith, m.0) ]
  | inr (inr l) ↦ absurd (omega (arith, l, le))
])

rest_falls_not : (es : List Edge) (n : ℕ) → IsNonDecreasingBy (λ e. e.0) es → IsNonDecreasingBy (λ e. e.0) (drop n es)
rest_falls_not es n h = λ i j d le lt.
    omega (arith, ap (λ (e : Edge). e.0) (get_or-drop n es i d), ap (λ (e : Edge). e.0) (get_or-drop n es j d), h (n + i) (n + j) d (omega (arith, le)) (omega (arith, lt, length-drop n es)))

pub in_halves : (es rest : List Edge) (n plot : ℕ) → rest ≡ drop n es → Rises es → IsPartitionedBy (λ e. leb e.0 plot) rest
in_halves es rest n plot e h = subst (IsPartitionedBy (λ (f : Edge). leb f.0 plot)) (sym e) (λ i j d le lt q. le-leb _ _ (omega (arith, rest_falls_not es n (plots_rise es h) i j d le lt, leb-true _ _ q)))

pub all_take : {X : Type 0} (Q : X → Type 0) (k : ℕ) (xs : List X) → AllByRecursion Q xs → AllByRecursion Q (take k xs)
all_take Q zero xs h = tt
all_take Q (suc k) [] h = tt
all_take Q (suc k) (x ∷ xs) h = (h.0, all_take Q k xs h.1)

pub all_two : {X : Type 0} (P Q R : X → Type 0) (xs : List X) → ((x : X) → P x → Q x → R x) → AllByRecursion P xs → AllByRecursion Q xs → AllByRecursion R xs
all_two P Q R [] f h g = tt
all_two P Q R (x ∷ xs) f h g = (f x h.0 g.0, all_two P Q R xs f h.1 g.1)

not_same : (a b : ℕ) → ((a ≡ b) → ⊥) → eqb a b ≡ false
not_same a b n = grind (arith, n)

-- the edges of a plot, between those of lower plots and those of higher ones
edges_between : (es : List Edge) (plot from count : ℕ) → from ≤ length es → count ≤ length (drop from es) → IsPartitionPoint (λ e. ltb e.0 plot ≡ true) (λ e. ltb e.0 plot ≡ false) es from
    → IsPartitionPoint (λ e. leb e.0 plot ≡ true) (λ e. leb e.0 plot ≡ false) (drop from es) count → take count (drop from es) ≡ edges_at es plot
edges_between es plot from count le le' h g =
    let lower : AllByRecursion (λ (e : Edge). ltb e.0 plot ≡ true) (take from es) × AllByRecursion (λ (e : Edge). ltb e.0 plot ≡ false) (drop from es) = halves (λ e. ltb e.0 plot) from es le h.0 h.1 in
    let upto : AllByRecursion (λ (e : Edge). leb e.0 plot ≡ true) (take count (drop from es)) × AllByRecursion (λ (e : Edge). leb e.0 plot ≡ false) (drop count (drop from es)) = halves (λ e. leb e.0 plot) count (drop from es) le' g.0 g.1 in
    let own : AllByRecursion (λ (e : Edge). eqb e.0 plot ≡ true) (take count (drop from es)) =
    all_two (λ (e : Edge). ltb e.0 plot ≡ false) (λ (e : Edge). leb e.0 plot ≡ true) (λ (e : Edge). eqb e.0 plot ≡ true) (take count (drop from es))
    (λ e a b. eq-eqb e.0 plot (omega (arith, ltb-false e.0 plot a, leb-true e.0 plot b))) (all_take _ count (drop from es) lower.1) upto.0 in
    sym (passing_rest (λ e. eqb e.0 plot) from es (all_weaker (λ (e : Edge). ltb e.0 plot ≡ true) (λ (e : Edge). eqb e.0 plot ≡ false) (take from es) (λ e a. not_same e.0 plot (λ q. omega (arith, q, ltb-true e.0 plot a))) lower.0)
    ∙ passing (λ e. eqb e.0 plot) count (drop from es) own
    (all_weaker (λ (e : Edge). leb e.0 plot ≡ false) (λ (e : Edge). eqb e.0 plot ≡ false) (drop count (drop from es)) (λ e a. not_same e.0 plot (λ q. above e.0 plot a (omega (arith, q)))) upto.1))
  where
    above : (a b : ℕ) → leb a b ≡ false → a ≤ b → ⊥
    above a b f le = let e : true ≡ false = sym (le-leb a b le) ∙ f in cc

pub edges_cut : (es rest : List Edge) (plot from count : ℕ) → rest ≡ drop from es → from ≤ length es → count ≤ length rest → IsPartitionPoint (λ e. ltb e.0 plot ≡ true) (λ e. ltb e.0 plot ≡ false) es from
    → IsPartitionPoint (λ e. leb e.0 plot ≡ true) (λ e. leb e.0 plot ≡ false) rest count → take count rest ≡ edges_at es plot
edges_cut es rest plot from count e le le' h g =
    ap (take count) e ∙ edges_between es plot from count le (subst (λ (xs : List Edge). count ≤ length xs) e le') h (subst (λ (xs : List Edge). IsPartitionPoint (λ e. leb e.0 plot ≡ true) (λ e. leb e.0 plot ≡ false) xs count) e g)

pub index_point : (ns : List ℕ) (n k : ℕ) → k ≤ length ns → IsPartitionPoint (λ m. ltb m n ≡ true) (λ m. ltb m n ≡ false) ns k → index_of ns n ≡ k
index_point ns n k le h =
    let two : AllByRecursion (λ (m : ℕ). ltb m n ≡ true) (take k ns) × AllByRecursion (λ (m : ℕ). ltb m n ≡ false) (drop k ns) = halves (λ m. ltb m n) k ns le h.0 h.1 in
    ap length (passing (λ m. ltb m n) k ns two.0 two.1) ∙ length-take-le k ns le

-- how many are below a number of a list that rises
pub index_at : (ns : List ℕ) → IsStrictlyIncreasing ns → (j : ℕ) → j < length ns → index_of ns (get_or ns j 0) ≡ j
index_at ns up j lt = index_point ns (get_or ns j 0) j (omega (arith, lt)) (
  (λ k d l h. lt-ltb _ _ (omega (arith, get_or_default ns k d 0 (omega (arith, h, lt)), rises_far ns up k j h lt))),
  (λ k d l h. not_below (get_or ns k d) (get_or ns j 0) (elim (cases_order j k) [
    | inl e ↦ omega (arith, get_or_default ns k d 0 h, ap (λ m. get_or ns m 0) e)
    | inr (inl l') ↦ omega (arith, get_or_default ns k d 0 h, rises_far ns up j k l' h)
    | inr (inr l') ↦ absurd (omega (arith, l, l'))
  ])),
)
  where
    not_below : (a b : ℕ) → b ≤ a → ltb a b ≡ false
    not_below a b h = grind (arith, h)

pub numbers_rise : (ns : List ℕ) → IsStrictlyIncreasing ns → IsNonDecreasingBy (λ m. m) ns
numbers_rise ns up = IsNonDecreasingBy-from_default (λ m. m) ns 0 (λ i j le lt. elim (cases_order i j) [
  | inl e ↦ omega (arith, ap (λ k. get_or ns k 0) e)
  | inr (inl l) ↦ omega (arith, rises_far ns up i j l lt)
  | inr (inr l) ↦ absurd (omega (arith, l, le))
])

pub map_suc : {X Y : Type 0} (f : X → Y) (xs : List X) (k : ℕ) (d : X) → k < length xs → map f (take (suc k) xs) ≡ map f (take k xs) ++ f (get_or xs k d) ∷ []
map_suc f [] k d lt = absurd (omega (arith, lt))
map_suc f (x ∷ xs) zero d lt = refl
map_suc {Y = Y} f (x ∷ xs) (suc k) d lt = ap (λ (ys : List Y). f x ∷ ys) (map_suc f xs k d (omega (arith, lt)))

-- what is made of the first items, and of one more
pub map_more : {X Y : Type 0} (f : X → Y) (xs : List X) (k : ℕ) (d : X) (ys done : List Y) → k < length xs → ys ≡ done ++ map f (take k xs) → ys ++ f (get_or xs k d) ∷ [] ≡ done ++ map f (take (k + 1) xs)
map_more {Y = Y} f xs k d ys done lt e =
    let s : suc k ≡ k + 1 = omega arith in
    ap (λ (zs : List Y). zs ++ f (get_or xs k d) ∷ []) e ∙ append_assoc done (map f (take k xs)) (f (get_or xs k d) ∷ []) ∙ ap (λ (zs : List Y). done ++ zs) (sym (map_suc f xs k d lt) ∙ ap (λ n. map f (take n xs)) s)
