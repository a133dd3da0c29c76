-- There is one list of components.
use Rattle.std.proofs.Common.{◌≡◌, ℕ, suc, zero, ◌+◌, ◌<◌, ◌≤◌, List, [], ◌∷◌, length, get_or, map, arith, refl, sym, ◌∙◌, ap, subst}
use Rattle.std.proofs.lemmas.List.{get_or_default, get_or-map, length-map, same_lists}
use Rattle.std.proofs.lemmas.List.Elements.{Contains-get_or, All-contains}
use Rattle.std.specs.List.{Contains}
use Rattle.std.specs.List.Sorted.{IsStrictlyIncreasing}
use Rattle.cluster_split.specs.declared.splitting.Component.{Component}
use Rattle.cluster_split.specs.Walks.{AreConnected}
use Rattle.cluster_split.specs.Components.{least_plot, IsComponent, AreComponents}
use Rattle.cluster_split.proofs.Walking.{back}
use Rattle.cluster_split.proofs.Ranges.{rises_far}
use Rattle.cluster_split.proofs.Classes.{mapped, from_mapped}

-- the first of a list that rises is its least
pub first_least : (xs : List ℕ) (x : ℕ) → IsStrictlyIncreasing xs → Contains xs x → get_or xs 0 0 ≤ x
first_least xs x up (zero, lt, is) = omega (arith, get_or_default xs 0 0 x lt, is)
first_least xs x up (suc k, lt, is) = omega (arith, rises_far xs up 0 (suc k) (omega arith) lt, get_or_default xs (suc k) 0 x lt, is)

rest_rises : (x : ℕ) (xs : List ℕ) → IsStrictlyIncreasing (x ∷ xs) → IsStrictlyIncreasing xs
rest_rises x xs up k lt =
    let e : suc k + 1 ≡ suc (k + 1) = omega arith in
    subst (λ m. get_or xs k 0 < get_or (x ∷ xs) m 0) e (up (suc k) (omega (arith, lt)))

in_rest : (x y : ℕ) (xs ys : List ℕ) → x ≡ y → IsStrictlyIncreasing (x ∷ xs) → ((z : ℕ) → Contains (x ∷ xs) z → Contains (y ∷ ys) z) → (z : ℕ) → Contains xs z → Contains ys z
in_rest x y xs ys e up h z c = cut (h z (suc c.0, omega (arith, c.1), c.2)) where
  above : x < z
  above = omega (arith, rises_far (x ∷ xs) up 0 (suc c.0) (omega arith) (omega (arith, c.1)), get_or_default xs c.0 0 z c.1, c.2)

  cut : Contains (y ∷ ys) z → Contains ys z
  cut (zero, lt, is) = absurd (omega (arith, above, e, is))
  cut (suc k, lt, is) = (k, omega (arith, lt), is)

-- lists that rise and have the same members are one
pub same_rising : (xs ys : List ℕ) → IsStrictlyIncreasing xs → IsStrictlyIncreasing ys → ((z : ℕ) → Contains xs z → Contains ys z) → ((z : ℕ) → Contains ys z → Contains xs z) → xs ≡ ys
same_rising [] [] up up' h k = refl
same_rising [] (y ∷ ys) up up' h k = absurd (omega (arith, (k y (zero, omega arith, refl)).1))
same_rising (x ∷ xs) [] up up' h k = absurd (omega (arith, (h x (zero, omega arith, refl)).1))
same_rising (x ∷ xs) (y ∷ ys) up up' h k =
    let e : x ≡ y = omega (arith, first_least (y ∷ ys) x up' (h x (zero, omega arith, refl)), first_least (x ∷ xs) y up (k y (zero, omega arith, refl))) in
    let t = same_rising xs ys (rest_rises x xs up) (rest_rises y ys up') (in_rest x y xs ys e up h) (in_rest y x ys xs (sym e) up' k) in
    λ i. e i ∷ t i

least_in : (plots : ℕ) (edges : List (ℕ × ℕ)) (c : Component) → IsComponent plots edges c → Contains c.plots (least_plot c)
least_in plots edges c h = Contains-get_or c.plots 0 0 h.some_plot

-- a least plot of one list is one of the other
least_among : (plots : ℕ) (edges : List (ℕ × ℕ)) (a b : List Component) → AreComponents plots edges a → AreComponents plots edges b → (x : ℕ) → Contains (map least_plot a) x → Contains (map least_plot b) x
least_among plots edges a b h k x m =
    let none : Component = record { plots = []; tracks = [] } in
    let at = from_mapped least_plot a none x m in
    let c = get_or a at.0 none in
    let is = h.each at.0 none at.1 in
    let x-in : Contains c.plots x = subst (Contains c.plots) at.2 (least_in plots edges c is) in
    let d = k.whole x ((is.connected x).0 x-in).0 in
    let is' = All-contains (IsComponent plots edges) b d.0 k.each d.1 in
    let y = least_plot d.0 in
    let below : y ≤ x = first_least d.0.plots x is'.plots_rise d.2 in
    let walk = ((is'.connected x).0 d.2).1 in
    let y-in : Contains c.plots y = (is.connected y).1 (((is'.connected y).0 (least_in plots edges d.0 is')).0, subst (λ z. AreConnected edges z y) (sym at.2) (back walk)) in
    let above : x ≤ y = omega (arith, first_least c.plots y is.plots_rise y-in, at.2) in
    let e : y ≡ x = omega (arith, below, above) in
    subst (Contains (map least_plot b)) e (mapped least_plot b d.0 d.1)

-- components with one least plot are one
same_component : (plots : ℕ) (edges : List (ℕ × ℕ)) (a b : Component) → IsComponent plots edges a → IsComponent plots edges b → least_plot a ≡ least_plot b → a ≡ b
same_component plots edges a b h k e =
    let ps : a.plots ≡ b.plots = same_rising a.plots b.plots h.plots_rise k.plots_rise
    (λ p c. let w = (h.connected p).0 c in (k.connected p).1 (w.0, subst (λ x. AreConnected edges x p) e w.1))
    (λ p c. let w = (k.connected p).0 c in (h.connected p).1 (w.0, subst (λ x. AreConnected edges x p) (sym e) w.1)) in
    let ts : a.tracks ≡ b.tracks = same_rising a.tracks b.tracks h.tracks_rise k.tracks_rise
    (λ t c. let w = (h.reached t).0 c in (k.reached t).1 (w.0, subst (λ xs. Contains xs w.0) ps w.1, w.2))
    (λ t c. let w = (k.reached t).0 c in (h.reached t).1 (w.0, subst (λ xs. Contains xs w.0) (sym ps) w.1, w.2)) in
    λ i. record { plots = ps i; tracks = ts i }

pub one_list : (plots : ℕ) (edges : List (ℕ × ℕ)) (a b : List Component) → AreComponents plots edges a → AreComponents plots edges b → a ≡ b
one_list plots edges a b h k =
    let leasts : map least_plot a ≡ map least_plot b = same_rising _ _ h.order k.order (least_among plots edges a b h k) (least_among plots edges b a k h) in
    let long : length a ≡ length b = sym (length-map a least_plot) ∙ ap length leasts ∙ length-map b least_plot in
    same_lists a b long (λ i d lt.
    let lt' : i < length b = omega (arith, lt, long) in
    same_component plots edges _ _ (h.each i d lt) (k.each i d lt')
    (sym (get_or-map least_plot a i d 0 lt) ∙ ap (λ xs. get_or xs i 0) leasts ∙ get_or-map least_plot b i d 0 lt'))
