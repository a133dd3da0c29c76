-- The parts that are read off the least plots are the components.
use Rattle.std.proofs.Common.{◌≡◌, ◌≢◌, ℕ, suc, zero, ◌+◌, ◌-◌, ◌<◌, ◌≤◌, Bool, true, not, List, [], ◌∷◌, length, get_or, map, arith, refl, sym, ◌∙◌, ap, subst, inl, inr, ◌↔◌, eqb}
use Rattle.std.proofs.lemmas.Bool.{cases_eq, eqb-true, eqb-false, eq-eqb, and_from, and_parts, or_cases, not-true}
use Rattle.std.proofs.lemmas.List.{get_or_default, get_or-map, length-map}
use Rattle.std.proofs.lemmas.List.Elements.{Contains-get_or, All-map}
use Rattle.std.specs.List.{Contains, All, filter, range_with_len}
use Rattle.std.proofs.lemmas.List.Sorted.{IsPermutation-sym, Contains-permutation, All-permutation}
use Rattle.std.specs.List.Sorted.{IsStrictlyIncreasing, IsNonDecreasingBy, IsPermutation}
use Rattle.cluster_split.specs.declared.splitting.Component.{Component}
use Rattle.cluster_split.specs.Walks.{AreConnected, ShareTrack, plot_at, track_at}
use Rattle.cluster_split.specs.Leasts.{AreLeasts}
use Rattle.cluster_split.specs.Grouping.{AreLabelled, AreIndices, AreGrouped, components_of, component_of, leasts_below, class_below, is_first, is_first_of}
use Rattle.cluster_split.specs.Components.{least_plot, IsComponent, AreComponents}
use Rattle.cluster_split.proofs.Walking.{back, same_along, with_more}
use Rattle.cluster_split.proofs.Labels.{edge_place}
use Rattle.cluster_split.proofs.Placing.{other_track}
use Rattle.cluster_split.proofs.Ranges.{passing, passing_below, passing_rise, kept_passes, rises_far}

pub mapped : {X Y : Type 0} (f : X → Y) (xs : List X) (x : X) → Contains xs x → Contains (map f xs) (f x)
mapped f xs x h = (h.0, subst (λ n. h.0 < n) (sym (length-map xs f)) h.1, get_or-map f xs h.0 x (f x) h.1 ∙ ap f h.2)

pub from_mapped : {X Y : Type 0} (f : X → Y) (xs : List X) (d : X) (y : Y) → Contains (map f xs) y → (k : ℕ) × (k < length xs) × (f (get_or xs k d) ≡ y)
from_mapped f xs d y h =
    let lt : h.0 < length xs = subst (λ n. h.0 < n) (length-map xs f) h.1 in
    (h.0, lt, sym (get_or-map f xs h.0 d y lt) ∙ h.2)

pub map_back : {X Y : Type 0} (f : X → Y) (g : Y → X) (xs : List X) (d : X) → ((k : ℕ) → k < length xs → g (f (get_or xs k d)) ≡ get_or xs k d) → map g (map f xs) ≡ xs
map_back f g [] d h = refl
map_back f g (x ∷ xs) d h = λ i. h zero (omega arith) i ∷ map_back f g xs d (λ k lt. h (suc k) (omega (arith, lt))) i

pub in_class : (least : List ℕ) (n r p : ℕ) → Contains (class_below least n r) p → (p < n) × (get_or least p 0 ≡ r)
in_class least n r p h =
    let test : ℕ → Bool = λ q. eqb (get_or least q 0) r in
    (passing_below test n p h, eqb-true _ _ (kept_passes test (range_with_len 0 n) p h))

pub to_class : (least : List ℕ) (n r p : ℕ) → p < n → get_or least p 0 ≡ r → Contains (class_below least n r) p
to_class least n r p lt e = passing (λ q. eqb (get_or least q 0) r) n p lt (eq-eqb _ _ e)

-- the first of a list that rises, where one of its numbers is no greater than any
first_is : (xs : List ℕ) (r : ℕ) → IsStrictlyIncreasing xs → Contains xs r → ((x : ℕ) → Contains xs x → r ≤ x) → get_or xs 0 0 ≡ r
first_is xs r up h low =
    elim (cases_eq h.0 0) [
      | inl e ↦ get_or_default xs 0 0 r (omega (arith, h.1)) ∙ ap (λ k. get_or xs k r) (sym e) ∙ h.2
      | inr ne ↦
          let far = rises_far xs up 0 h.0 (omega (arith, ne)) h.1 in
          let is = get_or_default xs h.0 0 r h.1 ∙ h.2 in
          absurd (omega (arith, far, is, low (get_or xs 0 0) (Contains-get_or xs 0 0 (omega (arith, h.1)))))
    ]

-- each track has a first edge
first_of : (edges : List (ℕ × ℕ)) (j : ℕ) → (i : ℕ) × (i ≤ j) × (is_first edges i ≡ true) × (track_at edges i ≡ track_at edges j)
first_of edges zero = (0, omega arith, refl, refl)
first_of edges (suc j) =
    let before : suc j - 1 ≡ j = omega arith in
    elim (cases_eq (track_at edges j) (track_at edges (suc j))) [
      | inl e ↦ let h = first_of edges j in (h.0, omega (arith, h.1), h.2, h.3 ∙ e)
      | inr ne ↦ (suc j, omega arith, other_track edges (suc j) (λ e. ne (ap (track_at edges) (sym before) ∙ e)), refl)
    ]

differ : (edges : List (ℕ × ℕ)) (j : ℕ) → 0 < j → is_first edges j ≡ true → track_at edges (j - 1) ≢ track_at edges j
differ edges j some e same =
    elim (or_cases (eqb j 0) (not (eqb (track_at edges (j - 1)) (track_at edges j))) e) [
      | inl z ↦ omega (arith, some, eqb-true j 0 z)
      | inr f ↦ eqb-false (track_at edges (j - 1)) (track_at edges j) (not-true _ f) same
    ]

-- the tracks of first edges rise
firsts_rise : (edges : List (ℕ × ℕ)) (places : List ℕ) → IsNonDecreasingBy (λ e. e.1) edges → IsStrictlyIncreasing places → All (λ i. (is_first edges i ≡ true) × (i < length edges)) places → IsStrictlyIncreasing (map (track_at edges) places)
firsts_rise edges places sorted up all k lt =
    let lt' : k + 1 < length places = subst (λ n. k + 1 < n) (length-map places (track_at edges)) lt in
    let i = get_or places k 0 in
    let j = get_or places (k + 1) 0 in
    let rise : i < j = up k lt' in
    let first = all (k + 1) 0 lt' in
    let differs : track_at edges (j - 1) ≢ track_at edges j = differ edges j (omega (arith, rise)) first.0 in
    let a = sorted i (j - 1) (0, 0) (omega (arith, rise)) (omega (arith, first.1)) in
    let b = sorted (j - 1) j (0, 0) (omega arith) first.1 in
    let below : track_at edges i < track_at edges j = omega (arith, a, b, differs) in
    subst (λ x. x < get_or (map (track_at edges) places) (k + 1) 0) (sym (get_or-map (track_at edges) places k 0 0 (omega (arith, lt'))))
    (subst (λ x. track_at edges i < x) (sym (get_or-map (track_at edges) places (k + 1) 0 0 lt')) below)

-- the component of a least plot
part_is : (plots : ℕ) (edges : List (ℕ × ℕ)) (least : List ℕ) → AreLeasts plots edges least → IsNonDecreasingBy (λ e. e.1) edges → All (λ e. e.0 < plots) edges → (r : ℕ) → r < plots → get_or least r 0 ≡ r
    → (least_plot (component_of least edges plots (length edges) r) ≡ r) × IsComponent plots edges (component_of least edges plots (length edges) r)
part_is plots edges least h sorted in' r lt own =
    let part = component_of least edges plots (length edges) r in
    let class = class_below least plots r in
    let rise : IsStrictlyIncreasing class = passing_rise _ plots in
    let has : Contains class r = to_class least plots r r lt own in
    let head : get_or class 0 0 ≡ r = first_is class r rise has (λ x c. let k = in_class least plots r x c in omega (arith, k.1, h.below x k.0)) in
    let same : (p q : ℕ) → ShareTrack edges p q → get_or least p 0 ≡ get_or least q 0 = λ p q s. h.joined p q s.track s.one s.other in
    let walks : (p : ℕ) → Contains class p ↔ ((p < plots) × AreConnected edges r p) = λ p. (
      (λ c. let k = in_class least plots r p c in (k.0, back (subst (AreConnected edges p) k.1 (h.connected p k.0)))),
      (λ k. to_class least plots r p k.0 (sym (same_along (λ q. get_or least q 0) same k.1) ∙ own)),
    ) in
    let test : ℕ → Bool = is_first_of least edges r in
    let firsts = filter test (range_with_len 0 (length edges)) in
    let all : All (λ i. (is_first edges i ≡ true) × (i < length edges)) firsts = λ k d kt.
    let c = Contains-get_or firsts k d kt in
    ((and_parts _ _ (kept_passes test (range_with_len 0 (length edges)) _ c)).0, passing_below test (length edges) _ c) in (
      head,
      record {
        some_plot = omega (arith, has.1);
        plots_rise = rise;
        tracks_rise = firsts_rise edges firsts sorted (passing_rise test (length edges)) all;
        connected = λ p. subst (λ x. Contains class p ↔ ((p < plots) × AreConnected edges x p)) (sym head) (walks p);
        reached = λ t. (
          (λ c.
              let k = from_mapped (track_at edges) firsts 0 t c in
              let i = get_or firsts k.0 0 in
              let ci = Contains-get_or firsts k.0 0 k.1 in
              let lti : i < length edges = passing_below test (length edges) i ci in
              let leads = eqb-true _ _ (and_parts _ _ (kept_passes test (range_with_len 0 (length edges)) i ci)).1 in
              (plot_at edges i, to_class least plots r _ (in' i (0, 0) lti) leads, subst (λ x. Contains edges (plot_at edges i, x)) k.2 (Contains-get_or edges i (0, 0) lti))),
          (λ w.
              let at = edge_place edges w.0 t w.2 in
              let f = first_of edges at.0 in
              let lti : f.0 < length edges = omega (arith, f.1, at.1) in
              let track : track_at edges f.0 ≡ t = f.3 ∙ at.3 in
              let edge : Contains edges (plot_at edges f.0, t) = subst (λ x. Contains edges (plot_at edges f.0, x)) track (Contains-get_or edges f.0 (0, 0) lti) in
              let leads : get_or least (plot_at edges f.0) 0 ≡ r = h.joined _ _ t edge w.2 ∙ (in_class least plots r w.0 w.1).1 in
              subst (Contains (map (track_at edges) firsts)) track (mapped (track_at edges) firsts f.0 (passing test (length edges) f.0 lti (and_from _ _ f.2 (eq-eqb _ _ leads))))),
        );
      },
    )

pub parts_are_components : (plots : ℕ) (edges : List (ℕ × ℕ)) (least : List ℕ) → AreLeasts plots edges least → IsNonDecreasingBy (λ e. e.1) edges → All (λ e. e.0 < plots) edges → AreComponents plots edges (components_of least edges plots (length edges))
parts_are_components plots edges least h sorted in' =
    let part = component_of least edges plots (length edges) in
    let leasts = leasts_below least plots in
    let test : ℕ → Bool = λ q. eqb (get_or least q 0) q in
    let at : (k d : ℕ) → k < length leasts → (least_plot (part (get_or leasts k d)) ≡ get_or leasts k d) × IsComponent plots edges (part (get_or leasts k d)) = λ k d lt.
    let c = Contains-get_or leasts k d lt in
    part_is plots edges least h sorted in' (get_or leasts k d) (passing_below test plots _ c) (eqb-true _ _ (kept_passes test (range_with_len 0 plots) _ c)) in
    record {
      each = All-map (IsComponent plots edges) part leasts (λ k d lt. (at k d lt).1);
      order = subst IsStrictlyIncreasing (sym (map_back part least_plot leasts 0 (λ k lt. (at k 0 lt).0))) (passing_rise test plots);
      whole = λ p lt.
          let r = get_or least p 0 in
          let in-r : r < plots = omega (arith, h.below p lt, lt) in
          (part r, mapped part leasts r (passing test plots r in-r (eq-eqb _ _ (h.settled p lt))), to_class least plots r p lt refl);
    }

-- edges in another order give the same components
pub of_same_edges : (plots : ℕ) (a b : List (ℕ × ℕ)) (parts : List Component) → ((e : ℕ × ℕ) → Contains a e ↔ Contains b e) → AreComponents plots a parts → AreComponents plots b parts
of_same_edges plots a b parts same h =
    let to : (p q : ℕ) → ShareTrack a p q → ShareTrack b p q = λ p q s. record { track = s.track; one = (same (p, s.track)).0 s.one; other = (same (q, s.track)).0 s.other } in
    let from : (p q : ℕ) → ShareTrack b p q → ShareTrack a p q = λ p q s. record { track = s.track; one = (same (p, s.track)).1 s.one; other = (same (q, s.track)).1 s.other } in
    record {
      each = λ k d lt.
          let c = h.each k d lt in
          record {
            some_plot = c.some_plot;
            plots_rise = c.plots_rise;
            tracks_rise = c.tracks_rise;
            connected = λ p. ((λ x. let w = (c.connected p).0 x in (w.0, with_more to w.1)), (λ w. (c.connected p).1 (w.0, with_more from w.1)));
            reached = λ t. ((λ x. let w = (c.reached t).0 x in (w.0, w.1, (same (w.0, t)).0 w.2)), (λ w. (c.reached t).1 (w.0, w.1, (same (w.0, t)).1 w.2)));
          };
      order = h.order;
      whole = h.whole;
    }

-- all steps together
pub all_steps : (plots : ℕ) (edges by_track : List (ℕ × ℕ)) (least places : List ℕ) (before parts : List Component) → All (λ e. e.0 < plots) edges → IsPermutation edges by_track → IsNonDecreasingBy (λ e. e.1) by_track
    → AreLeasts plots by_track least → AreGrouped least (length least) before places
    → ((l : List ℕ) → AreIndices l places → before ≡ components_of l by_track (length places) 0 → parts ≡ components_of l by_track (length places) (length by_track))
    → AreComponents plots edges parts
all_steps plots edges by_track least places before parts in' same sorted h g to =
    let count : length places ≡ plots = g.long ∙ h.long in
    let e : before ≡ components_of least by_track (length places) 0 = g.parts_so_far ∙ ap (λ n. components_of least by_track n 0) (sym g.long) in
    let is : parts ≡ components_of least by_track plots (length by_track) = to least g.places_so_far e ∙ ap (λ n. components_of least by_track n (length by_track)) count in
    of_same_edges plots by_track edges parts
    (λ x. ((λ c. Contains-permutation by_track edges x (IsPermutation-sym edges by_track same) c), (λ c. Contains-permutation edges by_track x same c)))
    (subst (AreComponents plots by_track) (sym is) (parts_are_components plots by_track least h sorted (All-permutation (λ x. x.0 < plots) edges by_track same in')))

pub settled_leasts : (plots : ℕ) (edges : List (ℕ × ℕ)) (least : List ℕ) → AreLeasts plots edges least → AreLabelled least
settled_leasts plots edges least h = record { below = λ p lt. h.below p (omega (arith, lt, h.long)); settled = λ p lt. h.settled p (omega (arith, lt, h.long)) }

pub few_places : (least places : List ℕ) (n : ℕ) (parts : List Component) → AreGrouped least n parts places → All (λ p. p < length parts) places
few_places least places n parts g k d lt =
    let h = g.places_so_far.inside k lt in
    let long : length parts ≡ length (leasts_below least n) = ap length g.parts_so_far ∙ length-map (leasts_below least n) (component_of least [] n 0) in
    let same : length (leasts_below least (length places)) ≡ length (leasts_below least n) = ap (λ m. length (leasts_below least m)) g.long in
    omega (arith, h, long, same, get_or_default places k d 0 lt)
