-- How the components grow by a plot, and by a track.
use Rattle.std.proofs.Common.{◌≡◌, ◌≢◌, ℕ, zero, ◌+◌, ◌-◌, ◌<◌, ◌≤◌, Bool, true, false, List, [], ◌∷◌, ◌++◌, length, get_or, set, map, arith, refl, sym, ◌∙◌, ap, subst, inl, inr, eqb, length-append}
use Rattle.std.proofs.lemmas.Bool.{cases_eq, eqb-true, eq-eqb, ne_eqb, and_from, and_left, and_right, or_left, or_right, or_from, not_from_true, not_from_false}
use Rattle.std.proofs.lemmas.List.{get_or_default, get_or-map, get_or_append_left, get_or_at, map-append, length-map, set_at, get_or_default}
use Rattle.std.proofs.lemmas.List.Elements.{Contains-get_or}
use Rattle.std.proofs.lemmas.List.FromFn.{length-range_with_len}
use Rattle.std.specs.List.{Contains, All, filter, range_with_len}
use Rattle.cluster_split.specs.declared.splitting.Component.{Component}
use Rattle.cluster_split.specs.Walks.{plot_at, track_at}
use Rattle.cluster_split.specs.Grouping.{AreLabelled, AreIndices, AreGrouped, components_of, component_of, leasts_below, class_below, tracks_below, is_first, is_first_of, no_component, with_plot, with_track}
use Rattle.cluster_split.proofs.Ranges.{passes_more, fails_more, passing_below, passing_rise, kept_passes, rises_once, map_at, map_same, filter_short}

least_at : (least : List ℕ) (n : ℕ) → get_or least n 0 ≡ n → leasts_below least (n + 1) ≡ leasts_below least n ++ n ∷ []
least_at least n e = passes_more (λ p. eqb (get_or least p 0) p) n (eq-eqb _ _ e)

not_least : (least : List ℕ) (n : ℕ) → get_or least n 0 ≢ n → leasts_below least (n + 1) ≡ leasts_below least n
not_least least n ne = fails_more (λ p. eqb (get_or least p 0) p) n (ne_eqb _ _ ne)

class_more : (least : List ℕ) (n r : ℕ) → get_or least n 0 ≡ r → class_below least (n + 1) r ≡ class_below least n r ++ n ∷ []
class_more least n r e = passes_more (λ p. eqb (get_or least p 0) r) n (eq-eqb _ _ e)

class_same : (least : List ℕ) (n r : ℕ) → get_or least n 0 ≢ r → class_below least (n + 1) r ≡ class_below least n r
class_same least n r ne = fails_more (λ p. eqb (get_or least p 0) r) n (ne_eqb _ _ ne)

pub least_below : (least : List ℕ) (n k : ℕ) → k < length (leasts_below least n) → (get_or (leasts_below least n) k 0 < n) × (get_or least (get_or (leasts_below least n) k 0) 0 ≡ get_or (leasts_below least n) k 0)
least_below least n k lt =
    let p : ℕ → Bool = λ q. eqb (get_or least q 0) q in
    let h = Contains-get_or (leasts_below least n) k 0 lt in
    (passing_below p n _ h, eqb-true _ _ (kept_passes p (range_with_len 0 n) _ h))

empty_list : (xs : List ℕ) → ((x : ℕ) → Contains xs x → ⊥) → xs ≡ []
empty_list [] h = refl
empty_list (x ∷ xs) h = absurd (h x (zero, omega arith, refl))

-- no plot below n has the least plot n
none_yet : (least : List ℕ) (n : ℕ) → AreLabelled least → n ≤ length least → class_below least n n ≡ []
none_yet least n s le = empty_list (class_below least n n) (λ x h.
    let p : ℕ → Bool = λ q. eqb (get_or least q 0) n in
    let lt = passing_below p n x h in
    let e = eqb-true _ _ (kept_passes p (range_with_len 0 n) x h) in
    omega (arith, lt, le, e, s.below x (omega (arith, lt, le))))

part_same : (least : List ℕ) (n r : ℕ) → get_or least n 0 ≢ r → component_of least [] (n + 1) 0 r ≡ component_of least [] n 0 r
part_same least n r ne = ap (λ xs. let c : Component = record { plots = xs; tracks = [] } in c) (class_same least n r ne)

part_more : (least : List ℕ) (n r : ℕ) → get_or least n 0 ≡ r → component_of least [] (n + 1) 0 r ≡ with_plot n (component_of least [] n 0 r)
part_more least n r e = ap (λ xs. let c : Component = record { plots = xs; tracks = [] } in c) (class_more least n r e)

-- plot n begins a component
new_parts : (least : List ℕ) (n : ℕ) → AreLabelled least → n < length least → get_or least n 0 ≡ n → components_of least [] (n + 1) 0 ≡ components_of least [] n 0 ++ with_plot n no_component ∷ []
new_parts least n s lt e =
    ap (map (component_of least [] (n + 1) 0)) (least_at least n e)
    ∙ map-append (component_of least [] (n + 1) 0) (leasts_below least n) (n ∷ [])
    ∙ (λ i. map_same (component_of least [] n 0) (component_of least [] (n + 1) 0) (leasts_below least n) 0
    (λ k lt'. part_same least n _ (λ f. omega (arith, e, f, (least_below least n k lt').0))) i
    ++ (part_more least n n e ∙ ap (λ xs. with_plot n (let c : Component = record { plots = xs; tracks = [] } in c)) (none_yet least n s (omega arith))) i ∷ [])

-- plot n comes to the component at place j
more_parts : (least : List ℕ) (n j : ℕ) → get_or least n 0 ≢ n → j < length (leasts_below least n) → get_or (leasts_below least n) j 0 ≡ get_or least n 0
    → components_of least [] (n + 1) 0 ≡ set (components_of least [] n 0) j (with_plot n (get_or (components_of least [] n 0) j no_component))
more_parts least n j ne lt is =
    ap (map (component_of least [] (n + 1) 0)) (not_least least n ne)
    ∙ map_at (component_of least [] n 0) (component_of least [] (n + 1) 0) (leasts_below least n) j 0 _ lt
    (part_more least n _ (sym is) ∙ ap (with_plot n) (sym (get_or-map (component_of least [] n 0) (leasts_below least n) j 0 no_component lt)))
    (λ k lt' ne'. part_same least n _ (λ f. ne' (rises_once (leasts_below least n) (passing_rise _ n) k j lt' lt (sym f ∙ sym is))))

-- one place more, where the least plots are then these
places_push : (least places : List ℕ) (place : ℕ) (leasts : List ℕ) → leasts_below least (length places + 1) ≡ leasts
    → ((p : ℕ) → p < length places → (get_or places p 0 < length leasts) × (get_or leasts (get_or places p 0) 0 ≡ get_or least p 0))
    → (place < length leasts) × (get_or leasts place 0 ≡ get_or least (length places) 0) → AreIndices least (places ++ place ∷ [])
places_push least places place leasts e before here =
    let long : length (places ++ place ∷ []) ≡ length places + 1 = length-append places (place ∷ []) in
    let same : leasts ≡ leasts_below least (length (places ++ place ∷ [])) = sym e ∙ ap (leasts_below least) (sym long) in
    let P : ℕ → ℕ → Type 0 = λ p x. (x < length leasts) × (get_or leasts x 0 ≡ get_or least p 0) in
    let all : (p : ℕ) → p < length (places ++ place ∷ []) → P p (get_or (places ++ place ∷ []) p 0) = λ p lt.
    elim (cases_eq p (length places)) [
      | inl at ↦ subst (λ q. P q (get_or (places ++ place ∷ []) q 0)) (sym at) (subst (P (length places)) (sym (get_or_at places place [] 0 (length places) refl)) here)
      | inr ne ↦ let lt' : p < length places = omega (arith, lt, long, ne) in subst (P p) (sym (get_or_append_left places (place ∷ []) 0 p lt')) (before p lt')
    ] in
    record {
      inside = λ p lt. subst (λ ls. get_or (places ++ place ∷ []) p 0 < length ls) same (all p lt).0;
      exact = λ p lt. subst (λ ls. get_or ls (get_or (places ++ place ∷ []) p 0) 0 ≡ get_or least p 0) same (all p lt).1;
    }

long_parts : (least : List ℕ) (n : ℕ) (parts : List Component) → parts ≡ components_of least [] n 0 → length parts ≡ length (leasts_below least n)
long_parts least n parts e = ap length e ∙ length-map (leasts_below least n) (component_of least [] n 0)

pub few_parts : (least : List ℕ) (n : ℕ) (parts : List Component) → parts ≡ components_of least [] n 0 → length parts ≤ n
few_parts least n parts e = omega (arith, long_parts least n parts e, filter_short (λ p. eqb (get_or least p 0) p) (range_with_len 0 n), length-range_with_len 0 n)

places_at : (least places : List ℕ) (n : ℕ) → AreIndices least places → length places ≡ n → (p : ℕ) → p < length places → (get_or places p 0 < length (leasts_below least n)) × (get_or (leasts_below least n) (get_or places p 0) 0 ≡ get_or least p 0)
places_at least places n h e p lt = (subst (λ m. get_or places p 0 < length (leasts_below least m)) e (h.inside p lt), subst (λ m. get_or (leasts_below least m) (get_or places p 0) 0 ≡ get_or least p 0) e (h.exact p lt))

-- a plot that is least begins a component at the end
pub grouped_new : (least : List ℕ) (n : ℕ) (parts : List Component) (places : List ℕ) → AreLabelled least → n < length least → get_or least n 0 ≡ n → AreGrouped least n parts places
    → (parts' : List Component) (place : ℕ) → parts' ≡ parts ++ no_component ∷ [] → place ≡ length parts
    → AreGrouped least (n + 1) (set parts' place (with_plot n (get_or parts' place no_component))) (places ++ place ∷ [])
grouped_new least n parts places s lt is g parts' place e at =
    let count = long_parts least n parts g.parts_so_far in
    let leasts = leasts_below least n in
    let long : length (leasts ++ n ∷ []) ≡ length leasts + 1 = length-append leasts (n ∷ []) in
    record {
      parts_so_far =
          (λ i. set (e i) (at i) (with_plot n (get_or (e i) (at i) no_component)))
          ∙ ap (λ c. set (parts ++ no_component ∷ []) (length parts) (with_plot n c)) (get_or_at parts no_component [] no_component (length parts) refl)
          ∙ set_at parts no_component [] (with_plot n no_component) (length parts) refl
          ∙ ap (λ xs. xs ++ with_plot n no_component ∷ []) g.parts_so_far
          ∙ sym (new_parts least n s lt is);
      places_so_far = places_push least places place (leasts ++ n ∷ [])
          (ap (λ m. leasts_below least (m + 1)) g.long ∙ least_at least n is)
          (λ p lt'. let h = places_at least places n g.places_so_far g.long p lt' in (omega (arith, h.0, long), get_or_append_left leasts (n ∷ []) 0 _ h.0 ∙ h.1))
          (omega (arith, at, count, long), ap (λ j. get_or (leasts ++ n ∷ []) j 0) (at ∙ count) ∙ get_or_at leasts n [] 0 (length leasts) refl ∙ sym is ∙ ap (λ m. get_or least m 0) (sym g.long));
      long = length-append places (place ∷ []) ∙ ap (λ m. m + 1) g.long;
    }

-- a plot that isn't goes where its least plot is
pub grouped_more : (least : List ℕ) (n : ℕ) (parts : List Component) (places : List ℕ) → AreLabelled least → n < length least → get_or least n 0 ≢ n → AreGrouped least n parts places
    → (place : ℕ) → place ≡ get_or places (get_or least n 0) place
    → AreGrouped least (n + 1) (set parts place (with_plot n (get_or parts place no_component))) (places ++ place ∷ [])
grouped_more least n parts places s lt ne g place read =
    let down : get_or least n 0 < length places = omega (arith, s.below n lt, ne, g.long) in
    let at : place ≡ get_or places (get_or least n 0) 0 = read ∙ get_or_default places (get_or least n 0) place 0 down in
    let h = places_at least places n g.places_so_far g.long (get_or least n 0) down in
    let inside : place < length (leasts_below least n) = omega (arith, h.0, at) in
    let is : get_or (leasts_below least n) place 0 ≡ get_or least n 0 = ap (λ j. get_or (leasts_below least n) j 0) at ∙ h.1 ∙ s.settled n lt in
    record {
      parts_so_far = (λ i. set (g.parts_so_far i) place (with_plot n (get_or (g.parts_so_far i) place no_component))) ∙ sym (more_parts least n place ne inside is);
      places_so_far = places_push least places place (leasts_below least n)
          (ap (λ m. leasts_below least (m + 1)) g.long ∙ not_least least n ne)
          (places_at least places n g.places_so_far g.long)
          (inside, is ∙ ap (λ m. get_or least m 0) (sym g.long));
      long = length-append places (place ∷ []) ∙ ap (λ m. m + 1) g.long;
    }

pub none_grouped : (least : List ℕ) (parts : List Component) (places : List ℕ) → parts ≡ [] → places ≡ [] → AreGrouped least 0 parts places
none_grouped least parts places e f = record {
  parts_so_far = e;
  places_so_far = record { inside = λ p lt. absurd (omega (arith, lt, ap length f)); exact = λ p lt. absurd (omega (arith, lt, ap length f)) };
  long = ap length f;
}

pub grouped_as : (least : List ℕ) (n : ℕ) {parts parts' : List Component} {places places' : List ℕ} → AreGrouped least n parts places → parts' ≡ parts → places' ≡ places → AreGrouped least n parts' places'
grouped_as least n {parts} {parts'} {places} {places'} h e f = subst (λ xs. AreGrouped least n xs places') (sym e) (subst (AreGrouped least n parts) (sym f) h)

-- the tracks that an edge brings
track_new : (least : List ℕ) (edges : List (ℕ × ℕ)) (i r : ℕ) → is_first edges i ≡ true → get_or least (plot_at edges i) 0 ≡ r → tracks_below least edges (i + 1) r ≡ tracks_below least edges i r ++ track_at edges i ∷ []
track_new least edges i r e f =
    ap (map (track_at edges)) (passes_more (is_first_of least edges r) i (and_from _ _ e (eq-eqb _ _ f)))
    ∙ map-append (track_at edges) (filter (is_first_of least edges r) (range_with_len 0 i)) (i ∷ [])

track_elsewhere : (least : List ℕ) (edges : List (ℕ × ℕ)) (i r : ℕ) → get_or least (plot_at edges i) 0 ≢ r → tracks_below least edges (i + 1) r ≡ tracks_below least edges i r
track_elsewhere least edges i r ne = ap (map (track_at edges)) (fails_more (is_first_of least edges r) i (and_right (is_first edges i) _ (ne_eqb _ _ ne)))

track_known : (least : List ℕ) (edges : List (ℕ × ℕ)) (i r : ℕ) → is_first edges i ≡ false → tracks_below least edges (i + 1) r ≡ tracks_below least edges i r
track_known least edges i r e = ap (map (track_at edges)) (fails_more (is_first_of least edges r) i (and_left _ (eqb (get_or least (plot_at edges i) 0) r) e))

part_with : (least : List ℕ) (n r : ℕ) → List ℕ → Component
part_with least n r ts = record { plots = class_below least n r; tracks = ts }

-- an edge whose track is known
pub tracks_same : (least : List ℕ) (edges : List (ℕ × ℕ)) (n i : ℕ) → is_first edges i ≡ false → components_of least edges n (i + 1) ≡ components_of least edges n i
unfolding part_with
tracks_same least edges n i e = map_same (component_of least edges n i) (component_of least edges n (i + 1)) (leasts_below least n) 0 (λ k lt. ap (part_with least n (get_or (leasts_below least n) k 0)) (track_known least edges i _ e))

-- an edge with a new track
pub tracks_more : (least : List ℕ) (edges : List (ℕ × ℕ)) (n i j : ℕ) → is_first edges i ≡ true → j < length (leasts_below least n) → get_or (leasts_below least n) j 0 ≡ get_or least (plot_at edges i) 0
    → components_of least edges n (i + 1) ≡ set (components_of least edges n i) j (with_track (track_at edges i) (get_or (components_of least edges n i) j no_component))
unfolding part_with
tracks_more least edges n i j e lt is =
    map_at (component_of least edges n i) (component_of least edges n (i + 1)) (leasts_below least n) j 0 _ lt
    (ap (part_with least n (get_or (leasts_below least n) j 0)) (track_new least edges i _ e (sym is)) ∙ ap (with_track (track_at edges i)) (sym (get_or-map (component_of least edges n i) (leasts_below least n) j 0 no_component lt)))
    (λ k lt' ne. ap (part_with least n (get_or (leasts_below least n) k 0)) (track_elsewhere least edges i _ (λ f. ne (rises_once (leasts_below least n) (passing_rise _ n) k j lt' lt (sym f ∙ sym is)))))

-- the first edge, or one with another track than the one before it
pub first_track : (edges : List (ℕ × ℕ)) (i : ℕ) → i ≡ 0 → is_first edges i ≡ true
first_track edges i e = or_left (eqb i 0) _ (eq-eqb _ _ e)

pub other_track : (edges : List (ℕ × ℕ)) (i : ℕ) → track_at edges (i - 1) ≢ track_at edges i → is_first edges i ≡ true
other_track edges i ne = or_right (eqb i 0) _ (not_from_false _ (ne_eqb _ _ ne))

pub same_track : (edges : List (ℕ × ℕ)) (i : ℕ) → i ≢ 0 → track_at edges (i - 1) ≡ track_at edges i → is_first edges i ≡ false
same_track edges i ne e = or_from _ _ (ne_eqb _ _ ne) (not_from_true _ (eq-eqb _ _ e))

-- the step over an edge that brings a track
pub track_step : (least places : List ℕ) (edges : List (ℕ × ℕ)) (i : ℕ) (parts parts' : List Component) → AreIndices least places → All (λ e. e.0 < length places) edges → i < length edges → is_first edges i ≡ true
    → parts ≡ components_of least edges (length places) i → parts' ≡ set parts (get_or places (plot_at edges i) 0) (with_track (track_at edges i) (get_or parts (get_or places (plot_at edges i) 0) no_component))
    → parts' ≡ components_of least edges (length places) (i + 1)
track_step least places edges i parts parts' h in' lt new e f =
    let p-in : plot_at edges i < length places = in' i (0, 0) lt in
    let j = get_or places (plot_at edges i) 0 in
    f ∙ (λ k. set (e k) j (with_track (track_at edges i) (get_or (e k) j no_component))) ∙ sym (tracks_more least edges (length places) i j new (h.inside _ p-in) (h.exact _ p-in))
