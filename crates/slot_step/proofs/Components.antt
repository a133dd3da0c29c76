-- The components of a batch's gates are parts of its least pairing, and make its certificates.
use Rattle.std.proofs.Common.{◌≡◌, ◌∙◌, ap, sym, refl, ℕ, zero, suc, ◌+◌, ◌<◌, List, [], ◌∷◌, length, get_or, map, Option, Some, None, IsSome, arith, subst, inl, inr}
use Rattle.std.specs.Prelude.{◌⊎◌, Contains, All, IfSome, option_map}
use Rattle.std.specs.List.{AllByRecursion, AllZip}
use Rattle.std.specs.List.Sorted.{IsStrictlyIncreasing, IsStrictlySortedBy}
use Rattle.std.specs.declared.cmp.Ordering.{Ordering}
use Rattle.std.specs.declared.cmp.Ordering.TheVariants.{Less}
use Rattle.std.proofs.lemmas.List.{get_or_default, length-map}
use Rattle.std.proofs.lemmas.List.Elements.{Contains-get_or}
use Rattle.assignment_dual.specs.Pairings.{Row, IsLeast}
use Rattle.assignment_dual.specs.Parts.{part_at, at_plots, AreParts, IsPartOf}
use Rattle.assignment_dual.specs.Problems.{Edge, Problem, IsProblem, row_of, rows_of}
use Rattle.assignment_dual.specs.Renumbering.{number_at, renumbered}
use Rattle.assignment_dual.specs.Rests.{row_at, no_row}
use Rattle.assignment_dual.proofs.Choices.{is_some_of}
use Rattle.assignment_dual.proofs.Parts.{least_of_part}
use Rattle.assignment_dual.proofs.Restricting.{part_least}
use Rattle.assignment_dual.proofs.Signed.{row_at_index, count_rows}
use Rattle.assignment_dual.proofs.Unique.{one_least, alike_least}
use Rattle.cluster_split.specs.declared.splitting.Component.{Component}
use Rattle.cluster_split.specs.Walks.{ShareTrack, IsWalk, AreConnected}
use Rattle.cluster_split.specs.Components.{least_plot, IsComponent, AreComponents}
use Rattle.cluster_split.proofs.Classes.{mapped, from_mapped}
use Rattle.cluster_split.proofs.Ranges.{rises_far, rises_once}
use Rattle.cluster_split.proofs.Splittings.{first_least}
use Rattle.cluster_split.proofs.Walking.{itself, joined, step, back}
use Rattle.slot_step.specs.Batches.{Tracking, rows, entries, least}
use Rattle.slot_step.specs.Slots.{Ordered, OrderLaws, ArePlots, IsTable, by_key, by_birth}
use Rattle.slot_step.specs.Certificates.{Certificate, plots, IsAt, IsGateAt, IsGateWalk, ShareGate, AreJoined, GatesOneOf, IsPairedAs, IsCertificateOf}
use Rattle.slot_step.specs.Problems.{IsGateBetween, IsProblemOf}
use Rattle.slot_step.specs.Components.{edge_pairs, AreAt, IsSolved}
use Rattle.slot_step.proofs.Interleavings.{all_contains, all_of, contains_cons, contains_first, contains_later, contains_none}
use Rattle.slot_step.proofs.Weaving.{least_is}
use Rattle.slot_step.proofs.Batching.{least_length}
use Rattle.slot_step.proofs.Problems.{one_at, of_edges, problem_rows}
use Rattle.slot_step.proofs.Certifying.{within, at_contains, some_is}
use Rattle.slot_step.proofs.Tables.{keys_differ}

pub all_at : {X : Type 0} (Q : X → Type 0) (xs : List X) (i : ℕ) (x : X) → All Q xs → IsAt xs i x → Q x
all_at Q [] i x a h = absurd h
all_at Q (y ∷ xs) zero x a h = subst Q h (a 0 y (omega arith))
all_at Q (y ∷ xs) (suc i) x a h = all_at Q xs i x (λ j d lt. a (suc j) d (omega (arith, lt))) h

pub at_map : {X Y : Type 0} (f : X → Y) (d : Y) (xs : List X) (i : ℕ) (x : X) → IsAt xs i x → get_or (map f xs) i d ≡ f x
at_map f d [] i x h = absurd h
at_map f d (y ∷ xs) zero x h = ap f h
at_map f d (y ∷ xs) (suc i) x h = at_map f d xs i x h

pub at_get : {X : Type 0} (d : X) (xs : List X) (i : ℕ) (x : X) → IsAt xs i x → get_or xs i d ≡ x
at_get d [] i x h = absurd h
at_get d (y ∷ xs) zero x h = h
at_get d (y ∷ xs) (suc i) x h = at_get d xs i x h

pub get_at : {X : Type 0} (d : X) (xs : List X) (i : ℕ) → i < length xs → IsAt xs i (get_or xs i d)
get_at d [] i h = absurd (omega (arith, h))
get_at d (y ∷ xs) zero h = refl
get_at d (y ∷ xs) (suc i) h = get_at d xs i (omega (arith, h))

pub at_from : {X : Type 0} (xs : List X) (x : X) → Contains xs x → (i : ℕ) × IsAt xs i x
at_from [] x c = contains_none x c
at_from (y ∷ xs) x c = elim (contains_cons y x xs c) [
  | inl e ↦ (0, e)
  | inr d ↦ let r : (i : ℕ) × IsAt xs i x = at_from xs x d in (suc r.0, r.1)
]

pub map_at : {X Y : Type 0} (f : X → Y) (xs : List X) (i : ℕ) (x : X) → IsAt xs i x → IsAt (map f xs) i (f x)
map_at f [] i x h = absurd h
map_at f (y ∷ xs) zero x h = ap f h
map_at f (y ∷ xs) (suc i) x h = map_at f xs i x h

pub of_map : {X Y : Type 0} (f : X → Y) (xs : List X) (i : ℕ) (y : Y) → IsAt (map f xs) i y → (x : X) × IsAt xs i x × (f x ≡ y)
of_map f [] i y h = absurd h
of_map f (x ∷ xs) zero y h = (x, refl, h)
of_map f (x ∷ xs) (suc i) y h = of_map f xs i y h

-- what stands beside in two lists
pub zip_back : {X Y : Type 0} (R : X → Y → Type 0) (xs : List X) (ys : List Y) → AllZip R xs ys → (m : ℕ) (y : Y) → IsAt ys m y → (x : X) × IsAt xs m x × R x y
zip_back R [] [] z m y h = absurd h
zip_back R [] (b ∷ ys) z m y h = absurd z
zip_back R (a ∷ xs) [] z m y h = absurd z
zip_back R (a ∷ xs) (b ∷ ys) z zero y h = (a, refl, subst (R a) h z.0)
zip_back R (a ∷ xs) (b ∷ ys) z (suc m) y h = zip_back R xs ys z.1 m y h

pub zip_there : {X Y : Type 0} (R : X → Y → Type 0) (xs : List X) (ys : List Y) → AllZip R xs ys → (m : ℕ) (x : X) → IsAt xs m x → (y : Y) × IsAt ys m y × R x y
zip_there R [] [] z m x h = absurd h
zip_there R [] (b ∷ ys) z m x h = absurd z
zip_there R (a ∷ xs) [] z m x h = absurd z
zip_there R (a ∷ xs) (b ∷ ys) z zero x h = (b, refl, subst (λ c. R c b) h z.0)
zip_there R (a ∷ xs) (b ∷ ys) z (suc m) x h = zip_there R xs ys z.1 m x h

pub zip_length : {X Y : Type 0} (R : X → Y → Type 0) (xs : List X) (ys : List Y) → AllZip R xs ys → length ys ≡ length xs
zip_length R [] [] z = refl
zip_length R [] (b ∷ ys) z = absurd z
zip_length R (a ∷ xs) [] z = absurd z
zip_length R (a ∷ xs) (b ∷ ys) z = ap suc (zip_length R xs ys z.1)

pub zip_made : {X Y : Type 0} (R : X → Y → Type 0) (xs : List X) (ys : List Y) → length ys ≡ length xs → ((m : ℕ) (x : X) (y : Y) → IsAt xs m x → IsAt ys m y → R x y) → AllZip R xs ys
zip_made R [] [] l f = tt
zip_made R [] (b ∷ ys) l f = absurd (omega (arith, l))
zip_made R (a ∷ xs) [] l f = absurd (omega (arith, l))
zip_made R (a ∷ xs) (b ∷ ys) l f = (f 0 a b refl refl, zip_made R xs ys (omega (arith, l)) (λ m x y h g. f (suc m) x y h g))

pub sorted_at : {X : Type 0} (cmp : X → X → Ordering) (xs : List X) → IsStrictlySortedBy cmp xs → (i j : ℕ) (x y : X) → i < j → IsAt xs i x → IsAt xs j y → cmp x y ≡ Less
unfolding IsStrictlySortedBy
sorted_at cmp [] s i j x y l h g = absurd h
sorted_at cmp (z ∷ xs) s i zero x y l h g = absurd (omega (arith, l))
sorted_at cmp (z ∷ xs) s zero (suc j) x y l h g = subst (λ w. cmp w y ≡ Less) h (all_contains (λ w. cmp z w ≡ Less) y xs s.0 (at_contains xs j y g))
sorted_at cmp (z ∷ xs) s (suc i) (suc j) x y l h g = sorted_at cmp xs s.1 i j x y (omega (arith, l)) h g

pub rest_rises : (x : ℕ) (xs : List ℕ) → IsStrictlyIncreasing (x ∷ xs) → IsStrictlyIncreasing xs
rest_rises x xs up k lt =
    let e : suc k + 1 ≡ suc (k + 1) = omega arith in
    subst (λ m. get_or xs k 0 < get_or (x ∷ xs) m 0) e (up (suc k) (omega (arith, lt)))

pub later : (i : ℕ) (is : List ℕ) → IsStrictlyIncreasing (i ∷ is) → (j : ℕ) → Contains is j → i < j
later i is up j c = omega (arith, rises_far (i ∷ is) up 0 (suc c.0) (omega arith) (omega (arith, c.1)), get_or_default is c.0 0 j c.1, c.2)

-- items at rising indices of a rising list rise
at_rises : {X : Type 0} (cmp : X → X → Ordering) (xs : List X) → IsStrictlySortedBy cmp xs → (is : List ℕ) (ys : List X) → IsStrictlyIncreasing is → AreAt xs is ys → IsStrictlySortedBy cmp ys
unfolding IsStrictlySortedBy
at_rises cmp xs s [] [] up z = tt
at_rises cmp xs s [] (y ∷ ys) up z = absurd z
at_rises cmp xs s (i ∷ is) [] up z = absurd z
at_rises {X} cmp xs s (i ∷ is) (y ∷ ys) up z = (
  all_of (λ w. cmp y w ≡ Less) ys (λ w c.
      let a : (m : ℕ) × IsAt ys m w = at_from ys w c in
      let b : (j : ℕ) × IsAt is a.0 j × IsAt xs j w = zip_back (IsAt xs) is ys z.1 a.0 w a.1 in
      sorted_at cmp xs s i b.0 y w (later i is up b.0 (at_contains is a.0 b.0 b.1)) z.0 b.2),
  at_rises cmp xs s is ys (rest_rises i is up) z.1,
)

entry_at : {P : Type 0} (ps : List P) (xs : List (Option ℕ)) → length xs ≡ length ps → (i : ℕ) (p : P) → IsAt ps i p → Contains (entries ps xs) (p, get_or xs i None)
entry_at [] xs l i p h = absurd h
entry_at (q ∷ ps) [] l i p h = absurd (omega (arith, l))
entry_at (q ∷ ps) (x ∷ xs) l zero p h = contains_first _ _ _ (ap (λ r. (r, x)) h)
entry_at (q ∷ ps) (x ∷ xs) l (suc i) p h = contains_later _ _ _ (entry_at ps xs (omega (arith, l)) i p h)

-- parts of a list of components
abbrev pub plot_lists : List Component → List (List ℕ)
plot_lists comps = map (λ c. c.plots) comps

pub at_part : (comps : List Component) (i plot : ℕ) → Contains (part_at (plot_lists comps) i) plot → (c : Component) × IsAt comps i c × Contains c.plots plot
at_part [] i plot d = contains_none plot d
at_part (c ∷ cs) zero plot d = (c, refl, d)
at_part (c ∷ cs) (suc i) plot d = at_part cs i plot d

pub part_is : (comps : List Component) (i : ℕ) (c : Component) → IsAt comps i c → part_at (plot_lists comps) i ≡ c.plots
part_is [] i c h = absurd h
part_is (d ∷ cs) zero c h = ap (λ (e : Component). e.plots) h
part_is (d ∷ cs) (suc i) c h = part_is cs i c h

parts_rise : (n : ℕ) (pairs : List (ℕ × ℕ)) (comps : List Component) → All (IsComponent n pairs) comps → (i : ℕ) → IsStrictlyIncreasing (part_at (plot_lists comps) i)
parts_rise n pairs [] a i = λ k lt. absurd (omega (arith, lt))
parts_rise n pairs (c ∷ cs) a zero = (a 0 c (omega arith)).plots_rise
parts_rise n pairs (c ∷ cs) a (suc i) = parts_rise n pairs cs (λ j d lt. a (suc j) d (omega (arith, lt))) i

least_in : (n : ℕ) (pairs : List (ℕ × ℕ)) (c : Component) → IsComponent n pairs c → Contains c.plots (least_plot c)
least_in n pairs c h = Contains-get_or c.plots 0 0 h.some_plot

-- a plot is of one component
pub one_part : (n : ℕ) (pairs : List (ℕ × ℕ)) (comps : List Component) → AreComponents n pairs comps → (i j p : ℕ) (c d : Component) → IsAt comps i c → IsAt comps j d → Contains c.plots p → Contains d.plots p → i ≡ j
one_part n pairs comps h i j p c d a b hc hd =
    let ic : IsComponent n pairs c = all_at (IsComponent n pairs) comps i c h.each a in
    let id : IsComponent n pairs d = all_at (IsComponent n pairs) comps j d h.each b in
    let wc = (ic.connected p).0 hc in
    let wd = (id.connected p).0 hd in
    let dc : Contains c.plots (least_plot d) = (ic.connected (least_plot d)).1 (((id.connected (least_plot d)).0 (least_in n pairs d id)).0, joined wc.1 (back wd.1)) in
    let cd : Contains d.plots (least_plot c) = (id.connected (least_plot c)).1 (((ic.connected (least_plot c)).0 (least_in n pairs c ic)).0, joined wd.1 (back wc.1)) in
    let e : least_plot c ≡ least_plot d = omega (arith, first_least c.plots (least_plot d) ic.plots_rise dc, first_least d.plots (least_plot c) id.plots_rise cd) in
    rises_once (map least_plot comps) h.order i j (omega (arith, within comps i c a, length-map comps least_plot)) (omega (arith, within comps j d b, length-map comps least_plot))
    (at_map least_plot 0 comps i c a ∙ e ∙ sym (at_map least_plot 0 comps j d b))

module _ {T P : Type 0} (k : Tracking T P) (ts : List T) (ps : List P) (whole : Problem) (w : IsProblemOf k.gate ts ps whole) where
  gate_of_pair : (i j : ℕ) → Contains (edge_pairs whole.edges) (i, j) → (c : ℕ) × IsGateBetween k.gate ts ps i j c
  gate_of_pair i j h =
      let r : (m : ℕ) × (m < length whole.edges) × (((get_or whole.edges m (0, 0, 0)).0, (get_or whole.edges m (0, 0, 0)).1) ≡ (i, j)) = from_mapped (λ (e : Edge). (e.0, e.1)) whole.edges (0, 0, 0) (i, j) h in
      let e : Edge = get_or whole.edges r.0 (0, 0, 0) in
      (e.2, (w.edges_are i j e.2).0 (subst (λ (y : ℕ × ℕ). Contains whole.edges (y.0, y.1, e.2)) r.2 (Contains-get_or whole.edges r.0 (0, 0, 0) r.1)))

  pair_of_gate : (i j c : ℕ) → IsGateBetween k.gate ts ps i j c → Contains (edge_pairs whole.edges) (i, j)
  pair_of_gate i j c g = mapped (λ (e : Edge). (e.0, e.1)) whole.edges (i, j, c) ((w.edges_are i j c).1 g)

  pair_of_row : (i j : ℕ) → i < whole.plots → IsSome (row_at (rows_of whole) i j) → Contains (edge_pairs whole.edges) (i, j)
  pair_of_row i j n g =
      let s : (c : ℕ) × (row_of whole.edges i j ≡ Some c) = is_some_of (row_of whole.edges i j) (subst (λ (r : Row). IsSome (r j)) (row_at_index whole i n) g) in
      mapped (λ (e : Edge). (e.0, e.1)) whole.edges (i, j, s.0) (of_edges k.gate whole i j s.0 s.1)

  -- a walk of gates over plots is a walk of edges over their indices
  walk_plots : (i : ℕ) (over : List ℕ) (j : ℕ) (p q : P) → IsWalk (edge_pairs whole.edges) i over j → IsAt ps i p → IsAt ps j q → (r : List P) × IsGateWalk k.gate ts ps p r q
  walk_plots i [] j p q h a b = ([], one_at ps j p q (subst (λ x. IsAt ps x p) h a) b)
  walk_plots i (s ∷ over) j p q h a b =
      let f : (c : ℕ) × IsGateBetween k.gate ts ps i h.0.track c = gate_of_pair i h.0.track h.0.one in
      let g : (c : ℕ) × IsGateBetween k.gate ts ps s h.0.track c = gate_of_pair s h.0.track h.0.other in
      let r : (r : List P) × IsGateWalk k.gate ts ps g.1.plot r q = walk_plots s over j g.1.plot q h.1 g.1.plot_at b in
      let share : ShareGate k.gate ts p g.1.plot = record {
        track = f.1.track;
        known = at_contains ts h.0.track f.1.track f.1.track_at;
        one = some_is (k.gate f.1.track p) f.0 (ap (k.gate f.1.track) (one_at ps i p f.1.plot a f.1.plot_at) ∙ f.1.gate_is);
        other = some_is (k.gate f.1.track g.1.plot) g.0 (ap (λ t. k.gate t g.1.plot) (one_at ts h.0.track f.1.track g.1.track f.1.track_at g.1.track_at) ∙ g.1.gate_is);
      } in
      (g.1.plot ∷ r.0, (at_contains ps s g.1.plot g.1.plot_at, share, r.1))

  walk_indices : (i : ℕ) (p : P) (over : List P) (q : P) → IsAt ps i p → IsGateWalk k.gate ts ps p over q → (j : ℕ) × IsAt ps j q × AreConnected (edge_pairs whole.edges) i j
  walk_indices i p [] q a h = (i, subst (IsAt ps i) h a, itself (edge_pairs whole.edges) i)
  walk_indices i p (r ∷ over) q a h =
      let s : (s : ℕ) × IsAt ps s r = at_from ps r h.0 in
      let t : (t : ℕ) × IsAt ts t h.1.track = at_from ts h.1.track h.1.known in
      let c : (c : ℕ) × (k.gate h.1.track p ≡ Some c) = is_some_of (k.gate h.1.track p) h.1.one in
      let d : (c : ℕ) × (k.gate h.1.track r ≡ Some c) = is_some_of (k.gate h.1.track r) h.1.other in
      let share : ShareTrack (edge_pairs whole.edges) i s.0 = record {
        track = t.0;
        one = pair_of_gate i t.0 c.0 (record { plot = p; track = h.1.track; plot_at = a; track_at = t.1; gate_is = c.1 });
        other = pair_of_gate s.0 t.0 d.0 (record { plot = r; track = h.1.track; plot_at = s.1; track_at = t.1; gate_is = d.1 });
      } in
      let f : (j : ℕ) × IsAt ps j q × AreConnected (edge_pairs whole.edges) s.0 j = walk_indices s.0 r over q s.1 h.2 in
      (f.0, f.1, joined (step share) f.2)

  pub component_parts : (comps : List Component) → AreComponents (length ps) (edge_pairs whole.edges) comps → AreParts (rows_of whole) (plot_lists comps)
  component_parts comps h = record {
    rising = parts_rise (length ps) (edge_pairs whole.edges) comps h.each;
    inside = λ i p d. let a = at_part comps i p d in let n = (((all_at (IsComponent (length ps) (edge_pairs whole.edges)) comps i a.0 h.each a.1).connected p).0 a.2).0 in omega (arith, n, count_rows whole, w.plot_count);
    whole = λ p lt.
        let r = h.whole p (omega (arith, lt, count_rows whole, w.plot_count)) in
        let a : (i : ℕ) × IsAt comps i r.0 = at_from comps r.0 r.1 in
        (a.0, omega (arith, within comps a.0 r.0 a.1, length-map comps (λ (c : Component). c.plots)), subst (λ xs. Contains xs p) (sym (part_is comps a.0 r.0 a.1)) r.2);
    once = λ i j p d e. let a = at_part comps i p d in let b = at_part comps j p e in one_part (length ps) (edge_pairs whole.edges) comps h i j p a.0 b.0 a.1 b.1 a.2 b.2;
    apart = λ i j p q t d e g f.
        let a = at_part comps i p d in
        let b = at_part comps j q e in
        let ia = all_at (IsComponent (length ps) (edge_pairs whole.edges)) comps i a.0 h.each a.1 in
        let ib = all_at (IsComponent (length ps) (edge_pairs whole.edges)) comps j b.0 h.each b.1 in
        let wp = (ia.connected p).0 a.2 in
        let wq = (ib.connected q).0 b.2 in
        let share : ShareTrack (edge_pairs whole.edges) p q = record { track = t; one = pair_of_row p t (omega (arith, wp.0, w.plot_count)) g; other = pair_of_row q t (omega (arith, wq.0, w.plot_count)) f } in
        one_part (length ps) (edge_pairs whole.edges) comps h i j q a.0 b.0 a.1 b.1 ((ia.connected q).1 (wq.0, joined wp.1 (step share))) b.2;
  }

  whole_least : IsLeast (rows_of whole) (least k ts ps)
  whole_least =
      let r = problem_rows k.gate ts ps whole w in
      alike_least (rows k.gate ts ps) (rows_of whole) (least k ts ps) (record { count = sym r.count; each = λ i j lt. sym (r.each i j (omega (arith, lt, r.count))) }) (least_is k ts ps)

  -- a component's own least pairing is the whole batch's, restricted to it
  pub restricted : (comps : List Component) → AreComponents (length ps) (edge_pairs whole.edges) comps → (i : ℕ) (c : Component) → IsAt comps i c → (q : Problem) (xs : List (Option ℕ)) → IsProblem q → IsPartOf whole c.plots c.tracks q → IsLeast (rows_of q) xs
      → at_plots None (least k ts ps) c.plots ≡ renumbered c.tracks xs
  restricted comps h i c a q xs hq r l =
      one_least (at_plots no_row (rows_of whole) c.plots) (at_plots None (least k ts ps) c.plots) (renumbered c.tracks xs)
      (subst (λ (own : List ℕ). IsLeast (at_plots no_row (rows_of whole) own) (at_plots None (least k ts ps) own)) (part_is comps i c a) (least_of_part (rows_of whole) (least k ts ps) (plot_lists comps) (component_parts comps h) whole_least i))
      (part_least whole q c.plots c.tracks xs w.problem hq (all_at (IsComponent (length ps) (edge_pairs whole.edges)) comps i c h.each a).tracks_rise r l)

module _ {T P K : Type 0} (k : Tracking T P) (o : Ordered T P K) (l : OrderLaws k o) where
  births_differ : (us : List T) → IsTable o us → (t u : T) → Contains us t → Contains us u → o.birth t ≡ o.birth u → t ≡ u
  unfolding IsStrictlySortedBy
  births_differ [] r t u c d e = contains_none t c
  births_differ (v ∷ us) r t u c d e = both (λ a b. births_differ us r.1 t u a b e) (contains_cons v t us c) (contains_cons v u us d)
    where
      both : (Contains us t → Contains us u → t ≡ u) → (v ≡ t) ⊎ Contains us t → (v ≡ u) ⊎ Contains us u → t ≡ u
      both f (inl a) (inl b) = sym a ∙ b
      both f (inl a) (inr b) = absurd ((keys_differ k o l (o.birth v) (o.birth u) (all_contains (λ x. by_birth o v x ≡ Less) u us r.0 b)).0 (ap o.birth a ∙ e))
      both f (inr a) (inl b) = absurd ((keys_differ k o l (o.birth v) (o.birth t) (all_contains (λ x. by_birth o v x ≡ Less) t us r.0 a)).0 (ap o.birth b ∙ sym e))
      both f (inr a) (inr b) = f a b

  births_sorted : (us : List T) → IsTable o us → IsStrictlySortedBy o.cmp (map o.birth us)
  unfolding IsStrictlySortedBy
  births_sorted [] r = tt
  births_sorted (t ∷ us) r = (
    all_of (λ b. o.cmp (o.birth t) b ≡ Less) (map o.birth us) (λ b c.
        let m : (i : ℕ) × IsAt (map o.birth us) i b = at_from (map o.birth us) b c in
        let u : (u : T) × IsAt us m.0 u × (o.birth u ≡ b) = of_map o.birth us m.0 b m.1 in
        subst (λ x. o.cmp (o.birth t) x ≡ Less) u.2 (all_contains (λ x. by_birth o t x ≡ Less) u.0 us r.0 (at_contains us m.0 u.0 u.1))),
    births_sorted us r.1,
  )

module _ {T P K : Type 0} (k : Tracking T P) (o : Ordered T P K) (l : OrderLaws k o) (ts : List T) (ps : List P) (whole : Problem) (w : IsProblemOf k.gate ts ps whole) (up : IsTable o ts) (rising : ArePlots o ps)
    (part : Component) (ic : IsComponent (length ps) (edge_pairs whole.edges) part) (c : Certificate P K) (s : IsSolved o ts ps whole part c) where
  -- the index of a plot, and of a track by its birth
  plot_index : (m : ℕ) (p : P) → IsAt (plots c) m p → (i : ℕ) × IsAt part.plots m i × IsAt ps i p
  plot_index m p h = zip_back (IsAt ps) part.plots (plots c) s.plots_at m p h

  plot_there : (m i : ℕ) (p : P) → IsAt part.plots m i → IsAt ps i p → IsAt (plots c) m p
  plot_there m i p h a = let r : (q : P) × IsAt (plots c) m q × IsAt ps i q = zip_there (IsAt ps) part.plots (plots c) s.plots_at m i h in subst (IsAt (plots c) m) (one_at ps i r.0 p r.2 a) r.1

  birth_there : (m j : ℕ) (t : T) → IsAt part.tracks m j → IsAt ts j t → IsAt c.births m (o.birth t)
  birth_there m j t h a =
      let r : (b : K) × IsAt c.births m b × IsAt (map o.birth ts) j b = zip_there (IsAt (map o.birth ts)) part.tracks c.births s.births_at m j h in
      subst (IsAt c.births m) (one_at (map o.birth ts) j r.0 (o.birth t) r.2 (map_at o.birth ts j t a)) r.1

  birth_index : (m : ℕ) (t : T) → Contains ts t → IsAt c.births m (o.birth t) → (j : ℕ) × IsAt part.tracks m j × IsAt ts j t
  birth_index m t known h =
      let r : (j : ℕ) × IsAt part.tracks m j × IsAt (map o.birth ts) j (o.birth t) = zip_back (IsAt (map o.birth ts)) part.tracks c.births s.births_at m (o.birth t) h in
      let u : (u : T) × IsAt ts r.0 u × (o.birth u ≡ o.birth t) = of_map o.birth ts r.0 (o.birth t) r.2 in
      (r.0, r.1, subst (IsAt ts r.0) (births_differ k o l ts up u.0 t (at_contains ts r.0 u.0 u.1) known u.2) u.1)

  first_index : (i : ℕ) × (least_plot part ≡ i) × IsAt ps i c.first
  first_index = let r : (i : ℕ) × IsAt part.plots 0 i × IsAt ps i c.first = plot_index 0 c.first refl in (r.0, at_get 0 part.plots 0 r.0 r.1, r.2)

  own_plot : (p : P) → Contains (plots c) p → (i : ℕ) × Contains part.plots i × IsAt ps i p
  own_plot p h = let m : (m : ℕ) × IsAt (plots c) m p = at_from (plots c) p h in let r : (i : ℕ) × IsAt part.plots m.0 i × IsAt ps i p = plot_index m.0 p m.1 in (r.0, at_contains part.plots m.0 r.0 r.1, r.2)

  plot_own : (i : ℕ) (p : P) → Contains part.plots i → IsAt ps i p → Contains (plots c) p
  plot_own i p h a = let m : (m : ℕ) × IsAt part.plots m i = at_from part.plots i h in at_contains (plots c) m.0 p (plot_there m.0 i p m.1 a)

  plots_joined : (q : P) → Contains (plots c) q → AreJoined k.gate ts ps c.first q
  plots_joined q h =
      let r : (i : ℕ) × Contains part.plots i × IsAt ps i q = own_plot q h in
      let v : AreConnected (edge_pairs whole.edges) (least_plot part) r.0 = ((ic.connected r.0).0 r.1).1 in
      let g : (over : List P) × IsGateWalk k.gate ts ps c.first over q = walk_plots k ts ps whole w (least_plot part) v.plots r.0 c.first q v.walk (subst (λ i. IsAt ps i c.first) (sym first_index.1) first_index.2) r.2 in
      record { known = at_contains ps r.0 q r.2; over = g.0; walk = g.1 }

  joined_plots : (q : P) → AreJoined k.gate ts ps c.first q → Contains (plots c) q
  joined_plots q h =
      let r : (j : ℕ) × IsAt ps j q × AreConnected (edge_pairs whole.edges) first_index.0 j = walk_indices k ts ps whole w first_index.0 c.first h.over q first_index.2 h.walk in
      plot_own r.0 q ((ic.connected r.0).1 (within ps r.0 q r.1, subst (λ i. AreConnected (edge_pairs whole.edges) i r.0) (sym first_index.1) r.2)) r.1

  births_gate : (b : K) → Contains c.births b → GatesOneOf k.gate o.birth ts (plots c) b
  births_gate b h =
      let m : (m : ℕ) × IsAt c.births m b = at_from c.births b h in
      let r : (j : ℕ) × IsAt part.tracks m.0 j × IsAt (map o.birth ts) j b = zip_back (IsAt (map o.birth ts)) part.tracks c.births s.births_at m.0 b m.1 in
      let t : (t : T) × IsAt ts r.0 t × (o.birth t ≡ b) = of_map o.birth ts r.0 b r.2 in
      let v = (ic.reached r.0).0 (at_contains part.tracks m.0 r.0 r.1) in
      let g : (n : ℕ) × IsGateBetween k.gate ts ps v.0 r.0 n = gate_of_pair k ts ps whole w v.0 r.0 v.2 in
      record {
        track = t.0;
        plot = g.1.plot;
        known = at_contains ts r.0 t.0 t.1;
        is = t.2;
        own = plot_own v.0 g.1.plot v.1 g.1.plot_at;
        gates = some_is (k.gate t.0 g.1.plot) g.0 (ap (λ u. k.gate u g.1.plot) (one_at ts r.0 t.0 g.1.track t.1 g.1.track_at) ∙ g.1.gate_is);
      }

  gates_births : (b : K) → GatesOneOf k.gate o.birth ts (plots c) b → Contains c.births b
  gates_births b h =
      let j : (j : ℕ) × IsAt ts j h.track = at_from ts h.track h.known in
      let i : (i : ℕ) × Contains part.plots i × IsAt ps i h.plot = own_plot h.plot h.own in
      let n : (n : ℕ) × (k.gate h.track h.plot ≡ Some n) = is_some_of (k.gate h.track h.plot) h.gates in
      let e : Contains (edge_pairs whole.edges) (i.0, j.0) = pair_of_gate k ts ps whole w i.0 j.0 n.0 (record { plot = h.plot; track = h.track; plot_at = i.2; track_at = j.1; gate_is = n.1 }) in
      let m : (m : ℕ) × IsAt part.tracks m j.0 = at_from part.tracks j.0 ((ic.reached j.0).1 (i.0, i.1, e)) in
      subst (Contains c.births) h.is (at_contains c.births m.0 (o.birth h.track) (birth_there m.0 j.0 h.track m.1 j.1))

  edges_gate : (i j cost : ℕ) → Contains c.costs.edges (i, j, cost) → IsGateAt k.gate o.birth ts c i j cost
  edges_gate i j cost h =
      let li : i < length part.plots = subst (λ n. i < n) s.costs.plots (all_edges (λ e. e.0 < c.costs.plots) s.problem.plots h) in
      let lj : j < length part.tracks = subst (λ n. j < n) s.costs.tracks (all_edges (λ e. e.1 < c.costs.tracks) s.problem.tracks h) in
      let plot_i = get_or part.plots i 0 in
      let track_j = get_or part.tracks j 0 in
      let g : IsGateBetween k.gate ts ps plot_i track_j cost = (w.edges_are plot_i track_j cost).0 ((s.costs.edges i j cost li lj).0 h) in
      record {
        plot = g.plot;
        track = g.track;
        plot_at = plot_there i plot_i g.plot (get_at 0 part.plots i li) g.plot_at;
        known = at_contains ts track_j g.track g.track_at;
        birth_at = birth_there j track_j g.track (get_at 0 part.tracks j lj) g.track_at;
        gate_is = g.gate_is;
      }
    where
      all_edges : (Q : Edge → Type 0) → All Q c.costs.edges → Contains c.costs.edges (i, j, cost) → Q (i, j, cost)
      all_edges Q a d = all_at Q c.costs.edges (at_from c.costs.edges (i, j, cost) d).0 (i, j, cost) a (at_from c.costs.edges (i, j, cost) d).1

  gate_edges : (i j cost : ℕ) → IsGateAt k.gate o.birth ts c i j cost → Contains c.costs.edges (i, j, cost)
  gate_edges i j cost g =
      let r : (n : ℕ) × IsAt part.plots i n × IsAt ps n g.plot = plot_index i g.plot g.plot_at in
      let t : (n : ℕ) × IsAt part.tracks j n × IsAt ts n g.track = birth_index j g.track g.known g.birth_at in
      let e : Contains whole.edges (r.0, t.0, cost) = (w.edges_are r.0 t.0 cost).1 (record { plot = g.plot; track = g.track; plot_at = r.2; track_at = t.2; gate_is = g.gate_is }) in
      (s.costs.edges i j cost (within part.plots i r.0 r.1) (within part.tracks j t.0 t.1)).1
      (subst (λ n. Contains whole.edges (n, get_or part.tracks j 0, cost)) (sym (at_get 0 part.plots i r.0 r.1)) (subst (λ n. Contains whole.edges (r.0, n, cost)) (sym (at_get 0 part.tracks j t.0 t.1)) e))

  paired : (least_count : length (least k ts ps) ≡ length ps) → at_plots None (least k ts ps) part.plots ≡ renumbered part.tracks c.pairing
      → (m : ℕ) (p : P) (x : Option ℕ) → IsAt (plots c) m p → IsAt c.pairing m x → IsPairedAs k o ts ps c.births p x
  paired n e m p x a b =
      let r : (i : ℕ) × IsAt part.plots m i × IsAt ps i p = plot_index m p a in
      let q : get_or (least k ts ps) r.0 None ≡ option_map (number_at part.tracks) x =
      sym (at_map (λ i. get_or (least k ts ps) i None) None part.plots m r.0 r.1) ∙ ap (λ (xs : List (Option ℕ)). get_or xs m None) e ∙ at_map (option_map (number_at part.tracks)) None c.pairing m x b in
      named x (all_at (λ y. IfSome y (λ t. t < c.costs.tracks)) c.pairing m x s.solved.tracks b) (subst (λ y. Contains (entries ps (least k ts ps)) (p, y)) q (entry_at ps (least k ts ps) n r.0 p r.2))
    where
      named : (y : Option ℕ) → IfSome y (λ t. t < c.costs.tracks) → Contains (entries ps (least k ts ps)) (p, option_map (number_at part.tracks) y) → IsPairedAs k o ts ps c.births p y
      named None h d = d
      named (Some j) h d =
          let lj : j < length part.tracks = subst (λ n. j < n) s.costs.tracks h in
          let f : (b : K) × IsAt c.births j b × IsAt (map o.birth ts) (number_at part.tracks j) b = zip_there (IsAt (map o.birth ts)) part.tracks c.births s.births_at j (number_at part.tracks j) (get_at 0 part.tracks j lj) in
          let t : (t : T) × IsAt ts (number_at part.tracks j) t × (o.birth t ≡ f.0) = of_map o.birth ts (number_at part.tracks j) f.0 f.2 in
          record { index = number_at part.tracks j; track = t.0; entry = d; track_at = t.1; birth_at = subst (IsAt c.births j) (sym t.2) f.1 }

  pub certified : (least_count : length (least k ts ps) ≡ length ps) → length c.pairing ≡ length (plots c) → at_plots None (least k ts ps) part.plots ≡ renumbered part.tracks c.pairing → IsCertificateOf k o ts ps c
  certified n long e = record {
    plots_rise = at_rises (by_key o) ps rising part.plots (plots c) ic.plots_rise s.plots_at;
    plots_are = λ q. (plots_joined q, joined_plots q);
    births_rise = at_rises o.cmp (map o.birth ts) (births_sorted k o l ts up) part.tracks c.births ic.tracks_rise s.births_at;
    births_are = λ b. (births_gate b, gates_births b);
    problem = s.problem;
    plot_count = s.costs.plots ∙ sym (zip_length (IsAt ps) part.plots (plots c) s.plots_at);
    track_count = s.costs.tracks ∙ sym (zip_length (IsAt (map o.birth ts)) part.tracks c.births s.births_at);
    edges_are = λ i j cost. (edges_gate i j cost, gate_edges i j cost);
    pairing_is = zip_made (IsPairedAs k o ts ps c.births) (plots c) c.pairing long (paired n e);
    proves = s.solved.proves;
  }

module _ {T P K : Type 0} (k : Tracking T P) (o : Ordered T P K) (l : OrderLaws k o) (ts : List T) (ps : List P) (whole : Problem) (up : IsTable o ts) (rising : ArePlots o ps) (w : IsProblemOf k.gate ts ps whole) where
  pub each_certified : (comps : List Component) (cs : List (Certificate P K)) → AreComponents (length ps) (edge_pairs whole.edges) comps → AllZip (IsSolved o ts ps whole) comps cs → AllByRecursion (IsCertificateOf k o ts ps) cs
  each_certified comps cs h z = all_of (IsCertificateOf k o ts ps) cs (λ c d.
      let m : (m : ℕ) × IsAt cs m c = at_from cs c d in
      let r : (part : Component) × IsAt comps m.0 part × IsSolved o ts ps whole part c = zip_back (IsSolved o ts ps whole) comps cs z m.0 c m.1 in
      let e : at_plots None (least k ts ps) r.0.plots ≡ renumbered r.0.tracks c.pairing = restricted k ts ps whole w comps h m.0 r.0 r.1 c.costs c.pairing r.2.problem r.2.costs r.2.solved.least in
      certified k o l ts ps whole w up rising r.0 (all_at (IsComponent (length ps) (edge_pairs whole.edges)) comps m.0 r.0 h.each r.1) c r.2 (least_length k ts ps)
      (omega (arith, ap length e, length-map r.0.plots (λ i. get_or (least k ts ps) i None), length-map c.pairing (option_map (number_at r.0.tracks)), zip_length (IsAt ps) r.0.plots (plots c) r.2.plots_at)) e)

  pub all_certified : (comps : List Component) (cs : List (Certificate P K)) → AreComponents (length ps) (edge_pairs whole.edges) comps → AllZip (IsSolved o ts ps whole) comps cs → (p : P) → Contains ps p → (c : Certificate P K) × Contains cs c × Contains (plots c) p
  all_certified comps cs h z p d =
      let i : (i : ℕ) × IsAt ps i p = at_from ps p d in
      let r = h.whole i.0 (within ps i.0 p i.1) in
      let m : (m : ℕ) × IsAt comps m r.0 = at_from comps r.0 r.1 in
      let c : (c : Certificate P K) × IsAt cs m.0 c × IsSolved o ts ps whole r.0 c = zip_there (IsSolved o ts ps whole) comps cs z m.0 r.0 m.1 in
      (c.0, at_contains cs m.0 c.0 c.1, plot_own k o l ts ps whole w up rising r.0 (all_at (IsComponent (length ps) (edge_pairs whole.edges)) comps m.0 r.0 h.each m.1) c.0 c.2 i.0 p r.2 i.1)

  first_at : (part : Component) (c : Certificate P K) → IsComponent (length ps) (edge_pairs whole.edges) part → IsSolved o ts ps whole part c → IsAt ps (least_plot part) c.first
  first_at part c ic s = let f : (i : ℕ) × (least_plot part ≡ i) × IsAt ps i c.first = first_index k o l ts ps whole w up rising part ic c s in subst (λ i. IsAt ps i c.first) (sym f.1) f.2

  pub firsts_rise : (comps : List Component) (cs : List (Certificate P K)) → All (IsComponent (length ps) (edge_pairs whole.edges)) comps → IsStrictlyIncreasing (map least_plot comps) → AllZip (IsSolved o ts ps whole) comps cs
      → IsStrictlySortedBy (λ c d. o.cmp (o.key c.first) (o.key d.first)) cs
  unfolding IsStrictlySortedBy
  firsts_rise [] [] a r z = tt
  firsts_rise [] (c ∷ cs) a r z = absurd z
  firsts_rise (part ∷ comps) [] a r z = absurd z
  firsts_rise (part ∷ comps) (c ∷ cs) a r z = (
    all_of (λ d. o.cmp (o.key c.first) (o.key d.first) ≡ Less) cs (λ d h.
        let m : (m : ℕ) × IsAt cs m d = at_from cs d h in
        let q : (other : Component) × IsAt comps m.0 other × IsSolved o ts ps whole other d = zip_back (IsSolved o ts ps whole) comps cs z.1 m.0 d m.1 in
        let iq : IsComponent (length ps) (edge_pairs whole.edges) q.0 = all_at (IsComponent (length ps) (edge_pairs whole.edges)) comps m.0 q.0 (λ i d lt. a (suc i) d (omega (arith, lt))) q.1 in
        sorted_at (by_key o) ps rising (least_plot part) (least_plot q.0) c.first d.first
        (later (least_plot part) (map least_plot comps) r (least_plot q.0) (at_contains (map least_plot comps) m.0 (least_plot q.0) (map_at least_plot comps m.0 q.0 q.1)))
        (first_at part c (a 0 part (omega arith)) z.0) (first_at q.0 d iq q.2)),
    firsts_rise comps cs (λ i d lt. a (suc i) d (omega (arith, lt))) (rest_rises (least_plot part) (map least_plot comps) r) z.1,
  )
