-- The edges of a component are its own problem, a part of the batch's.
use Rattle.std.proofs.Common.{◌≡◌, ◌∙◌, ap, sym, refl, ℕ, zero, suc, ◌+◌, ◌<◌, ◌≤◌, eqb, List, [], ◌∷◌, length, get_or, map, arith, subst, inl, inr}
use Rattle.std.specs.Prelude.{Contains}
use Rattle.std.specs.List.{AllByRecursion}
use Rattle.std.specs.List.Sorted.{IsStrictlyIncreasing}
use Rattle.std.proofs.lemmas.Bool.{cases_order, cond_both, eqb-true, eq-eqb}
use Rattle.std.proofs.lemmas.List.{get_or_default}
use Rattle.std.proofs.lemmas.List.Elements.{Contains-get_or, Contains-append_left, Contains-append_right, Contains-append_cases, All-contains}
use Rattle.trk_base.specs.Limits.{gate_cost}
use Rattle.assignment_dual.specs.Problems.{Edge, EdgeBefore, Problem, IsProblem, edge_at}
use Rattle.assignment_dual.specs.Parts.{IsPartOf}
use Rattle.cluster_split.specs.declared.splitting.Component.{Component}
use Rattle.cluster_split.specs.Components.{IsComponent}
use Rattle.cluster_split.proofs.Ranges.{rises_far, kept_in}
use Rattle.cluster_split.proofs.Classes.{mapped, from_mapped}
use Rattle.slot_step.specs.Certificates.{IsAt}
use Rattle.slot_step.specs.Components.{edge_pairs}
use Rattle.slot_step.specs.ComponentEdges.{index_of, edges_at, own_edge, component_edges}
use Rattle.slot_step.proofs.Interleavings.{contains_first, contains_later, contains_none, all_of, all_contains, all_filter, in_filter, filter_passes}
use Rattle.slot_step.proofs.Certifying.{within, at_contains}
use Rattle.slot_step.proofs.Components.{at_get, get_at}
use Rattle.slot_step.proofs.RisingEdges.{Rising, by_index, rising_append, all_by_index, from_none}
use Rattle.slot_step.proofs.ComponentEdges.{index_at}

-- a rising list of numbers below n has at most n of them
far : (ns : List ℕ) → IsStrictlyIncreasing ns → (k : ℕ) → k < length ns → k ≤ get_or ns k 0
far ns up zero lt = omega arith
far ns up (suc k) lt = omega (arith, far ns up k (omega (arith, lt)), rises_far ns up k (suc k) (omega arith) lt)

pub few_below : (ns : List ℕ) (n : ℕ) → IsStrictlyIncreasing ns → ((m : ℕ) → Contains ns m → m < n) → length ns ≤ n
few_below [] n up h = omega arith
few_below (m ∷ ns) n up h = omega (arith, far (m ∷ ns) up (length ns) (omega arith), h (get_or (m ∷ ns) (length ns) 0) (Contains-get_or (m ∷ ns) (length ns) 0 (omega arith)))

rising_by : (es : List Edge) → ((i j : ℕ) → i < j → j < length es → EdgeBefore (edge_at es i) (edge_at es j)) → Rising es
rising_by [] h = tt
rising_by (e ∷ es) h = (
  all_of (EdgeBefore e) es (λ f c. subst (EdgeBefore e) (get_or_default es c.0 (0, 0, 0) f c.1 ∙ c.2) (h 0 (suc c.0) (omega arith) (omega (arith, c.1)))),
  rising_by es (λ i j lt l. h (suc i) (suc j) (omega (arith, lt)) (omega (arith, l))),
)

filter_rises : (plot : ℕ) (es : List Edge) → Rising es → Rising (edges_at es plot)
filter_rises plot [] h = tt
filter_rises plot (e ∷ es) h = cond_both (eqb e.0 plot) (e ∷ edges_at es plot) (edges_at es plot) Rising
    (λ _. (all_filter (EdgeBefore e) (λ f. eqb f.0 plot) es h.0, filter_rises plot es h.1)) (λ _. filter_rises plot es h.1)

all_mapped : {X Y : Type 0} (Q : Y → Type 0) (f : X → Y) (xs : List X) → AllByRecursion (λ x. Q (f x)) xs → AllByRecursion Q (map f xs)
all_mapped Q f [] h = tt
all_mapped Q f (x ∷ xs) h = (h.0, all_mapped Q f xs h.1)

-- where a number of a list that rises stands
record Stands (ns : List ℕ) (n : ℕ) : Type 0 where
  pub at : ℕ
  pub inside : at < length ns
  pub is : get_or ns at 0 ≡ n
  pub index : index_of ns n ≡ at

standing : (ns : List ℕ) (n : ℕ) → IsStrictlyIncreasing ns → Contains ns n → Stands ns n
standing ns n up c =
    let e : get_or ns c.0 0 ≡ n = get_or_default ns c.0 0 n c.1 ∙ c.2 in
    record { at = c.0; inside = c.1; is = e; index = ap (index_of ns) (sym e) ∙ index_at ns up c.0 c.1 }

index_rises : (ns : List ℕ) (a b : ℕ) → IsStrictlyIncreasing ns → Contains ns a → Contains ns b → a < b → index_of ns a < index_of ns b
index_rises ns a b up ca cb lt =
    let s : Stands ns a = standing ns a up ca in
    let t : Stands ns b = standing ns b up cb in
    elim (cases_order s.at t.at) [
      | inl e ↦ absurd (omega (arith, ap (λ k. get_or ns k 0) e, s.is, t.is, lt))
      | inr (inl l) ↦ omega (arith, s.index, t.index, l)
      | inr (inr l) ↦ absurd (omega (arith, rises_far ns up t.at s.at l s.inside, s.is, t.is, lt))
    ]

-- an edge of a component's plot
record IsOfPart (edges : List Edge) (tracks : List ℕ) (i : ℕ) (plots : List ℕ) (f : Edge) : Type 0 where
  pub offset : ℕ
  pub plot : ℕ
  pub there : IsAt plots offset plot
  pub is : f.0 ≡ i + offset
  pub edge : Edge
  pub known : Contains edges edge
  pub of_plot : edge.0 ≡ plot
  pub track : f.1 ≡ index_of tracks edge.1
  pub cost : f.2 ≡ edge.2

module _ (edges : List Edge) (tracks : List ℕ) where
  of_part : (i : ℕ) (plots : List ℕ) (f : Edge) → Contains (component_edges edges tracks i plots) f → IsOfPart edges tracks i plots f
  of_part i [] f c = contains_none f c
  of_part i (plot ∷ plots) f c = elim (Contains-append_cases (map (own_edge tracks i) (edges_at edges plot)) (component_edges edges tracks (suc i) plots) f c) [
    | inl d ↦
        let m : (k : ℕ) × (k < length (edges_at edges plot)) × (own_edge tracks i (edge_at (edges_at edges plot) k) ≡ f) = from_mapped (own_edge tracks i) (edges_at edges plot) (0, 0, 0) f d in
        let e : Edge = edge_at (edges_at edges plot) m.0 in
        let own : Contains (edges_at edges plot) e = Contains-get_or (edges_at edges plot) m.0 (0, 0, 0) m.1 in
        record {
          offset = 0;
          plot = plot;
          there = refl;
          is = omega (arith, ap (λ (g : Edge). g.0) m.2);
          edge = e;
          known = in_filter (λ g. eqb g.0 plot) e edges own;
          of_plot = eqb-true e.0 plot (filter_passes (λ g. eqb g.0 plot) e edges own);
          track = sym (ap (λ (g : Edge). g.1) m.2);
          cost = sym (ap (λ (g : Edge). g.2) m.2);
        }
    | inr d ↦
        let h : IsOfPart edges tracks (suc i) plots f = of_part (suc i) plots f d in
        record { offset = suc h.offset; plot = h.plot; there = h.there; is = omega (arith, h.is); edge = h.edge; known = h.known; of_plot = h.of_plot; track = h.track; cost = h.cost }
  ]

  in_part : (i : ℕ) (plots : List ℕ) (m plot t cost : ℕ) → IsAt plots m plot → Contains edges (plot, t, cost) → Contains (component_edges edges tracks i plots) (i + m, index_of tracks t, cost)
  in_part i [] m plot t cost a c = absurd a
  in_part i (q ∷ plots) zero plot t cost a c =
      let e : i ≡ i + 0 = omega arith in
      Contains-append_left (map (own_edge tracks i) (edges_at edges q)) (component_edges edges tracks (suc i) plots) (i + 0, index_of tracks t, cost)
      (subst (λ (n : ℕ). Contains (map (own_edge tracks i) (edges_at edges q)) (n, index_of tracks t, cost)) e
      (mapped (own_edge tracks i) (edges_at edges q) (plot, t, cost) (kept_in (λ f. eqb f.0 q) edges (plot, t, cost) c (eq-eqb plot q (sym a)))))
  in_part i (q ∷ plots) (suc m) plot t cost a c =
      let e : suc i + m ≡ i + suc m = omega arith in
      Contains-append_right (map (own_edge tracks i) (edges_at edges q)) (component_edges edges tracks (suc i) plots) (i + suc m, index_of tracks t, cost)
      (subst (λ (n : ℕ). Contains (component_edges edges tracks (suc i) plots) (n, index_of tracks t, cost)) e (in_part (suc i) plots m plot t cost a c))

  mapped_rises : (i plot : ℕ) (es : List Edge) → IsStrictlyIncreasing tracks → ((e : Edge) → Contains es e → (e.0 ≡ plot) × Contains tracks e.1) → Rising es → Rising (map (own_edge tracks i) es)
  mapped_rises i plot [] up k h = tt
  mapped_rises i plot (e ∷ es) up k h = (
    all_mapped (EdgeBefore (own_edge tracks i e)) (own_edge tracks i) es (all_of (λ f. EdgeBefore (own_edge tracks i e) (own_edge tracks i f)) es (λ f c.
        let a : (e.0 ≡ plot) × Contains tracks e.1 = k e (contains_first e e es refl) in
        let b : (f.0 ≡ plot) × Contains tracks f.1 = k f (contains_later e f es c) in
        let lt : e.1 < f.1 = elim (all_contains (EdgeBefore e) f es h.0 c) [ inl l ↦ absurd (omega (arith, l, a.0, b.0)) | inr l ↦ l.1 ] in
        inr (refl, index_rises tracks e.1 f.1 up a.1 b.1 lt))),
    mapped_rises i plot es up (λ f c. k f (contains_later e f es c)) h.1,
  )

  part_rises : (i : ℕ) (plots : List ℕ) → Rising edges → IsStrictlyIncreasing tracks → ((plot : ℕ) (e : Edge) → Contains plots plot → Contains edges e → e.0 ≡ plot → Contains tracks e.1) → Rising (component_edges edges tracks i plots)
  part_rises i [] h up k = tt
  part_rises i (plot ∷ plots) h up k =
      rising_append (map (own_edge tracks i) (edges_at edges plot)) (component_edges edges tracks (suc i) plots)
      (mapped_rises i plot (edges_at edges plot) up (λ e c.
      let is : e.0 ≡ plot = eqb-true e.0 plot (filter_passes (λ g. eqb g.0 plot) e edges c) in
      (is, k plot e (contains_first plot plot plots refl) (in_filter (λ g. eqb g.0 plot) e edges c) is)) (filter_rises plot edges h))
      (part_rises (suc i) plots h up (λ q e c. k q e (contains_later plot q plots c)))
      (λ e c.
      let m : (n : ℕ) × (n < length (edges_at edges plot)) × (own_edge tracks i (edge_at (edges_at edges plot) n) ≡ e) = from_mapped (own_edge tracks i) (edges_at edges plot) (0, 0, 0) e c in
      all_of (EdgeBefore e) (component_edges edges tracks (suc i) plots) (λ f d.
      let g : IsOfPart edges tracks (suc i) plots f = of_part (suc i) plots f d in
      inl (omega (arith, ap (λ (x : Edge). x.0) m.2, g.is))))

same_edge : (es : List Edge) (e : Edge) (a b c : ℕ) → e.0 ≡ a → e.1 ≡ b → e.2 ≡ c → Contains es e → Contains es (a, b, c)
same_edge es e a b c p q r h = subst (Contains es) (λ i. (p i, q i, r i)) h

module _ (whole : Problem) (p : IsProblem whole) (part : Component) (c : IsComponent whole.plots (edge_pairs whole.edges) part) where
  -- the component's own problem
  abbrev pub own : Problem
  own = record { plots = length part.plots; tracks = length part.tracks; edges = component_edges whole.edges part.tracks 0 part.plots }

  pub few_plots : length part.plots ≤ whole.plots
  few_plots = few_below part.plots whole.plots c.plots_rise (λ m h. ((c.connected m).0 h).0)

  pub track_below : (t : ℕ) → Contains part.tracks t → t < whole.tracks
  track_below t h =
      let v : (q : ℕ) × Contains part.plots q × Contains (edge_pairs whole.edges) (q, t) = (c.reached t).0 h in
      let m : (k : ℕ) × (k < length whole.edges) × (((edge_at whole.edges k).0, (edge_at whole.edges k).1) ≡ (v.0, t)) = from_mapped (λ (e : Edge). (e.0, e.1)) whole.edges (0, 0, 0) (v.0, t) v.2 in
      omega (arith, ap (λ (y : ℕ × ℕ). y.1) m.2, p.tracks m.0 (0, 0, 0) m.1)

  pub few_tracks : length part.tracks ≤ whole.tracks
  few_tracks = few_below part.tracks whole.tracks c.tracks_rise track_below

  track_own : (plot : ℕ) (e : Edge) → Contains part.plots plot → Contains whole.edges e → e.0 ≡ plot → Contains part.tracks e.1
  track_own plot e h k is = (c.reached e.1).1 (plot, h, subst (λ n. Contains (edge_pairs whole.edges) (n, e.1)) is (mapped (λ (f : Edge). (f.0, f.1)) whole.edges e k))

  abbrev Own : Edge → Type 0
  Own f = IsOfPart whole.edges part.tracks 0 part.plots f

  stands_there : (f : Edge) (h : Own f) → Stands part.tracks h.edge.1
  stands_there f h = standing part.tracks h.edge.1 c.tracks_rise (track_own h.plot h.edge (at_contains part.plots h.offset h.plot h.there) h.known h.of_plot)

  pub own_is : IsProblem own
  own_is = record {
    rising = by_index own.edges (part_rises whole.edges part.tracks 0 part.plots (rising_by whole.edges p.rising) c.tracks_rise track_own);
    plots = all_by_index (λ e. e.0 < length part.plots) own.edges (λ e d. let h : Own e = of_part whole.edges part.tracks 0 part.plots e d in omega (arith, h.is, within part.plots h.offset h.plot h.there));
    tracks = all_by_index (λ e. e.1 < length part.tracks) own.edges (λ e d. let h : Own e = of_part whole.edges part.tracks 0 part.plots e d in let s : Stands part.tracks h.edge.1 = stands_there e h in omega (arith, h.track, s.index, s.inside));
    costs = all_by_index (λ e. e.2 ≤ gate_cost) own.edges (λ e d. let h : Own e = of_part whole.edges part.tracks 0 part.plots e d in omega (arith, h.cost, All-contains (λ (f : Edge). f.2 ≤ gate_cost) whole.edges h.edge p.costs h.known));
  }

  edge_there : (i j cost : ℕ) → Contains own.edges (i, j, cost) → Contains whole.edges (get_or part.plots i 0, get_or part.tracks j 0, cost)
  edge_there i j cost d =
      let h : Own (i, j, cost) = of_part whole.edges part.tracks 0 part.plots (i, j, cost) d in
      let s : Stands part.tracks h.edge.1 = stands_there (i, j, cost) h in
      let plot : h.offset ≡ i = omega (arith, h.is) in
      let track : s.at ≡ j = omega (arith, s.index, h.track) in
      same_edge whole.edges h.edge (get_or part.plots i 0) (get_or part.tracks j 0) cost (h.of_plot ∙ sym (at_get 0 part.plots h.offset h.plot h.there) ∙ ap (λ k. get_or part.plots k 0) plot) (sym s.is ∙ ap (λ k. get_or part.tracks k 0) track) (sym h.cost) h.known

  edge_here : (i j cost : ℕ) → i < length part.plots → j < length part.tracks → Contains whole.edges (get_or part.plots i 0, get_or part.tracks j 0, cost) → Contains own.edges (i, j, cost)
  edge_here i j cost li lj d =
      same_edge own.edges (0 + i, index_of part.tracks (get_or part.tracks j 0), cost) i j cost (from_none i) (index_at part.tracks c.tracks_rise j lj) refl
      (in_part whole.edges part.tracks 0 part.plots i (get_or part.plots i 0) (get_or part.tracks j 0) cost (get_at 0 part.plots i li) d)

  pub own_part : IsPartOf whole part.plots part.tracks own
  own_part = record {
    plots = refl;
    tracks = refl;
    inside = λ i li. ((c.connected (get_or part.plots i 0)).0 (Contains-get_or part.plots i 0 li)).0;
    edges = λ i j cost li lj. (edge_there i j cost, edge_here i j cost li lj);
    gates = λ i track cost li d.
        let s : Stands part.tracks track = standing part.tracks track c.tracks_rise (track_own (get_or part.plots i 0) (get_or part.plots i 0, track, cost) (Contains-get_or part.plots i 0 li) d refl) in
        (s.at, s.inside, s.is);
  }
