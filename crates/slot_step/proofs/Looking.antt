-- A part's run beside the batches of another part: whether it gates one of their plots.
use Rattle.std.proofs.Common.{◌≡◌, ap, sym, ℕ, ◌+◌, ◌<◌, ◌≤◌, List, [], length, Some, arith, subst, inl, inr}
use Rattle.std.specs.Prelude.{◌↔◌, Contains}
use Rattle.std.specs.List.{AllByRecursion}
use Rattle.std.proofs.lemmas.Bool.{cases_eq}
use Rattle.std.proofs.lemmas.List.Elements.{Contains-get_or}
use Rattle.assignment_dual.proofs.Choices.{is_some_of}
use Rattle.plot_geometry.specs.Plots.{PlanePlot}
use Rattle.assignment_dual.specs.Problems.{Edge, Problem, edge_at}
use Rattle.track_life.specs.declared.settings.LifeSettings.{LifeSettings}
use Rattle.track_life.specs.Tracks.{TrackState}
use Rattle.track_life.specs.Tables.{IsTable}
use Rattle.slot_step.specs.OneBatch.{Batch, IsBatch}
use Rattle.slot_step.specs.Calls.{AreBatches, AreFromBefore, AreNear, plots_of}
use Rattle.slot_step.specs.Certificates.{IsAt}
use Rattle.slot_step.specs.Gates.{GateOne}
use Rattle.slot_step.specs.Parts.{Reaches}
use Rattle.slot_step.specs.Problems.{IsProblemOf, IsGateBetween}
use Rattle.slot_step.specs.Slots.{unexpired, batch_table}
use Rattle.slot_step.specs.Tracker.{track_gate, tracking, ordered}
use Rattle.slot_step.specs.declared.certs.KeyedCert.{KeyedCert}
use Rattle.slot_step.proofs.Batched.{in_plots, plots_have, radars_apart}
use Rattle.slot_step.proofs.Certifying.{some_is, within, at_contains}
use Rattle.slot_step.proofs.Components.{at_from}
use Rattle.slot_step.proofs.Interleavings.{all_contains}
use Rattle.slot_step.proofs.Problems.{stands, one_at}
use Rattle.slot_step.proofs.Running.{HasRun, run_none, run_until, run_near_others}
use Rattle.slot_step.proofs.Slotted.{InSlot}

-- there is a gate where the problem has an edge
gate_of_edge : (ts : List TrackState) (ps : List PlanePlot) (p : Problem) → IsProblemOf track_gate ts ps p → 0 < length p.edges → GateOne track_gate ts ps
gate_of_edge ts ps p h lt =
    let e : Edge = edge_at p.edges 0 in
    let g : IsGateBetween track_gate ts ps e.0 e.1 e.2 = (h.edges_are e.0 e.1 e.2).0 (Contains-get_or p.edges 0 (0, 0, 0) lt) in
    record { track = g.track; plot = g.plot; known = at_contains ts e.1 g.track g.track_at; own = at_contains ps e.0 g.plot g.plot_at; gates = some_is (track_gate g.track g.plot) e.2 g.gate_is }

edge_of_gate : (ts : List TrackState) (ps : List PlanePlot) (p : Problem) → IsProblemOf track_gate ts ps p → GateOne track_gate ts ps → 0 < length p.edges
edge_of_gate ts ps p h g =
    let i : (i : ℕ) × IsAt ps i g.plot = at_from ps g.plot g.own in
    let j : (j : ℕ) × IsAt ts j g.track = at_from ts g.track g.known in
    let s : (c : ℕ) × (track_gate g.track g.plot ≡ Some c) = is_some_of (track_gate g.track g.plot) g.gates in
    let d : Contains p.edges (i.0, j.0, s.0) = (h.edges_are i.0 j.0 s.0).1 (record { plot = g.plot; track = g.track; plot_at = i.1; track_at = j.1; gate_is = s.1 }) in
    omega (arith, d.1)

pub some_edge : (ts : List TrackState) (ps : List PlanePlot) (p : Problem) → IsProblemOf track_gate ts ps p → (0 < length p.edges) ↔ GateOne track_gate ts ps
some_edge ts ps p h = (gate_of_edge ts ps p h, edge_of_gate ts ps p h)

-- a plot of the batch is gated at its start
abbrev pub IsReached : LifeSettings → ℕ → List TrackState → List Batch → Batch → Type 0
IsReached life n ts bs b = GateOne track_gate (batch_table (tracking life) (ordered life) ts n (plots_of bs) b.radar) b.plots

-- before the batch at index i of the other part the first k own batches have run, and none of the others so far was reached
pub record HasLooked (life : LifeSettings) (n : ℕ) (ts : List TrackState) (bs others : List Batch) (i k : ℕ) (tracks : List TrackState) (certs : List KeyedCert) : Type 0 where
  pub ran : HasRun life n ts bs k tracks certs
  pub lower : (j m : ℕ) (b c : Batch) → IsAt bs j b → IsAt others m c → j < k → i ≤ m → b.radar < c.radar
  pub unreached : (m : ℕ) (c : Batch) → IsAt others m c → m < i → IsReached life n ts bs c → ⊥

module _ (life : LifeSettings) (n : ℕ) (ts : List TrackState) (bs others : List Batch) (h : AreBatches n bs) (o : AreBatches n others) where
  radar_of_batch : (i : ℕ) (b : Batch) (p : PlanePlot) → IsAt others i b → Contains b.plots p → p.key.radar ≡ b.radar
  radar_of_batch i b p a c = all_contains (λ q. q.key.radar ≡ b.radar) p b.plots (all_contains IsBatch b others o.each (at_contains others i b a)).of_radar c

  pub reached : (i : ℕ) (b : Batch) → IsAt others i b → IsReached life n ts bs b → Reaches (tracking life) (ordered life) n ts (plots_of bs) (plots_of others)
  reached i b a g =
      (g.plot, plots_have others i b g.plot a g.own, (g.track, subst (λ r. Contains (batch_table (tracking life) (ordered life) ts n (plots_of bs) r) g.track) (sym (radar_of_batch i b g.plot a g.own)) g.known, g.gates))

  pub not_reached : (i k : ℕ) (tracks : List TrackState) (certs : List KeyedCert) → HasLooked life n ts bs others i k tracks certs → length others ≤ i → Reaches (tracking life) (ordered life) n ts (plots_of bs) (plots_of others) → ⊥
  not_reached i k tracks certs g le (p, c, (t, known, gates)) =
      let v : (b : Batch) × Contains others b × Contains b.plots p = in_plots others p c in
      let m : (j : ℕ) × IsAt others j v.0 = at_from others v.0 v.1 in
      g.unreached m.0 v.0 m.1 (omega (arith, le, within others m.0 v.0 m.1))
      (record { track = t; plot = p; known = subst (λ r. Contains (batch_table (tracking life) (ordered life) ts n (plots_of bs) r) t) (radar_of_batch m.0 v.0 p m.1 v.2) known; own = v.2; gates = gates })

  pub looked_none : IsTable (unexpired (ordered life) n ts) → HasLooked life n ts bs others 0 0 (unexpired (ordered life) n ts) []
  looked_none t = record {
    ran = run_none life n ts bs h t;
    lower = λ j m b c a d lt. absurd (omega (arith, lt));
    unreached = λ m c a lt. absurd (omega (arith, lt));
  }

  -- one more own batch, of a lower radar
  pub looked_run : (i k : ℕ) (tracks : List TrackState) (certs : List KeyedCert) → HasLooked life n ts bs others i k tracks certs → (b c : Batch) → IsAt bs k b → IsAt others i c → b.radar < c.radar
      → (tracks' : List TrackState) (certs' : List KeyedCert) → HasRun life n ts bs (k + 1) tracks' certs' → HasLooked life n ts bs others i (k + 1) tracks' certs'
  looked_run i k tracks certs g b c a d lt tracks' certs' r = record {
    ran = r;
    lower = λ j m e f x y under le. elim (cases_eq j k) [
      | inl same ↦ omega (arith, lt, ap (λ (z : Batch). z.radar) (one_at bs k b e a (subst (λ w. IsAt bs w e) same x)), not_below i m c f d y le)
      | inr other ↦ g.lower j m e f x y (omega (arith, under, other)) le
    ];
    unreached = g.unreached;
  }
    where
      not_below : (i m : ℕ) (c f : Batch) → IsAt others i c → IsAt others m f → i ≤ m → c.radar ≤ f.radar
      not_below i m c f d y le = elim (cases_eq i m) [
        | inl same ↦ omega (arith, ap (λ (z : Batch). z.radar) (one_at others m c f (subst (λ w. IsAt others w c) same d) y))
        | inr other ↦ omega (arith, radars_apart n others o i m c f d y (omega (arith, le, other)))
      ]

  -- the table at the start of the other batch
  pub looked_start : (i k : ℕ) (tracks : List TrackState) (certs : List KeyedCert) → HasLooked life n ts bs others i k tracks certs → (c : Batch) → IsAt others i c → ((b : Batch) → IsAt bs k b → c.radar ≤ b.radar)
      → tracks ≡ batch_table (tracking life) (ordered life) ts n (plots_of bs) c.radar
  looked_start i k tracks certs g c d f = run_until life n ts bs h k tracks certs g.ran c.radar (λ j b a lt. g.lower j i b c a d lt (omega arith)) (λ j b a le.
      let s : (e : Batch) × IsAt bs k e = stands bs k (omega (arith, le, within bs j b a)) in
      elim (cases_eq j k) [
        | inl same ↦ f b (subst (λ w. IsAt bs w b) same a)
        | inr other ↦ omega (arith, f s.0 s.1, radars_apart n bs h k j s.0 b s.1 a (omega (arith, le, other)))
      ])

  -- one more other batch, of which no plot is gated
  pub looked_more : (i k : ℕ) (tracks : List TrackState) (certs : List KeyedCert) → HasLooked life n ts bs others i k tracks certs → (c : Batch) → IsAt others i c → (IsReached life n ts bs c → ⊥) → HasLooked life n ts bs others (i + 1) k tracks certs
  looked_more i k tracks certs g c d f = record {
    ran = g.ran;
    lower = λ j m b e a x lt le. g.lower j m b e a x lt (omega (arith, le));
    unreached = λ m e x lt. elim (cases_eq m i) [
      | inl same ↦ subst (λ (z : Batch). IsReached life n ts bs z → ⊥) (one_at others i c e d (subst (λ w. IsAt others w e) same x)) f
      | inr other ↦ g.unreached m e x (omega (arith, lt, other))
    ];
  }

  pub looked_near : AreFromBefore n ts → (i k : ℕ) (tracks : List TrackState) (certs : List KeyedCert) → HasLooked life n ts bs others i k tracks certs → (c : Batch) → IsAt others i c → AreNear tracks c.plots
  looked_near before i k tracks certs g c d = run_near_others life n ts bs h before k tracks certs g.ran c.plots (all_contains (λ (e : Batch). AllByRecursion (InSlot n) e.plots) c others o.of_slot (at_contains others i c d))
