-- A run goes through the batches that there are, and skips the radars that have none.
use Rattle.std.proofs.Common.{◌≡◌, ◌∙◌, ap, sym, refl, ℕ, zero, suc, ◌+◌, ◌-◌, ◌<◌, ◌≤◌, ◌^◌, append-nil, List, [], ◌++◌, length, map, arith, subst, inl, inr}
use Rattle.std.specs.List.{AllByRecursion}
use Rattle.std.specs.List.Sorted.{IsStrictlySortedBy}
use Rattle.std.proofs.lemmas.Bool.{cases_eq, cases_lt}
use Rattle.std.proofs.lemmas.List.Kept.{IsStrictlySortedBy-filter}
use Rattle.trk_base.specs.declared.keys.Key.{Key}
use Rattle.trk_base.specs.Keys.{key_cmp}
use Rattle.plot_geometry.specs.Plots.{PlanePlot}
use Rattle.track_life.specs.declared.settings.LifeSettings.{LifeSettings}
use Rattle.track_life.specs.Tracks.{TrackState}
use Rattle.track_life.specs.Tables.{IsTable, is_kept, unexpired as unexpired_tracks}
use Rattle.slot_step.specs.OneBatch.{Batch, IsBatch}
use Rattle.slot_step.specs.Calls.{AreBatches, AreFromBefore, IsFromBefore, AreNear, plots_of}
use Rattle.slot_step.specs.Batches.{Tracking, batch_step, of_radar, table_at}
use Rattle.slot_step.specs.Slots.{Ordered, plot_radar, radar_limit, unexpired, batch_table, run}
use Rattle.slot_step.specs.Certificates.{Certificate, IsAt, AreCertificatesOf, AreCertificatesBelow}
use Rattle.slot_step.specs.Told.{told, AreTold}
use Rattle.slot_step.specs.ToldComponents.{AreToldBehind}
use Rattle.slot_step.specs.Tracker.{tracking, ordered, run_tracks}
use Rattle.slot_step.specs.declared.certs.KeyedCert.{KeyedCert}
use Rattle.slot_step.proofs.Interleavings.{all_of, all_contains, contains_none, in_filter}
use Rattle.slot_step.proofs.Batched.{plots_in_slot, radars_limited, plots_rise, no_plots, own_plots, radars_apart}
use Rattle.slot_step.proofs.Batching.{batch_of_none}
use Rattle.slot_step.proofs.Certifying.{within, at_contains}
use Rattle.slot_step.proofs.Components.{at_from}
use Rattle.slot_step.proofs.Paired.{AllGood, map_append}
use Rattle.slot_step.proofs.Problems.{one_at}
use Rattle.slot_step.proofs.Slotted.{IsCurrent, InSlot, currents, near, after, map_sorted}
use Rattle.slot_step.proofs.Slotwise.{none_below, one_batch_more, all_below}
use Rattle.slot_step.proofs.Tables.{IsAtBatch, Earlier, tables_at}
use Rattle.slot_step.proofs.Tracker.{tracks_ordered}

-- a batch without plots has no certificate
no_certificates : {T P K : Type 0} (k : Tracking T P) (o : Ordered T P K) (ts : List T) → AreCertificatesOf k o ts [] []
unfolding IsStrictlySortedBy
no_certificates k o ts = record { each = tt; whole = λ p c. contains_none p c; order = tt }

-- the first i batches have run; r is above their radars, and not above those of the others
pub record HasRun (life : LifeSettings) (n : ℕ) (ts : List TrackState) (bs : List Batch) (i : ℕ) (tracks : List TrackState) (certs : List KeyedCert) : Type 0 where
  pub radar : ℕ
  pub limit : radar ≤ radar_limit
  pub later : (j : ℕ) (b : Batch) → IsAt bs j b → i ≤ j → radar ≤ b.radar
  pub passed : (j : ℕ) (b : Batch) → IsAt bs j b → j < i → b.radar < radar
  pub tracks_are : tracks ≡ batch_table (tracking life) (ordered life) ts n (plots_of bs) radar
  pub few : length tracks < 2 ^ 32 - 1
  pub certificates : List (Certificate PlanePlot Key)
  pub below : AreCertificatesBelow (tracking life) (ordered life) ts n (plots_of bs) radar certificates
  pub all : certs ≡ map told certificates
  pub good : AllGood certs

module _ (life : LifeSettings) (n : ℕ) (ts : List TrackState) (bs : List Batch) (h : AreBatches n bs) where
  abbrev table : ℕ → List TrackState
  table r = batch_table (tracking life) (ordered life) ts n (plots_of bs) r

  abbrev own : ℕ → List PlanePlot
  own r = of_radar (plot_radar (ordered life)) r (plots_of bs)

  abbrev Below : ℕ → List (Certificate PlanePlot Key) → Type 0
  Below r cs = AreCertificatesBelow (tracking life) (ordered life) ts n (plots_of bs) r cs

  next_table : (r : ℕ) → table (r + 1) ≡ batch_step (tracking life) (table r) (own r)
  unfolding table_at
  next_table r = let e : r + 1 ≡ suc r = omega arith in ap table e

  -- radars without plots
  skipped : (d r : ℕ) (cs : List (Certificate PlanePlot Key)) → ((q : ℕ) → r ≤ q → q < r + d → own q ≡ []) → Below r cs → (table r ≡ table (r + d)) × Below (r + d) cs
  skipped zero r cs g b = let e : r ≡ r + 0 = omega arith in (ap table e, subst (λ q. Below q cs) e b)
  skipped (suc d) r cs g b =
      let e : r + d + 1 ≡ r + suc d = omega arith in
      let s : (table r ≡ table (r + d)) × Below (r + d) cs = skipped d r cs (λ q le lt. g q le (omega (arith, lt))) b in
      let none : own (r + d) ≡ [] = g (r + d) (omega arith) (omega arith) in
      let same : table (r + d) ≡ table (r + d + 1) = sym (next_table (r + d) ∙ ap (batch_step (tracking life) (table (r + d))) none ∙ batch_of_none (tracking life) (table (r + d))) in
      let more : Below (r + d + 1) (cs ++ []) = one_batch_more (tracking life) (ordered life) (tracks_ordered life) ts n (plots_of bs) (r + d) cs [] (plots_in_slot n bs h) s.1
      (subst (λ ps. AreCertificatesOf (tracking life) (ordered life) (table (r + d)) ps []) (sym none) (no_certificates (tracking life) (ordered life) (table (r + d)))) in
      (s.0 ∙ same ∙ ap table e, subst (λ q. Below q cs) e (subst (Below (r + d + 1)) (append-nil cs) more))

  skipped_to : (r to : ℕ) (cs : List (Certificate PlanePlot Key)) → r ≤ to → ((q : ℕ) → r ≤ q → q < to → own q ≡ []) → Below r cs → (table r ≡ table to) × Below to cs
  skipped_to r to cs le g b =
      let e : r + (to - r) ≡ to = omega (arith, le) in
      let s : (table r ≡ table (r + (to - r))) × Below (r + (to - r)) cs = skipped (to - r) r cs (λ q low high. g q low (omega (arith, high, e))) b in
      (s.0 ∙ ap table e, subst (λ q. Below q cs) e s.1)

  -- between the batches so far and the next there are no plots
  gap : (i : ℕ) (b : Batch) (r q : ℕ) → IsAt bs i b → ((j : ℕ) (c : Batch) → IsAt bs j c → j < i → c.radar < r) → r ≤ q → q < b.radar → own q ≡ []
  gap i b r q a passed low high = no_plots bs q h.each (λ c k e.
      let m : (j : ℕ) × IsAt bs j c = at_from bs c k in
      elim (cases_lt m.0 i) [
        | inl lt ↦ omega (arith, e, passed m.0 c m.1 lt, low)
        | inr ge ↦ elim (cases_eq m.0 i) [
          | inl same ↦ omega (arith, e, high, ap (λ (d : Batch). d.radar) (one_at bs i b c a (subst (λ j. IsAt bs j c) same m.1)))
          | inr other ↦ omega (arith, e, high, radars_apart n bs h i m.0 b c a m.1 (omega (arith, ge, other)))
        ]
      ])

  pub run_none : IsTable (unexpired (ordered life) n ts) → HasRun life n ts bs 0 (unexpired (ordered life) n ts) []
  unfolding table_at
  run_none t = record {
    radar = 0;
    limit = omega arith;
    later = λ j b a le. omega arith;
    passed = λ j b a lt. absurd (omega (arith, lt));
    tracks_are = refl;
    few = t.fewer;
    certificates = [];
    below = none_below (tracking life) (ordered life) (tracks_ordered life) ts n (plots_of bs);
    all = refl;
    good = tt;
  }

  -- at the start of the next batch
  pub run_start : (i : ℕ) (tracks : List TrackState) (certs : List KeyedCert) → HasRun life n ts bs i tracks certs → (b : Batch) → IsAt bs i b → tracks ≡ batch_table (tracking life) (ordered life) ts n (plots_of bs) b.radar
  run_start i tracks certs g b a = g.tracks_are ∙ (skipped_to g.radar b.radar g.certificates (g.later i b a (omega arith)) (λ q l u. gap i b g.radar q a g.passed l u) g.below).0

  pub run_more : (i : ℕ) (tracks : List TrackState) (certs : List KeyedCert) → HasRun life n ts bs i tracks certs → (b : Batch) → IsAt bs i b → (tracks' : List TrackState) (certs' : List KeyedCert) → tracks' ≡ batch_step (tracking life) tracks b.plots
      → length tracks' < 2 ^ 32 - 1 → AreToldBehind life tracks b.plots certs certs' → AllGood certs' → HasRun life n ts bs (i + 1) tracks' certs'
  run_more i tracks certs g b a tracks' certs' e f t good =
      let low : g.radar ≤ b.radar = g.later i b a (omega arith) in
      let s : (table g.radar ≡ table b.radar) × Below b.radar g.certificates = skipped_to g.radar b.radar g.certificates low (λ q l u. gap i b g.radar q a g.passed l u) g.below in
      let start : tracks ≡ table b.radar = g.tracks_are ∙ s.0 in
      let plots : own b.radar ≡ b.plots = own_plots n bs i b h a in
      record {
        radar = b.radar + 1;
        limit = omega (arith, (all_contains IsBatch b bs h.each (at_contains bs i b a)).octet);
        later = λ j c d le. omega (arith, radars_apart n bs h i j b c a d (omega (arith, le)));
        passed = λ j c d lt. elim (cases_eq j i) [
          | inl same ↦ omega (arith, ap (λ (x : Batch). x.radar) (one_at bs i b c a (subst (λ m. IsAt bs m c) same d)))
          | inr other ↦ omega (arith, low, g.passed j c d (omega (arith, lt, other)))
        ];
        tracks_are = e ∙ (λ j. batch_step (tracking life) (start j) (sym plots j)) ∙ sym (next_table b.radar);
        few = f;
        certificates = g.certificates ++ t.certificates;
        below = one_batch_more (tracking life) (ordered life) (tracks_ordered life) ts n (plots_of bs) b.radar g.certificates t.certificates (plots_in_slot n bs h) s.1
            (subst (λ (y : List TrackState × List PlanePlot). AreCertificatesOf (tracking life) (ordered life) y.0 y.1 t.certificates) (λ j. (start j, sym plots j)) t.are);
        all = t.all ∙ ap (λ (cs : List KeyedCert). cs ++ map told t.certificates) g.all ∙ sym (map_append told g.certificates t.certificates);
        good = good;
      }

  -- the table stays as it is over radars without plots
  stays : (d r : ℕ) → ((q : ℕ) → r ≤ q → q < r + d → own q ≡ []) → table r ≡ table (r + d)
  stays zero r g = let e : r ≡ r + 0 = omega arith in ap table e
  stays (suc d) r g =
      let e : r + d + 1 ≡ r + suc d = omega arith in
      let none : own (r + d) ≡ [] = g (r + d) (omega arith) (omega arith) in
      stays d r (λ q le lt. g q le (omega (arith, lt))) ∙ sym (next_table (r + d) ∙ ap (batch_step (tracking life) (table (r + d))) none ∙ batch_of_none (tracking life) (table (r + d))) ∙ ap table e

  -- where no batch is of these radars
  stays_to : (r to : ℕ) → r ≤ to → ((j : ℕ) (b : Batch) → IsAt bs j b → r ≤ b.radar → b.radar < to → ⊥) → table r ≡ table to
  stays_to r to le f =
      let e : r + (to - r) ≡ to = omega (arith, le) in
      stays (to - r) r (λ q low high. no_plots bs q h.each (λ c k same.
      let m : (j : ℕ) × IsAt bs j c = at_from bs c k in
      f m.0 c m.1 (omega (arith, same, low)) (omega (arith, same, high, e)))) ∙ ap table e

  -- at the start of the batch of radar r, where the batches so far are those of the radars below it
  pub run_until : (i : ℕ) (tracks : List TrackState) (certs : List KeyedCert) → HasRun life n ts bs i tracks certs → (r : ℕ) → ((j : ℕ) (b : Batch) → IsAt bs j b → j < i → b.radar < r)
      → ((j : ℕ) (b : Batch) → IsAt bs j b → i ≤ j → r ≤ b.radar) → tracks ≡ batch_table (tracking life) (ordered life) ts n (plots_of bs) r
  run_until i tracks certs g r low high = elim (cases_lt g.radar r) [
    | inl lt ↦ g.tracks_are ∙ stays_to g.radar r (omega (arith, lt)) (λ j b a l u. elim (cases_lt j i) [
      | inl d ↦ omega (arith, l, g.passed j b a d)
      | inr d ↦ omega (arith, u, high j b a d)
    ])
    | inr ge ↦ g.tracks_are ∙ sym (stays_to r g.radar ge (λ j b a l u. elim (cases_lt j i) [
      | inl d ↦ omega (arith, l, low j b a d)
      | inr d ↦ omega (arith, u, g.later j b a d)
    ]))
  ]

  -- after the last batch there are no plots either
  ended : (i : ℕ) (tracks : List TrackState) (certs : List KeyedCert) (g : HasRun life n ts bs i tracks certs) → length bs ≤ i → (table g.radar ≡ table radar_limit) × Below radar_limit g.certificates
  ended i tracks certs g le = skipped_to g.radar radar_limit g.certificates g.limit (λ q low high. no_plots bs q h.each (λ c k e.
      let m : (j : ℕ) × IsAt bs j c = at_from bs c k in
      omega (arith, e, low, g.passed m.0 c m.1 (omega (arith, le, within bs m.0 c m.1))))) g.below

  pub run_all : (i : ℕ) (tracks : List TrackState) (certs : List KeyedCert) → HasRun life n ts bs i tracks certs → length bs ≤ i → tracks ≡ run_tracks life ts n (plots_of bs)
  unfolding run
  run_all i tracks certs g le = g.tracks_are ∙ (ended i tracks certs g le).0

  pub run_told : (i : ℕ) (tracks : List TrackState) (certs : List KeyedCert) → HasRun life n ts bs i tracks certs → length bs ≤ i → AreTold life ts n (plots_of bs) certs
  run_told i tracks certs g le = record {
    certificates = g.certificates;
    are = all_below (tracking life) (ordered life) (tracks_ordered life) ts n (plots_of bs) g.certificates (radars_limited n bs h) (ended i tracks certs g le).1;
    all = g.all;
  }

  module _ (before : AreFromBefore n ts) where
    current : (r : ℕ) → AllByRecursion (IsCurrent n) (table r)
    current r = currents life n ts (plots_of bs) before (plots_in_slot n bs h) r

    pub run_near : (i : ℕ) (tracks : List TrackState) (certs : List KeyedCert) → HasRun life n ts bs i tracks certs → (b : Batch) → IsAt bs i b → AreNear tracks b.plots
    run_near i tracks certs g b a = near n tracks b.plots (subst (AllByRecursion (IsCurrent n)) (sym g.tracks_are) (current g.radar)) (all_contains (λ (c : Batch). AllByRecursion (InSlot n) c.plots) b bs h.of_slot (at_contains bs i b a))

    -- and of plots of the slot that aren't the run's own
    pub run_near_others : (i : ℕ) (tracks : List TrackState) (certs : List KeyedCert) → HasRun life n ts bs i tracks certs → (ps : List PlanePlot) → AllByRecursion (InSlot n) ps → AreNear tracks ps
    run_near_others i tracks certs g ps s = near n tracks ps (subst (AllByRecursion (IsCurrent n)) (sym g.tracks_are) (current g.radar)) s

    at_start : IsAtBatch (tracking life) (ordered life) (tracks_ordered life) (unexpired (ordered life) n ts) n 0
    at_start = record {
      table = IsStrictlySortedBy-filter (λ t u. key_cmp t.birth u.birth) (is_kept life n) ts before.rising;
      births = all_of (Earlier (tracking life) (ordered life) (tracks_ordered life) n 0) (unexpired (ordered life) n ts) (λ u c.
          let b : IsFromBefore n u = all_contains (IsFromBefore n) u ts before.each (in_filter (is_kept life n) u ts c) in
          inl (omega (arith, b.birth, u.birth.in_slot)));
    }

    -- at the start of each batch the births rise
    pub run_sorted : (i : ℕ) (tracks : List TrackState) (certs : List KeyedCert) → HasRun life n ts bs i tracks certs → IsStrictlySortedBy (λ t u. key_cmp t.birth u.birth) tracks
    run_sorted i tracks certs g = subst (IsStrictlySortedBy (λ u v. key_cmp u.birth v.birth)) (sym g.tracks_are)
        (tables_at (tracking life) (ordered life) (tracks_ordered life) (unexpired (ordered life) n ts) (plots_of bs) n at_start (plots_in_slot n bs h) (plots_rise n bs h) g.radar).table

    pub run_after : (i : ℕ) (tracks : List TrackState) (certs : List KeyedCert) → HasRun life n ts bs i tracks certs → AreFromBefore (n + 1) tracks
    run_after i tracks certs g = record { rising = run_sorted i tracks certs g; each = after n tracks (subst (AllByRecursion (IsCurrent n)) (sym g.tracks_are) (current g.radar)) }

    pub run_table : (i : ℕ) (tracks : List TrackState) (certs : List KeyedCert) → HasRun life n ts bs i tracks certs → IsTable tracks
    run_table i tracks certs g = record { births = map_sorted key_cmp (λ u. u.birth) tracks (run_sorted i tracks certs g); fewer = g.few }

-- the table's own expiry is the slot's
pub expired : (life : LifeSettings) (n : ℕ) (ts : List TrackState) → unexpired_tracks life n ts ≡ unexpired (ordered life) n ts
unfolding unexpired_tracks
expired life n ts = refl
