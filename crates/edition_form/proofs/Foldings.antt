-- The tables of a legal log: their tracks are from before the slot, and no two have one number.
use Rattle.std.proofs.Common.{◌≡◌, ◌∙◌, ap, sym, subst, refl, ℕ, zero, suc, ◌+◌, ◌<◌, ◌≤◌, Bool, true, false, eqb, List, [], ◌∷◌, ◌++◌, map, append-nil, arith, Option, Some, None}
use Rattle.std.specs.Prelude.{filter, ◌==◌}
use Rattle.std.specs.List.{AllByRecursion, IsDistinct, cons_option}
use Rattle.std.specs.List.Sorted.{IsStrictlySortedBy}
use Rattle.std.specs.declared.cmp.Ordering.TheVariants.{Less}
use Rattle.std.proofs.lemmas.Bool.{cond_both, eqb-true}
use Rattle.std.proofs.lemmas.List.Elements.{filter_map-append}
use Rattle.trk_base.specs.Keys.{key_cmp}
use Rattle.trk_base.specs.Numbers.{slot_of}
use Rattle.plot_geometry.specs.Plots.{PlanePlot}
use Rattle.late_window.specs.Folding.{at_slot, before, stepped}
use Rattle.late_window.proofs.Lists.{all_weaker, filter_keeps, filter_passing}
use Rattle.track_life.specs.declared.settings.LifeSettings.{LifeSettings}
use Rattle.track_life.specs.Tracks.{TrackState, begun, continued}
use Rattle.track_life.specs.Tables.{is_kept}
use Rattle.track_life.specs.Numbers.{assigned, held}
use Rattle.track_life.proofs.Differing.{still_differ}
use Rattle.track_life.proofs.Numbering.{bare_assigned}
use Rattle.slot_step.specs.Batches.{batch_step, table_at, entries, least, paired_plot, updated_tracks, with_plot, begun_tracks, of_radar}
use Rattle.slot_step.specs.Slots.{radar_limit, run, plot_radar, unexpired}
use Rattle.slot_step.specs.Calls.{IsFromBefore, AreFromBefore}
use Rattle.slot_step.specs.Tracker.{tracking, ordered, numbering, run_tracks, step_tracks}
use Rattle.slot_step.proofs.Counted.{is_before, assigned_before}
use Rattle.slot_step.proofs.Numbering.{numbers_stay}
use Rattle.slot_step.proofs.Slotted.{InSlot, currents, after}
use Rattle.slot_step.proofs.Tables.{run_before}
use Rattle.slot_step.proofs.Tracker.{tracks_ordered, tracks_numbered}
use Rattle.admission_log.specs.declared.settings.Settings.{Settings}
use Rattle.admission_log.specs.Histories.{History, last_of}
use Rattle.admission_log.specs.Legality.{IsLegal}
use Rattle.admission_log.specs.Plots.{plots_of}
use Rattle.admission_log.proofs.Keys as keys
use Rattle.edition_form.specs.Folding.{slot_of_plot, table_before, table_of}
use Rattle.edition_form.specs.Pictures.{AreEarlier, HaveOwnNumbers}

-- ---- the step of a slot, for tracks from before it

module _ (life : LifeSettings) (n : ℕ) (ts : List TrackState) (ps : List PlanePlot) (earlier : AreFromBefore n ts) (own : AllByRecursion (InSlot n) ps) (rise : IsStrictlySortedBy (λ p q. key_cmp p.key q.key) ps) where
  after_run : AreFromBefore (n + 1) (run_tracks life ts n ps)
  unfolding run
  after_run = record {
    rising = (run_before (tracking life) (ordered life) (tracks_ordered life) ts n ps own rise (is_before life n ts earlier)).table;
    each = after n (run_tracks life ts n ps) (currents life n ts ps earlier own radar_limit);
  }

  numbers_given : step_tracks life ts n ps ≡ assigned (run_tracks life ts n ps)
  numbers_given = numbers_stay (tracking life) (ordered life) (tracks_ordered life) (numbering assigned) (tracks_numbered life assigned bare_assigned) ts n ps (is_before life n ts earlier) own

  after_step : AreFromBefore (n + 1) (step_tracks life ts n ps)
  after_step = subst (AreFromBefore (n + 1)) (sym numbers_given) (assigned_before (n + 1) (run_tracks life ts n ps) after_run)

later_still : (a b : ℕ) (ts : List TrackState) → a ≤ b → AreFromBefore a ts → AreFromBefore b ts
later_still a b ts le h = record {
  rising = h.rising;
  each = all_weaker (IsFromBefore a) (IsFromBefore b) (λ t k. record { time = omega (arith, k.time, le); birth = omega (arith, k.birth, le) }) ts h.each;
}

-- ---- the numbers that are held

held_both : (ts us : List TrackState) → held (ts ++ us) ≡ held ts ++ held us
held_both ts us = filter_map-append (λ (t : TrackState). t.number) ts us

plot_keeps : (life : LifeSettings) (t : TrackState) (p : Option PlanePlot) → (with_plot (continued life.hits) t p).number ≡ t.number
unfolding continued
plot_keeps life t None = refl
plot_keeps life t (Some p) = refl

updates_keep : (life : LifeSettings) (plot : ℕ → Option PlanePlot) (ts : List TrackState) → held (updated_tracks (continued life.hits) plot ts) ≡ held ts
updates_keep life plot [] = refl
updates_keep life plot (t ∷ ts) = rw (plot_keeps life t (plot zero)) (ap (cons_option t.number) (updates_keep life (λ i. plot (suc i)) ts))

none_held : (life : LifeSettings) (es : List (PlanePlot × Option ℕ)) → held (begun_tracks (begun life.hits) es) ≡ []
unfolding begun
none_held life [] = refl
none_held life ((p, None) ∷ es) = none_held life es
none_held life ((p, Some j) ∷ es) = none_held life es

batch_keeps : (life : LifeSettings) (ts : List TrackState) (ps : List PlanePlot) → held (batch_step (tracking life) ts ps) ≡ held ts
unfolding batch_step
batch_keeps life ts ps =
    let es = entries ps (least (tracking life) ts ps) in
    let begun_ones = begun_tracks (begun life.hits) es in
    held_both (updated_tracks (continued life.hits) (paired_plot es) ts) begun_ones ∙ ap (λ xs. xs ++ held begun_ones) (updates_keep life (paired_plot es) ts) ∙ ap (λ xs. held ts ++ xs) (none_held life es) ∙ append-nil (held ts)

batches_keep : (life : LifeSettings) (ts : List TrackState) (ps : List PlanePlot) (r : ℕ) → held (table_at (tracking life) (plot_radar (ordered life)) ts ps r) ≡ held ts
unfolding table_at
batches_keep life ts ps zero = refl
batches_keep life ts ps (suc r) = batch_keeps life (table_at (tracking life) (plot_radar (ordered life)) ts ps r) (of_radar (plot_radar (ordered life)) r ps) ∙ batches_keep life ts ps r

run_keeps : (life : LifeSettings) (ts : List TrackState) (n : ℕ) (ps : List PlanePlot) → held (run_tracks life ts n ps) ≡ held (filter (is_kept life n) ts)
unfolding run
run_keeps life ts n ps = batches_keep life (unexpired (ordered life) n ts) ps radar_limit

-- ---- numbers that differ

passing_held : (P : ℕ → Type 0) (p : TrackState → Bool) (ts : List TrackState) → AllByRecursion P (held ts) → AllByRecursion P (held (filter p ts))
passing_held P p [] h = tt
passing_held P p (t ∷ ts) h =
    let at : (o : Option ℕ) → t.number ≡ o → AllByRecursion P (held (filter p (t ∷ ts))) = λ o. elim o as (λ o. t.number ≡ o → AllByRecursion P (held (filter p (t ∷ ts)))) [
      | Some m ↦ λ e.
          let k : AllByRecursion P (m ∷ held ts) = subst (λ x. AllByRecursion P (cons_option x (held ts))) e h in
          cond_both (p t) (t ∷ filter p ts) (filter p ts) (λ us. AllByRecursion P (held us)) (λ _. subst (λ x. AllByRecursion P (cons_option x (held (filter p ts)))) (sym e) (k.0, passing_held P p ts k.1)) (λ _. passing_held P p ts k.1)
      | None ↦ λ e.
          let k : AllByRecursion P (held ts) = subst (λ x. AllByRecursion P (cons_option x (held ts))) e h in
          cond_both (p t) (t ∷ filter p ts) (filter p ts) (λ us. AllByRecursion P (held us)) (λ _. subst (λ x. AllByRecursion P (cons_option x (held (filter p ts)))) (sym e) (passing_held P p ts k)) (λ _. passing_held P p ts k)
    ] in
    at t.number refl

passing_differ : (p : TrackState → Bool) (ts : List TrackState) → HaveOwnNumbers ts → HaveOwnNumbers (filter p ts)
unfolding IsDistinct
passing_differ p [] h = tt
passing_differ p (t ∷ ts) h =
    let at : (o : Option ℕ) → t.number ≡ o → HaveOwnNumbers (filter p (t ∷ ts)) = λ o. elim o as (λ o. t.number ≡ o → HaveOwnNumbers (filter p (t ∷ ts))) [
      | Some m ↦ λ e.
          let k : IsDistinct ◌==◌ (m ∷ held ts) = subst (λ x. IsDistinct ◌==◌ (cons_option x (held ts))) e h in
          cond_both (p t) (t ∷ filter p ts) (filter p ts) HaveOwnNumbers (λ _. subst (λ x. IsDistinct ◌==◌ (cons_option x (held (filter p ts)))) (sym e) (passing_held (λ y. eqb m y ≡ false) p ts k.0, passing_differ p ts k.1)) (λ _. passing_differ p ts k.1)
      | None ↦ λ e.
          let k : IsDistinct ◌==◌ (held ts) = subst (λ x. IsDistinct ◌==◌ (cons_option x (held ts))) e h in
          cond_both (p t) (t ∷ filter p ts) (filter p ts) HaveOwnNumbers (λ _. subst (λ x. IsDistinct ◌==◌ (cons_option x (held (filter p ts)))) (sym e) (passing_differ p ts k)) (λ _. passing_differ p ts k)
    ] in
    at t.number refl

step_differs : (life : LifeSettings) (n : ℕ) (ts : List TrackState) (ps : List PlanePlot) → AreFromBefore n ts → AllByRecursion (InSlot n) ps → IsStrictlySortedBy (λ p q. key_cmp p.key q.key) ps → HaveOwnNumbers ts → HaveOwnNumbers (step_tracks life ts n ps)
step_differs life n ts ps earlier own rise h =
    subst HaveOwnNumbers (sym (numbers_given life n ts ps earlier own rise))
    (still_differ (run_tracks life ts n ps) (subst (IsDistinct ◌==◌) (sym (run_keeps life ts n ps)) (passing_differ (is_kept life n) ts h)))

-- ---- the fold

pub record AreFolded (n : ℕ) (ts : List TrackState) : Type 0 where
  pub earlier : AreFromBefore n ts
  pub numbers : HaveOwnNumbers ts

none_folded : AreFolded 0 []
unfolding IsDistinct IsStrictlySortedBy
none_folded = record { earlier = record { rising = tt; each = tt }; numbers = tt }

in_slot : (n : ℕ) (ps : List PlanePlot) → AllByRecursion (InSlot n) (at_slot slot_of_plot n ps)
in_slot n ps = all_weaker (λ p. eqb (slot_of_plot p) n ≡ true) (InSlot n) (λ p e. eqb-true p.key.slot n e) (at_slot slot_of_plot n ps) (filter_passing (λ p. eqb (slot_of_plot p) n) ps)

still_rise : (p : PlanePlot → Bool) (ps : List PlanePlot) → IsStrictlySortedBy (λ p q. key_cmp p.key q.key) ps → IsStrictlySortedBy (λ p q. key_cmp p.key q.key) (filter p ps)
unfolding IsStrictlySortedBy
still_rise p [] h = tt
still_rise p (x ∷ xs) h =
    cond_both (p x) (x ∷ filter p xs) (filter p xs) (IsStrictlySortedBy (λ p q. key_cmp p.key q.key)) (λ _. (filter_keeps (λ y. key_cmp x.key y.key ≡ Less) p xs h.0, still_rise p xs h.1)) (λ _. still_rise p xs h.1)

folded_step : (life : LifeSettings) (n : ℕ) (ts : List TrackState) (ps : List PlanePlot) → AllByRecursion (InSlot n) ps → IsStrictlySortedBy (λ p q. key_cmp p.key q.key) ps → AreFolded n ts → AreFolded (n + 1) (stepped (step_tracks life) ts n ps)
folded_step life n ts [] own rise h = record { earlier = later_still n (n + 1) ts (omega arith) h.earlier; numbers = h.numbers }
folded_step life n ts (p ∷ ps) own rise h = record { earlier = after_step life n ts (p ∷ ps) h.earlier own rise; numbers = step_differs life n ts (p ∷ ps) h.earlier own rise h.numbers }

pub folded : (life : LifeSettings) (ps : List PlanePlot) → IsStrictlySortedBy (λ p q. key_cmp p.key q.key) ps → (n : ℕ) → AreFolded n (before (step_tracks life) slot_of_plot [] ps n)
unfolding before
folded life ps rise zero = none_folded
folded life ps rise (suc n) =
    subst (λ m. AreFolded m (stepped (step_tracks life) (before (step_tracks life) slot_of_plot [] ps n) n (at_slot slot_of_plot n ps))) (omega arith)
    (folded_step life n (before (step_tracks life) slot_of_plot [] ps n) (at_slot slot_of_plot n ps) (in_slot n ps) (still_rise (λ p. eqb (slot_of_plot p) n) ps rise) (folded life ps rise n))

-- ---- of a legal log

all_unmapped : (k : PlanePlot) (ps : List PlanePlot) → AllByRecursion (λ j. key_cmp k.key j ≡ Less) (map (λ p. p.key) ps) → AllByRecursion (λ q. key_cmp k.key q.key ≡ Less) ps
all_unmapped k [] h = tt
all_unmapped k (p ∷ ps) h = (h.0, all_unmapped k ps h.1)

keys_unmapped : (ps : List PlanePlot) → IsStrictlySortedBy key_cmp (map (λ p. p.key) ps) → IsStrictlySortedBy (λ p q. key_cmp p.key q.key) ps
unfolding IsStrictlySortedBy
keys_unmapped [] h = tt
keys_unmapped (p ∷ ps) h = (all_unmapped p ps h.0, keys_unmapped ps h.1)

pub folded_log : (settings : Settings) (log : History) (slot : ℕ) → IsLegal settings log → AreFolded slot (table_before settings log slot)
folded_log settings log slot legal = folded settings.life (plots_of settings log) (keys_unmapped (plots_of settings log) (keys.keys_rise settings log legal)) slot

earlier_all : (time : ℕ) (ts : List TrackState) → AllByRecursion (IsFromBefore (slot_of time)) ts → AreEarlier time ts
earlier_all time ts h = all_weaker (IsFromBefore (slot_of time)) (λ t. t.aim.time < time) (λ t k. omega (arith, k.time)) ts h

pub earlier_log : (settings : Settings) (log : History) → IsLegal settings log → AreEarlier (last_of log) (table_of settings log)
earlier_log settings log legal = earlier_all (last_of log) (table_of settings log) (folded_log settings log (slot_of (last_of log)) legal).earlier.each
