-- The fold with numbers beside the one without: the tables of both differ in numbers alone.
use Rattle.std.proofs.Common.{◌≡◌, ◌∙◌, ap, sym, refl, ℕ, zero, suc, ◌+◌, ◌≤◌, List, [], ◌∷◌, ◌++◌, length, take, drop, map, None, arith, append-nil, append_assoc, length-append, subst}
use Rattle.std.specs.List.{AllByRecursion}
use Rattle.std.specs.List.Sorted.{IsStrictlySortedBy}
use Rattle.trk_base.specs.Keys.{key_cmp}
use Rattle.plot_geometry.specs.Plots.{PlanePlot}
use Rattle.plot_geometry.specs.PlotOrder.{plot_cmp}
use Rattle.track_life.specs.declared.settings.LifeSettings.{LifeSettings}
use Rattle.track_life.specs.Tracks.{TrackState}
use Rattle.track_life.specs.Tables.{IsTable}
use Rattle.track_life.specs.Numbers.{with_number, assigned}
use Rattle.track_life.proofs.Numbering.{bare_assigned}
use Rattle.late_window.specs.Folding.{Rises, at_slot, stepped, before, slots, states, latest, group_count, BeforeFirst, OutsAt}
use Rattle.late_window.proofs.Groups.{SlotsRise, begins, drop_rises, group_some, slots_rise, states_group}
use Rattle.late_window.proofs.Latest.{latest_append}
use Rattle.slot_step.specs.declared.certs.KeyedCert.{KeyedCert}
use Rattle.slot_step.specs.Numbers.{NumberLaws, numbered}
use Rattle.slot_step.specs.Told.{AreTold}
use Rattle.slot_step.specs.Tracker.{tracking, ordered, numbering, run_tracks, step_tracks}
use Rattle.slot_step.proofs.Numbering.{numbers_anew, numbers_hidden, run_unread}
use Rattle.slot_step.proofs.Slotted.{sorted_of_map}
use Rattle.slot_step.proofs.Tracker.{tracks_ordered, tracks_numbered}
use Rattle.track_parts.specs.Members.{Tracks}
use Rattle.track_parts.specs.Laws.{in_order}
use Rattle.track_parts.specs.Tracking.{next, slot_of_plot, key_of_plot, by_birth, AreCertified, IsBefore}
use Rattle.track_parts.specs.Numbered.{living, AreWhole}
use Rattle.track_parts.proofs.Unread.{told_too}

-- without their numbers
abbrev pub bare : List TrackState → List TrackState
bare ts = map (with_number None) ts

-- the table of a run with numbers, of which the table before it has some
abbrev pub with_numbers : List TrackState → Tracks → List TrackState
with_numbers s r = numbered (ordered r.life) (numbering assigned) s r.table

-- tables that get their numbers one after the other
abbrev pub numbered_runs : List TrackState → List Tracks → List (List TrackState)
numbered_runs s [] = []
numbered_runs s (r ∷ rs) = with_numbers s r ∷ numbered_runs (with_numbers s r) rs

parts_length : {X : Type 0} (i : ℕ) (xs : List X) → length (take i xs) + length (drop i xs) ≡ length xs
parts_length zero xs = omega arith
parts_length (suc i) [] = omega arith
parts_length (suc i) (x ∷ xs) = omega (arith, parts_length i xs)

module _ (life : LifeSettings) where
  laws : NumberLaws (tracking life) (ordered life) (numbering assigned)
  laws = tracks_numbered life assigned bare_assigned

  -- a step with numbers leaves a table that differs in numbers alone
  step_hidden : (s t : List TrackState) (n : ℕ) (ps : List PlanePlot) → bare s ≡ bare t → bare (step_tracks life s n ps) ≡ bare (run_tracks life t n ps)
  step_hidden s t n ps e =
      numbers_hidden (tracking life) (ordered life) (tracks_ordered life) (numbering assigned) laws s (run_tracks life s n ps)
      ∙ run_unread (tracking life) (ordered life) (tracks_ordered life) (numbering assigned) laws s t n ps e

  -- and is the run without them, with those of the table before
  same_step : (s t : List TrackState) (n : ℕ) (ps : List PlanePlot) → bare s ≡ bare t → with_numbers s (living life (run_tracks life t n ps)) ≡ step_tracks life s n ps
  same_step s t n ps e =
      numbers_anew (tracking life) (ordered life) (tracks_ordered life) (numbering assigned) laws s (run_tracks life t n ps) (run_tracks life s n ps)
      (run_unread (tracking life) (ordered life) (tracks_ordered life) (numbering assigned) laws t s n ps (sym e))

  -- numbers given one table after the other, slot by slot
  by_slots : (fuel : ℕ) (s t : List TrackState) (xs : List PlanePlot) → length xs ≤ fuel → Rises plot_cmp key_of_plot xs → bare s ≡ bare t
      → numbered_runs s (states next slot_of_plot (living life t) xs) ≡ states (step_tracks life) slot_of_plot s xs
  unfolding slots
  by_slots fuel s t [] le r e = refl
  by_slots zero s t (x ∷ xs) le r e = absurd (omega (arith, le))
  by_slots (suc fuel) s t (x ∷ xs) le r e =
      let n : ℕ = slot_of_plot x in
      let k : ℕ = group_count slot_of_plot n (x ∷ xs) in
      let own : List PlanePlot = take k (x ∷ xs) in
      let others : List PlanePlot = drop k (x ∷ xs) in
      let rise : SlotsRise slot_of_plot (x ∷ xs) = slots_rise plot_cmp key_of_plot slot_of_plot in_order (x ∷ xs) r in
      let fewer : length others ≤ fuel = omega (arith, le, parts_length k (x ∷ xs), group_some slot_of_plot n (x ∷ xs) refl) in
      ap (numbered_runs s) (states_group slot_of_plot next AreCertified (living life t) n (x ∷ xs) (begins slot_of_plot next AreCertified (living life t) n (x ∷ xs) rise refl))
      ∙ (λ i. same_step s t n own e i ∷ numbered_runs (same_step s t n own e i) (states next slot_of_plot (living life (run_tracks life t n own)) others))
      ∙ ap (λ (l : List (List TrackState)). step_tracks life s n own ∷ l)
      (by_slots fuel (step_tracks life s n own) (run_tracks life t n own) others fewer (drop_rises plot_cmp key_of_plot k (x ∷ xs) r) (step_hidden s t n own e))
      ∙ sym (states_group slot_of_plot (step_tracks life) (AreTold life) s n (x ∷ xs) (begins slot_of_plot (step_tracks life) (AreTold life) s n (x ∷ xs) rise refl))

  pub numbered_states : (s : List TrackState) (xs : List PlanePlot) → Rises plot_cmp key_of_plot xs → numbered_runs s (states next slot_of_plot (living life s) xs) ≡ states (step_tracks life) slot_of_plot s xs
  numbered_states s xs r = by_slots (length xs) s s xs (omega arith) r refl

  -- ---- certificates

  -- the fold without numbers keeps the life of tracks
  stepped_living : (t : List TrackState) (n : ℕ) (ps : List PlanePlot) → stepped next (living life t) n ps ≡ living life (stepped (run_tracks life) t n ps)
  stepped_living t n [] = refl
  stepped_living t n (p ∷ ps) = refl

  before_living : (s : List TrackState) (xs : List PlanePlot) (n : ℕ) → before next slot_of_plot (living life s) xs n ≡ living life (before (run_tracks life) slot_of_plot s xs n)
  unfolding before
  before_living s xs zero = refl
  before_living s xs (suc n) = ap (λ t. stepped next t n (at_slot slot_of_plot n xs)) (before_living s xs n) ∙ stepped_living (before (run_tracks life) slot_of_plot s xs n) n (at_slot slot_of_plot n xs)

  stepped_hidden : (s t : List TrackState) (n : ℕ) (ps : List PlanePlot) → bare s ≡ bare t → bare (stepped (step_tracks life) s n ps) ≡ bare (stepped (run_tracks life) t n ps)
  stepped_hidden s t n [] e = e
  stepped_hidden s t n (p ∷ ps) e = step_hidden s t n (p ∷ ps) e

  before_hidden : (s : List TrackState) (xs : List PlanePlot) (n : ℕ) → bare (before (step_tracks life) slot_of_plot s xs n) ≡ bare (before (run_tracks life) slot_of_plot s xs n)
  unfolding before
  before_hidden s xs zero = refl
  before_hidden s xs (suc n) = stepped_hidden (before (step_tracks life) slot_of_plot s xs n) (before (run_tracks life) slot_of_plot s xs n) n (at_slot slot_of_plot n xs) (before_hidden s xs n)

  -- what is certified without numbers is so with them
  certified_too : (t u : List TrackState) → bare t ≡ bare u → (n : ℕ) (ps : List PlanePlot) (certs : List KeyedCert) → AreCertified (living life t) n ps certs → AreCertified (living life u) n ps certs
  certified_too t u e n ps certs h = record { told = told_too life t u e n ps certs h.told; whole = h.whole }

  certified_at : (s : List TrackState) (xs : List PlanePlot) (n : ℕ) (certs : List KeyedCert) → AreCertified (before next slot_of_plot (living life s) xs n) n (at_slot slot_of_plot n xs) certs
      → AreCertified (living life (before (step_tracks life) slot_of_plot s xs n)) n (at_slot slot_of_plot n xs) certs
  certified_at s xs n certs h =
      certified_too (before (run_tracks life) slot_of_plot s xs n) (before (step_tracks life) slot_of_plot s xs n) (sym (before_hidden s xs n)) n (at_slot slot_of_plot n xs) certs
      (subst (λ t. AreCertified t n (at_slot slot_of_plot n xs) certs) (before_living s xs n) h)

  pub all_certified : (s : List TrackState) (xs : List PlanePlot) (ns : List ℕ) (outs : List (List KeyedCert)) → OutsAt next slot_of_plot AreCertified (living life s) xs ns outs → OutsAt (step_tracks life) slot_of_plot (λ ts. AreCertified (living life ts)) s xs ns outs
  all_certified s xs [] outs h = h
  all_certified s xs (n ∷ ns) [] h = h
  all_certified s xs (n ∷ ns) (o ∷ outs) h = (certified_at s xs n o h.0, all_certified s xs ns outs h.1)

  pub all_told : (s : List TrackState) (xs : List PlanePlot) (ns : List ℕ) (outs : List (List KeyedCert)) → OutsAt next slot_of_plot AreCertified (living life s) xs ns outs → OutsAt (step_tracks life) slot_of_plot (AreTold life) s xs ns outs
  all_told s xs [] outs h = h
  all_told s xs (n ∷ ns) [] h = h
  all_told s xs (n ∷ ns) (o ∷ outs) h = ((certified_at s xs n o h.0).told, all_told s xs ns outs h.1)

  pub all_whole : (s : List TrackState) (xs : List PlanePlot) (ns : List ℕ) (outs : List (List KeyedCert)) → OutsAt next slot_of_plot AreCertified (living life s) xs ns outs → AllByRecursion AreWhole outs
  all_whole s xs [] outs h = subst (AllByRecursion AreWhole) (sym h) tt
  all_whole s xs (n ∷ ns) [] h = absurd h
  all_whole s xs (n ∷ ns) (o ∷ outs) h = (h.0.whole, all_whole s xs ns outs h.1)

-- ---- one run after the other

-- births rise
abbrev IsRising : List TrackState → Type 0
IsRising ts = IsStrictlySortedBy by_birth ts

-- these tables are made of the first of all runs, and the rest is left
pub record Numbered (s : List TrackState) (all : List Tracks) (tables : List (List TrackState)) (rest : List Tracks) : Type 0 where
  pub count : length tables + length rest ≡ length all
  pub made : IsStrictlySortedBy by_birth s → numbered_runs s all ≡ tables ++ numbered_runs (latest s tables) rest
  pub rising : IsStrictlySortedBy by_birth s → IsStrictlySortedBy by_birth (latest s tables)

pub none_numbered : (s : List TrackState) (all : List Tracks) → Numbered s all [] all
none_numbered s all = record { count = omega arith; made = λ r. refl; rising = λ r. r }

pub one_numbered : (s : List TrackState) (all : List Tracks) (tables : List (List TrackState)) (r : Tracks) (rest : List Tracks) (t : List TrackState) → Numbered s all tables (r ∷ rest)
    → (IsRising (latest s tables) → t ≡ with_numbers (latest s tables) r) → IsTable t → Numbered s all (tables ++ t ∷ []) rest
one_numbered s all tables r rest t h e is = record {
  count = omega (arith, length-append tables (t ∷ []), h.count);
  made = λ up.
      let q : t ≡ with_numbers (latest s tables) r = e (h.rising up) in
      h.made up ∙ ap (λ u. tables ++ u ∷ numbered_runs u rest) (sym q) ∙ sym (append_assoc tables (t ∷ []) (numbered_runs t rest))
      ∙ ap (λ u. (tables ++ t ∷ []) ++ numbered_runs u rest) (sym (latest_append s tables (t ∷ [])));
  rising = λ up. subst IsRising (sym (latest_append s tables (t ∷ []))) (sorted_of_map key_cmp (λ u. u.birth) t is.births);
}

nothing : {X : Type 0} (xs : List X) → length xs ≡ 0 → xs ≡ []
nothing [] e = refl
nothing (x ∷ xs) e = absurd (omega (arith, e))

no_states : (life : LifeSettings) (s : List TrackState) → states (step_tracks life) slot_of_plot s [] ≡ []
unfolding slots
no_states life s = refl

no_runs : (life : LifeSettings) (s : List TrackState) → length (states next slot_of_plot (living life s) []) ≡ 0
unfolding slots
no_runs life s = refl

-- once no run is left, the tables are those of the fold with numbers
pub all_numbered : (s : List TrackState) (all : List Tracks) (tables : List (List TrackState)) (rest : List Tracks) → Numbered s all tables rest → length rest ≡ 0 → (life : LifeSettings) (plots : List PlanePlot) → Rises plot_cmp key_of_plot plots
    → BeforeFirst IsBefore slot_of_plot (living life s) plots → all ≡ states next slot_of_plot (living life s) plots → tables ≡ states (step_tracks life) slot_of_plot s plots
all_numbered s all tables (r ∷ rest) h l life plots rises b e = absurd (omega (arith, l))
all_numbered s all tables [] h l life [] rises b e =
    let none : length tables ≡ 0 = omega (arith, h.count, ap length e, no_runs life s) in
    nothing tables none ∙ sym (no_states life s)
all_numbered s all tables [] h l life (p ∷ plots) rises b e =
    sym (append-nil tables) ∙ sym (h.made b.rising) ∙ ap (numbered_runs s) e ∙ numbered_states life s (p ∷ plots) rises
