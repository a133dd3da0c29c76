-- Plots each of which has a lower key than the next one.
use Rattle.std.proofs.Common.{◌≡◌, ◌∙◌, sym, ap, subst, refl, ℕ, ◌+◌, ◌-◌, ◌<◌, arith, List, [], ◌∷◌, length, get_or}
use Rattle.std.specs.List.{AllByRecursion}
use Rattle.std.specs.List.Sorted.{IsStrictlySortedBy}
use Rattle.std.specs.Ordering.{ordering_then, ordering_reverse}
use Rattle.std.specs.declared.cmp.Ordering.{Ordering}
use Rattle.std.specs.declared.cmp.Ordering.TheVariants.{Less, Equal, Greater}
use Rattle.std.proofs.lemmas.Cmp.{on_total}
use Rattle.std.proofs.lemmas.Map.Keys.{sorted_from_all_adjacent}
use Rattle.trk_base.specs.declared.keys.Key.{Key}
use Rattle.trk_base.specs.Keys.{key_cmp}
use Rattle.trk_base.specs.KeyOrder.{key_cmp_total}
use Rattle.plot_geometry.specs.Plots.{PlanePlot}
use Rattle.plot_geometry.specs.PlotOrder.{plot_cmp}
use Rattle.late_window.specs.Folding.{ComesBefore, Rises, BeforeFirst}
use Rattle.track_parts.specs.Members.{Tracks}
use Rattle.part_load.specs.Spans.{IsAbove, BeginsIn}
use Rattle.track_parts.specs.Tracking.{slot_of_plot, key_of_plot, IsBefore}

less_then : (o q : Ordering) → o ≡ Less → ordering_then o q ≡ Less
less_then Less q e = refl
less_then Equal q e = cc
less_then Greater q e = cc

not_below : (k : Key) → key_cmp k k ≡ Less → ⊥
not_below k e = let c : Less ≡ Greater = sym e ∙ key_cmp_total.antisymm k k ∙ ap ordering_reverse e in cc

comes_before : (p q : PlanePlot) → key_cmp p.key q.key ≡ Less → ComesBefore plot_cmp key_of_plot p q
comes_before p q less = record {
  order = less_then (key_cmp p.key q.key) _ less;
  keys = λ e. not_below q.key (subst (λ k. key_cmp k q.key ≡ Less) e less);
}

all_before : (p : PlanePlot) (ps : List PlanePlot) → AllByRecursion (λ q. key_cmp p.key q.key ≡ Less) ps → AllByRecursion (ComesBefore plot_cmp key_of_plot p) ps
all_before p [] h = tt
all_before p (q ∷ ps) h = (comes_before p q h.0, all_before p ps h.1)

sorted_rise : (ps : List PlanePlot) → IsStrictlySortedBy (λ p q. key_cmp p.key q.key) ps → Rises plot_cmp key_of_plot ps
unfolding IsStrictlySortedBy
sorted_rise [] h = tt
sorted_rise (p ∷ ps) h = (all_before p ps h.0, sorted_rise ps h.1)

-- plots each of which is above the one before it rise
pub all_rise : (ps : List PlanePlot) → ((i : ℕ) → i < length ps → IsAbove ps i) → Rises plot_cmp key_of_plot ps
all_rise [] f = tt
all_rise (p ∷ ps) f = sorted_rise (p ∷ ps) (sorted_from_all_adjacent (on_total (λ (q : PlanePlot). q.key) key_cmp_total) (p ∷ ps) p (λ k lt.
    let e : k + 1 - 1 ≡ k = omega arith in
    subst (λ j. key_cmp (get_or (p ∷ ps) j p).key (get_or (p ∷ ps) (k + 1) p).key ≡ Less) e ((f (k + 1) lt).above p (omega arith))))

-- tracks from before a slot are so for plots that begin in it
pub before_first : (s : Tracks) (n : ℕ) (ps : List PlanePlot) → IsBefore s n → BeginsIn n ps → BeforeFirst IsBefore slot_of_plot s ps
before_first s n [] h f = tt
before_first s n (p ∷ ps) h f = subst (λ m. IsBefore s m) (sym (f.first p (omega arith))) h
