-- Biases by changes alone, and the last of some changes.
use Rattle.std.proofs.Common.{◌≡◌, ◌∙◌, ap, sym, refl, ℕ, Bool, true, false, cond, List, [], ◌∷◌, ◌++◌, map, Option, Some, None, append-nil}
use Rattle.std.specs.Prelude.{filter, slice_get, filter_map}
use Rattle.std.specs.Option.{option_map}
use Rattle.std.specs.List.{reduce, flat_map, enumerate_from, cons_option}
use Rattle.std.specs.Ordering.{ord_max}
use Rattle.std.proofs.lemmas.List.Elements.{filter-append}
use Rattle.std.proofs.lemmas.List.Sums.{fold-append}
use Rattle.trk_base.specs.Numbers.{slot_of}
use Rattle.plot_geometry.specs.Plots.{PlanePlot}
use Rattle.plot_geometry.specs.declared.radars.RadarSettings.{RadarSettings}
use Rattle.plot_geometry.specs.Biases.{bias_of, biased}
use Rattle.plot_geometry.specs.PlanePlots.{plane_plot}
use Rattle.admission_log.specs.declared.settings.Settings.{Settings}
use Rattle.admission_log.specs.declared.events.Admitted.{Admitted}
use Rattle.admission_log.specs.declared.events.Event.{Event}
use Rattle.admission_log.specs.declared.events.Event.TheVariants.{Deliver, Tick, Publish, Bias}
use Rattle.admission_log.specs.declared.entries.Entry.{Entry}
use Rattle.admission_log.specs.Histories.{History}
use Rattle.admission_log.specs.Entries.{key_of, plot_entry, entries_in, entries_of}
use Rattle.admission_log.specs.EntryOrder.{entry_cmp}
use Rattle.admission_log.specs.Biases.{is_change, last_change, last_with, later, bias_or, bias_among, changes_in, changes_of}
use Rattle.admission_log.specs.Plots.{is_over, plot_over}

-- ---- plots change no biases

no_changes : (radar n : ℕ) (admitted : List Admitted) → filter (is_change radar n) (map plot_entry admitted) ≡ []
no_changes radar n [] = refl
no_changes radar n (a ∷ more) = no_changes radar n more

in_event : (radar n index : ℕ) (e : Event) → filter (is_change radar n) (entries_in index e) ≡ filter (is_change radar n) (changes_in index e)
in_event radar n index (Deliver feed admitted told other) = no_changes radar n admitted
in_event radar n index (Tick time) = refl
in_event radar n index (Publish number cut) = refl
in_event radar n index (Bias changed slot bias) = refl

in_events : (radar n : ℕ) (es : List (ℕ × Event)) → filter (is_change radar n) (flat_map (λ at. entries_in at.0 at.1) es) ≡ filter (is_change radar n) (flat_map (λ at. changes_in at.0 at.1) es)
in_events radar n [] = refl
in_events radar n (e ∷ es) =
    filter-append (is_change radar n) (entries_in e.0 e.1) (flat_map (λ at. entries_in at.0 at.1) es)
    ∙ (λ i. in_event radar n e.0 e.1 i ++ in_events radar n es i)
    ∙ sym (filter-append (is_change radar n) (changes_in e.0 e.1) (flat_map (λ at. changes_in at.0 at.1) es))

last_of_changes : (log : History) (radar n : ℕ) → last_change radar n (entries_of log) ≡ last_change radar n (changes_of log.events)
last_of_changes log radar n = ap (reduce (ord_max entry_cmp)) (in_events radar n (enumerate_from 0 log.events))

one_over : (settings : Settings) (log : History) (last : ℕ) (a : Admitted) → plot_over settings (changes_of log.events) last a ≡ plot_over settings (entries_of log) last a
one_over settings log last a =
    ap (λ (c : Option Entry). cond (is_over last a) (option_map (λ radar. plane_plot radar a.plot (key_of a)) (option_map (λ r. biased r (bias_or (bias_of r) c)) (slice_get settings.radars a.radar))) None)
    (sym (last_of_changes log a.radar (slot_of a.time)))

-- so the plots are those by the changes
pub all_over : (settings : Settings) (log : History) (last : ℕ) (admitted : List Admitted) → filter_map (plot_over settings (changes_of log.events) last) admitted ≡ filter_map (plot_over settings (entries_of log) last) admitted
all_over settings log last [] = refl
all_over settings log last (a ∷ more) = λ i. cons_option (one_over settings log last a i) (all_over settings log last more i)

-- ---- the greatest of one more

later_of : (xs : List Entry) (e : Entry) → reduce (ord_max entry_cmp) (xs ++ e ∷ []) ≡ Some (later (reduce (ord_max entry_cmp) xs) e)
later_of [] e = refl
later_of (x ∷ xs) e = ap Some (fold-append (ord_max entry_cmp) x xs (e ∷ []))

pub last_more : (radar n : ℕ) (xs : List Entry) (e : Entry) → last_change radar n (xs ++ e ∷ []) ≡ last_with radar n (last_change radar n xs) e
last_more radar n xs e =
    ap (reduce (ord_max entry_cmp)) (filter-append (is_change radar n) xs (e ∷ []))
    ∙ (let at : (b : Bool) → reduce (ord_max entry_cmp) (filter (is_change radar n) xs ++ cond b (e ∷ []) []) ≡ cond b (Some (later (last_change radar n xs) e)) (last_change radar n xs) =
    λ b. elim b as (λ b. reduce (ord_max entry_cmp) (filter (is_change radar n) xs ++ cond b (e ∷ []) []) ≡ cond b (Some (later (last_change radar n xs) e)) (last_change radar n xs)) [
      | true ↦ later_of (filter (is_change radar n) xs) e
      | false ↦ ap (reduce (ord_max entry_cmp)) (append-nil (filter (is_change radar n) xs))
    ] in
    at (is_change radar n e))

-- ---- one more plot

pub over_some : (settings : Settings) (entries : List Entry) (last : ℕ) (a : Admitted) (plot : PlanePlot) → plot_over settings entries last a ≡ Some plot → filter_map (plot_over settings entries last) (a ∷ []) ≡ plot ∷ []
over_some settings entries last a plot e = rw e refl

pub over_none : (settings : Settings) (entries : List Entry) (last : ℕ) (a : Admitted) → plot_over settings entries last a ≡ None → filter_map (plot_over settings entries last) (a ∷ []) ≡ []
over_none settings entries last a e = rw e refl

-- the plot itself
pub over_is : (settings : Settings) (entries : List Entry) (last : ℕ) (a : Admitted) (radar : RadarSettings) (plot : PlanePlot) → is_over last a ≡ true → slice_get settings.radars a.radar ≡ Some radar
    → plot ≡ plane_plot (biased radar (bias_among entries (bias_of radar) a.radar (slot_of a.time))) a.plot (key_of a) → Some plot ≡ plot_over settings entries last a
over_is settings entries last a radar plot over found e = rw (over, found) (ap Some e)
