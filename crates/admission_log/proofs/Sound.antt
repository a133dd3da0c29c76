-- What is judged of messages makes a legal delivery.
use Rattle.std.proofs.Common.{◌≡◌, ◌∙◌, ap, sym, refl, ℕ, ◌+◌, ◌<◌, ◌≤◌, Bool, true, false, cond, List, [], ◌∷◌, length, map, Option, Some, None, Result, Ok, Err}
use Rattle.std.specs.Prelude.{nat_lt}
use Rattle.std.specs.List.{filter_map, range_with_len, AllByRecursion, cons_option}
use Rattle.std.proofs.lemmas.Bool.{ltb-true, ltb-false}
use Rattle.std.proofs.lemmas.List.Elements.{All-from_recursion}
use Rattle.trk_base.specs.Numbers.{slot_of}
use Rattle.trk_base.specs.declared.plots.RawPlot.{RawPlot}
use Rattle.cat048_in.specs.declared.report.NotPlot.{NotPlot}
use Rattle.cat048_in.specs.Plots.{plot_of}
use Rattle.admission_log.specs.declared.settings.Settings.{Settings}
use Rattle.admission_log.specs.declared.events.Admitted.{Admitted}
use Rattle.admission_log.specs.declared.events.Outcome.{Outcome}
use Rattle.admission_log.specs.Sources.{radar_of}
use Rattle.admission_log.specs.Histories.{low_at, high_at}
use Rattle.admission_log.specs.Messages.{Message, report, service}
use Rattle.admission_log.specs.Outcomes.{time_at, judged_time, judged_source, judged_plot, outcome_of}
use Rattle.admission_log.specs.Deliveries.{judged_message, admitted_by}
use Rattle.admission_log.proofs.Judgements.{next_after, judged_all}
use Rattle.admission_log.specs.Legality.{arrival_in, IsLegalPlot, IsLegalOutcome, IsLegalDelivery}

-- what is judged under an arrival fits the log
abbrev IsSound : Settings → ℕ → ℕ → Result Admitted Outcome → Type 0
IsSound settings last next (Ok a) = (a.arrival ≡ next) × IsLegalPlot settings last a
IsSound settings last next (Err o) = (arrival_in o ≡ None) × IsLegalOutcome settings last o

-- a choice by two numbers
by_order : {X : Type 0} (P : X → Type 0) (x y : ℕ) (a b : X) → (x < y → P a) → (y ≤ x → P b) → P (cond (nat_lt x y) a b)
by_order P x y a b f g =
    let h : (t : Bool) → nat_lt x y ≡ t → P (cond t a b) = λ t. elim t as (λ s. nat_lt x y ≡ s → P (cond s a b)) [
      | true ↦ λ e. f (ltb-true x y e)
      | false ↦ λ e. g (ltb-false x y e)
    ] in
    h (nat_lt x y) refl

time_sound : (settings : Settings) (last : ℕ) (a : Admitted) → radar_of settings.radars a.plot.sac a.plot.sic ≡ Some a.radar → a.time ≡ time_at settings last a.radar a.plot.tod → IsSound settings last a.arrival (judged_time settings last a)
time_sound settings last a known time =
    by_order (IsSound settings last a.arrival) (slot_of a.time) (low_at settings.window last) _ _
    (λ late. (refl, late))
    (λ not_late. by_order (IsSound settings last a.arrival) (high_at last) a.time _ _
    (λ ahead. (refl, ahead))
    (λ not_ahead. (refl, record { radar = known; time = time; not_late = not_late; not_ahead = not_ahead })))

source_sound : (settings : Settings) (last next : ℕ) (plot : RawPlot) (o : Option ℕ) → radar_of settings.radars plot.sac plot.sic ≡ o → IsSound settings last next (judged_source settings last next plot o)
source_sound settings last next plot None known = (refl, tt)
source_sound settings last next plot (Some radar) known = time_sound settings last (record { arrival = next; radar = radar; time = time_at settings last radar plot.tod; plot = plot }) known refl

plot_sound : (settings : Settings) (last next : ℕ) (r : Result RawPlot NotPlot) → IsSound settings last next (judged_plot settings last next r)
plot_sound settings last next (Ok plot) = source_sound settings last next plot (radar_of settings.radars plot.sac plot.sic) refl
plot_sound settings last next (Err why) = (refl, tt)

message_sound : (settings : Settings) (last next : ℕ) (m : Message) → IsSound settings last next (judged_message settings last next m)
message_sound settings last next (report r) = plot_sound settings last next (plot_of r)
message_sound settings last next (service s) = (refl, tt)

-- of each, under rising arrivals
abbrev AreSound : Settings → ℕ → ℕ → List (Result Admitted Outcome) → Type 0
AreSound settings last next [] = Unit {0}
AreSound settings last next (j ∷ js) = IsSound settings last next j × AreSound settings last (next_after next j) js

all_sound : (settings : Settings) (last next : ℕ) (ms : List Message) → AreSound settings last next (judged_all settings last next ms)
all_sound settings last next [] = tt
all_sound settings last next (m ∷ ms) = (message_sound settings last next m, all_sound settings last (next_after next (judged_message settings last next m)) ms)

arrivals : (settings : Settings) (last next : ℕ) (js : List (Result Admitted Outcome)) → AreSound settings last next js → filter_map arrival_in (map outcome_of js) ≡ range_with_len next (length (filter_map admitted_by js))
arrivals settings last next [] h = refl
arrivals settings last next (Ok a ∷ js) h = let rest = arrivals settings last (next + 1) js h.1 in λ i. h.0.0 i ∷ rest i
arrivals settings last next (Err o ∷ js) h = ap (λ x. cons_option x (filter_map arrival_in (map outcome_of js))) h.0.0 ∙ arrivals settings last next js h.1

own_arrivals : (settings : Settings) (last next : ℕ) (js : List (Result Admitted Outcome)) → AreSound settings last next js → map (λ a. a.arrival) (filter_map admitted_by js) ≡ filter_map arrival_in (map outcome_of js)
own_arrivals settings last next [] h = refl
own_arrivals settings last next (Ok a ∷ js) h = ap (λ t. a.arrival ∷ t) (own_arrivals settings last (next + 1) js h.1)
own_arrivals settings last next (Err o ∷ js) h = own_arrivals settings last next js h.1 ∙ sym (ap (λ x. cons_option x (filter_map arrival_in (map outcome_of js))) h.0.0)

plots : (settings : Settings) (last next : ℕ) (js : List (Result Admitted Outcome)) → AreSound settings last next js → AllByRecursion (IsLegalPlot settings last) (filter_map admitted_by js)
plots settings last next [] h = tt
plots settings last next (Ok a ∷ js) h = (h.0.1, plots settings last (next + 1) js h.1)
plots settings last next (Err o ∷ js) h = plots settings last next js h.1

others : (settings : Settings) (last next : ℕ) (js : List (Result Admitted Outcome)) → AreSound settings last next js → AllByRecursion (IsLegalOutcome settings last) (map outcome_of js)
others settings last next [] h = tt
others settings last next (Ok a ∷ js) h = (tt, others settings last (next + 1) js h.1)
others settings last next (Err o ∷ js) h = (h.0.1, others settings last next js h.1)

pub legal_delivery : (settings : Settings) (last next : ℕ) (ms : List Message) → IsLegalDelivery settings last next (filter_map admitted_by (judged_all settings last next ms)) (map outcome_of (judged_all settings last next ms))
legal_delivery settings last next ms =
    let js = judged_all settings last next ms in
    let sound = all_sound settings last next ms in
    record {
      arrivals = arrivals settings last next js sound;
      own_arrivals = own_arrivals settings last next js sound;
      plots = All-from_recursion (IsLegalPlot settings last) (filter_map admitted_by js) (plots settings last next js sound);
      others = All-from_recursion (IsLegalOutcome settings last) (map outcome_of js) (others settings last next js sound);
    }
