-- The plots that a legal log has admitted.
use Rattle.std.proofs.Common.{◌≡◌, ◌∙◌, ap, sym, subst, ℕ, ◌<◌, ◌≤◌, ◌++◌, length, Option, Some, None, arith, append-nil}
use Rattle.std.specs.Prelude.{All, IsSomeAnd, slice_get}
use Rattle.std.specs.Option.{option_map}
use Rattle.std.proofs.lemmas.List.Elements.{All-nil, All-append, All-weaker}
use Rattle.plot_geometry.specs.declared.radars.RadarSettings.{RadarSettings}
use Rattle.trk_base.specs.Numbers.{slot_of}
use Rattle.plot_geometry.specs.Biases.{bias_of, biased}
use Rattle.plot_geometry.specs.PlanePlots.{plane_plot}
use Rattle.plot_geometry.proofs.PlaneLaws.{key-plane_plot}
use Rattle.admission_log.specs.declared.settings.Settings.{Settings}
use Rattle.admission_log.specs.declared.events.Admitted.{Admitted}
use Rattle.admission_log.specs.declared.events.Event.{Event}
use Rattle.admission_log.specs.declared.events.Event.TheVariants.{Deliver, Tick, Publish, Bias}
use Rattle.admission_log.specs.Sources.{HasSource}
use Rattle.admission_log.specs.Histories.{History, appended, admitted_in, admitted_of, last_of, high_at}
use Rattle.admission_log.specs.Legality.{IsLegal, IsLegalEvent, WasOpen}
use Rattle.admission_log.specs.Entries.{key_of, entries_of}
use Rattle.admission_log.specs.Biases.{bias_among}
use Rattle.admission_log.specs.Plots.{plane_of}
use Rattle.admission_log.proofs.Radars.{radar_found, found_within}
use Rattle.admission_log.proofs.Growing.{admitted-appended}
use Rattle.admission_log.proofs.Prefixes.{last_grows, by_events}

-- ---- open at some moment

abbrev AllOpen : Settings → History → Type 0
AllOpen settings log = All (WasOpen settings (last_of log)) (admitted_of log)

still_open : (settings : Settings) (last later : ℕ) (a : Admitted) → last ≤ later → WasOpen settings last a → WasOpen settings later a
still_open settings last later a le h = record { tick = h.tick; earlier = omega (arith, le, h.earlier); legal = h.legal }

opened : (settings : Settings) (before : History) (e : Event) → IsLegalEvent settings before e → All (WasOpen settings (last_of before)) (admitted_in e)
opened settings before (Deliver feed admitted told other) fits = All-weaker _ (WasOpen settings (last_of before)) (λ a h. record { tick = last_of before; earlier = omega arith; legal = h }) admitted fits.plots
opened settings before (Tick time) fits = All-nil (WasOpen settings (last_of before))
opened settings before (Publish number cut) fits = All-nil (WasOpen settings (last_of before))
opened settings before (Bias radar slot bias) fits = All-nil (WasOpen settings (last_of before))

open_more : (settings : Settings) (before : History) (e : Event) → IsLegalEvent settings before e → AllOpen settings before → AllOpen settings (appended before e)
open_more settings before e fits h =
    let grown : admitted_of (appended before e) ≡ admitted_of before ++ admitted_in e = admitted-appended before e ∙ ap (λ t. admitted_of before ++ t) (append-nil (admitted_in e)) in
    subst (All (WasOpen settings (last_of (appended before e)))) (sym grown)
    (All-weaker (WasOpen settings (last_of before)) (WasOpen settings (last_of (appended before e))) (λ a. still_open settings (last_of before) (last_of (appended before e)) a (last_grows before e)) (admitted_of before ++ admitted_in e)
    (All-append (WasOpen settings (last_of before)) (admitted_of before) (admitted_in e) h (opened settings before e fits)))

pub all_open : (settings : Settings) (log : History) → IsLegal settings log → AllOpen settings log
all_open settings log legal = by_events settings log legal (AllOpen settings) (All-nil _) (open_more settings)

-- ---- so each has

pub all_known : (settings : Settings) (log : History) → IsLegal settings log → All (λ a. a.radar < length settings.radars) (admitted_of log)
all_known settings log legal = All-weaker (WasOpen settings (last_of log)) (λ a. a.radar < length settings.radars) (λ a h. found_within settings.radars a.plot.sac a.plot.sic a.radar h.legal.radar) (admitted_of log) (all_open settings log legal)

pub none_ahead : (settings : Settings) (log : History) → IsLegal settings log → All (λ a. a.time ≤ high_at (last_of log)) (admitted_of log)
none_ahead settings log legal = All-weaker (WasOpen settings (last_of log)) (λ a. a.time ≤ high_at (last_of log)) (λ a h. omega (arith, h.earlier, h.legal.not_ahead)) (admitted_of log) (all_open settings log legal)

plane_at : (a : Admitted) (f : RadarSettings → RadarSettings) (sac sic : ℕ) (o : Option RadarSettings) → IsSomeAnd o (HasSource sac sic) → IsSomeAnd (option_map (λ radar. plane_plot radar a.plot (key_of a)) (option_map f o)) (λ plot. plot.key ≡ key_of a)
plane_at a f sac sic None h = h
plane_at a f sac sic (Some radar) h = key-plane_plot (f radar) a.plot (key_of a)

pub all_in_plane : (settings : Settings) (log : History) → IsLegal settings log → All (λ a. IsSomeAnd (plane_of settings log a) (λ plot. plot.key ≡ key_of a)) (admitted_of log)
all_in_plane settings log legal =
    All-weaker (WasOpen settings (last_of log)) (λ a. IsSomeAnd (plane_of settings log a) (λ plot. plot.key ≡ key_of a))
    (λ a h. plane_at a (λ r. biased r (bias_among (entries_of log) (bias_of r) a.radar (slot_of a.time))) a.plot.sac a.plot.sic (slice_get settings.radars a.radar) (radar_found settings.radars a.plot.sac a.plot.sic a.radar h.legal.radar)) (admitted_of log) (all_open settings log legal)
