-- The step of a slot with plots, and of one without.
use Rattle.std.proofs.Common.{◌≡◌, ◌∙◌, ap, sym, refl, ℕ, ◌<◌, List, [], ◌∷◌, ◌++◌, true, false, eqb, length, arith, subst}
use Rattle.std.proofs.lemmas.Bool.{eqb-true, eqb-false}
use Rattle.std.specs.Prelude.{Contains}
use Rattle.std.specs.List.{AllByRecursion}
use Rattle.std.specs.List.Sorted.{IsStrictlySortedBy}
use Rattle.plot_geometry.specs.declared.radars.RadarSettings.{RadarSettings}
use Rattle.plot_geometry.specs.Plots.{PlanePlot}
use Rattle.price_form.specs.Certificates.{IsCert}
use Rattle.track_life.specs.declared.settings.LifeSettings.{LifeSettings}
use Rattle.track_life.specs.Tracks.{TrackState}
use Rattle.late_window.specs.Folding.{stepped}
use Rattle.slot_step.specs.declared.certs.KeyedCert.{KeyedCert}
use Rattle.slot_step.specs.OneBatch.{Batch, IsBatch}
use Rattle.slot_step.specs.Calls.{plots_of}
use Rattle.slot_step.specs.Tracker.{step_tracks}
use Rattle.slot_step.specs.Told.{AreTold}
use Rattle.admission_log.specs.declared.entries.Entry.{Entry}
use Rattle.tracker_fold.specs.declared.state.TrackerState.{TrackerState}
use Rattle.tracker_fold.specs.Steps.{radars_after, planes, moved, next, AreCertified}

-- ---- no plots

none_there : {X : Type 0} (x : X) → Contains [] x → ⊥
none_there x c = omega (arith, c.1)

pub no_batches : {X : Type 0} (xs : List X) (len : ℕ) → len ≡ length xs → eqb len 0 ≡ true → xs ≡ []
no_batches [] len e h = refl
no_batches (x ∷ xs) len e h = absurd (let n : len ≡ 0 = eqb-true len 0 h in omega (arith, e, n))

pub some_batches : {X : Type 0} (xs : List X) (len : ℕ) → len ≡ length xs → eqb len 0 ≡ false → 0 < length xs
some_batches [] len e h = absurd (eqb-false len 0 h (omega (arith, e)))
some_batches (x ∷ xs) len e h = omega arith

pub none_told : (life : LifeSettings) (ts : List TrackState) (n : ℕ) → AreTold life ts n [] []
unfolding IsStrictlySortedBy
none_told life ts n = record { certificates = []; are = record { each = tt; whole = λ p c. absurd (none_there p c); order = tt }; all = refl }

pub stays : (s : TrackerState) (radars radars' : List RadarSettings) (slot : ℕ) (bs : List Batch) (table : List TrackState) → bs ≡ [] → radars' ≡ radars → table ≡ s.table
    → record { life = s.life; radars = radars'; table = table } ≡ moved s radars slot (plots_of bs)
stays s radars radars' slot bs table e f g = (λ i. record { life = s.life; radars = f i; table = g i }) ∙ ap (λ (bs : List Batch). moved s radars slot (plots_of bs)) (sym e)

pub none_certified : (s : TrackerState) (slot : ℕ) (bs : List Batch) (certs : List KeyedCert) → bs ≡ [] → certs ≡ [] → AreCertified s slot (plots_of bs) certs
none_certified s slot bs certs e f =
    subst (λ (bs : List Batch). AreCertified s slot (plots_of bs) certs) (sym e) (subst (AreCertified s slot []) (sym f) (record { told = none_told s.life s.table slot; whole = tt }))

-- ---- some plots

some_plots : (bs : List Batch) → AllByRecursion IsBatch bs → 0 < length bs → 0 < length (plots_of bs)
some_plots [] h lt = lt
some_plots (b ∷ bs) h lt = at b.plots h.0.some
  where
    at : (ps : List PlanePlot) → 0 < length ps → 0 < length (ps ++ plots_of bs)
    at [] lt = absurd (omega (arith, lt))
    at (p ∷ ps) lt = omega arith

stepped_some : (life : LifeSettings) (ts : List TrackState) (n : ℕ) (ps : List PlanePlot) → 0 < length ps → step_tracks life ts n ps ≡ stepped (step_tracks life) ts n ps
stepped_some life ts n [] lt = absurd (omega (arith, lt))
stepped_some life ts n (p ∷ ps) lt = refl

pub moves : (s : TrackerState) (radars radars' : List RadarSettings) (slot : ℕ) (bs : List Batch) (table : List TrackState) → AllByRecursion IsBatch bs → 0 < length bs → radars' ≡ radars → table ≡ step_tracks s.life s.table slot (plots_of bs)
    → record { life = s.life; radars = radars'; table = table } ≡ moved s radars slot (plots_of bs)
moves s radars radars' slot bs table each lt f g = λ i. record { life = s.life; radars = f i; table = (g ∙ stepped_some s.life s.table slot (plots_of bs) (some_plots bs each lt)) i }

pub certified : (s : TrackerState) (slot : ℕ) (bs bs' : List Batch) (certs certs' : List KeyedCert) → bs' ≡ bs → certs' ≡ certs → AreTold s.life s.table slot (plots_of bs') certs' → AllByRecursion (λ c. IsCert c.cert) certs' → AreCertified s slot (plots_of bs) certs
certified s slot bs bs' certs certs' e f h g =
    subst (λ (bs : List Batch). AreCertified s slot (plots_of bs) certs) e (subst (AreCertified s slot (plots_of bs')) f (record { told = h; whole = g }))

-- ---- the entries' step

pub next_is : (s : TrackerState) (slot : ℕ) (entries : List Entry) (radars : List RadarSettings) (plots : List PlanePlot) → radars ≡ radars_after s.radars entries → plots ≡ planes (radars_after s.radars entries) entries → moved s radars slot plots ≡ next s slot entries
unfolding next
next_is s slot entries radars plots e f = λ i. moved s (e i) slot (f i)
