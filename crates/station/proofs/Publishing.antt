-- A conductor that publishes editions of no events, one after the other.
use Rattle.std.proofs.Common.{◌≡◌, ◌∙◌, ap, sym, subst, refl, ℕ, ◌+◌, ◌≤◌, List, [], ◌∷◌, ◌++◌, length, map, fold, max, arith}
use Rattle.std.specs.Prelude.{Option, None, take}
use Rattle.std.specs.List.{AllByRecursion, enumerate_from, range_with_len}
use Rattle.std.proofs.lemmas.List.{length-append}
use Rattle.plot_geometry.specs.declared.biases.Bias.{Bias}
use Rattle.plot_geometry.specs.declared.radars.RadarSettings.{RadarSettings}
use Rattle.plot_geometry.specs.Biases.{bias_of}
use Rattle.track_life.specs.Tracks.{TrackState}
use Rattle.late_window.specs.Folding.{slots}
use Rattle.late_window.proofs.Cuts.{before_none}
use Rattle.price_form.specs.declared.certs.Cert.{Cert}
use Rattle.slot_step.specs.Told.{AreTold}
use Rattle.slot_step.specs.Tracker.{step_tracks}
use Rattle.admission_log.specs.declared.settings.Settings.{Settings}
use Rattle.admission_log.specs.declared.events.Event.{Event}
use Rattle.admission_log.specs.declared.events.Event.TheVariants.{Tick, Publish}
use Rattle.admission_log.specs.Histories.{History, publications_of, published_of}
use Rattle.admission_log.specs.Biases.{bias_at}
use Rattle.admission_log.proofs.Growing.{publications-appended}
use Rattle.edition_form.specs.declared.edition.Edition.{Edition}
use Rattle.edition_form.specs.Certificates.{AreLogCertificates}
use Rattle.edition_form.specs.Datagrams.{ArePictured}
use Rattle.edition_form.specs.Editions.{IsEdition}
use Rattle.edition_form.specs.Folding.{slot_of_plot, table_of}
use Rattle.edition_form.specs.Pictures.{Picture, picture}
use Rattle.edition_form.specs.Radars.{service_of, services_of, biases_of}
use Rattle.turn_lock.specs.Turns.{Token}
use Rattle.station.specs.declared.shared.Base.{Base}
use Rattle.station.specs.declared.station.Station.{Station}
use Rattle.station.specs.declared.tokens.Conductor.{Conductor}
use Rattle.station.specs.Tokens.{settings_of, start_of, log_with, gathered_of, IsConductorOf, IsNewConductor}
use Rattle.station.specs.Turns.{Ticks, Gathers, MayPublish, Publishes}
use Rattle.station.specs.Tests.{PublishesNone}
use Rattle.station.proofs.Standing.{plain_publications}

-- ---- the edition of no events

abbrev no_events : History
no_events = record { start = 4608000; events = [] }

no_table : (settings : Settings) → table_of settings no_events ≡ []
no_table settings = before_none slot_of_plot (step_tracks settings.life) (AreTold settings.life) [] 72000 [] tt

no_biases : (settings : Settings) (radar : RadarSettings) → settings.radars ≡ radar ∷ [] → biases_of settings no_events ≡ bias_of radar ∷ []
no_biases settings radar are = ap (λ (rs : List RadarSettings). map (λ (at : ℕ × RadarSettings). bias_at no_events (bias_of at.1) at.0 72000) (enumerate_from 0 rs)) are

no_services : (settings : Settings) (radar : RadarSettings) → settings.radars ≡ radar ∷ [] → services_of settings no_events ≡ None ∷ []
no_services settings radar are = ap (λ (rs : List RadarSettings). map (service_of no_events) (range_with_len 0 (length rs))) are

no_certificates : (settings : Settings) → AreLogCertificates settings no_events []
unfolding slots
no_certificates settings = record { by_slot = []; each = refl; all = refl; few_edges = tt }

-- it is what is built of no tracks, under one radar that no service message has come from
pub edition_of_none : (settings : Settings) (radar : RadarSettings) (number : ℕ) (e : Edition) (biases : List Bias) (table : List TrackState) (services : List (Option ℕ)) (certs : List Cert) → settings.radars ≡ radar ∷ [] → biases ≡ bias_of radar ∷ [] → table ≡ [] → services ≡ None ∷ [] → certs ≡ []
    → e.number ≡ number → e.cut ≡ 0 → e.before ≡ 0 → e.time ≡ 4608000 → ArePictured settings (picture settings biases table services 4608000) [] number e.datagrams → e.certs ≡ certs → IsEdition settings no_events 0 number e
edition_of_none settings radar number e biases table services certs are b t s k number_is cut before time datagrams kept = record {
  number_is = number_is;
  cut = cut;
  before_is = before;
  time = time;
  datagrams = subst (λ (p : Picture). ArePictured settings p [] number e.datagrams)
      (λ i. picture settings ((b ∙ sym (no_biases settings radar are)) i) ((t ∙ sym (no_table settings)) i) ((s ∙ sym (no_services settings radar are)) i) 4608000) datagrams;
  certs = subst (AreLogCertificates settings no_events) (sym (kept ∙ k)) (no_certificates settings);
}

-- ---- the conductor's turns

module _ (station : Station) (settings : Settings) where
  abbrev published_by : Conductor → List (ℕ × ℕ)
  published_by by = publications_of (log_with station by.turn.seen)

  pub begins : (by : Conductor) → IsNewConductor station by → IsConductorOf station by → settings ≡ settings_of station → start_of station ≡ 4608000 → PublishesNone station settings 4608000 by 1
  begins by new own settings_are start = let none : by.turn.seen ≡ [] = ap (λ (u : Token Event Base). u.seen) new.turn in record {
    own = own;
    settings_are = settings_are;
    start_is = start;
    next = ap (λ (es : List Event). published_of (log_with station es) + 1) (sym none);
    cuts = subst (λ (es : List Event). AllByRecursion (λ (p : ℕ × ℕ). p.1 ≡ 0) (publications_of (log_with station es))) (sym none) tt;
  }

  -- after a turn that published nothing
  pub goes_on : (old new : Conductor) (number : ℕ) → PublishesNone station settings 4608000 old number → IsConductorOf station new → published_by new ≡ published_by old → PublishesNone station settings 4608000 new number
  goes_on old new number p own same = record {
    own = own;
    settings_are = p.settings_are;
    start_is = p.start_is;
    next = p.next ∙ ap (λ (ps : List (ℕ × ℕ)). length ps + 1) (sym same);
    cuts = subst (AllByRecursion (λ (p : ℕ × ℕ). p.1 ≡ 0)) (sym same) p.cuts;
  }

  pub ticked : (old new : Conductor) (time index : ℕ) → Ticks station old new time index → published_by new ≡ published_by old
  ticked old new time index t = ap (λ (u : Token Event Base). publications_of (log_with station u.seen)) t.after ∙ (plain_publications (log_with station t.found) (Tick time) refl ∙ t.are_found.publications)

  pub gathered : (old new : Conductor) (events : List Event) → Gathers station old new events → published_by new ≡ published_by old
  gathered old new events g = g.are_found.publications

  all_more : (P : ℕ × ℕ → Type 0) (ps : List (ℕ × ℕ)) (p : ℕ × ℕ) → AllByRecursion P ps → P p → AllByRecursion P (ps ++ p ∷ [])
  all_more P [] p h k = (k, tt)
  all_more P (q ∷ qs) p h k = (h.0, all_more P qs p h.1 k)

  greatest_is : (ps : List (ℕ × ℕ)) (c : ℕ) → c ≡ 0 → AllByRecursion (λ (p : ℕ × ℕ). p.1 ≡ 0) ps → fold (λ (cut : ℕ) (p : ℕ × ℕ). max cut p.1) c ps ≡ 0
  greatest_is [] c z h = z
  greatest_is (p ∷ ps) c z h = greatest_is ps (max c p.1) (λ i. max (z i) (h.0 i)) h.1

  last_is : (ps : List (ℕ × ℕ)) (c : ℕ) → c ≡ 0 → AllByRecursion (λ (p : ℕ × ℕ). p.1 ≡ 0) ps → fold (λ (cut : ℕ) (p : ℕ × ℕ). p.1) c ps ≡ 0
  last_is [] c z h = z
  last_is (p ∷ ps) c z h = last_is ps p.1 h.0 h.1

  -- the next edition of no events may be published
  pub may_publish : (by : Conductor) (number : ℕ) (e : Edition) → PublishesNone station settings 4608000 by number → IsEdition settings no_events 0 number e → MayPublish station by e
  may_publish by number e p is = let z : e.cut ≡ 0 = is.cut in record {
    no_less = subst (λ n. n ≤ e.cut) (sym (greatest_is (published_by by) 0 refl p.cuts)) (omega arith);
    no_more = subst (λ n. n ≤ length (gathered_of by)) (sym z) (omega arith);
    edition_is = subst (λ (x : Settings × ℕ × List Event × ℕ × ℕ). IsEdition x.0 (record { start = x.1; events = x.2 }) x.3 x.4 e)
        (λ i. (p.settings_are i, sym p.start_is i, sym (ap (λ n. take n (gathered_of by)) z) i, sym (last_is (published_by by) 0 refl p.cuts) i, p.next i)) is;
  }

  pub published : (old new : Conductor) (number index : ℕ) (e : Edition) → PublishesNone station settings 4608000 old number → IsConductorOf station new → IsEdition settings no_events 0 number e → Publishes station old new e index → PublishesNone station settings 4608000 new (number + 1)
  published old new number index e p own is t =
      let grown : published_by new ≡ published_by old ++ (e.number, e.cut) ∷ [] = ap (λ (u : Token Event Base). publications_of (log_with station u.seen)) t.after
      ∙ (publications-appended (log_with station t.found) (Publish e.number e.cut) ∙ ap (λ (ps : List (ℕ × ℕ)). ps ++ (e.number, e.cut) ∷ []) t.are_found.publications) in
      let size : length (published_by new) ≡ length (published_by old) + 1 = ap length grown ∙ length-append (published_by old) ((e.number, e.cut) ∷ []) in record {
        own = own;
        settings_are = p.settings_are;
        start_is = p.start_is;
        next = ap (λ n. n + 1) (p.next ∙ sym size);
        cuts = subst (AllByRecursion (λ (p : ℕ × ℕ). p.1 ≡ 0)) (sym grown) (all_more (λ (p : ℕ × ℕ). p.1 ≡ 0) (published_by old) (e.number, e.cut) p.cuts is.cut);
      }
