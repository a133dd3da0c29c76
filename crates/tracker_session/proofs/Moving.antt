-- What a run keeps behind one more item.
use Rattle.std.proofs.Common.{◌≡◌, ◌∙◌, ap, sym, refl, subst, ℕ, ◌+◌, ◌<◌, ◌≤◌, List, [], ◌∷◌, ◌++◌, append-nil, true, false, Some, None}
use Rattle.asterix_frame.specs.Datagrams.{Content, IsDatagram}
use Rattle.plot_geometry.specs.declared.biases.Bias.{Bias}
use Rattle.recording.specs.Items.{datagram, tick, bias}
use Rattle.admission_log.specs.declared.settings.Settings.{Settings}
use Rattle.admission_log.specs.declared.events.Event.{Event}
use Rattle.admission_log.specs.declared.events.Event.TheVariants.{Tick}
use Rattle.admission_log.specs.declared.events.Event.TheVariants.{Bias as Change}
use Rattle.admission_log.specs.Changes.{IsOpenChange}
use Rattle.admission_log.specs.Deliveries.{IsDelivery, outcomes_in}
use Rattle.admission_log.specs.Histories.{appended}
use Rattle.admission_log.specs.Legality.{IsLegal}
use Rattle.admission_log.specs.Summaries.{Summary, summary_of}
use Rattle.tracker_session.specs.declared.counts.Counts.{Counts}
use Rattle.tracker_session.specs.declared.taking.Run.{Run}
use Rattle.tracker_session.specs.Counting.{counted, others_in, with_told}
use Rattle.tracker_session.specs.Replay.{HasFault}
use Rattle.tracker_session.specs.Taking.{Keeps, Moves, Progress}
use Rattle.tracker_session.proofs.Logs.{delivery_kinds}
use Rattle.tracker_session.proofs.Tallying.{admitted_taken, change_taken, malformed_taken, old_tick_taken, refused_taken, tick_taken}

module _ (settings : Settings) (before : Progress) (old new : Run) (keeps : Keeps old before) where
  -- ---- what is taken

  pub delivered_on : (feed : ℕ) (octets : List ℕ) (contents : List Content) (event : Event) → IsDatagram octets contents → IsDelivery settings old.log.last old.log.next feed contents event
      → new.log ≡ summary_of (appended before.log event) → new.counts ≡ record (with_told (outcomes_in event) old.counts) { other = counted (old.counts.other + others_in event) } → new.newest.items ≡ old.newest.items ++ event ∷ []
      → (IsLegal settings before.log → IsLegal settings (appended before.log event)) → Moves settings (datagram feed octets) false before old new
  delivered_on feed octets contents event is delivery log counts newest legal =
      let tell : Counts → Counts = λ n. record (with_told (outcomes_in event) n) { other = counted (n.other + others_in event) } in
      record {
        after = record { log = appended before.log event; counts = tell before.counts };
        keeps = record { log = log; counts = counts ∙ ap tell keeps.counts };
        takes = record { added = Some event; has = admitted_taken settings feed octets contents event before (record { log = appended before.log event; counts = tell before.counts }) is (subst (λ (s : Summary). IsDelivery settings s.last s.next feed contents event) keeps.log delivery) refl refl; shown_is = (delivery_kinds settings before.log feed octets contents event (subst (λ (s : Summary). IsDelivery settings s.last s.next feed contents event) keeps.log delivery)).kinds.tick_taken };
        newest = newest;
        legal = legal;
      }

  pub tick_on : (time : ℕ) → old.log.last < time → new.log ≡ summary_of (appended before.log (Tick time)) → new.counts ≡ record old.counts { editions = counted (old.counts.editions + 1) } → new.newest.items ≡ old.newest.items ++ Tick time ∷ []
      → (IsLegal settings before.log → IsLegal settings (appended before.log (Tick time))) → Moves settings (tick time) true before old new
  tick_on time later log counts newest legal =
      let tell : Counts → Counts = λ n. record n { editions = counted (n.editions + 1) } in
      record {
        after = record { log = appended before.log (Tick time); counts = tell before.counts };
        keeps = record { log = log; counts = counts ∙ ap tell keeps.counts };
        takes = record {
          added = Some (Tick time);
          has = tick_taken settings time before (record { log = appended before.log (Tick time); counts = tell before.counts }) (subst (λ (s : Summary). s.last < time) keeps.log later) refl refl;
          shown_is = refl;
        };
        newest = newest;
        legal = legal;
      }

  pub change_on : (radar slot : ℕ) (b : Bias) → IsOpenChange settings old.log.last radar slot → new.log ≡ summary_of (appended before.log (Change radar slot b)) → new.counts ≡ record old.counts { biases = counted (old.counts.biases + 1) } → new.newest.items ≡ old.newest.items ++ Change radar slot b ∷ []
      → (IsLegal settings before.log → IsLegal settings (appended before.log (Change radar slot b))) → Moves settings (bias radar slot b) false before old new
  change_on radar slot b is_open log counts newest legal =
      let tell : Counts → Counts = λ n. record n { biases = counted (n.biases + 1) } in
      record {
        after = record { log = appended before.log (Change radar slot b); counts = tell before.counts };
        keeps = record { log = log; counts = counts ∙ ap tell keeps.counts };
        takes = record { added = Some (Change radar slot b); has = change_taken settings radar slot b before (record { log = appended before.log (Change radar slot b); counts = tell before.counts }) (subst (λ (s : Summary). IsOpenChange settings s.last radar slot) keeps.log is_open) refl refl; shown_is = refl };
        newest = newest;
        legal = legal;
      }

  -- ---- what is passed over

  module _ (log : new.log ≡ old.log) (same : new.newest.items ≡ old.newest.items) where
    none_newer : new.newest.items ≡ old.newest.items ++ []
    none_newer = same ∙ sym (append-nil old.newest.items)

    pub malformed_on : (feed : ℕ) (octets : List ℕ) → HasFault octets → new.counts ≡ record old.counts { malformed = counted (old.counts.malformed + 1) } → Moves settings (datagram feed octets) false before old new
    malformed_on feed octets fault counts =
        let tell : Counts → Counts = λ n. record n { malformed = counted (n.malformed + 1) } in
        record {
          after = record { log = before.log; counts = tell before.counts };
          keeps = record { log = log ∙ keeps.log; counts = counts ∙ ap tell keeps.counts };
          takes = record { added = None; has = malformed_taken settings feed octets before (record { log = before.log; counts = tell before.counts }) fault refl refl; shown_is = refl };
          newest = none_newer;
          legal = λ legal. legal;
        }

    pub old_on : (time : ℕ) → time ≤ old.log.last → new.counts ≡ record old.counts { old = counted (old.counts.old + 1) } → Moves settings (tick time) false before old new
    old_on time late counts =
        let tell : Counts → Counts = λ n. record n { old = counted (n.old + 1) } in
        record {
          after = record { log = before.log; counts = tell before.counts };
          keeps = record { log = log ∙ keeps.log; counts = counts ∙ ap tell keeps.counts };
          takes = record { added = None; has = old_tick_taken settings time before (record { log = before.log; counts = tell before.counts }) (subst (λ (s : Summary). time ≤ s.last) keeps.log late) refl refl; shown_is = refl };
          newest = none_newer;
          legal = λ legal. legal;
        }

    pub refused_on : (radar slot : ℕ) (b : Bias) → (IsOpenChange settings old.log.last radar slot → ⊥) → new.counts ≡ record old.counts { refused = counted (old.counts.refused + 1) } → Moves settings (bias radar slot b) false before old new
    refused_on radar slot b closed counts =
        let tell : Counts → Counts = λ n. record n { refused = counted (n.refused + 1) } in
        record {
          after = record { log = before.log; counts = tell before.counts };
          keeps = record { log = log ∙ keeps.log; counts = counts ∙ ap tell keeps.counts };
          takes = record { added = None; has = refused_taken settings radar slot b before (record { log = before.log; counts = tell before.counts }) (subst (λ (s : Summary). IsOpenChange settings s.last radar slot → ⊥) keeps.log closed) refl refl; shown_is = refl };
          newest = none_newer;
          legal = λ legal. legal;
        }
