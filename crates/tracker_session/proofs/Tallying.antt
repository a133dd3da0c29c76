-- Counts with one more item.
use Rattle.std.proofs.Common.{◌≡◌, ◌∙◌, ap, sym, refl, ℕ, zero, suc, ◌+◌, ◌<◌, ◌≤◌, List, [], ◌∷◌, ◌++◌, length, get_or, take, arith, append-nil}
use Rattle.std.specs.Prelude.{Bool, true, false, Some, None, count_by, cond}
use Rattle.std.specs.List.{sum_by}
use Rattle.std.proofs.lemmas.List.{take_more}
use Rattle.std.proofs.lemmas.List.Sums.{sum_by-append, sum_by_push}
use Rattle.std.proofs.lemmas.List.Concat.{flat_map-append}
use Rattle.asterix_frame.specs.Datagrams.{Content, IsDatagram}
use Rattle.recording.specs.Items.{Item, datagram, tick, bias}
use Rattle.admission_log.specs.declared.settings.Settings.{Settings}
use Rattle.admission_log.specs.declared.events.Event.{Event}
use Rattle.admission_log.specs.declared.events.Event.TheVariants.{Tick}
use Rattle.admission_log.specs.declared.events.Event.TheVariants.{Bias as Change}
use Rattle.admission_log.specs.Changes.{IsOpenChange}
use Rattle.plot_geometry.specs.declared.biases.Bias.{Bias}
use Rattle.admission_log.specs.declared.events.Outcome.{Outcome}
use Rattle.admission_log.specs.Histories.{History, appended, last_of}
use Rattle.admission_log.specs.Deliveries.{IsDeliveryTo, outcomes_in}
use Rattle.tracker_session.specs.declared.counts.Counts.{Counts}
use Rattle.tracker_session.specs.Counting.{is_datagram, is_tick, is_bias, is_delivery, is_tick_taken, is_change, is_admitted, is_unknown, is_early, is_ahead, is_not_plot, others_in, told_of, counted, counts_of, missed, raised, with_told}
use Rattle.tracker_session.specs.Replay.{HasFault, IsReplayLog}
use Rattle.tracker_session.specs.Taking.{HasTaken, Progress}
use Rattle.tracker_session.proofs.Logs.{DeliveryKinds, Kinds, bit, covered, delivery_kinds}

pub counted_more : (a b : ℕ) → counted (counted a + b) ≡ counted (a + b)
counted_more a b = omega arith

raised_is : (n a : ℕ) → raised (counted n) a ≡ counted (n + a)
raised_is n zero = omega arith
raised_is n (suc a) = counted_more n (suc a)

raised_more : (n a b : ℕ) → raised n (a + b) ≡ raised (raised n a) b
raised_more n zero b = ap (raised n) (omega arith)
raised_more n (suc a) b = ap (raised n) (shifted a b) ∙ ap counted (omega arith) ∙ sym (raised_is (n + suc a) b)
  where
    shifted : (a b : ℕ) → suc a + b ≡ suc (a + b)
    shifted a b = omega arith

-- ---- what was told of messages

-- of one message more
pub told_one : (told : List Outcome) (o : Outcome) (c : Counts) → with_told (told ++ o ∷ []) c ≡ with_told (o ∷ []) (with_told told c)
told_one told o c =
    λ i. record c {
      admitted = one is_admitted c.admitted i;
      unknown = one is_unknown c.unknown i;
      early = one is_early c.early i;
      ahead = one is_ahead c.ahead i;
      not_plots = one is_not_plot c.not_plots i;
    }
  where
    one : (p : Outcome → Bool) (n : ℕ) → raised n (count_by p (told ++ o ∷ [])) ≡ raised (raised n (count_by p told)) (count_by p (o ∷ []))
    one p n = ap (raised n) (sum_by-append (λ x. cond (p x) 1 0) told (o ∷ [])) ∙ raised_more n (count_by p told) (count_by p (o ∷ []))

-- .. the next of a list
pub told_next : (told : List Outcome) (i : ℕ) (o : Outcome) (c : Counts) → i < length told → with_told (take (i + 1) told) c ≡ with_told (get_or told i o ∷ []) (with_told (take i told) c)
told_next told i o c lt = ap (λ t. with_told t c) (take_more told i o lt) ∙ told_one (take i told) (get_or told i o) c

told_push : (log : History) (e : Event) → told_of (appended log e) ≡ told_of log ++ outcomes_in e
told_push log e = flat_map-append outcomes_in log.events (e ∷ []) ∙ ap (λ t. told_of log ++ t) (append-nil (outcomes_in e))

-- the outcomes of a log with one more event
told_more : (p : Outcome → Bool) (log : History) (e : Event) → raised (counted (count_by p (told_of log))) (count_by p (outcomes_in e)) ≡ counted (count_by p (told_of (appended log e)))
told_more p log e = raised_is (count_by p (told_of log)) (count_by p (outcomes_in e)) ∙ ap counted (sym (sum_by-append (λ x. cond (p x) 1 0) (told_of log) (outcomes_in e)) ∙ ap (count_by p) (sym (told_push log e)))

-- an event that tells of no message
told_none : (p : Outcome → Bool) (log : History) (e : Event) → outcomes_in e ≡ [] → counted (count_by p (told_of log)) ≡ counted (count_by p (told_of (appended log e)))
told_none p log e none = ap (λ t. counted (count_by p t)) (sym (told_push log e ∙ ap (λ t. told_of log ++ t) none ∙ append-nil (told_of log)))

others_more : (log : History) (e : Event) → counted (counted (sum_by others_in log.events) + others_in e) ≡ counted (sum_by others_in (log.events ++ e ∷ []))
others_more log e = counted_more (sum_by others_in log.events) (others_in e) ∙ ap counted (sym (sum_by_push others_in log.events e))

others_none : (log : History) (e : Event) → others_in e ≡ 0 → counted (sum_by others_in log.events) ≡ counted (sum_by others_in (log.events ++ e ∷ []))
others_none log e none = omega (arith, none, sum_by_push others_in log.events e)

-- ---- one more item, and what the log has of it

module _ (p : Item → Bool) (q : Event → Bool) (items : List Item) (item : Item) (log : History) where
  items_push : count_by p (items ++ item ∷ []) ≡ count_by p items + bit (p item)
  items_push = sum_by_push (λ i. cond (p i) 1 0) items item

  events_push : (e : Event) → count_by q (log.events ++ e ∷ []) ≡ count_by q log.events + bit (q e)
  events_push e = sum_by_push (λ x. cond (q x) 1 0) log.events e

  -- an item of another kind
  missed_still : p item ≡ false → missed p q items log ≡ missed p q (items ++ item ∷ []) log
  missed_still e =
      let none : bit (p item) ≡ 0 = ap bit e in
      omega (arith, none, items_push)

  -- one that adds nothing
  missed_more : p item ≡ true → count_by q log.events ≤ count_by p items → counted (missed p q items log + 1) ≡ missed p q (items ++ item ∷ []) log
  missed_more e covers =
      let one : bit (p item) ≡ 1 = ap bit e in
      omega (arith, one, covers, items_push)

  -- one that adds an event of its kind
  missed_taken : (event : Event) → q event ≡ p item → missed p q items log ≡ missed p q (items ++ item ∷ []) (appended log event)
  missed_taken event e =
      let same : bit (q event) ≡ bit (p item) = ap bit e in
      omega (arith, same, items_push, events_push event)

  taken_more : (event : Event) → q event ≡ true → counted (counted (count_by q log.events) + 1) ≡ counted (count_by q (log.events ++ event ∷ []))
  taken_more event e =
      let one : bit (q event) ≡ 1 = ap bit e in
      omega (arith, one, events_push event)

  taken_still : (event : Event) → q event ≡ false → counted (count_by q log.events) ≡ counted (count_by q (log.events ++ event ∷ []))
  taken_still event e =
      let none : bit (q event) ≡ 0 = ap bit e in
      omega (arith, none, events_push event)

-- ---- what is passed over

pub malformed_taken : (settings : Settings) (feed : ℕ) (octets : List ℕ) (old new : Progress) → HasFault octets → new.log ≡ old.log → new.counts ≡ record old.counts { malformed = counted (old.counts.malformed + 1) } → HasTaken settings (datagram feed octets) None old new
malformed_taken settings feed octets old new fault log counts =
    record { adds = fault; log = log; counts = grown }
  where
    item : Item
    item = datagram feed octets

    grown : (tells : Bool) (start : ℕ) (items : List Item) → IsReplayLog settings start items old.log → old.counts ≡ counts_of tells items old.log → new.counts ≡ counts_of tells (items ++ item ∷ []) new.log
    grown tells start items is e =
        let one = missed_more is_datagram is_delivery items item old.log refl (covered is_datagram is_delivery (λ i v (k : Kinds i v). k.delivery) settings start items old.log is) in
        let olds = missed_still is_tick is_tick_taken items item old.log refl in
        let refused = missed_still is_bias is_change items item old.log refl in
        counts ∙ ap (λ (c : Counts). record c { malformed = counted (c.malformed + 1) }) e
        ∙ (λ i. record (counts_of tells items old.log) { malformed = one i; old = olds i; refused = refused i })
        ∙ ap (counts_of tells (items ++ item ∷ [])) (sym log)

pub old_tick_taken : (settings : Settings) (time : ℕ) (old new : Progress) → time ≤ last_of old.log → new.log ≡ old.log → new.counts ≡ record old.counts { old = counted (old.counts.old + 1) } → HasTaken settings (tick time) None old new
old_tick_taken settings time old new late log counts =
    record { adds = late; log = log; counts = grown }
  where
    item : Item
    item = tick time

    grown : (tells : Bool) (start : ℕ) (items : List Item) → IsReplayLog settings start items old.log → old.counts ≡ counts_of tells items old.log → new.counts ≡ counts_of tells (items ++ item ∷ []) new.log
    grown tells start items is e =
        let one = missed_more is_tick is_tick_taken items item old.log refl (covered is_tick is_tick_taken (λ i v (k : Kinds i v). k.tick_taken) settings start items old.log is) in
        let faults = missed_still is_datagram is_delivery items item old.log refl in
        let refused = missed_still is_bias is_change items item old.log refl in
        counts ∙ ap (λ (c : Counts). record c { old = counted (c.old + 1) }) e
        ∙ (λ i. record (counts_of tells items old.log) { old = one i; malformed = faults i; refused = refused i })
        ∙ ap (counts_of tells (items ++ item ∷ [])) (sym log)

-- ---- what is taken

pub admitted_taken : (settings : Settings) (feed : ℕ) (octets : List ℕ) (contents : List Content) (event : Event) (old new : Progress) → IsDatagram octets contents → IsDeliveryTo settings old.log feed contents event → new.log ≡ appended old.log event → new.counts ≡ record (with_told (outcomes_in event) old.counts) { other = counted (old.counts.other + others_in event) } → HasTaken settings (datagram feed octets) (Some event) old new
admitted_taken settings feed octets contents event old new is delivery log counts =
    record { adds = (contents, is, delivery); log = log; counts = grown }
  where
    item : Item
    item = datagram feed octets

    kinds : DeliveryKinds feed octets event
    kinds = delivery_kinds settings old.log feed octets contents event delivery

    grown : (tells : Bool) (start : ℕ) (items : List Item) → IsReplayLog settings start items old.log → old.counts ≡ counts_of tells items old.log → new.counts ≡ counts_of tells (items ++ item ∷ []) new.log
    grown tells start items here e =
        let k = kinds.kinds in
        let faults = missed_taken is_datagram is_delivery items item old.log event k.delivery in
        let olds = missed_taken is_tick is_tick_taken items item old.log event k.tick_taken in
        let refused = missed_taken is_bias is_change items item old.log event k.change in
        let ticks = taken_still is_tick is_tick_taken items item old.log event k.tick_taken in
        let changes = taken_still is_bias is_change items item old.log event k.change in
        counts ∙ ap (λ (c : Counts). record (with_told (outcomes_in event) c) { other = counted (c.other + others_in event) }) e
        ∙ (λ i. record {
          editions = ticks i;
          admitted = told_more is_admitted old.log event i;
          unknown = told_more is_unknown old.log event i;
          early = told_more is_early old.log event i;
          ahead = told_more is_ahead old.log event i;
          not_plots = told_more is_not_plot old.log event i;
          malformed = faults i;
          other = others_more old.log event i;
          old = olds i;
          tells_biases = tells;
          biases = changes i;
          refused = refused i;
        })
        ∙ ap (counts_of tells (items ++ item ∷ [])) (sym log)

pub tick_taken : (settings : Settings) (time : ℕ) (old new : Progress) → last_of old.log < time → new.log ≡ appended old.log (Tick time) → new.counts ≡ record old.counts { editions = counted (old.counts.editions + 1) } → HasTaken settings (tick time) (Some (Tick time)) old new
tick_taken settings time old new later log counts =
    record { adds = (later, refl); log = log; counts = grown }
  where
    item : Item
    item = tick time

    event : Event
    event = Tick time

    grown : (tells : Bool) (start : ℕ) (items : List Item) → IsReplayLog settings start items old.log → old.counts ≡ counts_of tells items old.log → new.counts ≡ counts_of tells (items ++ item ∷ []) new.log
    grown tells start items here e =
        let faults = missed_taken is_datagram is_delivery items item old.log event refl in
        let olds = missed_taken is_tick is_tick_taken items item old.log event refl in
        let refused = missed_taken is_bias is_change items item old.log event refl in
        let ticks = taken_more is_tick is_tick_taken items item old.log event refl in
        let changes = taken_still is_bias is_change items item old.log event refl in
        counts ∙ ap (λ (c : Counts). record c { editions = counted (c.editions + 1) }) e
        ∙ (λ i. record {
          editions = ticks i;
          admitted = told_none is_admitted old.log event refl i;
          unknown = told_none is_unknown old.log event refl i;
          early = told_none is_early old.log event refl i;
          ahead = told_none is_ahead old.log event refl i;
          not_plots = told_none is_not_plot old.log event refl i;
          malformed = faults i;
          other = others_none old.log event refl i;
          old = olds i;
          tells_biases = tells;
          biases = changes i;
          refused = refused i;
        })
        ∙ ap (counts_of tells (items ++ item ∷ [])) (sym log)

-- ---- changes of biases

pub refused_taken : (settings : Settings) (radar slot : ℕ) (b : Bias) (old new : Progress) → (IsOpenChange settings (last_of old.log) radar slot → ⊥) → new.log ≡ old.log → new.counts ≡ record old.counts { refused = counted (old.counts.refused + 1) } → HasTaken settings (bias radar slot b) None old new
refused_taken settings radar slot b old new closed log counts =
    record { adds = closed; log = log; counts = grown }
  where
    item : Item
    item = bias radar slot b

    grown : (tells : Bool) (start : ℕ) (items : List Item) → IsReplayLog settings start items old.log → old.counts ≡ counts_of tells items old.log → new.counts ≡ counts_of tells (items ++ item ∷ []) new.log
    grown tells start items is e =
        let one = missed_more is_bias is_change items item old.log refl (covered is_bias is_change (λ i v (k : Kinds i v). k.change) settings start items old.log is) in
        let faults = missed_still is_datagram is_delivery items item old.log refl in
        let olds = missed_still is_tick is_tick_taken items item old.log refl in
        counts ∙ ap (λ (c : Counts). record c { refused = counted (c.refused + 1) }) e
        ∙ (λ i. record (counts_of tells items old.log) { refused = one i; malformed = faults i; old = olds i })
        ∙ ap (counts_of tells (items ++ item ∷ [])) (sym log)

pub change_taken : (settings : Settings) (radar slot : ℕ) (b : Bias) (old new : Progress) → IsOpenChange settings (last_of old.log) radar slot → new.log ≡ appended old.log (Change radar slot b) → new.counts ≡ record old.counts { biases = counted (old.counts.biases + 1) } → HasTaken settings (bias radar slot b) (Some (Change radar slot b)) old new
change_taken settings radar slot b old new is_open log counts =
    record { adds = (is_open, refl); log = log; counts = grown }
  where
    item : Item
    item = bias radar slot b

    event : Event
    event = Change radar slot b

    grown : (tells : Bool) (start : ℕ) (items : List Item) → IsReplayLog settings start items old.log → old.counts ≡ counts_of tells items old.log → new.counts ≡ counts_of tells (items ++ item ∷ []) new.log
    grown tells start items here e =
        let faults = missed_taken is_datagram is_delivery items item old.log event refl in
        let olds = missed_taken is_tick is_tick_taken items item old.log event refl in
        let refused = missed_taken is_bias is_change items item old.log event refl in
        let ticks = taken_still is_tick is_tick_taken items item old.log event refl in
        let changes = taken_more is_bias is_change items item old.log event refl in
        counts ∙ ap (λ (c : Counts). record c { biases = counted (c.biases + 1) }) e
        ∙ (λ i. record {
          editions = ticks i;
          admitted = told_none is_admitted old.log event refl i;
          unknown = told_none is_unknown old.log event refl i;
          early = told_none is_early old.log event refl i;
          ahead = told_none is_ahead old.log event refl i;
          not_plots = told_none is_not_plot old.log event refl i;
          malformed = faults i;
          other = others_none old.log event refl i;
          old = olds i;
          tells_biases = tells;
          biases = changes i;
          refused = refused i;
        })
        ∙ ap (counts_of tells (items ++ item ∷ [])) (sym log)
