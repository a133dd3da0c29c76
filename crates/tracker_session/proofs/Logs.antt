-- The log of items: there is one at most, and how it grows.
use Rattle.std.proofs.Common.{◌≡◌, ◌∙◌, ap, sym, refl, subst, ℕ, ◌+◌, ◌<◌, ◌≤◌, List, [], ◌∷◌, ◌++◌, arith, append_assoc, append-nil}
use Rattle.std.specs.Prelude.{Bool, Option, Some, None, count_by, cond, fold, max}
use Rattle.std.specs.List.{filter_map}
use Rattle.std.proofs.lemmas.List.Elements.{filter_map-append}
use Rattle.std.proofs.lemmas.List.Sums.{fold-append, sum_by-cons, sum_by_push}
use Rattle.asterix_frame.specs.Datagrams.{Content}
use Rattle.asterix_frame.proofs.Datagrams.{one_list, not_both}
use Rattle.recording.specs.Items.{Item, datagram, tick, bias}
use Rattle.admission_log.specs.declared.settings.Settings.{Settings}
use Rattle.admission_log.specs.declared.events.Event.{Event}
use Rattle.admission_log.specs.Deliveries.{IsDeliveryTo}
use Rattle.admission_log.specs.Histories.{History, appended, last_of, next_of, tick_in}
use Rattle.admission_log.specs.declared.events.Event.TheVariants.{Tick}
use Rattle.admission_log.proofs.Judgements.{one_delivery}
use Rattle.tracker_session.specs.Counting.{is_datagram, is_tick, is_bias, is_delivery, is_tick_taken, is_change}
use Rattle.tracker_session.specs.Replay.{Adds, IsLogAfter, IsReplayLog, empty_log, log_with}

-- ---- there is one

adds_same : (settings : Settings) (log : History) (item : Item) (a b : Option Event) → Adds settings log item a → Adds settings log item b → a ≡ b
adds_same settings log (datagram feed octets) (Some a) (Some b) h k =
    let contents = one_list octets h.0 k.0 h.1 k.1 in
    ap Some (one_delivery settings (last_of log) (next_of log) feed h.0 a b h.2 (subst (λ (c : List Content). IsDeliveryTo settings log feed c b) (sym contents) k.2))
adds_same settings log (datagram feed octets) (Some a) None h k = absurd (not_both octets h.0 k.offset k.cause h.1 k.fault)
adds_same settings log (datagram feed octets) None (Some b) h k = absurd (not_both octets k.0 h.offset h.cause k.1 h.fault)
adds_same settings log (datagram feed octets) None None h k = refl
adds_same settings log (tick time) (Some a) (Some b) h k = ap Some (h.1 ∙ sym k.1)
adds_same settings log (tick time) (Some a) None h k = absurd (omega (arith, h.0, k))
adds_same settings log (tick time) None (Some b) h k = absurd (omega (arith, h, k.0))
adds_same settings log (tick time) None None h k = refl
adds_same settings log (bias radar slot b) (Some x) (Some y) h k = ap Some (h.1 ∙ sym k.1)
adds_same settings log (bias radar slot b) (Some x) None h k = absurd (k h.0)
adds_same settings log (bias radar slot b) None (Some y) h k = absurd (h k.0)
adds_same settings log (bias radar slot b) None None h k = refl

-- the same after the same event
moved : (settings : Settings) (earlier log : History) (items : List Item) (a b : Option Event) → a ≡ b → IsLogAfter settings (log_with earlier b) items log → IsLogAfter settings (log_with earlier a) items log
moved settings earlier log items a b e h = subst (λ (added : Option Event). IsLogAfter settings (log_with earlier added) items log) (sym e) h

pub logs_same : (settings : Settings) (earlier : History) (items : List Item) (a b : History) → IsLogAfter settings earlier items a → IsLogAfter settings earlier items b → a ≡ b
logs_same settings earlier [] a b h k = h ∙ sym k
logs_same settings earlier (item ∷ items) a b h k =
    logs_same settings (log_with earlier h.0) items a b h.2 (moved settings earlier b items h.0 k.0 (adds_same settings earlier item h.0 k.0 h.1 k.1) k.2)

-- the log of all items is that of the last ones after that of the first
pub log_rest : (settings : Settings) (earlier : History) (items more : List Item) (log whole : History) → IsLogAfter settings earlier items log → IsLogAfter settings earlier (items ++ more) whole → IsLogAfter settings log more whole
log_rest settings earlier [] more log whole h k = subst (λ (l : History). IsLogAfter settings l more whole) (sym h) k
log_rest settings earlier (item ∷ items) more log whole h k =
    log_rest settings (log_with earlier h.0) items more log whole h.2 (moved settings earlier whole (items ++ more) h.0 k.0 (adds_same settings earlier item h.0 k.0 h.1 k.1) k.2)

-- ---- how it grows

pub log_push : (settings : Settings) (earlier : History) (items : List Item) (log longer : History) (item : Item) (added : Option Event) → IsLogAfter settings earlier items log → Adds settings log item added → longer ≡ log_with log added → IsLogAfter settings earlier (items ++ item ∷ []) longer
log_push settings earlier [] log longer item added h adds e = (added, subst (λ (l : History). Adds settings l item added) h adds, e ∙ ap (λ l. log_with l added) h)
log_push settings earlier (first ∷ items) log longer item added h adds e = (h.0, h.1, log_push settings (log_with earlier h.0) items log longer item added h.2 adds e)

-- the last tick of a log with a later tick
pub last_with : (log : History) (time : ℕ) → last_of log < time → time ≡ last_of (appended log (Tick time))
last_with log time later =
    let chain : last_of (appended log (Tick time)) ≡ fold max (last_of log) (time ∷ []) = ap (fold max log.start) (filter_map-append tick_in log.events (Tick time ∷ [])) ∙ fold-append max log.start (filter_map tick_in log.events) (time ∷ []) in
    omega (arith, later, chain)

abbrev pub with_events : History → List Event → History
with_events log more = record { start = log.start; events = log.events ++ more }

pub record LogGoesOn (log longer : History) : Type 0 where
  pub more : List Event
  pub parts : longer ≡ with_events log more

on_after : (log longer : History) (added : Option Event) → LogGoesOn (log_with log added) longer → LogGoesOn log longer
on_after log longer None h = h
on_after log longer (Some event) h = record { more = event ∷ h.more; parts = h.parts ∙ (λ i. record { start = log.start; events = append_assoc log.events (event ∷ []) h.more i }) }

-- events are added only at its end
pub log_goes_on : (settings : Settings) (earlier : History) (items : List Item) (log : History) → IsLogAfter settings earlier items log → LogGoesOn earlier log
log_goes_on settings earlier [] log h = record { more = []; parts = h ∙ (λ i. record { start = earlier.start; events = sym (append-nil earlier.events) i }) }
log_goes_on settings earlier (item ∷ items) log h = on_after earlier log h.0 (log_goes_on settings (log_with earlier h.0) items log h.2)

-- ---- no more is taken than there is

abbrev pub bit : Bool → ℕ
bit b = cond b 1 0

-- an item, and the event that it adds
pub record Kinds (item : Item) (event : Event) : Type 0 where
  pub delivery : is_delivery event ≡ is_datagram item
  pub tick_taken : is_tick_taken event ≡ is_tick item
  pub change : is_change event ≡ is_bias item

pub record DeliveryKinds (feed : ℕ) (octets : List ℕ) (event : Event) : Type 0 where
  pub kinds : Kinds (datagram feed octets) event
  pub no_time : tick_in event ≡ None

pub delivery_kinds : (settings : Settings) (log : History) (feed : ℕ) (octets : List ℕ) (contents : List Content) (event : Event) → IsDeliveryTo settings log feed contents event → DeliveryKinds feed octets event
delivery_kinds settings log feed octets contents event d = record {
  kinds = record { delivery = ap is_delivery d.event_is; tick_taken = ap is_tick_taken d.event_is; change = ap is_change d.event_is };
  no_time = ap tick_in d.event_is;
}

pub kinds_of : (settings : Settings) (log : History) (item : Item) (event : Event) → Adds settings log item (Some event) → Kinds item event
kinds_of settings log (datagram feed octets) event h = (delivery_kinds settings log feed octets h.0 event h.2).kinds
kinds_of settings log (tick time) event h = record { delivery = ap is_delivery h.1; tick_taken = ap is_tick_taken h.1; change = ap is_change h.1 }
kinds_of settings log (bias radar slot b) event h = record { delivery = ap is_delivery h.1; tick_taken = ap is_tick_taken h.1; change = ap is_change h.1 }

module _ (p : Item → Bool) (q : Event → Bool) (same : (item : Item) (event : Event) → Kinds item event → q event ≡ p item) (settings : Settings) where
  one_covered : (log : History) (item : Item) (added : Option Event) → Adds settings log item added → count_by q (log_with log added).events ≤ count_by q log.events + bit (p item)
  one_covered log item None h = omega arith
  one_covered log item (Some event) h =
      let one : bit (q event) ≡ bit (p item) = ap bit (same item event (kinds_of settings log item event h)) in
      omega (arith, one, sum_by_push (λ e. cond (q e) 1 0) log.events event)

  all_covered : (earlier : History) (items : List Item) (log : History) → IsLogAfter settings earlier items log → count_by q log.events ≤ count_by q earlier.events + count_by p items
  all_covered earlier [] log h = omega (arith, ap (λ (l : History). count_by q l.events) h)
  all_covered earlier (item ∷ items) log h = omega (arith, all_covered (log_with earlier h.0) items log h.2, one_covered earlier item h.0 h.1, sum_by-cons (λ i. cond (p i) 1 0) item items)

-- the events of a kind are no more than the items of it
pub covered : (p : Item → Bool) (q : Event → Bool) → ((item : Item) (event : Event) → Kinds item event → q event ≡ p item) → (settings : Settings) (start : ℕ) (items : List Item) (log : History) → IsReplayLog settings start items log → count_by q log.events ≤ count_by p items
covered p q same settings start items log h = omega (arith, all_covered p q same settings (empty_log start) items log h)
