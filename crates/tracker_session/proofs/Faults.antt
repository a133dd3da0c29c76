-- The datagrams that aren't in a log are those with a fault.
use Rattle.std.proofs.Common.{◌≡◌, ap, refl, subst, inl, inr, ℕ, ◌+◌, ◌-◌, List, [], ◌∷◌, arith}
use Rattle.std.specs.Prelude.{Option, Some, None, count_by, cond}
use Rattle.std.proofs.lemmas.List.Sums.{sum_by-cons, sum_by_push}
use Rattle.plot_geometry.specs.declared.biases.Bias.{Bias}
use Rattle.recording.specs.Items.{Item, datagram, tick, bias}
use Rattle.admission_log.specs.declared.settings.Settings.{Settings}
use Rattle.admission_log.specs.declared.events.Event.{Event}
use Rattle.admission_log.specs.Histories.{History}
use Rattle.tracker_session.specs.Counting.{is_datagram, is_delivery}
use Rattle.tracker_session.specs.Faulty.{HaveFaults}
use Rattle.tracker_session.specs.Replay.{Adds, IsLogAfter, IsReplayLog, log_with, empty_log}
use Rattle.tracker_session.proofs.Logs.{bit, kinds_of}

record FaultsAfter (earlier log : History) (items : List Item) : Type 0 where
  number : ℕ
  are : HaveFaults items number
  sum : count_by is_delivery log.events + number ≡ count_by is_delivery earlier.events + count_by is_datagram items

datagrams_cons : (item : Item) (items : List Item) → count_by is_datagram (item ∷ items) ≡ bit (is_datagram item) + count_by is_datagram items
datagrams_cons item items = sum_by-cons (λ i. cond (is_datagram i) 1 0) item items

deliveries_push : (log : History) (event : Event) → count_by is_delivery (log_with log (Some event)).events ≡ count_by is_delivery log.events + bit (is_delivery event)
deliveries_push log event = sum_by_push (λ e. cond (is_delivery e) 1 0) log.events event

after_datagram : (settings : Settings) (earlier log : History) (feed : ℕ) (octets : List ℕ) (items : List Item) (added : Option Event) → Adds settings earlier (datagram feed octets) added → FaultsAfter (log_with earlier added) log items → FaultsAfter earlier log (datagram feed octets ∷ items)
after_datagram settings earlier log feed octets items (Some event) h o =
    let one : bit (is_delivery event) ≡ 1 = ap bit (kinds_of settings earlier (datagram feed octets) event h).delivery in
    record { number = o.number; are = inl (h.0, h.1, o.are); sum = omega (arith, o.sum, one, deliveries_push earlier event, datagrams_cons (datagram feed octets) items) }
after_datagram settings earlier log feed octets items None h o =
    record { number = o.number + 1; are = inr (h, o.number, refl, o.are); sum = omega (arith, o.sum, datagrams_cons (datagram feed octets) items) }

after_tick : (settings : Settings) (earlier log : History) (time : ℕ) (items : List Item) (added : Option Event) → Adds settings earlier (tick time) added → FaultsAfter (log_with earlier added) log items → FaultsAfter earlier log (tick time ∷ items)
after_tick settings earlier log time items (Some event) h o =
    let none : bit (is_delivery event) ≡ 0 = ap (λ e. bit (is_delivery e)) h.1 in
    record { number = o.number; are = o.are; sum = omega (arith, o.sum, none, deliveries_push earlier event, datagrams_cons (tick time) items) }
after_tick settings earlier log time items None h o =
    record { number = o.number; are = o.are; sum = omega (arith, o.sum, datagrams_cons (tick time) items) }

after_bias : (settings : Settings) (earlier log : History) (radar slot : ℕ) (b : Bias) (items : List Item) (added : Option Event) → Adds settings earlier (bias radar slot b) added → FaultsAfter (log_with earlier added) log items → FaultsAfter earlier log (bias radar slot b ∷ items)
after_bias settings earlier log radar slot b items (Some event) h o =
    let none : bit (is_delivery event) ≡ 0 = ap (λ e. bit (is_delivery e)) h.1 in
    record { number = o.number; are = o.are; sum = omega (arith, o.sum, none, deliveries_push earlier event, datagrams_cons (bias radar slot b) items) }
after_bias settings earlier log radar slot b items None h o =
    record { number = o.number; are = o.are; sum = omega (arith, o.sum, datagrams_cons (bias radar slot b) items) }

faults_after : (settings : Settings) (earlier : History) (items : List Item) (log : History) → IsLogAfter settings earlier items log → FaultsAfter earlier log items
faults_after settings earlier [] log h = record { number = 0; are = refl; sum = omega (arith, ap (λ (l : History). count_by is_delivery l.events) h) }
faults_after settings earlier (datagram feed octets ∷ items) log h = after_datagram settings earlier log feed octets items h.0 h.1 (faults_after settings (log_with earlier h.0) items log h.2)
faults_after settings earlier (tick time ∷ items) log h = after_tick settings earlier log time items h.0 h.1 (faults_after settings (log_with earlier h.0) items log h.2)
faults_after settings earlier (bias radar slot b ∷ items) log h = after_bias settings earlier log radar slot b items h.0 h.1 (faults_after settings (log_with earlier h.0) items log h.2)

pub malformed_have_faults : (settings : Settings) (start : ℕ) (items : List Item) (log : History) → IsReplayLog settings start items log → HaveFaults items (count_by is_datagram items - count_by is_delivery log.events)
malformed_have_faults settings start items log h =
    let f = faults_after settings (empty_log start) items log h in
    let number : f.number ≡ count_by is_datagram items - count_by is_delivery log.events = omega (arith, f.sum) in
    subst (λ (n : ℕ). HaveFaults items n) number f.are
