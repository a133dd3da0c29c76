-- What is counted of the items of a replay and of their log.
use Rattle.std.specs.Prelude.{◌^◌, ◌+◌, ◌-◌, ℕ, zero, suc, min, Bool, true, false, List, count_by}
use Rattle.std.specs.List.{flat_map, sum_by}
use Rattle.recording.specs.Items.{Item, datagram, tick, bias}
use Rattle.admission_log.specs.declared.events.Event.{Event}
use Rattle.admission_log.specs.declared.events.Event.TheVariants.{Deliver, Tick, Bias}
use Rattle.admission_log.specs.declared.events.Outcome.{Outcome}
use Rattle.admission_log.specs.declared.events.Outcome.TheVariants as outcomes
use Rattle.admission_log.specs.Histories.{History}
use Rattle.admission_log.specs.Deliveries.{outcomes_in}
use Rattle.tracker_session.specs.declared.counts.Counts.{Counts}

-- ---- items

abbrev pub is_datagram : Item → Bool
is_datagram (datagram feed octets) = true
is_datagram _ = false

abbrev pub is_tick : Item → Bool
is_tick (tick time) = true
is_tick _ = false

abbrev pub is_bias : Item → Bool
is_bias (bias radar slot b) = true
is_bias _ = false

-- ---- events

abbrev pub is_delivery : Event → Bool
is_delivery (Deliver feed admitted told other) = true
is_delivery _ = false

abbrev pub is_tick_taken : Event → Bool
is_tick_taken (Tick time) = true
is_tick_taken _ = false

-- a change of a radar's biases
abbrev pub is_change : Event → Bool
is_change (Bias radar slot b) = true
is_change _ = false

-- the blocks that an event passed over
abbrev pub others_in : Event → ℕ
others_in (Deliver feed admitted told other) = other
others_in _ = 0

-- ---- what was told of messages

abbrev pub is_admitted : Outcome → Bool
is_admitted (outcomes.Admitted arrival) = true
is_admitted _ = false

abbrev pub is_unknown : Outcome → Bool
is_unknown outcomes.UnknownRadar = true
is_unknown _ = false

abbrev pub is_early : Outcome → Bool
is_early (outcomes.BeforeHorizon slot low) = true
is_early _ = false

abbrev pub is_ahead : Outcome → Bool
is_ahead (outcomes.Ahead time high) = true
is_ahead _ = false

abbrev pub is_not_plot : Outcome → Bool
is_not_plot (outcomes.NotPlot why) = true
is_not_plot _ = false

-- of all messages, in order
abbrev pub told_of : History → List Outcome
told_of log = flat_map outcomes_in log.events

-- ---- the counts

-- a count stands still at 2^64 - 1
abbrev pub counted : ℕ → ℕ
counted n = min n (2 ^ 64 - 1)

-- .. that rises by so many
abbrev pub raised : ℕ → ℕ → ℕ
raised n zero = n
raised n (suc more) = counted (n + suc more)

-- how many items of a kind the events of a kind are fewer than
abbrev pub missed : (Item → Bool) → (Event → Bool) → List Item → History → ℕ
missed item event items log = counted (count_by item items - count_by event log.events)

-- What became of items whose log is this: the ticks that were taken, the changes of biases, what was told of the messages, and the blocks that were passed over are those of the log; malformed are the datagrams that aren't in it, old the ticks that aren't, and refused the changes of biases that aren't.
abbrev pub counts_of : Bool → List Item → History → Counts
counts_of tells_biases items log = record {
  editions = counted (count_by is_tick_taken log.events);
  admitted = counted (count_by is_admitted (told_of log));
  unknown = counted (count_by is_unknown (told_of log));
  early = counted (count_by is_early (told_of log));
  ahead = counted (count_by is_ahead (told_of log));
  not_plots = counted (count_by is_not_plot (told_of log));
  malformed = missed is_datagram is_delivery items log;
  other = counted (sum_by others_in log.events);
  old = missed is_tick is_tick_taken items log;
  tells_biases = tells_biases;
  biases = counted (count_by is_change log.events);
  refused = missed is_bias is_change items log;
}

-- those of no item
abbrev pub no_counts : Bool → Counts
no_counts tells_biases = record { editions = 0; admitted = 0; unknown = 0; early = 0; ahead = 0; not_plots = 0; malformed = 0; other = 0; old = 0; tells_biases = tells_biases; biases = 0; refused = 0 }

-- with what was told of more messages, kind by kind
abbrev pub with_told : List Outcome → Counts → Counts
with_told told c = record c {
  admitted = raised c.admitted (count_by is_admitted told);
  unknown = raised c.unknown (count_by is_unknown told);
  early = raised c.early (count_by is_early told);
  ahead = raised c.ahead (count_by is_ahead told);
  not_plots = raised c.not_plots (count_by is_not_plot told);
}
