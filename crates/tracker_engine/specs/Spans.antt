-- Which slots of a log are settled after its first events, and which are to be folded at its last tick.
use Rattle.std.specs.Prelude.{◌<◌, ◌≤◌, ◌⊎◌, ◌↔◌, ℕ, List, drop, Contains}
use Rattle.std.specs.List.{AllByRecursion, flat_map, enumerate_from}
use Rattle.std.specs.List.Sorted.{IsStrictlyIncreasing}
use Rattle.trk_base.specs.Numbers.{slot_of}
use Rattle.admission_log.specs.declared.entries.Entry.{Entry}
use Rattle.admission_log.specs.Entries.{entries_in, entries_of, slot_in}
use Rattle.admission_log.specs.Histories.{History, first, last_of}
use Rattle.tracker_fold.specs.Folds.{IsFilled}

-- the entries of the events from an index on
abbrev pub entries_from : ℕ → History → List Entry
entries_from index log = flat_map (λ at. entries_in at.0 at.1) (drop index (enumerate_from 0 log.events))

-- Slot n is settled after the first s events: it was over then, one of their entries fills it, and each entry of a later event is of a slot above it.
pub record IsSettled (log : History) (s n : ℕ) : Type 0 where
  pub over : n < slot_of (last_of (first s log))
  pub filled : IsFilled (entries_of (first s log)) n
  pub later : AllByRecursion (λ e. n < slot_in e) (entries_from s log)

-- These are the slots from low on that are settled after the first s events, in rising order.
pub record AreSettled (log : History) (s low : ℕ) (slots : List ℕ) : Type 0 where
  pub rising : IsStrictlyIncreasing slots
  pub all : (n : ℕ) → Contains slots n ↔ ((low ≤ n) × IsSettled log s n)

-- A slot opens the entry span: it is over at the last tick and filled, and it wasn't over after the first s events, or an entry of a later event fills it.
pub record OpensSpan (log : History) (s n : ℕ) : Type 0 where
  pub over : n < slot_of (last_of log)
  pub filled : IsFilled (entries_of log) n
  pub new : (slot_of (last_of (first s log)) ≤ n) ⊎ IsFilled (entries_from s log) n

-- Slot n is of the entry span: it is over and filled, and one that opens the span isn't above it.
pub record IsInSpan (log : History) (s n : ℕ) : Type 0 where
  pub over : n < slot_of (last_of log)
  pub filled : IsFilled (entries_of log) n
  pub opening : ℕ
  pub opens : OpensSpan log s opening
  pub from : opening ≤ n

-- These are the slots of the entry span, in rising order.
pub record AreSpan (log : History) (s : ℕ) (slots : List ℕ) : Type 0 where
  pub rising : IsStrictlyIncreasing slots
  pub all : (n : ℕ) → Contains slots n ↔ IsInSpan log s n
