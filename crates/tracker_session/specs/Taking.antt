-- What taking an item does to a replay: what it adds to the log, what is counted, and whether it gives an edition.
use Rattle.std.specs.Prelude.{◌≡◌, ℕ, Bool, false, List, [], ◌∷◌, ◌++◌, Option, Some, None}
use Rattle.std.specs.Option.{option_to_list}
use Rattle.recording.specs.Items.{Item}
use Rattle.admission_log.specs.declared.settings.Settings.{Settings}
use Rattle.admission_log.specs.declared.events.Event.{Event}
use Rattle.admission_log.specs.Histories.{History}
use Rattle.admission_log.specs.Legality.{IsLegal}
use Rattle.admission_log.specs.Summaries.{summary_of}
use Rattle.tracker_session.specs.declared.counts.Counts.{Counts}
use Rattle.tracker_session.specs.declared.taking.Run.{Run}
use Rattle.tracker_session.specs.Counting.{counts_of, is_tick_taken}
use Rattle.tracker_session.specs.Replay.{Adds, IsReplayLog, log_with}

-- ---- a replay so far

pub record Progress : Type 0 where
  pub log : History
  pub counts : Counts

-- It is that of these items from the start on.
pub record StandsFor (progress : Progress) (settings : Settings) (tells : Bool) (start : ℕ) (items : List Item) : Type 0 where
  pub log : IsReplayLog settings start items progress.log
  pub counts : progress.counts ≡ counts_of tells items progress.log

-- The item was taken so: the log and the counts have it.
pub record HasTaken (settings : Settings) (item : Item) (added : Option Event) (old new : Progress) : Type 0 where
  pub adds : Adds settings old.log item added
  pub log : new.log ≡ log_with old.log added
  pub counts : (tells : Bool) (start : ℕ) (items : List Item) → IsReplayLog settings start items old.log → old.counts ≡ counts_of tells items old.log → new.counts ≡ counts_of tells (items ++ item ∷ []) new.log

-- what is added gives an edition where it is a tick
abbrev pub shows : Option Event → Bool
shows (Some event) = is_tick_taken event
shows None = false

-- The item was taken, and a tick was so, or none.
pub record Takes (settings : Settings) (item : Item) (shown : Bool) (old new : Progress) : Type 0 where
  pub added : Option Event
  pub has : HasTaken settings item added old new
  pub shown_is : shows added ≡ shown

-- ---- what is kept of it

-- The run keeps the summary of the log, and the counts.
pub record Keeps (run : Run) (progress : Progress) : Type 0 where
  pub log : run.log ≡ summary_of progress.log
  pub counts : run.counts ≡ progress.counts

-- The item was taken after these, and the run that kept the old keeps the new, with what was added behind its newest events.
pub record Moves (settings : Settings) (item : Item) (shown : Bool) (before : Progress) (old new : Run) : Type 0 where
  pub after : Progress
  pub keeps : Keeps new after
  pub takes : Takes settings item shown before after
  pub newest : new.newest.items ≡ old.newest.items ++ option_to_list takes.added
  pub legal : IsLegal settings before.log → IsLegal settings after.log
