-- What a log keeps: the summary of its events, and these.
use Rattle.std.specs.Prelude.{◌≡◌}
use Rattle.admission_log.specs.declared.log.Log.TheInside.{Inside}
use Rattle.admission_log.specs.Histories.{History}
use Rattle.admission_log.specs.Summaries.{summary_of}

abbrev pub history : Inside → History
history log = record { start = log.summary.start; events = log.events }

abbrev pub IsLog : Inside → Type 0
IsLog log = log.summary ≡ summary_of (history log)
