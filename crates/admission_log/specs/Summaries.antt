-- What decides which events a log takes next, without the events before.
use Rattle.std.specs.Prelude.{ℕ, ◌<◌, ◌≤◌, ◌^◌, length}
use Rattle.trk_base.specs.Limits.{count_limit}
use Rattle.admission_log.specs.Histories.{History, last_of, next_of, published_of, cut_of}

pub record Summary : Type 0 where
  pub start : ℕ
  pub last : ℕ
  pub next : ℕ
  pub published : ℕ
  pub cut : ℕ
  -- how many events there are
  pub count : ℕ

-- that of a log
abbrev pub summary_of : History → Summary
summary_of log = record { start = log.start; last = last_of log; next = next_of log; published = published_of log; cut = cut_of log; count = length log.events }

-- times are below 2^40, and whatever is counted from 0 on is below the limit of counts
pub record IsWithinLimits (s : Summary) : Type 0 where
  pub in_time : s.last < 2 ^ 40
  pub few_plots : s.next ≤ count_limit
  pub few_editions : s.published < count_limit
  pub few_events : s.count ≤ count_limit
  pub cut_within : s.cut ≤ s.count
