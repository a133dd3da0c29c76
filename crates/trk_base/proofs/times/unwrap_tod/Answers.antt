use Rattle.std.proofs.Common.{inl, inr, arith, ◌%◌, ◌+◌, ◌/◌, ◌-◌}
use Rattle.std.proofs.lemmas.Bool.{cases_lt}
use Rattle.trk_base.proofs.times.unwrap_tod.Goals as goal

pub returns-clause-nearest : goal.returns-clause-nearest
returns-clause-nearest c =
    let from = c.args.last + 5529600 in
    let x = c.args.tod + (11059200 - from % 11059200) in
    elim (cases_lt (from + x % 11059200) 11059200) [
      | inl lt ↦ inr (omega arith, omega arith)
      | inr ge ↦ inl (from / 11059200 + 1 - x / 11059200 - 1, omega arith, omega arith, omega arith)
    ]
