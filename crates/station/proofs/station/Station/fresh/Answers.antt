use Rattle.std.proofs.Common.{◌≤◌, sym, subst}
use Rattle.station.proofs.Counting.{counted}
use Rattle.station.proofs.station.Station.fresh.Goals as goal

pub returns-clause-seen : goal.returns-clause-seen
returns-clause-seen c = subst (λ n. n ≤ c.fresh.result) (sym (counted c.args.by.now.turn.seen)) c.fresh.ensures.seen
