use Rattle.std.proofs.Common.{◌<◌, ◌≤◌, arith, ap, ◌∙◌}
use mathlib.Core.List.{reverse}
use Rattle.turn_lock.specs.Turns.{token_of}
use Rattle.turn_lock.proofs.Dealing.{token, more, in_order, all_dealt}
use Rattle.turn_lock.proofs.lock.seats.deal.Goals as goal

pub split-given-requires-clause-more : goal.split-given-requires-clause-more
split-given-requires-clause-more g c = let l : 1 < c.loop-left.left = omega arith in more _ _ _ _ _ _ c.loop-left.invariant.dealt l

pub returns-clause-each : goal.returns-clause-each
returns-clause-each g c = let l : c.loop-left.left ≤ 1 = omega arith in let v = c.loop-left.invariant in
    let all = all_dealt c.args.seat.table_id c.args.seat.me.0.base c.args.seats c.loop-left.left c.loop-left.turns.items c.loop-left.seat.me v.dealt l _ (ap (λ z. token_of z c.loop-left.seat.me.0) v.same) in
    in_order (token c.args.seat.table_id c.args.seat.me.0.base) c.args.seats c.reverse.new.self.items (c.reverse.ensures.items ∙ ap reverse (c.push_reserved-2.ensures.items ∙ all))
