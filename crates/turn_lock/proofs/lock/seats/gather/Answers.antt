use Rattle.std.proofs.Common.{rules, ◌≡◌, Some}
use Rattle.std.proofs.lemmas.List.Elements.{All-pop}
use Rattle.turn_lock.proofs.Gathering.{gathered_more}
use Rattle.turn_lock.proofs.lock.seats.gather.Goals as goal

pub loop-turn-preserved : goal.loop-turn-preserved
loop-turn-preserved g c = let v = c.loop-turn.invariant in record {
  same = search rules;
  own = (All-pop (λ t. t.table ≡ c.args.lock_table.now.table.shared.table_id) _ _ (Some c.in-Some-pop.turn) c.in-Some-pop.ensures.items v.own).0;
  gathering = gathered_more c.turn.inside.seat.table_id c.loop-turn.turns.items c.pop-in-loop-turn.new.self.items c.args.turns.items c.in-Some-pop.turn c.loop-turn.seat.me c.turn.inside.seat.me c.join.new.seat.me v.gathering c.in-Some-pop.ensures.items c.turn.view_is c.turn.invariant c.join.ensures.both;
}
