use Rattle.turn_lock.proofs.Seen.{finds, adds, has_number, rests_again, turns}
use Rattle.turn_lock.proofs.lock.TurnLock.with_turn.Goals as goal

pub take_turn-requires-clause-rests : goal.take_turn-requires-clause-rests
take_turn-requires-clause-rests g c = let r = c.turn.invariant in record { empty = r.empty; idle = r.idle; numbered = has_number c.turn.inside.seat.me r }

pub take_turn-requires-clause-may : goal.take_turn-requires-clause-may
take_turn-requires-clause-may g c = λ x f. c.requires.may x (finds c.turn.inside.seat.table_id c.turn.inside.seat.me c.args.turn.now g.V.Logged.events g.V.Logged.is_publish g.V.Logged.base c.args.self.now x c.turn.invariant c.turn.view_is c.requires.own f)

pub take_turn-requires-clause-adds : goal.take_turn-requires-clause-adds
take_turn-requires-clause-adds g c = λ x r y f p. let k = c.requires.keeps x r y (finds c.turn.inside.seat.table_id c.turn.inside.seat.me c.args.turn.now g.V.Logged.events g.V.Logged.is_publish g.V.Logged.base c.args.self.now x c.turn.invariant c.turn.view_is c.requires.own f) p in
    adds c.turn.inside.seat.table_id c.turn.inside.seat.me c.args.turn.now g.V.Logged.is_publish _ _ c.turn.invariant c.turn.view_is k.adds

pub take_turn-requires-clause-base : goal.take_turn-requires-clause-base
take_turn-requires-clause-base g c = λ x r y f p. (c.requires.keeps x r y (finds c.turn.inside.seat.table_id c.turn.inside.seat.me c.args.turn.now g.V.Logged.events g.V.Logged.is_publish g.V.Logged.base c.args.self.now x c.turn.invariant c.turn.view_is c.requires.own f) p).rooted

pub invariant_of-turn : goal.invariant_of-turn
invariant_of-turn g c = let t = c.take_turn.ensures.turn in rests_again c.turn.inside.seat.me (g.V.Logged.events t.0) (g.V.Logged.events t.1) c.take_turn.new.seat.me c.turn.invariant t.4

pub returns : goal.returns
returns g c = let t = c.take_turn.ensures.turn in record {
  turn = (
    t.0,
    t.1,
    finds c.turn.inside.seat.table_id c.turn.inside.seat.me c.args.turn.now g.V.Logged.events g.V.Logged.is_publish g.V.Logged.base c.args.self.now t.0 c.turn.invariant c.turn.view_is c.requires.own t.2,
    t.3,
    turns c.turn.inside.seat.table_id c.turn.inside.seat.me c.args.turn.now (g.V.Logged.events t.0) (g.V.Logged.events t.1) c.take_turn.new.seat.me c.take_turn.new.seat.table_id c.turn.view_is c.take_turn.ensures.own.0 t.4,
  );
}
