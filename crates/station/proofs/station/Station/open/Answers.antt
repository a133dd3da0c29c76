use Rattle.std.proofs.Common.{rules, ◌≡◌, ◌∙◌, ◌+◌, ◌≤◌, ap, sym, subst, true≢false, List, [], ◌∷◌, map, length, take, arith}
use Rattle.std.specs.Prelude.{vec_len, vec_capacity}
use Rattle.std.specs.List.{All}
use Rattle.std.specs.Vec.Iter.{into_iter_items, into_iter_len}
use Rattle.std.proofs.lemmas.List.Elements.{All-rest}
use Rattle.turn_lock.specs.Turns.{Token, newcomer}
use Rattle.admission_log.specs.declared.events.Event.{Event}
use Rattle.station.specs.declared.shared.Base.{Base}
use Rattle.station.specs.declared.tokens.Feeder.{Feeder}
use Rattle.station.specs.Added.{AllAt, is_of_conductor}
use Rattle.station.specs.Tokens.{HasAddedNone}
use Rattle.station.proofs.Dealing.{all_newcomers, all_behind, tail_at, head_is, new_feeders, new_subscribers, all_tokens}
use Rattle.station.proofs.station.Station.open.Goals as goal

pub deal_feeders-requires-clause-newcomers : goal.deal_feeders-requires-clause-newcomers
deal_feeders-requires-clause-newcomers c = let steps : into_iter_items c.into_iter-turns.result ≡ c.in-Some.turn ∷ into_iter_items c.next.new.self = search rules in
    let are : c.in_ok-lock.turns.items ≡ c.in-Some.turn ∷ into_iter_items c.next.new.self = sym c.into_iter-turns.ensures.rest ∙ steps in
    let newcomers : All HasAddedNone (into_iter_items c.next.new.self) = All-rest HasAddedNone c.in-Some.turn (into_iter_items c.next.new.self) c.in_ok-lock.turns.items are (all_newcomers c.in_ok-lock.lock c.in_ok-lock.turns.items c.in_ok-lock.ensures.turns) in
    newcomers

pub deal_subscribers-requires-clause-enough : goal.deal_subscribers-requires-clause-enough
deal_subscribers-requires-clause-enough c = let steps : into_iter_items c.into_iter-turns.result ≡ c.in-Some.turn ∷ into_iter_items c.next.new.self = search rules in
    let are : c.in_ok-lock.turns.items ≡ c.in-Some.turn ∷ into_iter_items c.next.new.self = sym c.into_iter-turns.ensures.rest ∙ steps in
    let gone : into_iter_len c.next.new.self + 1 ≡ into_iter_len c.into_iter-turns.result = search rules in
    let whole : vec_len c.in_ok-lock.turns ≡ length c.in_ok-lock.turns.items = search rules in
    let size = ap length are in
    c.deal_feeders.ensures.left c.args.readers (omega (arith, gone, whole, size, c.into_iter-turns.ensures.len), omega (arith, gone, c.into_iter-turns.ensures.len, c.in_ok-lock.ensures.seats.1, c.from.ensures, c.from-2.ensures))

pub deal_subscribers-requires-clause-newcomers : goal.deal_subscribers-requires-clause-newcomers
deal_subscribers-requires-clause-newcomers c = let steps : into_iter_items c.into_iter-turns.result ≡ c.in-Some.turn ∷ into_iter_items c.next.new.self = search rules in
    let are : c.in_ok-lock.turns.items ≡ c.in-Some.turn ∷ into_iter_items c.next.new.self = sym c.into_iter-turns.ensures.rest ∙ steps in
    let newcomers : All HasAddedNone (into_iter_items c.next.new.self) = All-rest HasAddedNone c.in-Some.turn (into_iter_items c.next.new.self) c.in_ok-lock.turns.items are (all_newcomers c.in_ok-lock.lock c.in_ok-lock.turns.items c.in_ok-lock.ensures.turns) in
    all_behind HasAddedNone (map (λ (x : Feeder). x.turn) c.deal_feeders.new.feeders.items) (into_iter_items c.deal_feeders.new.turns) (subst (λ (l : List (Token Event Base)). All HasAddedNone l) (sym c.deal_feeders.ensures.turns) newcomers)

pub invariant_of-conductor : goal.invariant_of-conductor
invariant_of-conductor c = let steps : into_iter_items c.into_iter-turns.result ≡ c.in-Some.turn ∷ into_iter_items c.next.new.self = search rules in
    let are : c.in_ok-lock.turns.items ≡ c.in-Some.turn ∷ into_iter_items c.next.new.self = sym c.into_iter-turns.ensures.rest ∙ steps in
    let head : c.in-Some.turn ≡ newcomer c.in_ok-lock.lock 0 = head_is c.in_ok-lock.lock c.in_ok-lock.turns.items c.in-Some.turn (into_iter_items c.next.new.self) c.in_ok-lock.ensures.turns are in
    record {
      made = subst (λ (t : Token Event Base). AllAt is_of_conductor t.mine t.seen) (sym head) (λ p h. absurd (true≢false (sym h)));
      within = omega arith;
    }

pub returns-clause-feeders : goal.returns-clause-feeders
returns-clause-feeders c = let steps : into_iter_items c.into_iter-turns.result ≡ c.in-Some.turn ∷ into_iter_items c.next.new.self = search rules in
    let are : c.in_ok-lock.turns.items ≡ c.in-Some.turn ∷ into_iter_items c.next.new.self = sym c.into_iter-turns.ensures.rest ∙ steps in
    let tail = tail_at c.in_ok-lock.lock c.in_ok-lock.turns.items c.in-Some.turn (into_iter_items c.next.new.self) c.in_ok-lock.ensures.turns are in
    let fed : length c.deal_feeders.new.feeders.items ≡ c.args.feeds = search rules in
    (c.deal_feeders.ensures.count, new_feeders _ c.deal_feeders.new.feeders.items (into_iter_items c.next.new.self) (into_iter_items c.deal_feeders.new.turns) c.args.feeds c.deal_feeders.ensures.turns c.deal_feeders.ensures.feeds fed tail)

pub returns-clause-conductor : goal.returns-clause-conductor
returns-clause-conductor c = let steps : into_iter_items c.into_iter-turns.result ≡ c.in-Some.turn ∷ into_iter_items c.next.new.self = search rules in
    let are : c.in_ok-lock.turns.items ≡ c.in-Some.turn ∷ into_iter_items c.next.new.self = sym c.into_iter-turns.ensures.rest ∙ steps in
    let head : c.in-Some.turn ≡ newcomer c.in_ok-lock.lock 0 = head_is c.in_ok-lock.lock c.in_ok-lock.turns.items c.in-Some.turn (into_iter_items c.next.new.self) c.in_ok-lock.ensures.turns are in
    let roomy : (c.in_ok-room.room.items ≡ []) × (1 + c.args.feeds + c.args.readers ≤ vec_capacity c.in_ok-room.room) = search rules in
    record { turn = head; gathered = ap (λ (t : Token Event Base). take 0 t.seen) head; roomy = roomy }

pub returns-clause-subscribers : goal.returns-clause-subscribers
returns-clause-subscribers c = let steps : into_iter_items c.into_iter-turns.result ≡ c.in-Some.turn ∷ into_iter_items c.next.new.self = search rules in
    let are : c.in_ok-lock.turns.items ≡ c.in-Some.turn ∷ into_iter_items c.next.new.self = sym c.into_iter-turns.ensures.rest ∙ steps in
    let tail = tail_at c.in_ok-lock.lock c.in_ok-lock.turns.items c.in-Some.turn (into_iter_items c.next.new.self) c.in_ok-lock.ensures.turns are in
    let fed : length c.deal_feeders.new.feeders.items ≡ c.args.feeds = search rules in
    let read : length c.deal_subscribers.new.subscribers.items ≡ c.args.readers = search rules in (
      c.deal_subscribers.ensures.count,
      new_subscribers _ c.deal_feeders.new.feeders.items c.deal_subscribers.new.subscribers.items (into_iter_items c.next.new.self) (into_iter_items c.deal_feeders.new.turns) (into_iter_items c.deal_subscribers.new.turns) c.args.readers
          c.deal_feeders.ensures.turns fed c.deal_subscribers.ensures.turns c.deal_subscribers.ensures.readers read c.deal_subscribers.ensures.numbers tail,
    )

pub returns-clause-all : goal.returns-clause-all
returns-clause-all c = let steps : into_iter_items c.into_iter-turns.result ≡ c.in-Some.turn ∷ into_iter_items c.next.new.self = search rules in
    let are : c.in_ok-lock.turns.items ≡ c.in-Some.turn ∷ into_iter_items c.next.new.self = sym c.into_iter-turns.ensures.rest ∙ steps in
    let head : c.in-Some.turn ≡ newcomer c.in_ok-lock.lock 0 = head_is c.in_ok-lock.lock c.in_ok-lock.turns.items c.in-Some.turn (into_iter_items c.next.new.self) c.in_ok-lock.ensures.turns are in
    let tail = tail_at c.in_ok-lock.lock c.in_ok-lock.turns.items c.in-Some.turn (into_iter_items c.next.new.self) c.in_ok-lock.ensures.turns are in
    let fed : length c.deal_feeders.new.feeders.items ≡ c.args.feeds = search rules in
    let read : length c.deal_subscribers.new.subscribers.items ≡ c.args.readers = search rules in
    let roomy : (c.in_ok-room.room.items ≡ []) × (1 + c.args.feeds + c.args.readers ≤ vec_capacity c.in_ok-room.room) = search rules in
    all_tokens _ c.deal_feeders.new.feeders.items _ c.deal_subscribers.new.subscribers.items
    (new_feeders _ c.deal_feeders.new.feeders.items (into_iter_items c.next.new.self) (into_iter_items c.deal_feeders.new.turns) c.args.feeds c.deal_feeders.ensures.turns c.deal_feeders.ensures.feeds fed tail) fed
    record { turn = head; gathered = ap (λ (t : Token Event Base). take 0 t.seen) head; roomy = roomy }
    (new_subscribers _ c.deal_feeders.new.feeders.items c.deal_subscribers.new.subscribers.items (into_iter_items c.next.new.self) (into_iter_items c.deal_feeders.new.turns) (into_iter_items c.deal_subscribers.new.turns) c.args.readers
    c.deal_feeders.ensures.turns fed c.deal_subscribers.ensures.turns c.deal_subscribers.ensures.readers read c.deal_subscribers.ensures.numbers tail) read
