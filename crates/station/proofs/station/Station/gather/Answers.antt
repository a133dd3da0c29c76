use Rattle.std.proofs.Common.{rules, ◌≡◌, ◌∙◌, ◌≤◌, ◌-◌, ap, sym, length, drop, append-nil, arith, []}
use Rattle.trk_base.specs.Limits.{count_limit}
use Rattle.admission_log.specs.Legality.{IsLegal}
use Rattle.station.specs.Added.{is_of_conductor}
use Rattle.station.specs.Newest.{Shared}
use Rattle.station.specs.Shared.{events_of}
use Rattle.station.proofs.Turning.{made_seen, longer, gathered_more, there, gathers}
use Rattle.station.proofs.station.Station.gather.Goals as goal

pub invariant_of-by : goal.invariant_of-by
invariant_of-by g c = let (x, y, f, ran, is) = c.with_turn.ensures.turn in
    let same : y ≡ x = search rules in
    let more = longer c.args.by.now.turn c.with_turn.new.turn (events_of x) (events_of y) f.begins ([], ap events_of same ∙ sym (append-nil (events_of x))) is in record {
      made = made_seen is_of_conductor c.args.by.now.turn c.with_turn.new.turn (events_of x) (events_of y) c.args.by.now.made f.begins is (ap events_of same);
      within = omega (arith, more, c.args.by.now.within);
    }

pub overflow_add-by : goal.overflow_add-by
overflow_add-by g c = let (x, y, f, ran, is) = c.with_turn.ensures.turn in
    let few : length (events_of x) ≤ count_limit = search rules in
    let are : c.in_ok-events.events.items ≡ drop c.args.by.now.gathered (events_of x) = search rules in
    let sum = gathered_more c.args.by.now x f.begins c.in_ok-events.events.items are in
    omega (arith, sum, few, c.len.ensures)

pub invariant_of-by-2 : goal.invariant_of-by-2
invariant_of-by-2 g c = let (x, y, f, ran, is) = c.with_turn.ensures.turn in
    let same : y ≡ x = search rules in
    let are : c.in_ok-events.events.items ≡ drop c.args.by.now.gathered (events_of x) = search rules in
    let sum = gathered_more c.args.by.now x f.begins c.in_ok-events.events.items are in
    let seen = ap (λ t. length t.seen) is ∙ ap (λ (z : Shared). length (events_of z)) same in record {
      made = made_seen is_of_conductor c.args.by.now.turn c.with_turn.new.turn (events_of x) (events_of y) c.args.by.now.made f.begins is (ap events_of same);
      within = omega (arith, sum, seen, c.len.ensures);
    }

pub returns-clause-gathers : goal.returns-clause-gathers
returns-clause-gathers g c = let (x, y, f, ran, is) = c.with_turn.ensures.turn in
    let same : y ≡ x = search rules in
    let legal : IsLegal x.settings x.log = search rules in
    let are : c.in_ok-events.events.items ≡ drop c.args.by.now.gathered (events_of x) = search rules in
    let sum = gathered_more c.args.by.now x f.begins c.in_ok-events.events.items are in
    gathers c.args.self.now c.args.by.now x y f c.requires.own.number legal _ c.in_ok-events.events.items is same are (omega (arith, sum, c.len.ensures))

pub returns-in_err-events-clause-found : goal.returns-in_err-events-clause-found
returns-in_err-events-clause-found g c = let (x, y, f, ran, is) = c.with_turn.ensures.turn in
    let same : y ≡ x = search rules in
    let legal : IsLegal x.settings x.log = search rules in
    there c.args.self.now c.args.by.now x y f c.requires.own.number legal c.with_turn.new.turn is (ap events_of same)

pub returns-clause-found : goal.returns-clause-found
returns-clause-found g c = let (x, y, f, ran, is) = c.with_turn.ensures.turn in
    let same : y ≡ x = search rules in
    let legal : IsLegal x.settings x.log = search rules in
    there c.args.self.now c.args.by.now x y f c.requires.own.number legal c.with_turn.new.turn is (ap events_of same)
