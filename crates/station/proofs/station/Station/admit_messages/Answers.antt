use Rattle.std.proofs.Common.{rules, ◌≡◌}
use Rattle.std.specs.Prelude.{IfOk, OnErr}
use Rattle.admission_log.specs.Deliveries.{DeliversOf}
use Rattle.station.proofs.Turning.{made_fed}
use Rattle.station.proofs.station.Station.admit_messages.Goals as goal

pub invariant_of-by : goal.invariant_of-by
invariant_of-by g c = let (x, y, f, ran, is) = c.with_turn.ensures.turn in
    let delivered : IfOk c.with_turn.result (λ v. DeliversOf x.settings c.args.by.now.feed c.args.messages.now x.log y.log v.outcomes) = search rules in
    let err : OnErr c.with_turn.result (y.log ≡ x.log) = search rules in
    record { made = made_fed c.with_turn.result c.args.by.now.turn c.with_turn.new.turn x y c.args.by.now.feed c.args.messages.now c.args.by.now.made f.begins is delivered err }
