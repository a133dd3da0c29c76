use Rattle.std.proofs.Common.{rules, ◌≡◌, ◌<◌, ◌≤◌, ◌++◌, ◌∷◌, [], ℕ, refl, length, arith}
use Rattle.std.specs.Prelude.{Err, IfOk, OnOk, OnErr}
use Rattle.admission_log.specs.declared.events.Event.TheVariants as events
use Rattle.admission_log.specs.declared.events.TickError.TheVariants as errors
use Rattle.admission_log.specs.Histories.{appended, last_of}
use Rattle.admission_log.specs.Legality.{IsLegal}
use Rattle.station.specs.Added.{is_of_conductor}
use Rattle.station.specs.Shared.{events_of}
use Rattle.station.proofs.Turning.{made_after, longer, begins_after, ticked, found_there, too_old}
use Rattle.station.proofs.station.Station.tick.Goals as goal

pub invariant_of-by-clause-made : goal.invariant_of-by-clause-made
invariant_of-by-clause-made g c = let (x, y, f, ran, is) = c.with_turn.ensures.turn in
    let grown : OnOk c.with_turn.result (events_of y ≡ events_of x ++ events.Tick c.args.time ∷ []) = search rules in
    let same : OnErr c.with_turn.result (events_of y ≡ events_of x) = search rules in
    made_after is_of_conductor c.args.by.now.turn c.with_turn.new.turn (events_of x) (events_of y) c.args.by.now.made f.begins is c.with_turn.result (events.Tick c.args.time) grown same refl

pub invariant_of-by-clause-within : goal.invariant_of-by-clause-within
invariant_of-by-clause-within g c = let (x, y, f, ran, is) = c.with_turn.ensures.turn in
    let grown : OnOk c.with_turn.result (events_of y ≡ events_of x ++ events.Tick c.args.time ∷ []) = search rules in
    let same : OnErr c.with_turn.result (events_of y ≡ events_of x) = search rules in
    let more = longer c.args.by.now.turn c.with_turn.new.turn (events_of x) (events_of y) f.begins (begins_after c.with_turn.result (events_of x) (events_of y) (events.Tick c.args.time) grown same) is in omega (arith, more, c.args.by.now.within)

pub returns-clause-ticks : goal.returns-clause-ticks
returns-clause-ticks g c = let (x, y, f, ran, is) = c.with_turn.ensures.turn in
    let legal : IsLegal x.settings x.log = search rules in
    let at : IfOk c.with_turn.result (λ (index : ℕ). index ≡ length (events_of x)) = search rules in
    let grown : OnOk c.with_turn.result (y.log ≡ appended x.log (events.Tick c.args.time)) = search rules in
    let later : OnOk c.with_turn.result (last_of x.log < c.args.time) = search rules in
    ticked c.args.self.now c.args.by.now x y f c.requires.own.number legal _ c.with_turn.result c.args.time is at grown later

pub returns-clause-old : goal.returns-clause-old
returns-clause-old g c = let (x, y, f, ran, is) = c.with_turn.ensures.turn in
    let legal : IsLegal x.settings x.log = search rules in
    let old : (last : ℕ) → c.with_turn.result ≡ Err (errors.Old last) → (last ≡ last_of x.log) × (c.args.time ≤ last_of x.log) = search rules in
    let err : OnErr c.with_turn.result (y.log ≡ x.log) = search rules in
    too_old c.args.self.now c.args.by.now x y f c.requires.own.number legal _ c.with_turn.result c.args.time is old err

pub returns-clause-found : goal.returns-clause-found
returns-clause-found g c = let (x, y, f, ran, is) = c.with_turn.ensures.turn in
    let legal : IsLegal x.settings x.log = search rules in
    let err : OnErr c.with_turn.result (y.log ≡ x.log) = search rules in
    found_there c.args.self.now c.args.by.now x y f c.requires.own.number legal c.with_turn.new.turn c.with_turn.result is err
