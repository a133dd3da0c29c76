use Rattle.std.proofs.Common.{rules, ◌≡◌, ◌≤◌, ◌+◌, ◌++◌, ◌∷◌, [], ℕ, refl, length, arith}
use Rattle.std.specs.Prelude.{IfOk, OnOk, OnErr}
use Rattle.std.specs.Arc.{arc_value}
use Rattle.admission_log.specs.declared.events.Event.TheVariants as events
use Rattle.admission_log.specs.Histories.{appended, first, publications_of, published_of, cut_of}
use Rattle.admission_log.specs.Legality.{IsLegal}
use Rattle.edition_form.specs.Editions.{IsEdition}
use Rattle.station.specs.Added.{is_of_conductor}
use Rattle.station.specs.Newest.{last_cut}
use Rattle.station.specs.Shared.{events_of}
use Rattle.station.proofs.Turning.{made_after, longer, begins_after, publishable, published, found_there}
use Rattle.station.proofs.station.Station.publish.Goals as goal

pub with_turn-requires-clause-may : goal.with_turn-requires-clause-may
with_turn-requires-clause-may g c = λ x f. let may = publishable c.args.self.now c.args.by.now x f c.requires.own.number (arc_value c.args.edition) c.requires.edition in
    let no_less : cut_of x.log ≤ (arc_value c.args.edition).cut = may.0 in
    let no_more : (arc_value c.args.edition).cut ≤ length (events_of x) = may.1 in
    let edition : IsEdition x.settings (first (arc_value c.args.edition).cut x.log) (last_cut (publications_of x.log)) (published_of x.log + 1) (arc_value c.args.edition) = may.2 in
    search rules

pub invariant_of-by-clause-made : goal.invariant_of-by-clause-made
invariant_of-by-clause-made g c = let (x, y, f, ran, is) = c.with_turn.ensures.turn in let e = arc_value c.args.edition in
    let grown : OnOk c.with_turn.result (events_of y ≡ events_of x ++ events.Publish e.number e.cut ∷ []) = search rules in
    let same : OnErr c.with_turn.result (events_of y ≡ events_of x) = search rules in
    made_after is_of_conductor c.args.by.now.turn c.with_turn.new.turn (events_of x) (events_of y) c.args.by.now.made f.begins is c.with_turn.result (events.Publish e.number e.cut) grown same refl

pub invariant_of-by-clause-within : goal.invariant_of-by-clause-within
invariant_of-by-clause-within g c = let (x, y, f, ran, is) = c.with_turn.ensures.turn in let e = arc_value c.args.edition in
    let grown : OnOk c.with_turn.result (events_of y ≡ events_of x ++ events.Publish e.number e.cut ∷ []) = search rules in
    let same : OnErr c.with_turn.result (events_of y ≡ events_of x) = search rules in
    let more = longer c.args.by.now.turn c.with_turn.new.turn (events_of x) (events_of y) f.begins (begins_after c.with_turn.result (events_of x) (events_of y) (events.Publish e.number e.cut) grown same) is in omega (arith, more, c.args.by.now.within)

pub returns-clause-publishes : goal.returns-clause-publishes
returns-clause-publishes g c = let (x, y, f, ran, is) = c.with_turn.ensures.turn in let e = arc_value c.args.edition in
    let legal : IsLegal x.settings x.log = search rules in
    let at : IfOk c.with_turn.result (λ (index : ℕ). index ≡ length (events_of x)) = search rules in
    let grown : OnOk c.with_turn.result (y.log ≡ appended x.log (events.Publish e.number e.cut)) = search rules in
    published c.args.self.now c.args.by.now x y f c.requires.own.number legal _ c.with_turn.result e is at grown

pub returns-clause-found : goal.returns-clause-found
returns-clause-found g c = let (x, y, f, ran, is) = c.with_turn.ensures.turn in
    let legal : IsLegal x.settings x.log = search rules in
    let err : OnErr c.with_turn.result (y.log ≡ x.log) = search rules in
    found_there c.args.self.now c.args.by.now x y f c.requires.own.number legal c.with_turn.new.turn c.with_turn.result is err
