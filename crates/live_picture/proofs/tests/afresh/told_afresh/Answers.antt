use Rattle.std.proofs.Common.{rules, ◌∙◌, []}
use Rattle.std.specs.Arc.{arc_value}
use Rattle.tracker_engine.specs.Engines.{StandsFor}
use Rattle.live_picture.proofs.Afresh.{earlier_legal, takes_first, rises, within, takes_second}
use Rattle.live_picture.proofs.tests.afresh.told_afresh.Goals as goal

pub told_with-requires-clause-continues : goal.told_with-requires-clause-continues
told_with-requires-clause-continues g c κs within =
    let stands : StandsFor (arc_value c.args.settings.now) (record { start = c.args.start; events = [] }) 0 0 c.in_ok-engine.engine = search rules in
    takes_first (arc_value c.args.settings.now) c.args.start c.args.earlier.now c.args.later.now c.requires.legal c.in_ok-engine.engine stands

pub show-requires-clause-rises : goal.show-requires-clause-rises
show-requires-clause-rises g c =
    let settings = arc_value c.args.settings.now in
    let stands : StandsFor settings (record { start = c.args.start; events = [] }) 0 0 c.in_ok-engine.engine = search rules in
    let t = c.in_ok-told.ensures settings (record { start = c.args.start; events = [] }) 0 0 stands (earlier_legal settings c.args.start c.args.earlier.now c.args.later.now c.requires.legal c.in_ok-engine.engine stands) in
    rises settings c.args.start c.args.earlier.now c.args.later.now c.requires.legal c.in_ok-engine.engine stands c.args.number c.told_with.new.engine c.in_ok-told.told t _ (search rules)

pub show-requires-clause-within : goal.show-requires-clause-within
show-requires-clause-within g c =
    let settings = arc_value c.args.settings.now in
    let stands : StandsFor settings (record { start = c.args.start; events = [] }) 0 0 c.in_ok-engine.engine = search rules in
    let t = c.in_ok-told.ensures settings (record { start = c.args.start; events = [] }) 0 0 stands (earlier_legal settings c.args.start c.args.earlier.now c.args.later.now c.requires.legal c.in_ok-engine.engine stands) in
    within settings c.args.start c.args.earlier.now c.args.later.now c.requires.legal c.in_ok-engine.engine stands c.args.number c.told_with.new.engine c.in_ok-told.told t _ (search rules)

pub told_with-requires-2-clause-continues : goal.told_with-requires-2-clause-continues
told_with-requires-2-clause-continues g c κs within' =
    let settings = arc_value c.args.settings.now in
    let stands : StandsFor settings (record { start = c.args.start; events = [] }) 0 0 c.in_ok-engine.engine = search rules in
    let t = c.in_ok-told.ensures settings (record { start = c.args.start; events = [] }) 0 0 stands (earlier_legal settings c.args.start c.args.earlier.now c.args.later.now c.requires.legal c.in_ok-engine.engine stands) in
    takes_second settings c.args.start c.args.earlier.now c.args.later.now c.requires.legal c.in_ok-engine.engine stands c.args.number c.told_with.new.engine c.in_ok-told.told t _ (search rules) c.show.new.self
    (λ settings log settled before now are. c.show.ensures settings log settled before now (c.into_vec.ensures ∙ are))
