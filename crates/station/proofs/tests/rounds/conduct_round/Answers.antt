use Rattle.std.specs.Arc.{arc_value}
use Rattle.station.proofs.Publishing.{goes_on, ticked, gathered, may_publish, published}
use Rattle.station.proofs.tests.rounds.conduct_round.Goals as goal

pub publish-requires-clause-edition : goal.publish-requires-clause-edition
publish-requires-clause-edition g c = let station = c.args.station.now in let settings = c.args.settings.now in
    let at_tick = goes_on station settings c.args.conductor.now c.tick.new.by c.args.number c.requires.ready c.tick.ensures.own (ticked station settings c.args.conductor.now c.tick.new.by _ _ c.in-Ok-tick.ensures.ticks) in
    let at_gather = goes_on station settings c.tick.new.by c.gather.new.by c.args.number at_tick c.gather.ensures.own (gathered station settings c.tick.new.by c.gather.new.by _ c.in-Ok-gather.ensures.gathers) in
    may_publish station settings c.gather.new.by c.args.number (arc_value c.in-Ok.edition) at_gather c.in-Ok.ensures

pub returns-clause-ready : goal.returns-clause-ready
returns-clause-ready g c = let station = c.args.station.now in let settings = c.args.settings.now in
    let at_tick = goes_on station settings c.args.conductor.now c.tick.new.by c.args.number c.requires.ready c.tick.ensures.own (ticked station settings c.args.conductor.now c.tick.new.by _ _ c.in-Ok-tick.ensures.ticks) in
    let at_gather = goes_on station settings c.tick.new.by c.gather.new.by c.args.number at_tick c.gather.ensures.own (gathered station settings c.tick.new.by c.gather.new.by _ c.in-Ok-gather.ensures.gathers) in
    published station settings c.gather.new.by c.publish.new.by c.args.number _ (arc_value c.in-Ok.edition) at_gather c.publish.ensures.own c.in-Ok.ensures c.in-Ok-publish.ensures.publishes
