use Rattle.live_picture.proofs.Following.{ticked}
use Rattle.live_picture.proofs.live.Live.tick.Goals as goal

pub returns-clause-follows : goal.returns-clause-follows
returns-clause-follows g c = ticked c.args.station.now c.args.self.now c.tick.new.by c.args.time c.tick.result c.requires.follows c.tick.ensures.own c.tick.ensures.gathered c.tick.ensures.ticks c.tick.ensures.found
