use Rattle.live_picture.proofs.Following.{begins}
use Rattle.live_picture.proofs.live.Live.new.Goals as goal

pub returns : goal.returns
returns c = begins c.args.station.now c.args.conductor c.args.engine c.requires.fresh c.requires.own c.requires.stands
