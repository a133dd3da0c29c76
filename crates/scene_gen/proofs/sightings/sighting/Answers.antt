use Rattle.scene_gen.specs.Sightings.{coordinate}
use Rattle.scene_gen.proofs.Ranges.{too_far, within}
use Rattle.scene_gen.proofs.sightings.sighting.Goals as goal

pub returns-then-rho-gt65535 : goal.returns-then-rho-gt65535
returns-then-rho-gt65535 c = too_far c.position-point.result.0 c.position-point.result.1 (coordinate c.args.aircraft.now.x c.args.aircraft.now.vx c.args.radar.now.x c.args.time) (coordinate c.args.aircraft.now.y c.args.aircraft.now.vy c.args.radar.now.y c.args.time) c.args.aircraft.now.level c.position-point.ensures.east c.position-point.ensures.north c.range-rho.ensures c.if-rho-gt65535.true

pub returns : goal.returns
returns c = within c.position-point.result.0 c.position-point.result.1 (coordinate c.args.aircraft.now.x c.args.aircraft.now.vx c.args.radar.now.x c.args.time) (coordinate c.args.aircraft.now.y c.args.aircraft.now.vy c.args.radar.now.y c.args.time) c.args.aircraft.now.level c.position-point.ensures.east c.position-point.ensures.north c.range-rho.ensures c.bearing.ensures c.if-rho-gt65535.false
