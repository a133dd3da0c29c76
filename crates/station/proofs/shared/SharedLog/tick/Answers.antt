use Rattle.std.proofs.Common.{refl}
use Rattle.std.specs.Option.{option_map}
use Rattle.std.specs.Arc.{arc_value}
use Rattle.admission_log.specs.declared.events.Event.TheVariants as events
use Rattle.station.proofs.Standing.{stands_after}
use Rattle.station.proofs.shared.SharedLog.tick.Goals as goal

pub invariant_of-self : goal.invariant_of-self
invariant_of-self c = let s = arc_value c.self.inside.settings in
    stands_after c.tick.result s c.self.inside.log c.tick.new.self (option_map arc_value c.self.inside.newest) (events.Tick c.args.time) refl c.tick.ensures.ok c.tick.ensures.err (c.tick.ensures.legal s) c.self.invariant
