use Rattle.std.specs.Option.{option_map}
use Rattle.std.specs.Arc.{arc_value}
use Rattle.station.proofs.Standing.{stands_fed}
use Rattle.station.proofs.shared.SharedLog.admit.Goals as goal

pub invariant_of-self : goal.invariant_of-self
invariant_of-self c =
    stands_fed c.admit_messages.result (arc_value c.self.inside.settings) c.deref.result.now c.args.feed c.args.messages.now c.self.inside.log c.admit_messages.new.self (option_map arc_value c.self.inside.newest) c.deref.ensures
    c.admit_messages.ensures.delivered c.admit_messages.ensures.err c.admit_messages.ensures.legal c.self.invariant
