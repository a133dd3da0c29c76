use Rattle.std.proofs.Common.{◌<◌, sym, length, arith}
use Rattle.std.proofs.lemmas.List.{length-take-le}
use Rattle.io_traits.specs.Places.{place_limit}
use Rattle.tracker_session.proofs.commands.check.take_offsets.Goals as goal

pub slice_bounds-prefix_fault-end : goal.slice_bounds-prefix_fault-end
slice_bounds-prefix_fault-end c =
    let long : place_limit < length c.args.octets.now = c.if-octets-gt-PLACE_LIMIT.true in
    sym (length-take-le place_limit c.args.octets.now (omega (arith, long)))

pub returns-then-octets-gt-PLACE_LIMIT-clause-stops : goal.returns-then-octets-gt-PLACE_LIMIT-clause-stops
returns-then-octets-gt-PLACE_LIMIT-clause-stops c =
    let long : place_limit < length c.args.octets.now = c.if-octets-gt-PLACE_LIMIT.true in
    record { whole = λ short. absurd (omega (arith, long, short)); prefix = λ _. c.prefix_fault-offset.ensures }
