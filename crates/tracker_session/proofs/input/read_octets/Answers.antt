use Rattle.std.proofs.Common.{◌<◌, sym, length, arith}
use Rattle.std.proofs.lemmas.List.{length-take-le}
use Rattle.io_traits.specs.Places.{place_limit}
use Rattle.tracker_session.proofs.input.read_octets.Goals as goal

pub slice_bounds-read_prefix-end : goal.slice_bounds-read_prefix-end
slice_bounds-read_prefix-end c =
    let long : place_limit < length c.args.octets.now = c.if-octets-gt-PLACE_LIMIT.true in
    sym (length-take-le place_limit c.args.octets.now (omega (arith, long)))

pub read_prefix-requires : goal.read_prefix-requires
read_prefix-requires c =
    let long : place_limit < length c.args.octets.now = c.if-octets-gt-PLACE_LIMIT.true in
    omega (arith, long, length-take-le place_limit c.args.octets.now (omega (arith, long)))
