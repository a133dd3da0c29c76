use Rattle.std.proofs.Common.{arith}
use Rattle.trk_base.proofs.Newton.{begins_128, first_above, step_above, step_below, some_root}
use Rattle.trk_base.proofs.numbers.root_of_128.Goals as goal

pub overflow_sub-half : goal.overflow_sub-half
overflow_sub-half c = omega (arith, (begins_128 c.args.n c.requires.large c.ranges.n.fits).leading)

pub overflow_cast-n : goal.overflow_cast-n
overflow_cast-n c = record { fits = (begins_128 c.args.n c.requires.large c.ranges.n.fits).upper }

pub loop-estimate-init : goal.loop-estimate-init
loop-estimate-init c =
    let first = first_above c.args.n c.root_of_64-upper.result _ (begins_128 c.args.n c.requires.large c.ranges.n.fits).half c.root_of_64-upper.ensures.small c.root_of_64-upper.ensures.root.high in
    (first.1, first.0)

pub loop-estimate-preserved : goal.loop-estimate-preserved
loop-estimate-preserved c =
    let root = c.loop-estimate.estimate in
    let above = c.loop-estimate-test.true in
    (step_above c.args.n root (some_root c.args.n root above), omega (arith, step_below c.args.n root above, c.loop-estimate.invariant.1))
