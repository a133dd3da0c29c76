use Rattle.std.proofs.Common.{◌-◌, ◌/◌, ◌^◌, arith}
use Rattle.std.proofs.lemmas.Nat.{pow_pos}
use lib.Count.{count_leading_zeros}
use Rattle.trk_base.proofs.Newton.{begins_64, step_above, step_below, some_root}
use Rattle.trk_base.proofs.numbers.root_by_steps.Goals as goal

pub overflow_add-root : goal.overflow_add-root
overflow_add-root c =
    let b = begins_64 c.args.n c.ranges.n.fits in
    record { fits = rw b.power (omega (arith, b.small)) }

pub loop-root-init : goal.loop-root-init
loop-root-init c =
    let h = (64 - count_leading_zeros 64 c.args.n) / 2 in
    let b = begins_64 c.args.n c.ranges.n.fits in
    rw b.power (step_above c.args.n (2 ^ h) (pow_pos h), omega (arith, b.small))

pub loop-root-preserved : goal.loop-root-preserved
loop-root-preserved c =
    let root = c.loop-root.root in
    let above = c.loop-root-test.true in
    (step_above c.args.n root (some_root c.args.n root above), omega (arith, step_below c.args.n root above, c.loop-root.invariant.1))
