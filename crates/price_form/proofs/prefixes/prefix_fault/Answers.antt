use Rattle.std.proofs.Common.{arith, refl}
use Rattle.price_form.specs.Prefixes.{is_wrong, is_truncated}
use Rattle.price_form.proofs.PrefixFaults.{begun_on, begun_stops, begun_whole, magic_prefix}
use Rattle.price_form.proofs.prefixes.prefix_fault.Goals as goal

pub returns-then-starts_with : goal.returns-then-starts_with
returns-then-starts_with c = magic_prefix c.args.prefix.now c.starts_with.result c.starts_with.ensures.value c.if-starts_with.true

pub returns-in-None : goal.returns-in-None
returns-in-None c = is_wrong (begun_stops c.args.prefix.now c.loop-at.at c.loop-at.invariant c.loop-at-test.true c.in-None.ensures) c.if-is_wrong.ensures

pub returns-in-None-2 : goal.returns-in-None-2
returns-in-None-2 c = is_truncated c.loop-at.at (begun_stops c.args.prefix.now c.loop-at.at c.loop-at.invariant c.loop-at-test.true c.in-None.ensures) c.if-is_wrong.ensures refl

pub loop-at-smaller : goal.loop-at-smaller
loop-at-smaller c =
    let next = begun_on c.args.prefix.now c.loop-at.at c.in-Some.end c.in-Some.ensures.stands_there c.loop-at.invariant c.in-Some.ensures.reads in
    omega (arith, next.on, c.loop-at-test.true)

pub loop-at-preserved : goal.loop-at-preserved
loop-at-preserved c = (begun_on c.args.prefix.now c.loop-at.at c.in-Some.end c.in-Some.ensures.stands_there c.loop-at.invariant c.in-Some.ensures.reads).begun

pub returns : goal.returns
returns c = begun_whole c.args.prefix.now c.loop-at.at c.loop-at.invariant c.loop-at-test.false
