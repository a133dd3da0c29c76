use Rattle.std.proofs.Common.{arith, inr}
use Rattle.price_form.proofs.Taking.{taken_cert, taken_other, taken_stops, taken_whole}
use Rattle.price_form.proofs.reading.certificate_offsets.Goals as goal

pub returns-in_default : goal.returns-in_default
returns-in_default c = inr (taken_stops c.args.bytes.now c.loop-at.at c.loop-at.offsets.items c.loop-at.invariant c.loop-at-test.true c.in_default.ensures)

pub loop-at-smaller-in_ok-push : goal.loop-at-smaller-in_ok-push
loop-at-smaller-in_ok-push c =
    let next = taken_cert c.args.bytes.now c.loop-at.at c.in-Some.end c.loop-at.offsets.items c.push.new.self.items c.loop-at.invariant c.in-Some.ensures c.if-bytes-at-eq2.true c.in_ok-push.ensures.items in
    omega (arith, next.on, next.taken.inside)

pub loop-at-preserved-in_ok-push : goal.loop-at-preserved-in_ok-push
loop-at-preserved-in_ok-push c =
    (taken_cert c.args.bytes.now c.loop-at.at c.in-Some.end c.loop-at.offsets.items c.push.new.self.items c.loop-at.invariant c.in-Some.ensures c.if-bytes-at-eq2.true c.in_ok-push.ensures.items).taken

pub loop-at-smaller : goal.loop-at-smaller
loop-at-smaller c =
    let next = taken_other c.args.bytes.now c.loop-at.at c.in-Some.end c.loop-at.offsets.items c.loop-at.invariant c.in-Some.ensures c.if-bytes-at-eq2.false in
    omega (arith, next.on, next.taken.inside)

pub loop-at-preserved : goal.loop-at-preserved
loop-at-preserved c = (taken_other c.args.bytes.now c.loop-at.at c.in-Some.end c.loop-at.offsets.items c.loop-at.invariant c.in-Some.ensures c.if-bytes-at-eq2.false).taken

pub returns : goal.returns
returns c = taken_whole c.args.bytes.now c.loop-at.at c.loop-at.offsets.items c.loop-at.invariant c.loop-at-test.false
