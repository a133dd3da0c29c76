use Rattle.std.proofs.Common.{arith, inr, subst}
use Rattle.std.specs.Option.{MatchOption}
use Rattle.price_form.specs.Reading.{NoRecord, ReadsRecord}
use Rattle.price_form.proofs.Filed.{stops_here, one_record, more_as}
use Rattle.price_form.proofs.reading.read_prices.Goals as goal

pub returns-in-None : goal.returns-in-None
returns-in-None c =
    let bytes = c.args.bytes.now in
    let at = c.loop-at.at in
    let h = subst (λ o. MatchOption o (NoRecord bytes at) (λ r. ReadsRecord bytes at r.0 r.1)) c.in-None.is c.in_ok-record_at.ensures in
    inr (stops_here bytes at c.loop-at.records.items c.loop-at-test.true c.loop-at.invariant.encoded c.loop-at.invariant.each h)

pub loop-at-smaller : goal.loop-at-smaller
loop-at-smaller c =
    let bytes = c.args.bytes.now in
    let at = c.loop-at.at in
    let i = c.loop-at.invariant in
    let h = subst (λ o. MatchOption o (NoRecord bytes at) (λ r. ReadsRecord bytes at r.0 r.1)) c.in-Some.is c.in_ok-record_at.ensures in
    let more = one_record bytes at c.in-Some.end c.loop-at.records.items c.in-Some.found i.inside i.encoded i.each i.places h in
    omega (arith, more.inside, more.on)

pub loop-at-preserved : goal.loop-at-preserved
loop-at-preserved c =
    let bytes = c.args.bytes.now in
    let at = c.loop-at.at in
    let i = c.loop-at.invariant in
    let h = subst (λ o. MatchOption o (NoRecord bytes at) (λ r. ReadsRecord bytes at r.0 r.1)) c.in-Some.is c.in_ok-record_at.ensures in
    let more = more_as c.in_ok-push-in-Some.ensures.items (one_record bytes at c.in-Some.end c.loop-at.records.items c.in-Some.found i.inside i.encoded i.each i.places h) in
    record { inside = more.inside; encoded = more.encoded; each = more.each; places = more.places }
