use Rattle.std.proofs.Common.{rules}
use Rattle.price_form.proofs.Sums.{inside, sum_more}
use Rattle.price_form.proofs.checking.sum_of.Goals as goal

pub loop-i-preserved : goal.loop-i-preserved
loop-i-preserved g c =
    let xs = g.P.Column.list c.args.prices.now in
    let sum = sum_more xs c.loop-i.i _ c.at-price.result (inside c.loop-i.i c.loop-i-test.true c.len-i-end.ensures) c.at-price.ensures c.loop-i.invariant.value in
    record { value = search rules; size = search rules }
