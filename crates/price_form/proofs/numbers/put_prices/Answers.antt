use Rattle.std.proofs.Common.{rules, get_or, pos}
use Rattle.std.specs.Int.{w64}
use Rattle.std.specs.Prelude.{FitsSigned}
use Rattle.price_form.proofs.Encoded.{price_more}
use Rattle.price_form.proofs.numbers.put_prices.Goals as goal

pub loop-price-preserved : goal.loop-price-preserved
loop-price-preserved c =
    let i = c.loop-price.price-index in
    let prices = c.args.prices.now in
    let fits : FitsSigned w64 (get_or prices i (pos 0)) = search rules in
    price_more c.args.out.now.items prices i c.loop-price-test.true fits c.loop-price.invariant c.in_ok-put_price.ensures.ok
