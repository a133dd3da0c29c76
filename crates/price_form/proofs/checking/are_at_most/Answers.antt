use Rattle.std.proofs.Common.{rules, ◌≤ℤ◌, w64, to_z, of_z}
use Rattle.price_form.proofs.Sums.{read_within}
use Rattle.price_form.proofs.checking.are_at_most.Goals as goal

pub loop-i-preserved : goal.loop-i-preserved
loop-i-preserved g c =
    let le : c.at-price.result ≤ℤ to_z w64 (of_z w64 c.args.most) = search rules in
    read_within (λ p. p ≤ℤ to_z w64 (of_z w64 c.args.most)) (g.P.Column.list c.args.prices.now) c.loop-i.i c.at-price.result c.at-price.ensures c.loop-i.invariant le
