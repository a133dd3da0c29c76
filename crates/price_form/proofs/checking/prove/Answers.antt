use Rattle.std.proofs.Common.{rules, ◌≡◌, ◌+ℤ◌, pos}
use Rattle.assignment_dual.specs.Problems.{total}
use Rattle.price_form.proofs.InPlace.{proves_by}
use Rattle.price_form.proofs.checking.prove.Goals as goal

pub returns-else-sum_of-from : goal.returns-else-sum_of-from
returns-else-sum_of-from g c =
    let us = g.P.Column.list c.args.u.now in
    let vs = g.P.Column.list c.args.v.now in
    let equal : total us +ℤ total vs ≡ pos c.in-Some.cost = search rules in
    proves_by (g.E.Column.list c.args.edges.now) (g.X.Column.list c.args.pairing.now) c.args.tracks us vs c.in-Some.cost c.names_once.result (search rules) c.in-Some.ensures c.requires.plot_prices c.requires.track_prices equal c.names_once.ensures
