use Rattle.std.proofs.Common.{arith}
use Rattle.cluster_split.proofs.Labels.{ends_joined}
use Rattle.cluster_split.proofs.leasts.join.Goals as goal

pub returns-clause-labels : goal.returns-clause-labels
returns-clause-labels c =
    λ label h.
    let one = c.least_of-first.ensures.labels label h in
    let two = c.least_of-second.ensures.labels label one.0 in
    let a = c.least_of-first in
    let b = c.least_of-second in
    ends_joined b.new.lower label c.args.a c.args.b a.result b.result _ _
    (omega (arith, a.ensures.inside, a.auto.lower, b.auto.lower, c.requires.first))
    (omega (arith, b.ensures.inside, a.auto.lower, b.auto.lower, c.requires.second))
    one.1 two.1
    (one.0.ends a.result (omega (arith, a.ensures.inside, a.auto.lower, c.requires.first)) a.ensures.ends)
    (two.0.ends b.result (omega (arith, b.ensures.inside, a.auto.lower, b.auto.lower, c.requires.second)) b.ensures.ends)
    c.max.ensures c.min.ensures two.0
