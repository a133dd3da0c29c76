use Rattle.std.proofs.Common.{◌≡◌, ◌∙◌, ap, pos, [], ◌∷◌, replicate, rules, subst}
use Rattle.assignment_dual.specs.Problems.{Problem, IsProblem}
use Rattle.assignment_dual.proofs.OnePlot.{single_solved}
use Rattle.assignment_dual.proofs.single.solve_single.Goals as goal

pub returns : goal.returns
returns c =
    let p : IsProblem c.args.costs.now = subst IsProblem c.costs.view_is c.costs.invariant in
    let x = c.nearest-entry.result.0 in
    let least = c.nearest-entry.result.1 in
    let u : c.one-2.result ≡ pos least ∷ [] = search rules in
    let v : c.in_ok-v.v ≡ replicate c.args.costs.now.tracks (pos 0) = c.in_ok-v.ensures ∙ ap (λ (o : Problem). replicate o.tracks (pos 0)) c.costs.view_is in
    single_solved c.args.costs.now p c.requires x least c.nearest-entry.ensures c.one.result c.one-2.result c.in_ok-v.v _ c.one.ensures u v (search rules)
