use Rattle.std.proofs.Common.{◌≡◌, ◌+◌, ℕ, false, length, get_or, ap, subst, sym, ◌∙◌}
use Rattle.assignment_dual.specs.Problems.{Problem, IsProblem, rows_of}
use Rattle.assignment_dual.specs.Rests.{ShowsRest}
use Rattle.assignment_dual.proofs.Answer.{ok_then, all_false}
use Rattle.assignment_dual.proofs.solving.solve_many.Goals as goal

pub returns : goal.returns
returns c =
    let p : IsProblem c.args.costs.now = subst IsProblem c.costs.view_is c.costs.invariant in
    let n : length c.of-prices.result ≡ c.args.costs.now.plots + c.args.costs.now.tracks = ap length c.of-prices.ensures ∙ c.in_ok-first_prices.ensures.count ∙ ap (λ (o : Problem). o.plots + o.tracks) c.costs.view_is in
    let here : (v : ℕ) → get_or c.deref_mut-2.result.now v false ≡ false = all_false (c.costs.inside.plots + c.costs.inside.tracks) (c.deref_mut-2.ensures.value ∙ c.in_ok-gone.ensures.items_if_clones_equal (λ y e. e)) in
    let shows : ShowsRest c.in_ok-graph.graph (length c.of-prices.result) c.args.costs.now.tracks c.deref_mut-2.result.now 0 (rows_of c.args.costs.now) =
    subst (λ (o : ℕ). ShowsRest c.in_ok-graph.graph o c.args.costs.now.tracks c.deref_mut-2.result.now 0 (rows_of c.args.costs.now)) (sym n) (c.in_ok-graph.ensures.shows c.deref_mut-2.result.now here) in
    ok_then c.answer.result (λ s f. f c.args.costs.now p c.in_ok-graph.ensures.plots n shows) c.answer.ensures
