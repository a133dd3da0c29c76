use Rattle.std.proofs.Common.{◌≡◌, arith, get_or, length, ap}
use Rattle.assignment_dual.specs.declared.graph.Arc.{Arc}
use Rattle.assignment_dual.specs.Vertices.{IsArc, to_of, cost_at}
use Rattle.assignment_dual.proofs.Columns.{arc_read}
use Rattle.assignment_dual.proofs.search.slack.Goals as goal

pub index-arc-requires : goal.index-arc-requires
index-arc-requires c = (c.requires.graph.arcs c.args.x c.args.k c.requires.x c.requires.arc).inside

pub overflow_add-result : goal.overflow_add-result
overflow_add-result c =
    let a : IsArc c.args.graph.now (length c.args.prices.now) c.args.x c.args.k = c.requires.graph.arcs c.args.x c.args.k c.requires.x c.requires.arc in
    let e : c.index-arc.result.now.cost ≡ cost_at c.args.graph.now c.args.k = ap (λ (r : Arc). r.cost) (arc_read c.args.graph.now c.args.k c.index-arc.result.now a.inside c.index-arc.ensures) in
    omega (arith, e, a.cost)

pub overflow_sub-result : goal.overflow_sub-result
overflow_sub-result c =
    let a : IsArc c.args.graph.now (length c.args.prices.now) c.args.x c.args.k = c.requires.graph.arcs c.args.x c.args.k c.requires.x c.requires.arc in
    let e : c.index-arc.result.now.cost ≡ cost_at c.args.graph.now c.args.k = ap (λ (r : Arc). r.cost) (arc_read c.args.graph.now c.args.k c.index-arc.result.now a.inside c.index-arc.ensures) in
    let t : get_or c.args.prices.now c.index-arc.result.now.to 0 ≡ get_or c.args.prices.now (to_of c.args.graph.now c.args.k) 0 = ap (λ (r : Arc). get_or c.args.prices.now r.to 0) (arc_read c.args.graph.now c.args.k c.index-arc.result.now a.inside c.index-arc.ensures) in
    omega (arith, e, t, c.requires.priced.arcs c.args.x c.args.k c.requires.x c.requires.arc)
