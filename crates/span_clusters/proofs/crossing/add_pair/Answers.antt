use Rattle.std.proofs.Common.{◌≢◌, rules}
use Rattle.span_clusters.specs.Parts.{ReachesPart}
use Rattle.span_clusters.proofs.FoundPairs.{one_more}
use Rattle.span_clusters.proofs.crossing.add_pair.Goals as goal

pub returns : goal.returns
returns g c =
    let F = g.F.Fold in
    let p = c.args.one.now in
    let q = c.args.other.now in
    let differ : p.number ≢ q.number = search rules in
    let reach : ReachesPart F.next F.slot_of g.F.Separable.gates p q = c.in_ok-reaches.ensures.0 (search rules) in
    one_more F.next F.slot_of g.F.Separable.gates p q c.args.found.now c.insert.new.self c.pair_of.result.0 c.pair_of.result.1 c.pair_of.ensures.lower c.pair_of.ensures.higher differ reach c.in_ok-insert.ensures.updates
