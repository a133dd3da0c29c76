use Rattle.std.proofs.Common.{◌≡◌, ℕ, get_or, List, ap, subst, ◌∙◌}
use Rattle.assignment_dual.specs.declared.search.Node.{Node}
use Rattle.assignment_dual.specs.Search.{no_node, vertex_at, mate_at, IsEnd, AreUnmatched}
use Rattle.assignment_dual.proofs.Columns.{node_read}
use Rattle.assignment_dual.proofs.Paths.{turning_first, turning_apart, turning_step}
use Rattle.assignment_dual.proofs.search.reach.Goals as goal

pub path-init : goal.path-init
path-init c =
    let en : IsEnd c.args.prices.now c.args.mates.now c.grow.new.search.tree.items c.in-Some.end = rw c.in-Some.is at c.in_ok-end.ensures.answer in
    let v : c.index.result.now.vertex ≡ vertex_at c.grow.new.search.tree.items c.in-Some.end = ap (λ (o : Node). o.vertex) (node_read c.grow.new.search.tree.items c.in-Some.end c.index.result.now en.inside c.index.ensures) in
    let m : c.unmatch.result ≡ mate_at c.args.mates.now c.grow.new.search.tree.items c.in-Some.end = c.unmatch.ensures.mate ∙ ap (λ (o : ℕ). get_or c.args.mates.now o 0) v in
    let p : AreUnmatched c.args.mates.now c.unmatch.new.mates (vertex_at c.grow.new.search.tree.items c.in-Some.end) (mate_at c.args.mates.now c.grow.new.search.tree.items c.in-Some.end) =
    subst (λ (o : ℕ). AreUnmatched c.args.mates.now c.unmatch.new.mates o (mate_at c.args.mates.now c.grow.new.search.tree.items c.in-Some.end)) v (subst (AreUnmatched c.args.mates.now c.unmatch.new.mates c.index.result.now.vertex) m c.unmatch.ensures.parted) in
    turning_first c.requires.graph c.requires.mates c.in_ok-end.ensures.tree c.requires.alone en p

pub take-requires-clause-other : goal.take-requires-clause-other
take-requires-clause-other c =
    let n : c.index-node.result.now ≡ get_or c.grow.new.search.tree.items c.path.at no_node = node_read c.grow.new.search.tree.items c.path.at c.index-node.result.now c.path.invariant.inside c.index-node.ensures in
    let w : c.mate_of-mate.result ≡ mate_at c.path.mates c.grow.new.search.tree.items c.index-node.result.now.from = c.mate_of-mate.ensures ∙ ap (λ (t : List Node). mate_at c.path.mates t c.index-node.result.now.from) c.deref.ensures.value in
    (turning_apart c.requires.graph c.requires.mates c.in_ok-end.ensures.tree c.requires.alone c.path.invariant c.path-test.true c.index-node.result.now.vertex c.index-node.result.now.from c.mate_of-mate.result
    (ap (λ (o : Node). o.vertex) n) (ap (λ (o : Node). o.from) n) w).0

pub take-requires-clause-apart : goal.take-requires-clause-apart
take-requires-clause-apart c =
    let n : c.index-node.result.now ≡ get_or c.grow.new.search.tree.items c.path.at no_node = node_read c.grow.new.search.tree.items c.path.at c.index-node.result.now c.path.invariant.inside c.index-node.ensures in
    let w : c.mate_of-mate.result ≡ mate_at c.path.mates c.grow.new.search.tree.items c.index-node.result.now.from = c.mate_of-mate.ensures ∙ ap (λ (t : List Node). mate_at c.path.mates t c.index-node.result.now.from) c.deref.ensures.value in
    (turning_apart c.requires.graph c.requires.mates c.in_ok-end.ensures.tree c.requires.alone c.path.invariant c.path-test.true c.index-node.result.now.vertex c.index-node.result.now.from c.mate_of-mate.result
    (ap (λ (o : Node). o.vertex) n) (ap (λ (o : Node). o.from) n) w).1

pub path-preserved : goal.path-preserved
path-preserved c =
    let n : c.index-node.result.now ≡ get_or c.grow.new.search.tree.items c.path.at no_node = node_read c.grow.new.search.tree.items c.path.at c.index-node.result.now c.path.invariant.inside c.index-node.ensures in
    let w : c.mate_of-mate.result ≡ mate_at c.path.mates c.grow.new.search.tree.items c.index-node.result.now.from = c.mate_of-mate.ensures ∙ ap (λ (t : List Node). mate_at c.path.mates t c.index-node.result.now.from) c.deref.ensures.value in
    turning_step c.requires.graph c.requires.mates c.in_ok-end.ensures.tree c.requires.alone c.path.invariant c.path-test.true c.index-node.result.now.vertex c.index-node.result.now.from c.mate_of-mate.result c.take.result
    (ap (λ (o : Node). o.vertex) n) (ap (λ (o : Node). o.from) n) w c.take.ensures.value c.take.ensures.turned
