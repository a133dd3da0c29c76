-- What is read of a list of arcs or nodes.
use Rattle.std.proofs.Common.{◌≡◌, ◌<◌, ℕ, length, get_or, List, vec_len, subst, ◌∙◌}
use Rattle.std.proofs.lemmas.List.{get_or_default}
use Rattle.assignment_dual.specs.declared.graph.Arc.{Arc}
use Rattle.assignment_dual.specs.declared.graph.Graph.{Graph}
use Rattle.assignment_dual.specs.declared.search.Node.{Node}
use Rattle.assignment_dual.specs.Vertices.{no_arc}
use Rattle.assignment_dual.specs.Search.{no_node}

pub arc_read : (g : Graph) (k : ℕ) (r : Arc) → k < vec_len g.arcs → r ≡ get_or g.arcs.items k r → r ≡ get_or g.arcs.items k no_arc
arc_read g k r h e = e ∙ get_or_default g.arcs.items k r no_arc (subst (λ (n : ℕ). k < n) g.arcs.ok.0 h)

pub node_read : (tree : List Node) (i : ℕ) (r : Node) → i < length tree → r ≡ get_or tree i r → r ≡ get_or tree i no_node
node_read tree i r h e = e ∙ get_or_default tree i r no_node h
