use Rattle.std.proofs.Common.{◌≡◌, ◌∙◌, ◌∷◌, [], sym, subst₂, rules}
use Rattle.std.proofs.lemmas.Result.{IfOk-weaker}
use Rattle.span_clusters.specs.Interleavings.{IsJoin}
use Rattle.cluster_pool.specs.Walks.{left_states}
use Rattle.cluster_pool.proofs.Halves.{two_of, two_beside, two_joined}
use Rattle.cluster_pool.proofs.walking.state_of_two.Goals as goal

pub merge-requires : goal.merge-requires
merge-requires g c =
    let ws = c.args.walks.now in
    let a = c.index-walks-0.result in
    let b = c.index-walks-1.result in
    let one : c.first.inside.state ≡ a.state = search rules in
    let other : c.second.inside.state ≡ b.state = search rules in
    let both : ws ≡ a ∷ b ∷ [] = two_of ws a b c.requires.two c.index-walks-0.is c.index-walks-1.is in
    subst₂ g.F.Separable.is_beside (sym one) (sym other) (two_beside g.F.Separable.is_beside g.F.Separable.merged g.met.F.Separable.beside_back g.met.F.Separable.beside_merged g.met.F.Separable.merged_rest ws c.requires.beside a b both)

pub returns : goal.returns
returns g c =
    let ws = c.args.walks.now in
    let a = c.index-walks-0.result in
    let b = c.index-walks-1.result in
    let one : c.first.inside.state ≡ a.state = search rules in
    let other : c.second.inside.state ≡ b.state = search rules in
    let both : ws ≡ a ∷ b ∷ [] = two_of ws a b c.requires.two c.index-walks-0.is c.index-walks-1.is in
    let merged = g.F.Separable.merged in
    IfOk-weaker c.merge.result (λ s. s ≡ merged c.first.inside.state c.second.inside.state) (λ s. IsJoin merged (left_states ws) s)
    (λ s h. two_joined g.F.Separable.is_beside g.F.Separable.merged g.met.F.Separable.beside_back g.met.F.Separable.beside_merged g.met.F.Separable.merged_rest ws c.requires.beside a b s both (h ∙ (λ i. merged (one i) (other i)))) c.merge.ensures
