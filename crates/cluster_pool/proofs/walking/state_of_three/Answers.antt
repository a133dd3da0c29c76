use Rattle.std.proofs.Common.{◌≡◌, ◌∙◌, ◌++◌, ◌∷◌, [], length, ap, refl, sym, subst, rules}
use Rattle.std.proofs.lemmas.Result.{IfOk-weaker}
use Rattle.span_clusters.specs.Interleavings.{IsJoin}
use Rattle.cluster_pool.specs.Walks.{left_states}
use Rattle.cluster_pool.proofs.Halves.{one_of, left_beside, both_halves, halves_joined}
use Rattle.cluster_pool.proofs.walking.state_of_three.Goals as goal

pub state_of_two-requires-clause-beside : goal.state_of_two-requires-clause-beside
state_of_two-requires-clause-beside g c =
    let ws = c.args.walks.now in
    let xs = c.split_at.result.0.now in
    let ys = c.split_at.result.1.now in
    let cut : ws ≡ xs ++ ys = c.split_at.ensures.by_index.0 in
    left_beside g.F.Separable.is_beside g.F.Separable.merged g.met.F.Separable.beside_back g.met.F.Separable.beside_merged g.met.F.Separable.merged_rest ws c.requires.beside xs ys cut

pub merge-requires : goal.merge-requires
merge-requires g c =
    let ws = c.args.walks.now in
    let xs = c.split_at.result.0.now in
    let ys = c.split_at.result.1.now in
    let cut : ws ≡ xs ++ ys = c.split_at.ensures.by_index.0 in
    let two = c.in_ok-two.two in
    let last = c.index-back-0.result in
    let same : c.last.inside.state ≡ last.state = search rules in
    let long : length ys ≡ 1 = search rules in
    let end : ys ≡ last ∷ [] = one_of ys last long c.index-back-0.is in
    let one : IsJoin g.F.Separable.merged (left_states ys) last.state = subst (λ l. IsJoin g.F.Separable.merged (left_states l) last.state) (sym end) refl in
    subst (g.F.Separable.is_beside two) (sym same) (both_halves g.F.Separable.is_beside g.F.Separable.merged g.met.F.Separable.beside_back g.met.F.Separable.beside_merged g.met.F.Separable.merged_rest ws c.requires.beside xs ys two last.state cut c.in_ok-two.ensures one).apart

pub returns : goal.returns
returns g c =
    let ws = c.args.walks.now in
    let xs = c.split_at.result.0.now in
    let ys = c.split_at.result.1.now in
    let cut : ws ≡ xs ++ ys = c.split_at.ensures.by_index.0 in
    let two = c.in_ok-two.two in
    let last = c.index-back-0.result in
    let same : c.last.inside.state ≡ last.state = search rules in
    let long : length ys ≡ 1 = search rules in
    let end : ys ≡ last ∷ [] = one_of ys last long c.index-back-0.is in
    let one : IsJoin g.F.Separable.merged (left_states ys) last.state = subst (λ l. IsJoin g.F.Separable.merged (left_states l) last.state) (sym end) refl in
    let merged = g.F.Separable.merged in
    IfOk-weaker c.merge.result (λ s. s ≡ merged two c.last.inside.state) (λ s. IsJoin merged (left_states ws) s)
    (λ s h. halves_joined g.F.Separable.is_beside g.F.Separable.merged g.met.F.Separable.beside_back g.met.F.Separable.beside_merged g.met.F.Separable.merged_rest ws c.requires.beside xs ys two last.state s cut c.in_ok-two.ensures one (h ∙ ap (merged two) same)) c.merge.ensures
