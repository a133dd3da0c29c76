use Rattle.std.proofs.Common.{◌≡◌, ◌+◌, ◌/◌, ◌<◌, ◌≤◌, ◌++◌, length, arith, rules}
use Rattle.std.proofs.lemmas.Result.{IfOk-weaker}
use Rattle.span_clusters.specs.Interleavings.{EachPair, IsJoin}
use Rattle.cluster_pool.specs.Walks.{left_states}
use Rattle.cluster_pool.proofs.Halves.{left_beside, right_beside, both_halves, halves_joined}
use Rattle.cluster_pool.proofs.walking.+state_of_all.Goals as goal

pub state_of_all-requires : goal.state_of_all-requires
state_of_all-requires g t c =
    let ws = c.args.walks.now in
    let xs = c.split_at.result.0.now in
    let ys = c.split_at.result.1.now in
    let cut : ws ≡ xs ++ ys = c.split_at.ensures.by_index.0 in
    let four : 4 ≤ length ws = search rules in
    let half : length xs ≡ length ws / 2 = search rules in
    let sum : length ys + length xs ≡ length ws = search rules in
    let several : 2 ≤ length xs = omega (arith, four, half, sum) in
    let smaller : length xs < length ws = omega (arith, four, half, sum) in
    let beside : EachPair g.F.Separable.is_beside (left_states xs) = left_beside g.F.Separable.is_beside g.F.Separable.merged g.met.F.Separable.beside_back g.met.F.Separable.beside_merged g.met.F.Separable.merged_rest ws c.requires.beside xs ys cut in
    search rules

pub state_of_all-requires-2 : goal.state_of_all-requires-2
state_of_all-requires-2 g t c =
    let ws = c.args.walks.now in
    let xs = c.split_at.result.0.now in
    let ys = c.split_at.result.1.now in
    let cut : ws ≡ xs ++ ys = c.split_at.ensures.by_index.0 in
    let four : 4 ≤ length ws = search rules in
    let half : length xs ≡ length ws / 2 = search rules in
    let sum : length ys + length xs ≡ length ws = search rules in
    let several : 2 ≤ length ys = omega (arith, four, half, sum) in
    let smaller : length ys < length ws = omega (arith, four, half, sum) in
    let beside : EachPair g.F.Separable.is_beside (left_states ys) = right_beside g.F.Separable.is_beside g.F.Separable.merged g.met.F.Separable.beside_back g.met.F.Separable.beside_merged g.met.F.Separable.merged_rest ws c.requires.beside xs ys cut in
    search rules

pub merge-requires : goal.merge-requires
merge-requires g t c =
    let ws = c.args.walks.now in
    let xs = c.split_at.result.0.now in
    let ys = c.split_at.result.1.now in
    let cut : ws ≡ xs ++ ys = c.split_at.ensures.by_index.0 in
    (both_halves g.F.Separable.is_beside g.F.Separable.merged g.met.F.Separable.beside_back g.met.F.Separable.beside_merged g.met.F.Separable.merged_rest ws c.requires.beside xs ys c.in_ok-one.one c.in_ok-other.other cut c.in_ok-one.ensures c.in_ok-other.ensures).apart

pub returns : goal.returns
returns g t c =
    let ws = c.args.walks.now in
    let xs = c.split_at.result.0.now in
    let ys = c.split_at.result.1.now in
    let cut : ws ≡ xs ++ ys = c.split_at.ensures.by_index.0 in
    let merged = g.F.Separable.merged in
    IfOk-weaker c.merge.result (λ s. s ≡ merged c.in_ok-one.one c.in_ok-other.other) (λ s. IsJoin merged (left_states ws) s)
    (λ s h. halves_joined g.F.Separable.is_beside g.F.Separable.merged g.met.F.Separable.beside_back g.met.F.Separable.beside_merged g.met.F.Separable.merged_rest ws c.requires.beside xs ys c.in_ok-one.one c.in_ok-other.other s cut c.in_ok-one.ensures c.in_ok-other.ensures h) c.merge.ensures
