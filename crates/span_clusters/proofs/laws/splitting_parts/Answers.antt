use Rattle.span_clusters.proofs.Separated.{separated}
use Rattle.span_clusters.proofs.laws.splitting_parts.Goals as goal

pub returns : goal.returns
returns g c =
    let M = g.F.Fold in
    λ s items parts up i d. separated M.slot_of M.key_of M.is_before g.F.Item.Ord.cmp g.F.Separable.is_beside g.F.Separable.merged s items parts up i d
