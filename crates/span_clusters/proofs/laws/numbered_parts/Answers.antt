use Rattle.span_clusters.proofs.Numbered.{splitting}
use Rattle.span_clusters.proofs.laws.numbered_parts.Goals as goal

pub returns : goal.returns
returns g c =
    λ s items members of_items numbers low lm li d one hm hi b h.
    splitting g.F.Fold.slot_of g.F.Fold.is_before g.F.Separable.is_beside g.F.Separable.merged g.F.Separable.count g.F.Separable.picked
    g.met.F.Fold.stays_before g.met.F.Separable.picks_all g.met.F.Separable.picks_before g.met.F.Separable.picks_beside g.met.F.Separable.picks_merged s items members of_items low lm b numbers li d one hm hi h
