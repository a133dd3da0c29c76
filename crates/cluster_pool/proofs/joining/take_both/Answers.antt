use Rattle.std.proofs.Common.{◌≡◌, ◌<◌, List, length, get_or, subst}
use Rattle.span_clusters.specs.Parts.{Part}
use Rattle.cluster_pool.proofs.TakenOut.{places_taken}
use Rattle.cluster_pool.proofs.joining.take_both.Goals as goal

pub returns : goal.returns
returns g c =
    let P = Part g.row.F-State.Denot g.row.F-Item.Denot in
    let i = c.in_ok-first.first in
    let j = c.in_ok-second.second in
    places_taken c.args.done.now.items c.remove-later.new.self.items c.remove-earlier.new.self.items i j c.max.result c.min.result c.args.pair.0 c.args.pair.1 c.remove-later.result c.remove-earlier.result c.requires
    (subst (λ (l : List P). (i < length l) × ((d : P) → (get_or l i d).number ≡ c.args.pair.0)) c.deref.ensures.value c.in_ok-first.ensures)
    (subst (λ (l : List P). (j < length l) × ((d : P) → (get_or l j d).number ≡ c.args.pair.1)) c.deref-2.ensures.value c.in_ok-second.ensures)
    c.max.ensures c.min.ensures c.remove-later.ensures.value c.remove-later.ensures.items c.remove-earlier.ensures.value c.remove-earlier.ensures.items
