use Rattle.std.proofs.Common.{◌≡◌, ◌++◌, ◌∷◌, [], rules}
use Rattle.cluster_pool.proofs.Ways.{start_more}
use Rattle.cluster_pool.proofs.walking.walks_of.Goals as goal

pub loop-part-preserved : goal.loop-part-preserved
loop-part-preserved g c =
    let F = g.F.Fold in
    let pushed : c.push.new.self.items ≡ c.loop-part.walks.items ++ c.in_ok-walk.walk ∷ [] = search rules in
    rw pushed (start_more F.next F.slot_of F.is_out c.loop-part.yielded c.loop-part.walks.items c.in-Some.part c.in_ok-walk.walk c.loop-part.invariant c.in_ok-walk.ensures)
