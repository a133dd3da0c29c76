use Rattle.std.proofs.Common.{◌≡◌, ◌++◌, ◌∷◌, [], refl, subst, rules}
use Rattle.std.specs.List.{AllByRecursion}
use Rattle.std.specs.Option.{option_to_list}
use Rattle.std.specs.Vec.Iter.{into_iter_items}
use Rattle.cluster_pool.proofs.Ways.{goes_more}
use Rattle.cluster_pool.proofs.walking.all_gone_on.Goals as goal

pub loop-walk-init : goal.loop-walk-init
loop-walk-init g c =
    let rest : into_iter_items c.into_iter-walk-iterator.result ≡ c.args.walks.items = search rules in
    let none : c.in_ok-after.after.items ≡ [] = search rules in
    let told : c.new-told.result.items ≡ [] = search rules in
    record { gone = rw (none, told) (refl, refl); left = rw rest c.requires }

pub gone_on-requires : goal.gone_on-requires
gone_on-requires g c = (subst (AllByRecursion (λ w. g.F.Fold.is_before w.state c.args.slot)) c.in-Some.ensures.steps.0 c.loop-walk.invariant.left).0

pub loop-walk-preserved : goal.loop-walk-preserved
loop-walk-preserved g c =
    let pushed : c.push.new.self.items ≡ c.loop-walk.after.items ++ c.in_ok-next.next ∷ [] = search rules in
    let added : c.add_out.new.outs.items ≡ c.loop-walk.told.items ++ option_to_list c.in_ok-next.out = search rules in
    record {
      gone = rw (pushed, added) (goes_more g.F.Fold.next c.args.slot c.loop-walk.yielded c.loop-walk.after.items c.loop-walk.told.items c.in-Some.walk c.in_ok-next.next c.in_ok-next.out c.loop-walk.invariant.gone c.in_ok-next.ensures);
      left = (subst (AllByRecursion (λ w. g.F.Fold.is_before w.state c.args.slot)) c.in-Some.ensures.steps.0 c.loop-walk.invariant.left).1;
    }
