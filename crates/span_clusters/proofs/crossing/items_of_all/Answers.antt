use Rattle.std.proofs.Common.{◌≡◌, ◌<◌, sym, subst₂, length, rules}
use Rattle.span_clusters.specs.Interleavings.{Interleaved, KeysDiffer}
use Rattle.span_clusters.proofs.GatheredItems.{gathered_none, gathered_one, gathered_all, next_apart}
use Rattle.span_clusters.proofs.crossing.items_of_all.Goals as goal

pub loop-rest-init : goal.loop-rest-init
loop-rest-init g c = rw c.new-all.ensures.items (gathered_none g.F.Item.Ord.cmp g.F.Fold.key_of c.args.done.now c.requires)

pub merged_items-requires-clause-differ : goal.merged_items-requires-clause-differ
merged_items-requires-clause-differ g c =
    let some : 0 < length c.loop-rest.rest.now = search rules in
    let all : c.deref.result.now ≡ c.loop-rest.all.items = search rules in
    let own : c.deref-in-loop-rest.result.now ≡ c.index-rest-0.result.items = search rules in
    subst₂ (KeysDiffer g.F.Fold.key_of) (sym all) (sym own) (next_apart g.F.Item.Ord.cmp g.F.Fold.key_of c.args.done.now c.loop-rest.all.items c.index-rest-0.result c.loop-rest.rest.now some c.index-rest-0.is c.loop-rest.invariant)

pub loop-rest-preserved : goal.loop-rest-preserved
loop-rest-preserved g c =
    let some : 0 < length c.loop-rest.rest.now = search rules in
    let all : c.deref.result.now ≡ c.loop-rest.all.items = search rules in
    let own : c.deref-in-loop-rest.result.now ≡ c.index-rest-0.result.items = search rules in
    let both : Interleaved c.loop-rest.all.items c.index-rest-0.result.items c.in_ok-all.all.items = subst₂ (λ xs ys. Interleaved xs ys c.in_ok-all.all.items) all own c.in_ok-all.ensures.both in
    rw c.split_at.ensures.back (gathered_one g.F.Item.Ord.cmp g.F.Fold.key_of c.args.done.now c.loop-rest.all.items c.in_ok-all.all.items c.index-rest-0.result c.loop-rest.rest.now some c.index-rest-0.is both c.in_ok-all.ensures.rising c.loop-rest.invariant)

pub returns-clause-all : goal.returns-clause-all
returns-clause-all g c =
    let over : length c.loop-rest.rest.now ≡ 0 = search rules in
    gathered_all g.F.Item.Ord.cmp g.F.Fold.key_of c.args.done.now c.loop-rest.all.items c.loop-rest.rest.now over c.loop-rest.invariant
