use Rattle.std.proofs.Common.{◌≡◌, ◌<◌, ◌≤◌, length, rules}
use Rattle.std.specs.declared.cmp.Ordering.TheVariants.{Less}
use Rattle.cluster_pool.proofs.RisingPairs.{short_rises, rises_cut}
use Rattle.cluster_pool.proofs.lamps.+rises.Goals as goal

pub returns-then-items-lt2 : goal.returns-then-items-lt2
returns-then-items-lt2 g t c =
    let few : length c.args.items.now < 2 = search rules in
    λ e. short_rises g.F.Item.Ord.cmp g.met.F.Item.Ord.total c.args.items.now few

pub returns-then-lt : goal.returns-then-lt
returns-then-lt g t c =
    let cmp = g.F.Item.Ord.cmp in
    let xs = c.args.items.now in
    let x = c.index-first-0.result in
    let y = c.index-rest-0.result in
    let less : cmp x y ≡ Less = search rules in
    let two : 2 ≤ length xs = search rules in
    λ e. rises_cut cmp g.met.F.Item.Ord.total x y xs c.split_at.result.0.now c.split_at.result.1.now two c.split_at.ensures.front c.split_at.ensures.back c.index-first-0.is c.index-rest-0.is less (c.rises.ensures e)
