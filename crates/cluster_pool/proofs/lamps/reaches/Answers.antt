use Rattle.cluster_pool.specs.LampLaws.{reaches_as}
use Rattle.cluster_pool.proofs.lamps.reaches.Goals as goal

pub returns : goal.returns
returns c = λ n own. reaches_as c.args.lamps.now n own c.args.items.now _ _ _ c.count_left.ensures.exact c.count_right.ensures.exact c.lights_some.ensures
