use Rattle.scene_gen.proofs.Bucketing.{cleared}
use Rattle.scene_gen.proofs.buckets.Buckets.clear.Goals as goal

pub returns : goal.returns
returns g c = cleared c.self.inside.lists.items c.args.index c.clear.new.self c.self.view_is c.clear.ensures.items
