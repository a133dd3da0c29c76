use Rattle.scene_gen.proofs.Bucketing.{pushed}
use Rattle.scene_gen.proofs.buckets.Buckets.push.Goals as goal

pub returns : goal.returns
returns g c = pushed c.self.inside.lists.items c.args.index c.args.item c.push.new.self c.self.view_is c.requires c.index_mut.ensures.value c.in_ok-push.ensures.items
