use Rattle.std.specs.Arc.{arc_value}
use Rattle.live_picture.proofs.Afresh.{cut_legal}
use Rattle.live_picture.proofs.tests.afresh.is_told.Goals as goal

pub told_afresh-requires-clause-legal : goal.told_afresh-requires-clause-legal
told_afresh-requires-clause-legal g c κs within =
    cut_legal (arc_value c.args.settings.now) c.args.start c.args.events.now _ _ c.split_at.result.0.now c.split_at-2.result.0.now c.split_at-2.result.1.now c.split_at.ensures.front c.split_at-2.ensures.front c.split_at-2.ensures.back c.requires.legal
