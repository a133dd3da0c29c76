use Rattle.std.proofs.Common.{rules, tests, ◌&&◌, ◌==◌}
use Rattle.std.proofs.lemmas.Iterator.{YieldsList-from_slice}
use Rattle.std.proofs.lemmas.Iterator.Search.{position_from_yields_List}
use Rattle.admission_log.specs.Sources.{radar_of}
use Rattle.admission_log.proofs.settings.radar_of.Goals as goal

pub returns-clause-index : goal.returns-clause-index
unfolding radar_of
returns-clause-index c =
    position_from_yields_List (λ radar. radar.sac == c.args.sac && radar.sic == c.args.sic) _ _ c.position.result c.position.ensures.ran
    (YieldsList-from_slice c.args.radars.now cc) (λ x b q k. search (rules, tests))
