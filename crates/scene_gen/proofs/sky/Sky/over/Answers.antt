use Rattle.std.proofs.Common.{subst, refl, List}
use Rattle.scene_gen.specs.Delays.{Sent}
use Rattle.scene_gen.specs.OnWay.{AreOnWay}
use Rattle.scene_gen.proofs.Sweeping.{nothing_drawn, nothing_sent}
use Rattle.scene_gen.proofs.sky.Sky.over.Goals as goal

pub returns-clause-start : goal.returns-clause-start
returns-clause-start c = record {
  seconds_are = refl;
  late_is = refl;
  sweeps = c.in_ok-sweeps_of.ensures;
  generator = nothing_drawn c.args.fleet.now c.args.generator c.args.seconds c.args.late;
  on_way = subst (λ (l : List Sent). AreOnWay l 0 c.in_ok-none_on_way.field-0) (nothing_sent c.args.fleet.now c.args.generator c.args.seconds c.args.late) c.in_ok-none_on_way.ensures;
}
