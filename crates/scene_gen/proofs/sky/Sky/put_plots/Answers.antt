use Rattle.std.proofs.Common.{◌+◌}
use Rattle.std.proofs.lemmas.Result.{on_ok_weaker}
use Rattle.scene_gen.specs.Delays.{delayed}
use Rattle.scene_gen.specs.Skies.{seen_before}
use Rattle.scene_gen.proofs.sky.Sky.put_plots.Goals as goal

pub returns-clause-ready : goal.returns-clause-ready
returns-clause-ready c = on_ok_weaker c.take_at.result (λ n. record { sweeps = c.requires.ready.sweeps; count = n }) c.take_at.ensures.count

pub returns-clause-come : goal.returns-clause-come
returns-clause-come c = λ fleet g seconds late is. c.take_at.ensures.taken (delayed late g (seen_before fleet seconds (c.args.time + 1))) is.on_way

pub returns-clause-left : goal.returns-clause-left
returns-clause-left c = λ fleet g seconds late is.
    on_ok_weaker c.take_at.result (λ on. record { seconds_are = is.seconds_are; late_is = is.late_is; sweeps = is.sweeps; generator = is.generator; on_way = on })
    (c.take_at.ensures.left (delayed late g (seen_before fleet seconds (c.args.time + 1))) is.on_way)
