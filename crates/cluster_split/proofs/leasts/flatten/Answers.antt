use Rattle.std.proofs.Common.{◌<◌, length, arith}
use Rattle.cluster_split.proofs.Labels.{falls_set, skipped, flat_more, twice_down}
use Rattle.cluster_split.proofs.leasts.flatten.Goals as goal

pub loop-plot-preserved : goal.loop-plot-preserved
loop-plot-preserved c =
    let lt : c.loop-plot.plot < length c.loop-plot.lower = omega (arith, c.loop-plot.auto.lower, c.loop-plot-test.true) in
    let falls = c.loop-plot.invariant.falls in
    record {
      falls = falls_set c.loop-plot.lower c.loop-plot.plot _ falls lt (twice_down c.loop-plot.lower c.loop-plot.plot falls lt);
      labels = λ label h.
          let k = c.loop-plot.invariant.labels label h in
          (skipped c.loop-plot.lower label c.loop-plot.plot falls lt k.0, flat_more c.loop-plot.lower label c.loop-plot.plot falls k.0 lt k.1);
    }
