use Rattle.std.proofs.Common.{refl}
use Rattle.cat048_in.proofs.PlotFields.{plot_from_is}
use Rattle.cat048_in.proofs.report.Report.plot.Goals as goal

pub returns : goal.returns
returns c =
    let r = c.args.self.now in
    plot_from_is r r.source r.tod r.in_day r.polar r.kind r.kind_range _ c.in-Some.is c.in-Some-tod.is c.in-Some-polar.is c.in-Some-1-to-255.is (record { test = c.if-self.false; simulated = c.if-self-2.false; monitor = c.if-self-3.false; spi = refl; code = refl; level = refl; address = refl })
