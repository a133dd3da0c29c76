-- The plot that a report tells.
use Rattle.std.specs.Prelude.{ℕ, zero, suc, ◌≤◌, if◌then◌else◌, Option, Some, None, Result, Ok, Err}
use Rattle.std.specs.Option.{ForSome}
use Rattle.std.proofs.Common.{refl, arith}
use Rattle.trk_base.specs.Ranges.{IsTimeOfDay, IsKind}
use Rattle.trk_base.specs.declared.plots.RawPlot.{RawPlot}
use Rattle.cat048_in.specs.declared.report.Report.{Report}
use Rattle.cat048_in.specs.declared.report.NotPlot.{NotPlot}
use Rattle.cat048_in.specs.declared.report.NotPlot.TheVariants.{NoSource, NoTime, NoPosition, NoDetection, Test, Simulated, Monitor}

-- a detection of a kind
pub detected : (k : ℕ) → suc k ≤ 7 → IsKind (suc k)
detected k h = (omega arith, h)

-- of a report with a source, a time, a position and a kind, or none of them
abbrev pub plot_from : Report → Option (ℕ × ℕ) → (tod : Option ℕ) → ForSome tod IsTimeOfDay → Option (ℕ × ℕ) → (kind : Option ℕ) → ForSome kind (λ k. k ≤ 7) → Result RawPlot NotPlot
plot_from r None tod in_day polar kind in_range = Err NoSource
plot_from r (Some source) None in_day polar kind in_range = Err NoTime
plot_from r (Some source) (Some tod) in_day None kind in_range = Err NoPosition
plot_from r (Some source) (Some tod) in_day (Some polar) None in_range = Err NoDetection
plot_from r (Some source) (Some tod) in_day (Some polar) (Some zero) in_range = Err NoDetection
plot_from r (Some source) (Some tod) in_day (Some polar) (Some (suc k)) in_range =
    if r.test then Err Test
    else if r.simulated then Err Simulated
    else if r.monitor then Err Monitor
    else Ok (record {
      sac = source.0;
      sic = source.1;
      tod = tod;
      rho = polar.0;
      theta = polar.1;
      kind = suc k;
      spi = r.spi;
      code = r.code;
      level = r.level;
      address = r.address;
      detected = detected k (in_range (suc k) refl);
      in_day = in_day tod refl;
      code_range = r.code_range;
      level_range = r.level_range;
      address_range = r.address_range;
    })

abbrev pub plot_of : Report → Result RawPlot NotPlot
plot_of r = plot_from r r.source r.tod r.in_day r.polar r.kind r.kind_range
