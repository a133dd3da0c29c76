use Rattle.std.proofs.Common.{◌∙◌, ap}
use Rattle.asterix_frame.specs.Bodies.{elements_at}
use Rattle.cat048_in.specs.Values.{below_day, kind_of, simulated_of, spi_of, monitor_of, test_of, polar_of, code_of, level_of, address_of}
use Rattle.cat048_in.specs.Reports.{report_of}
use Rattle.cat048_in.proofs.ReportFields.{same_report}
use Rattle.cat048_in.proofs.reader.report_of.Goals as goal

pub returns : goal.returns
unfolding report_of
returns c =
    let descriptor = c.octets-descriptor.ensures in
    same_report _ (report_of (elements_at c.args.body.now c.args.items.now.frns.items)) (λ i. (
      c.data_source.ensures i,
      (c.below_day.ensures.value ∙ ap below_day c.time_of_day.ensures) i,
      (c.kind_of.ensures.value ∙ ap kind_of descriptor) i,
      (c.simulated_of.ensures ∙ ap simulated_of descriptor) i,
      (c.test_of.ensures ∙ ap test_of descriptor) i,
      (c.spi_of.ensures ∙ ap spi_of descriptor) i,
      (c.monitor_of.ensures ∙ ap monitor_of descriptor) i,
      (c.polar_of.ensures ∙ ap polar_of c.octets.ensures) i,
      (c.code_of.ensures.value ∙ ap code_of c.octets-2.ensures) i,
      (c.level_of.ensures.value ∙ ap level_of c.octets-3.ensures) i,
      (c.address_of.ensures.value ∙ ap address_of c.octets-4.ensures) i,
    ))
