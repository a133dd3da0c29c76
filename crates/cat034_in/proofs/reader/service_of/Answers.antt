use Rattle.std.proofs.Common.{◌∙◌, ap}
use Rattle.asterix_frame.specs.Values.{one_octet, two_octets}
use Rattle.cat034_in.specs.Services.{service_of}
use Rattle.cat034_in.proofs.reader.service_of.Goals as goal

pub returns : goal.returns
unfolding service_of
returns c = λ i. record {
  source = c.data_source.ensures i;
  kind = (c.one_octet.ensures ∙ ap one_octet c.octets.ensures) i;
  tod = c.time_of_day.ensures i;
  sector = (c.one_octet-2.ensures ∙ ap one_octet c.octets-2.ensures) i;
  rotation = (c.two_octets.ensures ∙ ap two_octets c.octets-3.ensures) i;
}
