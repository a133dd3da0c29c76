use Rattle.std.proofs.Common.{◌∙◌, ap}
use Rattle.std.specs.Option.{unwrap_or}
use Rattle.asterix_frame.specs.Values.{one_octet}
use Rattle.cat062_out.specs.Reading.{time_in_day, stamp_of}
use Rattle.cat062_out.proofs.reader.stamp_of.Goals as goal

pub returns : goal.returns
unfolding stamp_of
returns c =
    let source = c.unwrap_or-sac.ensures ∙ ap (λ o. unwrap_or o (0, 0)) c.data_source.ensures in
    let service = c.unwrap_or.ensures ∙ ap (λ o. unwrap_or o 0) (c.one_octet.ensures ∙ ap one_octet c.octets.ensures) in
    let tod = c.time_in_day.ensures.value ∙ ap time_in_day c.time_of_day.ensures in
    λ i. record { sac = (source i).0; sic = (source i).1; service = service i; tod = tod i }
