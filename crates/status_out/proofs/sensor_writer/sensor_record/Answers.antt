use Rattle.std.proofs.Common.{◌∙◌, ap, sym, length, ◌++◌}
use Rattle.cat062_out.specs.TrackRecords.{two_signed}
use Rattle.status_out.specs.SensorRecords.{Message, sensor_record}
use Rattle.status_out.proofs.Records.{eight, sensor_record_is, sensor_size}
use Rattle.status_out.proofs.sensor_writer.sensor_record.Goals as goal

pub returns-clause-octets : goal.returns-clause-octets
returns-clause-octets c =
    let s = c.stamp.inside in
    let l = c.line.inside in
    let all =
    eight _ _ _ _ _ _ _ _ _ _ _ _ _ _ _ _ _ c.new-record.ensures c.in_ok-put.ensures.added c.in_ok-put-2.ensures.added c.in_ok-put-3.ensures.added c.in_ok-put-4.ensures.added c.in_ok-put-5.ensures.added c.in_ok-put-6.ensures.added c.in_ok-put-7.ensures.added c.in_ok-put-8.ensures.added in
    let time = c.time_bias_octets.ensures ∙ ap (λ line. two_signed line.time_ms) (sym c.line.view_is) in
    let ranges = c.range_bias_octets.ensures ∙ ap (λ line. two_signed line.gain ++ two_signed line.range) (sym c.line.view_is) in
    let azimuth = c.azimuth_bias_octets.ensures ∙ ap (λ line. two_signed line.azimuth) (sym c.line.view_is) in
    let message : Message = (record { sac = s.sac; sic = s.sic; service = s.service; tod = s.tod }, record { sac = l.sac; sic = l.sic; con = l.con; time_ms = l.time_ms; gain = l.gain; range = l.range; azimuth = l.azimuth }) in
    sensor_record_is message _ _ _ _ _ c.finish.result.items c.time_octets.ensures time ranges azimuth all c.finish.ensures ∙ (λ i. sensor_record (c.stamp.view_is i, c.line.view_is i))

pub returns-clause-size : goal.returns-clause-size
returns-clause-size c = ap length (returns-clause-octets c) ∙ sensor_size (c.args.stamp.now, c.args.line.now)
