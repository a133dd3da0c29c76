use Rattle.std.proofs.Common.{◌∙◌, ap, sym, arith, Some, ◌*◌}
use Rattle.asterix_frame.specs.declared.tables.Uap.TheVariants.{Cat063}
use Rattle.asterix_frame.specs.Values.{one_octet, data_source}
use Rattle.asterix_frame.specs.DataRecords.{item_octets, source_of, time_of}
use Rattle.asterix_frame.proofs.Written.{three_written}
use Rattle.status_out.specs.SensorRecords.{sensor_items}
use Rattle.status_out.proofs.SensorReading.{not_missing, message_read}
use Rattle.status_out.proofs.sensor_reader.message_of.Goals as goal

pub returns-in_err-sac-clause-read : goal.returns-in_err-sac-clause-read
unfolding sensor_items
returns-in_err-sac-clause-read c = λ m is e. not_missing c.data_source.result (m.0.sac, m.0.sic) c.from_residual.result m c.in_err-sac.was (c.data_source.ensures ∙ ap source_of (sym e))

pub returns-in_err-service-clause-read : goal.returns-in_err-service-clause-read
unfolding sensor_items
returns-in_err-service-clause-read c = λ m is e. not_missing c.one_octet.result m.0.service c.from_residual-in_err-service.result m c.in_err-service.was (c.one_octet.ensures ∙ ap one_octet (c.octets.ensures ∙ ap (item_octets 2) (sym e)))

pub returns-in_err-tod-clause-read : goal.returns-in_err-tod-clause-read
unfolding sensor_items
returns-in_err-tod-clause-read c = λ m is e. not_missing c.time_of_day.result m.0.tod c.from_residual-in_err-tod.result m c.in_err-tod.was (c.time_of_day.ensures ∙ ap (time_of Cat063) (sym e) ∙ three_written m.0.tod (omega (arith, is.0.tod)))

pub returns-in_err-radar_sac-clause-read : goal.returns-in_err-radar_sac-clause-read
unfolding sensor_items
returns-in_err-radar_sac-clause-read c = λ m is e. not_missing c.data_source-2.result (m.1.sac, m.1.sic) c.from_residual-in_err-radar_sac.result m c.in_err-radar_sac.was (c.data_source-2.ensures ∙ ap data_source (c.octets-2.ensures ∙ ap (item_octets 4) (sym e)))

pub returns-in_err-status-clause-read : goal.returns-in_err-status-clause-read
unfolding sensor_items
returns-in_err-status-clause-read c = λ m is e. not_missing c.one_octet-2.result (64 * m.1.con) c.from_residual-in_err-status.result m c.in_err-status.was (c.one_octet-2.ensures ∙ ap one_octet (c.octets-3.ensures ∙ ap (item_octets 5) (sym e)))

pub returns-in_err-time_ms-clause-read : goal.returns-in_err-time_ms-clause-read
unfolding sensor_items
returns-in_err-time_ms-clause-read c = λ m is e. not_missing c.signed_number.result m.1.time_ms c.from_residual-in_err-time_ms.result m c.in_err-time_ms.was (c.signed_number.ensures m.1.time_ms is.1.time_ms (c.octets-4.ensures ∙ ap (item_octets 6) (sym e)))

pub returns-in_err-gain-clause-read : goal.returns-in_err-gain-clause-read
unfolding sensor_items
returns-in_err-gain-clause-read c = λ m is e. not_missing c.signed_numbers.result (m.1.gain, m.1.range) c.from_residual-in_err-gain.result m c.in_err-gain.was (c.signed_numbers.ensures m.1.gain m.1.range is.1.gain is.1.range (c.octets-5.ensures ∙ ap (item_octets 7) (sym e)))

pub returns-in_err-azimuth-clause-read : goal.returns-in_err-azimuth-clause-read
unfolding sensor_items
returns-in_err-azimuth-clause-read c = λ m is e. not_missing c.signed_number-2.result m.1.azimuth c.from_residual-in_err-azimuth.result m c.in_err-azimuth.was (c.signed_number-2.ensures m.1.azimuth is.1.azimuth (c.octets-6.ensures ∙ ap (item_octets 8) (sym e)))

pub returns-clause-read : goal.returns-clause-read
unfolding sensor_items
returns-clause-read c = λ m is e.
    let source = sym c.in_ok-sac.was ∙ c.data_source.ensures ∙ ap source_of (sym e) in
    let service = sym c.in_ok-service.was ∙ c.one_octet.ensures ∙ ap one_octet (c.octets.ensures ∙ ap (item_octets 2) (sym e)) in
    let tod = sym c.in_ok-tod.was ∙ c.time_of_day.ensures ∙ ap (time_of Cat063) (sym e) ∙ three_written m.0.tod (omega (arith, is.0.tod)) in
    let radar = sym c.in_ok-radar_sac.was ∙ c.data_source-2.ensures ∙ ap data_source (c.octets-2.ensures ∙ ap (item_octets 4) (sym e)) in
    let status = sym c.in_ok-status.was ∙ c.one_octet-2.ensures ∙ ap one_octet (c.octets-3.ensures ∙ ap (item_octets 5) (sym e)) in
    let time = sym c.in_ok-time_ms.was ∙ c.signed_number.ensures m.1.time_ms is.1.time_ms (c.octets-4.ensures ∙ ap (item_octets 6) (sym e)) in
    let ranges = sym c.in_ok-gain.was ∙ c.signed_numbers.ensures m.1.gain m.1.range is.1.gain is.1.range (c.octets-5.ensures ∙ ap (item_octets 7) (sym e)) in
    let azimuth = sym c.in_ok-azimuth.was ∙ c.signed_number-2.ensures m.1.azimuth is.1.azimuth (c.octets-6.ensures ∙ ap (item_octets 8) (sym e)) in
    ap Some (message_read m _ _ _ _ _ _ _ _ _ _ _ is source service tod radar status time ranges azimuth)
