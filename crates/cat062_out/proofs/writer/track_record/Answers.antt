use Rattle.std.proofs.Common.{◌∙◌, ap, ◌++◌, [], ◌∷◌, length, arith}
use Rattle.asterix_frame.specs.Values.{big_endian}
use Rattle.asterix_frame.specs.Encoding.{item_of}
use Rattle.cat062_out.specs.TrackRecords.{where_known, two_signed, address_octets}
use Rattle.cat062_out.proofs.TrackItems.{all_put, record_put, record_size}
use Rattle.cat062_out.proofs.writer.track_record.Goals as goal

pub returns-clause-octets : goal.returns-clause-octets
returns-clause-octets c =
    let code = c.in_ok-put_code.ensures.added ∙ ap (λ l. c.put_motion.new.writer ++ where_known 9 (λ code. big_endian 2 code) l.code) c.line.view_is in
    let address = c.in_ok-put_address.ensures.added ∙ ap (λ l. c.put_code.new.writer ++ where_known 11 address_octets l.address) c.line.view_is in
    let level = c.in_ok-put_level.ensures.added ∙ ap (λ l. c.put_status.new.writer ++ where_known 17 two_signed l.level) c.line.view_is in
    let last = c.in_ok-put.ensures.added ∙ ap (λ t. c.put_level.new.writer ++ item_of 27 t ∷ []) c.accuracy_octets.ensures in
    c.finish.ensures
    ∙ record_put c.args.stamp.now c.args.line.now c.put.new.self
    (all_put c.args.stamp.now c.args.line.now c.put_stamp.new.writer c.put_motion.new.writer c.put_code.new.writer c.put_address.new.writer c.put_status.new.writer c.put_level.new.writer c.put.new.self
    c.in_ok-put_stamp.ensures.added c.in_ok-put_motion.ensures.added code address c.in_ok-put_status.ensures.added level last)

pub returns-clause-limited : goal.returns-clause-limited
returns-clause-limited c =
    omega (
      arith,
      ap length c.finish.ensures,
      record_size c.put.new.self c.in_ok-put.ensures.last,
      c.in_ok-put.ensures.size,
      c.in_ok-put_level.ensures.size,
      c.in_ok-put_status.ensures.size,
      c.in_ok-put_address.ensures.size,
      c.in_ok-put_code.ensures.size,
      c.in_ok-put_motion.ensures.size,
      c.in_ok-put_stamp.ensures.size,
      ap length c.accuracy_octets.ensures,
    )
