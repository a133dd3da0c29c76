use Rattle.std.proofs.Common.{◌∙◌, ap, length}
use Rattle.status_out.proofs.SensorBlocks.{holds_more}
use Rattle.status_out.proofs.sensor_writer.write063.Goals as goal

pub loop-line-preserved : goal.loop-line-preserved
loop-line-preserved c =
    let octets = c.deref.ensures.value in
    holds_more c.args.stamp.now c.args.radars.now c.loop-line.line-index c.line-item.result c.loop-line.block c.append.new.self c.deref.result.now c.append.result c.in_ok-append.field-0 c.loop-line.invariant c.loop-line-test.true c.requires.few c.line-item.is
    (octets ∙ c.in_ok-record.ensures.octets) (ap length octets ∙ c.in_ok-record.ensures.size) c.in_ok-append.was c.append.ensures.full c.in_ok-append.ensures.added
