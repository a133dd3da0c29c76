use Rattle.std.proofs.Common.{◌+◌, ◌*◌}
use Rattle.asterix_frame.specs.Encoding.{field_octet}
use Rattle.asterix_frame.proofs.record_writer.fspec_octet.Goals as goal

pub returns : goal.returns
unfolding field_octet
returns c =
    λ i. 128 * c.bit.ensures.value i + 64 * c.bit-2.ensures.value i + 32 * c.bit-3.ensures.value i + 16 * c.bit-4.ensures.value i
    + 8 * c.bit-5.ensures.value i + 4 * c.bit-6.ensures.value i + 2 * c.bit-7.ensures.value i + c.bit-8.ensures.value i
