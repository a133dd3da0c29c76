use Rattle.std.proofs.Common.{arith}
use Rattle.asterix_frame.specs.Encoding.{record_of}
use Rattle.asterix_frame.proofs.Encodings.{is_record, is_compound, has_record}
use Rattle.asterix_frame.proofs.record_writer.one_encoding.Goals as goal

pub returns : goal.returns
returns c = record {
  written = is_record;
  walk = λ uap items body rest from are e. has_record uap (record_of items) body from rest (is_record uap items are) e;
  extended = λ octet last. record { some = omega arith; goes_on = λ i lt. absurd (omega arith); ends = last };
  compound = is_compound;
}
