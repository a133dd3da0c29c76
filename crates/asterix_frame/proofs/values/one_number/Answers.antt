use Rattle.asterix_frame.proofs.Written.{two_written, three_written}
use Rattle.asterix_frame.proofs.values.one_number.Goals as goal

pub returns : goal.returns
returns c = record { two = two_written; three = three_written }
