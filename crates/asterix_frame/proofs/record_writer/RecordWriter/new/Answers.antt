use Rattle.std.proofs.Common.{ℕ, [], ◌∷◌}
use Rattle.asterix_frame.proofs.Drafts.{draft_none}
use Rattle.asterix_frame.proofs.record_writer.RecordWriter.new.Goals as goal

pub invariant_of-result : goal.invariant_of-result
invariant_of-result c = rw c.clear.ensures.items draft_none
