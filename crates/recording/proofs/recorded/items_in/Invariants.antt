use Rattle.std.proofs.Common.{length}
use Rattle.recording.specs.Items.{Item, IsItem, item_octets}
use Rattle.recording.specs.Answers.{items_of}
use Rattle.recording.proofs.Codes.{PrefixOf}
use Rattle.recording.proofs.recorded.items_in.Given as goal

abbrev pub invariant-loop-rest : goal.invariant-loop-rest
invariant-loop-rest l = record {
  prefix : PrefixOf Item (IsItem l.header) item_octets l.octets (items_of l.items.items) l.rest;
}

abbrev pub decreases-loop-rest : goal.decreases-loop-rest
decreases-loop-rest l = length l.rest
