use Rattle.std.proofs.Common.{◌≡◌, ◌-◌, ◌≤◌, length, ◌++◌, drop}
use Rattle.asterix_frame.specs.Blocks.{AreDataBlocks, encoding}
use Rattle.asterix_frame.specs.Offsets.{data_blocks, LieFrom}
use Rattle.asterix_frame.proofs.framing.blocks.Given as goal

abbrev pub invariant-loop-from : goal.invariant-loop-from
invariant-loop-from l = record {
  good : AreDataBlocks (data_blocks l.found.items);
  whole : l.datagram ≡ encoding (data_blocks l.found.items) ++ drop l.from l.datagram;
  offset_is : l.from ≡ length (encoding (data_blocks l.found.items));
  within : l.from ≤ length l.datagram;
  offsets : LieFrom 0 l.found.items;
}

abbrev pub decreases-loop-from : goal.decreases-loop-from
decreases-loop-from l = length l.datagram - l.from
