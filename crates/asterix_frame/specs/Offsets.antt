-- Blocks as they lie in a datagram.
use Rattle.std.specs.Prelude.{◌≡◌, ℕ, ◌+◌, ◌≤◌, List, [], ◌∷◌, ◌++◌, length, map, drop}
use Rattle.asterix_frame.specs.declared.block.Block.{Block}
use Rattle.asterix_frame.specs.Blocks.{DataBlock, IsDataBlock, encoded}

abbrev pub data_block : Block → DataBlock
data_block b = record { category = b.cat; body = b.body.now }

abbrev pub data_blocks : List Block → List DataBlock
data_blocks bs = map data_block bs

-- the datagram has this block, whole, from that offset on
pub record BeginsBlock (datagram : List ℕ) (from : ℕ) (b : Block) : Type 0 where
  pub fits : IsDataBlock (data_block b)
  pub octets : drop from datagram ≡ encoded (data_block b) ++ drop (b.at + length b.body.now) datagram
  pub at_is : b.at ≡ from + 3
  pub within : b.at + length b.body.now ≤ length datagram

-- each body lies after the earlier blocks and its own head
abbrev pub LieFrom : ℕ → List Block → Type 0
LieFrom from [] = Unit {0}
LieFrom from (b ∷ bs) = (b.at ≡ from + 3) × LieFrom (b.at + length b.body.now) bs
