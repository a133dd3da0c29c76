-- The data blocks of the raw form, one after the other.
use Rattle.std.specs.Prelude.{◌<◌, ℕ, ◌+◌, ◌*◌, List, ◌∷◌}
use Rattle.asterix_frame.specs.Blocks.{DataBlock, IsDataBlock, encoded}
use Rattle.recording.specs.declared.ending.Ending.{Ending}
use Rattle.recording.specs.Endings.{IsTruncated, EndsSo, AreWritten}

-- A head whose length counts less than the head itself begins no block.
abbrev pub IsNoBlock : List ℕ → Type 0
IsNoBlock (category ∷ high ∷ low ∷ rest) = 256 * high + low < 3
IsNoBlock octets = ⊥

-- a prefix of a block, and not all of it: a head that isn't whole, or a length that reaches past the end
abbrev pub IsTruncatedBlock : List ℕ → Type 0
IsTruncatedBlock = IsTruncated DataBlock IsDataBlock encoded

abbrev pub BlocksEnd : Ending → List ℕ → Type 0
BlocksEnd = EndsSo IsNoBlock IsTruncatedBlock

-- the octets are these blocks, and then what ends them so
abbrev pub AreBlocks : List ℕ → List DataBlock → Ending → Type 0
AreBlocks = AreWritten DataBlock IsDataBlock encoded IsNoBlock IsTruncatedBlock
