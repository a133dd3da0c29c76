-- A datagram as a list of data blocks (ASTERIX, Part 1): each has a category, a length of two
-- octets that counts the category and itself, and that many octets less three.
use Rattle.std.specs.Prelude.{◌≡◌, ◌⊎◌, ℕ, ◌+◌, ◌*◌, ◌<◌, ◌^◌, List, [], ◌∷◌, ◌++◌, length}
use Rattle.std.specs.List.{flat_map}
use Rattle.std.specs.Int.{w16, to_be_bytes}
use Rattle.asterix_frame.specs.Causes.{block_short, block_length}

-- a block without its offset in a datagram
pub record DataBlock : Type 0 where
  pub category : ℕ
  pub body : List ℕ

-- its octets
abbrev pub encoded : DataBlock → List ℕ
encoded b = b.category ∷ to_be_bytes w16 (length b.body + 3) ++ b.body

-- its length has two octets
abbrev pub IsDataBlock : DataBlock → Type 0
IsDataBlock b = length b.body + 3 < 2 ^ 16

abbrev pub AreDataBlocks : List DataBlock → Type 0
AreDataBlocks [] = Unit {0}
AreDataBlocks (b ∷ bs) = IsDataBlock b × AreDataBlocks bs

-- the octets of a datagram of these blocks
abbrev pub encoding : List DataBlock → List ℕ
encoding bs = flat_map encoded bs

-- What stands where a block should begin, and begins none, however it goes on: fewer octets than a
-- head has, or a length that is too small or reaches past the end.
-- It says how far in the fault is told, and its cause.
abbrev pub BeginsNone : List ℕ → ℕ → ℕ → Type 0
BeginsNone [] inside cause = ⊥
BeginsNone (category ∷ high ∷ low ∷ rest) inside cause =
    (inside ≡ 1) × (cause ≡ block_length) × ((256 * high + low < 3) ⊎ (length rest + 3 < 256 * high + low))
BeginsNone (category ∷ rest) inside cause = (inside ≡ 0) × (cause ≡ block_short)

-- the datagram is whole blocks, and then octets that begin none
pub record BlockFault (datagram : List ℕ) (offset cause : ℕ) : Type 0 where
  pub prefix : List DataBlock
  pub rest : List ℕ
  pub inside : ℕ
  pub blocks : AreDataBlocks prefix
  pub whole : datagram ≡ encoding prefix ++ rest
  pub none : BeginsNone rest inside cause
  pub offset_is : offset ≡ length (encoding prefix) + inside
