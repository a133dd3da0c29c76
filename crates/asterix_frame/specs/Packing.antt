-- Records packed in data blocks of limited size.
use Rattle.std.specs.Prelude.{◌≡◌, ◌≢◌, ◌⊎◌, ℕ, ◌+◌, ◌<◌, ◌≤◌, List, [], ◌∷◌, ◌++◌, length, map}
use Rattle.std.specs.List.{concat, flat_map}
use Rattle.asterix_frame.specs.Blocks.{DataBlock, encoded}

-- the octets that a block has at most: those of a datagram that is sent
abbrev pub block_limit : ℕ
block_limit = 1400

-- the octets that a record has at most
abbrev pub record_limit : ℕ
record_limit = 1000

-- the octets of a block of these records
abbrev pub block_size : List (List ℕ) → ℕ
block_size records = length (concat records) + 3

-- Each group is the records of one block: it isn't empty and within the limit, and each but the
-- last couldn't take the next one's first record.
abbrev pub AreFilled : List (List (List ℕ)) → Type 0
AreFilled [] = Unit {0}
AreFilled (group ∷ []) = (group ≢ []) × (block_size group ≤ block_limit)
AreFilled (group ∷ [] ∷ groups) = ⊥
AreFilled (group ∷ (record' ∷ records) ∷ groups) =
    (group ≢ []) × (block_size group ≤ block_limit) × (block_limit < block_size group + length record') × AreFilled ((record' ∷ records) ∷ groups)

-- all records of the groups, in order
abbrev pub ungrouped : List (List (List ℕ)) → List (List ℕ)
ungrouped groups = flat_map (λ group. group) groups

-- the block of these records
abbrev pub packed_block : ℕ → List (List ℕ) → List ℕ
packed_block category records = encoded (record { category = category; body = concat records })

-- The blocks hold these records, each as far as whole records go.
pub record ArePacked (category : ℕ) (records blocks : List (List ℕ)) : Type 0 where
  pub groups : List (List (List ℕ))
  pub filled : AreFilled groups
  pub all : ungrouped groups ≡ records
  pub blocks_are : blocks ≡ map (packed_block category) groups

-- the blocks that are full, and the last one, which may take more records
pub record Packed : Type 0 where
  pub full : List (List ℕ)
  pub last : DataBlock

-- They hold these records so far: none, or blocks that are filled as far as whole records go, the
-- last one among them.
pub record IsPackingOf (category : ℕ) (records : List (List ℕ)) (packed : Packed) : Type 0 where
  pub groups : List (List (List ℕ))
  pub in_last : List (List ℕ)
  pub filled : ((groups ≡ []) × (in_last ≡ [])) ⊎ (AreFilled (groups ++ in_last ∷ []) × (0 < length (concat in_last)))
  pub all : ungrouped groups ++ in_last ≡ records
  pub full_is : packed.full ≡ map (packed_block category) groups
  pub last_is : packed.last ≡ record { category = category; body = concat in_last }
