-- A whole datagram: blocks, of which those of radar messages (category 34) and target reports
-- (category 48) are lists of records, and all others are passed over.
use Rattle.std.specs.Prelude.{◌≡◌, ◌≢◌, ◌⊎◌, ℕ, ◌+◌, List, [], ◌++◌, length}
use Rattle.std.specs.List.{flat_map, AllByRecursion}
use Rattle.asterix_frame.specs.declared.tables.Uap.{Uap}
use Rattle.asterix_frame.specs.declared.tables.Uap.TheVariants.{Cat034, Cat048}
use Rattle.asterix_frame.specs.Tables.{category_of}
use Rattle.asterix_frame.specs.Blocks.{DataBlock, IsDataBlock, BeginsNone, encoded}
use Rattle.asterix_frame.specs.DataRecords.{DataRecord}
use Rattle.asterix_frame.specs.Bodies.{AreDataRecords, BodyFault, body_of, times_of}

-- what a datagram's reader makes of a block: records of a category that is read, or octets of
-- another one
pub data Content : Type 0 where
  records : Uap → List DataRecord → Content
  other : ℕ → List ℕ → Content

abbrev pub block_of : Content → DataBlock
block_of (records uap rs) = record { category = category_of uap; body = body_of rs }
block_of (other category body) = record { category = category; body = body }

-- the categories that are read
abbrev pub IsReadCategory : Uap → Type 0
IsReadCategory uap = (uap ≡ Cat034) ⊎ (uap ≡ Cat048)

abbrev pub IsContent : Content → Type 0
IsContent (records uap rs) = IsReadCategory uap × AreDataRecords uap rs × IsDataBlock (block_of (records uap rs))
IsContent (other category body) = (category ≢ 34) × (category ≢ 48) × IsDataBlock (block_of (other category body))

-- the octets of a datagram of these blocks
abbrev pub datagram_of : List Content → List ℕ
datagram_of cs = flat_map (λ c. encoded (block_of c)) cs

-- the datagram is these blocks
pub record IsDatagram (octets : List ℕ) (cs : List Content) : Type 0 where
  pub are_contents : AllByRecursion IsContent cs
  pub whole : octets ≡ datagram_of cs

-- a whole block of a category that is read, whose body isn't records
pub record BeginsFaultyBlock (octets : List ℕ) (inside cause : ℕ) : Type 0 where
  pub uap : Uap
  pub body : List ℕ
  pub rest : List ℕ
  pub body_offset : ℕ
  pub is_read : IsReadCategory uap
  pub is_block : IsDataBlock (record { category = category_of uap; body = body })
  pub begins : octets ≡ encoded (record { category = category_of uap; body = body }) ++ rest
  pub fault : BodyFault uap body body_offset cause
  pub inside_is : inside ≡ 3 + body_offset

-- What stands where a block should begin, and begins none: what is told, how far in, and its cause.
pub data BeginsNoContent (octets : List ℕ) (inside cause : ℕ) : Type 0 where
  no_block : BeginsNone octets inside cause → BeginsNoContent octets inside cause
  no_records : BeginsFaultyBlock octets inside cause → BeginsNoContent octets inside cause

-- The datagram is whole blocks, and then octets that begin none: its first fault, in the order of
-- reading.
pub record DatagramFault (octets : List ℕ) (offset cause : ℕ) : Type 0 where
  pub prefix : List Content
  pub rest : List ℕ
  pub inside : ℕ
  pub are_contents : AllByRecursion IsContent prefix
  pub whole : octets ≡ datagram_of prefix ++ rest
  pub none : BeginsNoContent rest inside cause
  pub offset_is : offset ≡ length (datagram_of prefix) + inside

-- the times of day in a datagram's blocks, in the order of the octets
abbrev pub times_of_content : Content → List ℕ
times_of_content (records uap rs) = times_of uap rs
times_of_content (other category body) = []

abbrev pub times_of_datagram : List Content → List ℕ
times_of_datagram cs = flat_map times_of_content cs
