-- The times of day in a data block.
use Rattle.std.specs.Prelude.{◌≡◌, ℕ, []}
use Rattle.asterix_frame.specs.declared.tables.Uap.{Uap}
use Rattle.asterix_frame.specs.Blocks.{DataBlock}
use Rattle.asterix_frame.specs.Tables.{category_of}
use Rattle.asterix_frame.specs.Bodies.{BodyFault}
use Rattle.asterix_frame.specs.Datagrams.{Content, IsContent, IsReadCategory, block_of, times_of_content}
use Rattle.recording.specs.Raw.{TimedBlock}

-- The block is of category 34 or 48, and its body isn't whole records.
pub record IsMalformed (b : DataBlock) : Type 0 where
  pub uap : Uap
  pub is_read : IsReadCategory uap
  pub category : b.category ≡ category_of uap
  pub place : ℕ
  pub cause : ℕ
  pub fault : BodyFault uap b.body place cause

-- Its times are those of its records, in order. A block of another category has none, and neither has a malformed one.
pub data HasTimes (b : TimedBlock) : Type 0 where
  whole : (c : Content) → IsContent c → b.block ≡ block_of c → b.times ≡ times_of_content c → HasTimes b
  malformed : IsMalformed b.block → b.times ≡ [] → HasTimes b
