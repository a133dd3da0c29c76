-- Batches of one part of a slot beside those of another.
use Rattle.std.specs.Prelude.{◌<◌, ℕ, List}
use Rattle.slot_step.specs.OneBatch.{Batch}
use Rattle.slot_step.specs.Certificates.{IsAt}

-- a batch stands at index i, and its radar is below r
pub record IsBelow (bs : List Batch) (i r : ℕ) : Type 0 where
  pub batch : Batch
  pub at : IsAt bs i batch
  pub below : batch.radar < r
