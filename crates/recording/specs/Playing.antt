-- How far the blocks of the raw form were played.
use Rattle.std.specs.Prelude.{◌≡◌, ◌<◌, ◌^◌, ℕ, List, [], length, Option, Some, None}
use Rattle.std.specs.List.{AllByRecursion}
use Rattle.asterix_frame.specs.Blocks.{encoding}
use Rattle.recording.specs.declared.ending.Ending.{Ending}
use Rattle.recording.specs.declared.raw.Clock.{Clock}
use Rattle.recording.specs.declared.raw.Player.{Player}
use Rattle.recording.specs.Blocks.{AreBlocks}
use Rattle.recording.specs.Raw.{TimedBlock, all_times, blocks_of, start_of, items_from, last_from}
use Rattle.recording.specs.Items as items
use Rattle.recording.specs.Times.{HasTimes}
use Rattle.recording.specs.Answers.{items_of}

-- its times are those of a start and of a tick
pub record InRange (clock : Clock) : Type 0 where
  pub start : clock.start < 2 ^ 40
  pub last : clock.last < 2 ^ 40

-- The clock began at the first time of day, and stands at the last tick.
pub record Started (bs : List TimedBlock) (clock : Clock) (played : List items.Item) : Type 0 where
  pub some : 0 < length (all_times bs)
  pub start : clock.start ≡ start_of bs
  pub items : played ≡ items_from clock.start bs
  pub last : clock.last ≡ last_from clock.start bs

-- No time of day came yet, so there is no tick.
pub record Waiting (bs : List TimedBlock) (played : List items.Item) : Type 0 where
  pub none : all_times bs ≡ []
  pub items : (last : ℕ) → played ≡ items_from last bs

abbrev pub IsPlayed : List TimedBlock → Option Clock → List items.Item → Type 0
IsPlayed bs None played = Waiting bs played
IsPlayed bs (Some clock) played = Started bs clock played

abbrev pub HasPlayed : List TimedBlock → Player → Type 0
HasPlayed bs p = IsPlayed bs p.clock (items_of p.items.items)

-- The octets are these blocks, and all are played.
pub record PlaysAll (octets : List ℕ) (p : Player) (ending : Ending) (place : ℕ) : Type 0 where
  pub blocks : List TimedBlock
  pub blocks_are : AreBlocks octets (blocks_of blocks) ending
  pub timed : AllByRecursion HasTimes blocks
  pub place_is : place ≡ length (encoding (blocks_of blocks))
  pub played : HasPlayed blocks p
