-- The raw form: data blocks without feeds or ticks. Each is a datagram of feed 0, and the ticks come from the times of day in the blocks.
use Rattle.std.specs.Prelude.{◌^◌, ℕ, ◌+◌, ◌*◌, ◌/◌, max, nat_lt, nat_le, if◌then◌else◌, List, [], ◌∷◌, ◌++◌, map, fold, Option, Some, None}
use Rattle.std.specs.List.{flat_map}
use Rattle.trk_base.specs.Numbers.{unwrapped}
use Rattle.asterix_frame.specs.Blocks.{DataBlock, encoded}
use Rattle.recording.specs.Items.{Item, datagram, tick}

-- a block, with the times of day in it, in the order of its octets; one that is malformed has none
pub record TimedBlock : Type 0 where
  pub block : DataBlock
  pub times : List ℕ

abbrev pub blocks_of : List TimedBlock → List DataBlock
blocks_of bs = map (λ b. b.block) bs

-- units of time, of 1/128 s, in a second
abbrev pub second : ℕ
second = 128

-- rounded down to whole seconds
abbrev pub whole_seconds : ℕ → ℕ
whole_seconds time = time / second * second

-- the first time of day of all, in whole seconds, or 0
abbrev pub start_at : List ℕ → ℕ
start_at [] = 0
start_at (time ∷ times) = whole_seconds time

abbrev pub all_times : List TimedBlock → List ℕ
all_times bs = flat_map (λ b. b.times) bs

abbrev pub start_of : List TimedBlock → ℕ
start_of bs = start_at (all_times bs)

-- the greatest of the times of day, counted on over midnights by the last tick
abbrev pub latest : ℕ → List ℕ → ℕ
latest last times = fold max 0 (map (λ tod. unwrapped tod last) times)

-- the time of a tick that is taken, and of none at 2 ^ 40 or later
abbrev pub tick_at : ℕ → Option ℕ
tick_at time = if nat_lt time (2 ^ 40) then Some time else None

-- the tick before a block: where its latest time lies a second or more after the last tick
abbrev pub tick_before : ℕ → List ℕ → Option ℕ
tick_before last times = if nat_le (last + second) (latest last times) then tick_at (whole_seconds (latest last times)) else None

-- the last tick after that one
abbrev pub last_tick : ℕ → Option ℕ → ℕ
last_tick last None = last
last_tick last (Some time) = time

abbrev pub ticks : Option ℕ → List Item
ticks None = []
ticks (Some time) = tick time ∷ []

-- the items of the blocks that follow a last tick
abbrev pub items_from : ℕ → List TimedBlock → List Item
items_from last [] = []
items_from last (b ∷ bs) = ticks (tick_before last b.times) ++ datagram 0 (encoded b.block) ∷ items_from (last_tick last (tick_before last b.times)) bs

-- the last tick of these items
abbrev pub last_from : ℕ → List TimedBlock → ℕ
last_from last [] = last
last_from last (b ∷ bs) = last_from (last_tick last (tick_before last b.times)) bs

-- A tick a second later follows the last block, where there is one and no fault.
abbrev pub closing : List TimedBlock → Option ℕ → List Item
closing [] fault = []
closing (b ∷ bs) (Some place) = []
closing (b ∷ bs) None = ticks (tick_at (last_from (start_of (b ∷ bs)) (b ∷ bs) + second))

-- all items
abbrev pub raw_items : List TimedBlock → Option ℕ → List Item
raw_items bs fault = items_from (start_of bs) bs ++ closing bs fault
