-- The clock of the raw form, as it goes on from block to block.
use Rattle.std.proofs.Common.{◌≡◌, refl, ℕ, ◌+◌, ◌<◌, List, [], ◌∷◌, length, arith}
use Rattle.std.specs.Prelude.{Option, Some, None, IfSome, slice_get}
use Rattle.std.specs.Option.{option_map, option_or, option_and_then}
use Rattle.recording.specs.declared.item.Item.{Item}
use Rattle.recording.specs.declared.raw.Clock.{Clock}
use Rattle.recording.specs.Raw.{last_tick, second, tick_at, tick_before, whole_seconds}

-- It begins with the first time of day, in whole seconds.
abbrev pub clock_with : Option Clock → List ℕ → Option Clock
clock_with (Some clock) times = Some clock
clock_with None [] = None
clock_with None (time ∷ times) = Some (record { start = whole_seconds time; last = whole_seconds time })

-- the tick before a block with these times of day
abbrev pub tick_of : Option Clock → List ℕ → Option ℕ
tick_of None times = None
tick_of (Some clock) times = tick_before clock.last times

-- the clock after that tick
abbrev pub clock_after : Option Clock → Option ℕ → Option Clock
clock_after None tick = None
clock_after (Some clock) tick = Some (record { start = clock.start; last = last_tick clock.last tick })

-- the tick after the last of these items
abbrev pub closing_tick : List Item → ℕ → Option ℕ → Option ℕ
closing_tick [] last fault = None
closing_tick (item ∷ items) last (Some place) = None
closing_tick (item ∷ items) last None = tick_at (last + second)

-- ---- what the calls answer

pub clock_with_is : (clock : Option Clock) (times : List ℕ) → option_or clock (option_map (λ time. record { start = whole_seconds time; last = whole_seconds time }) (slice_get times 0)) ≡ clock_with clock times
clock_with_is (Some clock) times = refl
clock_with_is None [] = refl
clock_with_is None (time ∷ times) = refl

pub tick_of_is : (clock : Option Clock) (times : List ℕ) → option_and_then (λ k. tick_before k.last times) clock ≡ tick_of clock times
tick_of_is None times = refl
tick_of_is (Some clock) times = refl

pub clock_after_is : (clock : Option Clock) (tick : Option ℕ) → option_map (λ k. record { start = k.start; last = last_tick k.last tick }) clock ≡ clock_after clock tick
clock_after_is None tick = refl
clock_after_is (Some clock) tick = refl

pub closing_tick_is : (items : List Item) (last : ℕ) (fault tick : Option ℕ) → (items ≡ [] → tick ≡ None) → IfSome fault (λ place. tick ≡ None) → (0 < length items → fault ≡ None → tick ≡ tick_at (last + second)) → tick ≡ closing_tick items last fault
closing_tick_is [] last fault tick none faulty more = none refl
closing_tick_is (item ∷ items) last (Some place) tick none faulty more = faulty
closing_tick_is (item ∷ items) last None tick none faulty more = more (omega arith) refl
