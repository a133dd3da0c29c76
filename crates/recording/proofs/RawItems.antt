-- The items of the raw form fit their octets.
use Rattle.std.proofs.Common.{sym, subst, inl, inr, ℕ, suc, ◌+◌, ◌<◌, ◌^◌, List, [], ◌∷◌, ◌++◌, arith}
use Rattle.std.specs.Prelude.{Bool, true, false, Option, Some, None, IfSome, nat_le, if◌then◌else◌}
use Rattle.std.specs.List.{AllByRecursion}
use Rattle.std.proofs.lemmas.Bool.Decides.{leb_tells}
use Rattle.asterix_frame.specs.Blocks.{IsDataBlock, encoded}
use Rattle.recording.specs.declared.header.Header.TheVariants.{Second}
use Rattle.recording.specs.Items.{Item, IsItem, datagram}
use Rattle.recording.specs.Raw.{TimedBlock, blocks_of, second, whole_seconds, latest, tick_at, tick_before, last_tick, last_from, ticks, start_of, items_from, closing}
use Rattle.recording.specs.Readings.{IsRaw}

abbrev Fits : Option ℕ → Type 0
Fits tick = IfSome tick (λ time. time < 2 ^ 40)

tick_fits : (time : ℕ) → Fits (tick_at time)
tick_fits time =
    elim (leb_tells (suc time) (2 ^ 40)) [
      | inl y ↦ subst (λ b. Fits (if b then Some time else None)) (sym y.0) y.1
      | inr n ↦ subst (λ b. Fits (if b then Some time else None)) (sym n.0) tt
    ]

if_fits : (b : Bool) (tick : Option ℕ) → Fits tick → Fits (if b then tick else None)
if_fits true tick h = h
if_fits false tick h = tt

before_fits : (last : ℕ) (times : List ℕ) → Fits (tick_before last times)
before_fits last times = if_fits (nat_le (last + second) (latest last times)) (tick_at (whole_seconds (latest last times))) (tick_fits (whole_seconds (latest last times)))

ticks_fit : (tick : Option ℕ) → Fits tick → AllByRecursion (IsItem Second) (ticks tick)
ticks_fit None h = tt
ticks_fit (Some time) h = (h, tt)

all_append : (xs ys : List Item) → AllByRecursion (IsItem Second) xs → AllByRecursion (IsItem Second) ys → AllByRecursion (IsItem Second) (xs ++ ys)
all_append [] ys h k = k
all_append (x ∷ xs) ys h k = (h.0, all_append xs ys h.1 k)

items_fit : (last : ℕ) (bs : List TimedBlock) → AllByRecursion IsDataBlock (blocks_of bs) → AllByRecursion (IsItem Second) (items_from last bs)
items_fit last [] h = tt
items_fit last (b ∷ bs) h =
    all_append (ticks (tick_before last b.times)) (datagram 0 (encoded b.block) ∷ items_from (last_tick last (tick_before last b.times)) bs)
    (ticks_fit (tick_before last b.times) (before_fits last b.times))
    ((omega arith, omega (arith, h.0)), items_fit (last_tick last (tick_before last b.times)) bs h.1)

closing_fits : (bs : List TimedBlock) (fault : Option ℕ) → AllByRecursion (IsItem Second) (closing bs fault)
closing_fits [] fault = tt
closing_fits (b ∷ bs) (Some place) = tt
closing_fits (b ∷ bs) None = ticks_fit (tick_at (last_from (start_of (b ∷ bs)) (b ∷ bs) + second)) (tick_fits (last_from (start_of (b ∷ bs)) (b ∷ bs) + second))

pub raw_fits : (octets : List ℕ) (goes_on : Bool) (start : ℕ) (items : List Item) (fault : Option ℕ) → IsRaw octets goes_on start items fault → AllByRecursion (IsItem Second) items
raw_fits octets goes_on start items fault h =
    subst (AllByRecursion (IsItem Second)) (sym h.items_are) (all_append (items_from (start_of h.blocks) h.blocks) (closing h.blocks fault) (items_fit (start_of h.blocks) h.blocks h.blocks_are.fit) (closing_fits h.blocks fault))
