-- One more block is played.
use Rattle.std.proofs.Common.{◌≡◌, ◌∙◌, ap, sym, refl, ℕ, ◌+◌, ◌<◌, List, [], ◌∷◌, ◌++◌, length, arith, append_assoc, append-nil, length-append}
use Rattle.std.specs.Prelude.{Option, Some, None, if◌then◌else◌}
use Rattle.std.proofs.lemmas.Bool.{lt-leb}
use Rattle.std.proofs.lemmas.List.Concat.{flat_map-append}
use Rattle.asterix_frame.specs.Blocks.{encoded}
use Rattle.recording.specs.declared.raw.Clock.{Clock}
use Rattle.recording.specs.Items.{Item, datagram}
use Rattle.recording.specs.Raw.{TimedBlock, all_times, whole_seconds, start_at, start_of, tick_at, tick_before, last_tick, ticks, items_from, last_from}
use Rattle.recording.specs.Playing.{Started, Waiting, IsPlayed}
use Rattle.recording.proofs.Clocks.{clock_after, clock_with, tick_of}

-- the items that a block brings
abbrev pub brings : ℕ → TimedBlock → List Item
brings last b = ticks (tick_before last b.times) ++ datagram 0 (encoded b.block) ∷ []

items_push : (last : ℕ) (bs : List TimedBlock) (b : TimedBlock) → items_from last (bs ++ b ∷ []) ≡ items_from last bs ++ brings (last_from last bs) b
items_push last [] b = refl
items_push last (x ∷ bs) b =
    ap (λ t. ticks (tick_before last x.times) ++ datagram 0 (encoded x.block) ∷ t) (items_push (last_tick last (tick_before last x.times)) bs b)
    ∙ sym (append_assoc (ticks (tick_before last x.times)) (datagram 0 (encoded x.block) ∷ items_from (last_tick last (tick_before last x.times)) bs) (brings (last_from (last_tick last (tick_before last x.times)) bs) b))

last_push : (last : ℕ) (bs : List TimedBlock) (b : TimedBlock) → last_from last (bs ++ b ∷ []) ≡ last_tick (last_from last bs) (tick_before (last_from last bs) b.times)
last_push last [] b = refl
last_push last (x ∷ bs) b = last_push (last_tick last (tick_before last x.times)) bs b

times_push : (bs : List TimedBlock) (b : TimedBlock) → all_times (bs ++ b ∷ []) ≡ all_times bs ++ b.times
times_push bs b = flat_map-append (λ (b : TimedBlock). b.times) bs (b ∷ []) ∙ ap (λ t. all_times bs ++ t) (append-nil b.times)

-- no time of day, no tick
pub no_tick : (last : ℕ) → tick_before last [] ≡ None
no_tick last = ap (λ b. if b then tick_at 0 else None) (lt-leb (last + 128) 0 (omega arith))

no_times : (xs ys : List ℕ) → xs ++ ys ≡ [] → (xs ≡ []) × (ys ≡ [])
no_times [] ys e = (refl, e)
no_times (x ∷ xs) ys e = absurd cc

-- before the first time of day the clock stands
pub last_waits : (last : ℕ) (bs : List TimedBlock) → all_times bs ≡ [] → last_from last bs ≡ last
last_waits last [] none = refl
last_waits last (b ∷ bs) none =
    let parts = no_times b.times (all_times bs) none in
    let still : tick_before last b.times ≡ None = ap (tick_before last) parts.0 ∙ no_tick last in
    ap (λ t. last_from (last_tick last t) bs) still ∙ last_waits last bs parts.1

start_first : (xs ys : List ℕ) → 0 < length xs → start_at (xs ++ ys) ≡ start_at xs
start_first [] ys some = absurd (omega arith)
start_first (x ∷ xs) ys some = refl

-- the clock as it stands at a block, before its tick
record Ready (bs : List TimedBlock) (b : TimedBlock) (clock : Clock) (played : List Item) : Type 0 where
  some : 0 < length (all_times (bs ++ b ∷ []))
  start : clock.start ≡ start_of (bs ++ b ∷ [])
  items : played ≡ items_from clock.start bs
  last : clock.last ≡ last_from clock.start bs

ready_first : (bs : List TimedBlock) (b : TimedBlock) (time : ℕ) (times : List ℕ) (played : List Item) → b.times ≡ time ∷ times → Waiting bs played → Ready bs b (record { start = whole_seconds time; last = whole_seconds time }) played
ready_first bs b time times played e w =
    let all : all_times (bs ++ b ∷ []) ≡ time ∷ times = times_push bs b ∙ ap (λ t. t ++ b.times) w.none ∙ e in
    record {
      some = omega (arith, ap length all);
      start = sym (ap start_at all);
      items = w.items (whole_seconds time);
      last = sym (last_waits (whole_seconds time) bs w.none);
    }

ready_more : (bs : List TimedBlock) (b : TimedBlock) (clock : Clock) (played : List Item) → Started bs clock played → Ready bs b clock played
ready_more bs b clock played s =
    record {
      some = omega (arith, s.some, ap length (times_push bs b), length-append (all_times bs) b.times);
      start = s.start ∙ sym (ap start_at (times_push bs b) ∙ start_first (all_times bs) b.times s.some);
      items = s.items;
      last = s.last;
    }

started : (bs : List TimedBlock) (b : TimedBlock) (k : Clock) (found : Option ℕ) (played : List Item) → Ready bs b k played → tick_before k.last b.times ≡ found → Started (bs ++ b ∷ []) (record { start = k.start; last = last_tick k.last found }) (played ++ (ticks found ++ datagram 0 (encoded b.block) ∷ []))
started bs b k found played r t =
    let at : tick_before (last_from k.start bs) b.times ≡ found = ap (λ l. tick_before l b.times) (sym r.last) ∙ t in
    record {
      some = r.some;
      start = r.start;
      items = (λ i. r.items i ++ (ticks (sym at i) ++ datagram 0 (encoded b.block) ∷ [])) ∙ sym (items_push k.start bs b);
      last = (λ i. last_tick (r.last i) (sym at i)) ∙ sym (last_push k.start bs b);
    }

-- a block before the first time of day
waiting : (bs : List TimedBlock) (b : TimedBlock) (played : List Item) → b.times ≡ [] → Waiting bs played → Waiting (bs ++ b ∷ []) (played ++ datagram 0 (encoded b.block) ∷ [])
waiting bs b played e w =
    record {
      none = times_push bs b ∙ (λ i. w.none i ++ e i);
      items = λ last.
          let still : tick_before (last_from last bs) b.times ≡ None = ap (tick_before (last_from last bs)) e ∙ no_tick (last_from last bs) in
          (λ i. w.items last i ++ (ticks (sym still i) ++ datagram 0 (encoded b.block) ∷ [])) ∙ sym (items_push last bs b);
    }

-- one more block
pub played_more : (bs : List TimedBlock) (b : TimedBlock) (clock : Option Clock) (times : List ℕ) (played : List Item) → b.times ≡ times → IsPlayed bs clock played → IsPlayed (bs ++ b ∷ []) (clock_after (clock_with clock times) (tick_of (clock_with clock times) times)) (played ++ (ticks (tick_of (clock_with clock times) times) ++ datagram 0 (encoded b.block) ∷ []))
played_more bs b (Some clock) times played e h = started bs b clock (tick_before clock.last times) played (ready_more bs b clock played h) (ap (tick_before clock.last) e)
played_more bs b None [] played e h = waiting bs b played e h
played_more bs b None (time ∷ times) played e h =
    let k : Clock = record { start = whole_seconds time; last = whole_seconds time } in
    started bs b k (tick_before k.last (time ∷ times)) played (ready_first bs b time times played e h) (ap (tick_before k.last) e)
