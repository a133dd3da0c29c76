-- Each list of octets has a replay under all settings.
use Rattle.std.proofs.Common.{◌≡◌, ap, sym, refl, subst, inl, inr, ℕ, ◌+◌, ◌<◌, List, [], ◌∷◌, ◌++◌, length, take, drop, get_or, arith, append_assoc, All, true, false}
use Rattle.std.specs.Prelude.{Bool, Option, Some, None}
use Rattle.std.specs.List.{flat_map, concat, AllByRecursion, AllZip}
use Rattle.std.proofs.lemmas.Bool.{cases_lt}
use Rattle.std.proofs.lemmas.List.{get_or_append_left, get_or_past, take-append-drop}
use Rattle.std.proofs.lemmas.List.Elements.{All-from_get_or}
use Rattle.asterix_frame.specs.Blocks.{encoding}
use Rattle.asterix_frame.specs.Blocks as frame
use Rattle.asterix_frame.proofs.Datagrams.{some_reading}
use Rattle.recording.specs.declared.header.Header.{Header}
use Rattle.asterix_frame.specs.Values.{big_endian}
use Rattle.recording.specs.Items.{Item, datagram, tick, bias, item_octets}
use Rattle.admission_log.specs.Changes.{IsOpenChange}
use Rattle.recording.specs.Raw.{TimedBlock, blocks_of, start_of, ticks, tick_before, last_tick, items_from, last_from, tick_at, second, closing}
use Rattle.recording.specs.Readings.{header_octets, HasContents}
use Rattle.recording.proofs.Codes.{IsBytes, bytes_of, rest_bytes}
use Rattle.admission_log.specs.declared.settings.Settings.{Settings}
use Rattle.admission_log.specs.declared.events.Event.{Event}
use Rattle.admission_log.specs.declared.events.Event.TheVariants.{Tick, Bias}
use Rattle.admission_log.specs.Histories.{History, first, last_of, next_of, low_at}
use Rattle.admission_log.proofs.Judgements.{delivery, is_delivery}
use Rattle.tracker_session.specs.Counting.{counts_of}
use Rattle.io_traits.specs.Places.{place_limit}
use Rattle.tracker_session.specs.Inputs.{IsInput, tells_biases}
use Rattle.tracker_session.specs.Replay.{Adds, IsLogAfter, IsEditionAt, IsOutput, HasReplay, cut_before, log_with, empty_log, editions_of, end_to_end}
use Rattle.tracker_session.proofs.Datagrams.{some_datagrams}
use Rattle.tracker_session.proofs.Inputs.{some_read}

-- ---- editions

record SomePieces (settings : Settings) (log : History) (editions : List (ℕ × ℕ)) : Type 0 where
  pieces : List (List ℕ)
  are : AllZip (IsEditionAt settings log) editions pieces

some_pieces : (settings : Settings) (log : History) (editions : List (ℕ × ℕ)) → SomePieces settings log editions
some_pieces settings log [] = record { pieces = []; are = tt }
some_pieces settings log (edition ∷ editions) =
    let one = some_datagrams settings (first edition.1 log) (cut_before log edition.1) edition.0 in
    let others = some_pieces settings log editions in
    record { pieces = concat one.datagrams ∷ others.pieces; are = (record { datagrams = one.datagrams; are = one.are; whole = refl }, others.are) }

record SomeOutput (settings : Settings) (log : History) : Type 0 where
  octets : List ℕ
  is : IsOutput settings log octets

some_output : (settings : Settings) (log : History) → SomeOutput settings log
some_output settings log =
    let all = some_pieces settings log (editions_of log) in
    record { octets = end_to_end all.pieces; is = record { pieces = all.pieces; editions = all.are; whole = refl } }

-- ---- the octets of datagrams are below 256

prefix_bytes : (octets prefix rest : List ℕ) → IsBytes octets → octets ≡ prefix ++ rest → IsBytes prefix
prefix_bytes octets prefix rest bytes e i =
    elim (cases_lt i (length prefix)) [
      | inl within ↦ omega (arith, bytes i, ap (λ t. get_or t i 0) e, get_or_append_left prefix rest 0 i within)
      | inr past ↦ omega (arith, get_or_past prefix i 0 past)
    ]

all_of : (octets : List ℕ) → IsBytes octets → All (λ octet. octet < 256) octets
all_of octets bytes = All-from_get_or (λ octet. octet < 256) octets 0 (λ i lt. bytes i)

abbrev HasBytes : Item → Type 0
HasBytes (datagram feed octets) = IsBytes octets
HasBytes (tick time) = Unit {0}
HasBytes (bias radar slot b) = Unit {0}

abbrev AreBytes : List Item → Type 0
AreBytes = AllByRecursion HasBytes

items_bytes : (items : List Item) (rest : List ℕ) → IsBytes (flat_map item_octets items ++ rest) → AreBytes items
items_bytes [] rest bytes = tt
items_bytes (datagram feed octets ∷ items) rest bytes =
    let own = item_octets (datagram feed octets) in
    let after = flat_map item_octets items ++ rest in
    let parts = append_assoc own (flat_map item_octets items) rest in
    let first = prefix_bytes (flat_map item_octets (datagram feed octets ∷ items) ++ rest) own after bytes parts in
    (rest_bytes own (2 ∷ feed ∷ big_endian 2 (length octets)) octets first refl, items_bytes items rest (rest_bytes (flat_map item_octets (datagram feed octets ∷ items) ++ rest) own after bytes parts))
items_bytes (tick time ∷ items) rest bytes =
    let own = item_octets (tick time) in
    (tt, items_bytes items rest (rest_bytes (flat_map item_octets (tick time ∷ items) ++ rest) own (flat_map item_octets items ++ rest) bytes (append_assoc own (flat_map item_octets items) rest)))
items_bytes (bias radar slot b ∷ items) rest bytes =
    let own = item_octets (bias radar slot b) in
    (tt, items_bytes items rest (rest_bytes (flat_map item_octets (bias radar slot b ∷ items) ++ rest) own (flat_map item_octets items ++ rest) bytes (append_assoc own (flat_map item_octets items) rest)))

both_bytes : (xs ys : List Item) → AreBytes xs → AreBytes ys → AreBytes (xs ++ ys)
both_bytes [] ys h k = k
both_bytes (x ∷ xs) ys h k = (h.0, both_bytes xs ys h.1 k)

ticks_bytes : (time : Option ℕ) → AreBytes (ticks time)
ticks_bytes None = tt
ticks_bytes (Some time) = (tt, tt)

blocks_bytes : (last : ℕ) (blocks : List TimedBlock) (rest : List ℕ) → IsBytes (encoding (blocks_of blocks) ++ rest) → AreBytes (items_from last blocks)
blocks_bytes last [] rest bytes = tt
blocks_bytes last (b ∷ bs) rest bytes =
    let own = frame.encoded b.block in
    let before = tick_before last b.times in
    let after = encoding (blocks_of bs) ++ rest in
    let parts = append_assoc own (encoding (blocks_of bs)) rest in
    let whole = encoding (blocks_of (b ∷ bs)) ++ rest in
    both_bytes (ticks before) (datagram 0 own ∷ items_from (last_tick last before) bs) (ticks_bytes before) (prefix_bytes whole own after bytes parts, blocks_bytes (last_tick last before) bs rest (rest_bytes whole own after bytes parts))

closing_bytes : (blocks : List TimedBlock) (fault : Option ℕ) → AreBytes (closing blocks fault)
closing_bytes [] fault = tt
closing_bytes (b ∷ bs) (Some place) = tt
closing_bytes (b ∷ bs) None = ticks_bytes (tick_at (last_from (start_of (b ∷ bs)) (b ∷ bs) + second))

read_bytes : (octets : List ℕ) (goes_on : Bool) (header : Option Header) (start : ℕ) (items : List Item) (fault : Option ℕ) → IsBytes octets → HasContents octets goes_on header start items fault → AreBytes items
read_bytes octets goes_on (Some header) start items fault bytes (inl r) =
    items_bytes items r.items_are.rest (subst IsBytes r.items_are.whole (rest_bytes octets (header_octets header start) r.after bytes r.whole))
read_bytes octets goes_on (Some header) start items fault bytes (inr r) = subst AreBytes (sym r.items_are) tt
read_bytes octets goes_on None start items fault bytes r =
    subst AreBytes (sym r.items_are) (both_bytes (items_from (start_of r.blocks) r.blocks) (closing r.blocks fault) (blocks_bytes (start_of r.blocks) r.blocks r.blocks_are.rest (subst IsBytes r.blocks_are.whole bytes)) (closing_bytes r.blocks fault))

input_bytes : (octets : List ℕ) (header : Option Header) (start : ℕ) (items : List Item) (fault : Option ℕ) → IsBytes octets → IsInput octets header start items fault → AreBytes items
input_bytes octets header start items fault bytes r =
    elim (cases_lt place_limit (length octets)) [
      | inl long ↦ read_bytes (take place_limit octets) true header start items fault (prefix_bytes octets (take place_limit octets) (drop place_limit octets) bytes (sym (take-append-drop place_limit octets))) (r.prefix long)
      | inr short ↦ read_bytes octets false header start items fault bytes (r.whole short)
    ]

-- ---- the log of items

record SomeAdded (settings : Settings) (log : History) (item : Item) : Type 0 where
  added : Option Event
  adds : Adds settings log item added

some_added : (settings : Settings) (log : History) (item : Item) → HasBytes item → SomeAdded settings log item
some_added settings log (datagram feed octets) bytes =
    elim (some_reading octets (all_of octets bytes)) [
      | inl (contents, whole) ↦ record { added = Some (delivery settings (last_of log) (next_of log) feed contents); adds = (contents, whole, is_delivery settings (last_of log) (next_of log) feed contents) }
      | inr (offset, cause, fault) ↦ record { added = None; adds = record { offset = offset; cause = cause; fault = fault } }
    ]
some_added settings log (tick time) bytes =
    elim (cases_lt (last_of log) time) [
      | inl later ↦ record { added = Some (Tick time); adds = (later, refl) }
      | inr old ↦ record { added = None; adds = old }
    ]
some_added settings log (bias radar slot b) bytes =
    elim (cases_lt radar (length settings.radars)) [
      | inr unknown ↦ record { added = None; adds = λ (is_open : IsOpenChange settings (last_of log) radar slot). omega (arith, unknown, is_open.known) }
      | inl known ↦ elim (cases_lt slot (low_at settings.window (last_of log))) [
        | inl late ↦ record { added = None; adds = λ (is_open : IsOpenChange settings (last_of log) radar slot). omega (arith, late, is_open.not_late) }
        | inr not_late ↦ record { added = Some (Bias radar slot b); adds = (record { known = known; not_late = not_late }, refl) }
      ]
    ]

record SomeLog (settings : Settings) (earlier : History) (items : List Item) : Type 0 where
  log : History
  is : IsLogAfter settings earlier items log

some_log : (settings : Settings) (earlier : History) (items : List Item) → AreBytes items → SomeLog settings earlier items
some_log settings earlier [] bytes = record { log = earlier; is = refl }
some_log settings earlier (item ∷ items) bytes =
    let one = some_added settings earlier item bytes.0 in
    let others = some_log settings (log_with earlier one.added) items bytes.1 in
    record { log = others.log; is = (one.added, one.adds, others.is) }

pub some_replay : (settings : Settings) (octets : List ℕ) → All (λ octet. octet < 256) octets → HasReplay settings octets
some_replay settings octets all =
    let r = some_read octets all in
    let l = some_log settings (empty_log r.start) r.items (input_bytes octets r.header r.start r.items r.fault (bytes_of octets all) r.reading) in
    let o = some_output settings l.log in
    record {
      output = o.octets;
      counts = counts_of (tells_biases octets) r.items l.log;
      fault = r.fault;
      replays = record { header = r.header; start = r.start; items = r.items; reading = r.reading; log = l.log; log_is = l.is; output_is = o.is; counts_are = refl };
    }
