-- How far the raw form was read.
use Rattle.std.proofs.Common.{◌≡◌, ◌∙◌, ap, sym, refl, subst, ℕ, ◌+◌, List, [], ◌∷◌, ◌++◌, length, drop, arith, append-nil, length-append}
use Rattle.std.specs.Prelude.{Bool, Option, Some, None}
use Rattle.std.specs.Option.{unwrap_or}
use Rattle.std.specs.List.{AllByRecursion}
use Rattle.std.proofs.lemmas.List.{map-append}
use Rattle.std.proofs.lemmas.List.Concat.{flat_map-append}
use Rattle.asterix_frame.specs.Blocks.{DataBlock, IsDataBlock, encoded, encoding}
use Rattle.recording.specs.declared.ending.Ending.{Ending}
use Rattle.recording.specs.declared.item.Item as declared
use Rattle.recording.specs.declared.raw.Clock.{Clock}
use Rattle.recording.specs.declared.raw.Player.{Player}
use Rattle.recording.specs.Blocks.{BlocksEnd}
use Rattle.recording.specs.Endings.{fault_of}
use Rattle.recording.specs.Items.{Item, datagram}
use Rattle.recording.specs.Raw.{TimedBlock, blocks_of, start_at, start_of, tick_before, last_tick, ticks, items_from, last_from, closing}
use Rattle.recording.specs.Readings.{HasHeader, IsRaw}
use Rattle.recording.specs.Playing.{HasPlayed, IsPlayed, PlaysAll}
use Rattle.recording.proofs.Clocks.{closing_tick}
use Rattle.recording.specs.Answers.{items_of}
use Rattle.recording.specs.Times.{HasTimes}
use Rattle.recording.proofs.Playing.{last_waits}
use Rattle.recording.proofs.Codes.{PrefixOf, prefix_push, all_push}

abbrev none : Clock
none = record { start = 0; last = 0 }

pub record HasProgress (octets : List ℕ) (from : ℕ) (p : Player) : Type 0 where
  pub blocks : List TimedBlock
  pub prefix : PrefixOf DataBlock IsDataBlock encoded octets (blocks_of blocks) (drop from octets)
  pub timed : AllByRecursion HasTimes blocks
  pub place : from ≡ length (encoding (blocks_of blocks))
  pub played : HasPlayed blocks p

encoding_push : (bs : List DataBlock) (b : DataBlock) → encoding (bs ++ b ∷ []) ≡ encoding bs ++ encoded b
encoding_push bs b = flat_map-append encoded bs (b ∷ []) ∙ ap (λ t. encoding bs ++ t) (append-nil (encoded b))

-- one more block
pub progress_more : (octets : List ℕ) (from next : ℕ) (p p' : Player) (b : TimedBlock) → HasProgress octets from p → IsDataBlock b.block → HasTimes b → drop from octets ≡ encoded b.block ++ drop next octets → next ≡ from + length (encoded b.block) → ((bs : List TimedBlock) → HasPlayed bs p → HasPlayed (bs ++ b ∷ []) p') → HasProgress octets next p'
progress_more octets from next p p' b h fits times e to plays =
    let all : blocks_of (h.blocks ++ b ∷ []) ≡ blocks_of h.blocks ++ b.block ∷ [] = map-append (λ (b : TimedBlock). b.block) h.blocks (b ∷ []) in
    record {
      blocks = h.blocks ++ b ∷ [];
      prefix = subst (λ t. PrefixOf DataBlock IsDataBlock encoded octets t (drop next octets)) (sym all) (prefix_push octets (drop from octets) (drop next octets) (blocks_of h.blocks) b.block h.prefix fits e);
      timed = all_push HasTimes h.blocks b h.timed times;
      place = omega (arith, to, h.place, length-append (encoding (blocks_of h.blocks)) (encoded b.block), ap length (encoding_push (blocks_of h.blocks) b.block)) ∙ sym (ap (λ t. length (encoding t)) all);
      played = plays h.blocks h.played;
    }

-- and where it ends
pub plays_all : (octets : List ℕ) (from : ℕ) (p : Player) (ending : Ending) → HasProgress octets from p → BlocksEnd ending (drop from octets) → PlaysAll octets p ending from
plays_all octets from p ending h ends =
    record {
      blocks = h.blocks;
      blocks_are = record { fit = h.prefix.fit; rest = drop from octets; whole = h.prefix.whole; ends = ends };
      timed = h.timed;
      place_is = h.place;
      played = h.played;
    }

-- ---- the end

played_at : (bs : List TimedBlock) (clock : Option Clock) (played : List Item) → IsPlayed bs clock played → ((unwrap_or clock none).start ≡ start_of bs) × (played ≡ items_from (start_of bs) bs) × ((unwrap_or clock none).last ≡ last_from (start_of bs) bs)
played_at bs None played w =
    let start : 0 ≡ start_of bs = sym (ap start_at w.none) in
    (start, w.items (start_of bs), start ∙ sym (last_waits (start_of bs) bs w.none))
played_at bs (Some k) played s = (s.start, s.items ∙ ap (λ t. items_from t bs) s.start, s.last ∙ ap (λ t. last_from t bs) s.start)

some_items : (last : ℕ) (b : TimedBlock) (bs : List TimedBlock) → [] ≡ items_from last (b ∷ bs) → ⊥
some_items last b bs e = omega (arith, ap length e, length-append (ticks (tick_before last b.times)) (datagram 0 (encoded b.block) ∷ items_from (last_tick last (tick_before last b.times)) bs))

no_items : (item : declared.Item) (items : List declared.Item) → items_of (item ∷ items) ≡ [] → ⊥
no_items item items e = omega (arith, ap length e)

closing_same : (bs : List TimedBlock) (items : List declared.Item) (fault : Option ℕ) → items_of items ≡ items_from (start_of bs) bs → closing bs fault ≡ ticks (closing_tick items (last_from (start_of bs) bs) fault)
closing_same [] [] fault e = refl
closing_same [] (item ∷ items) fault e = absurd (no_items item items e)
closing_same (b ∷ bs) [] fault e = absurd (some_items (start_of (b ∷ bs)) b bs e)
closing_same (b ∷ bs) (item ∷ items) None e = refl
closing_same (b ∷ bs) (item ∷ items) (Some place) e = refl

pub raw_read : (octets : List ℕ) (goes_on : Bool) (p : Player) (ending : Ending) (place : ℕ) (fault : Option ℕ) (k : Clock) (items : List Item) → HasHeader None octets → PlaysAll octets p ending place → fault ≡ fault_of ending goes_on place (length octets) → k ≡ unwrap_or p.clock none → items ≡ items_of p.items.items ++ ticks (closing_tick p.items.items k.last fault) → IsRaw octets goes_on k.start items fault
raw_read octets goes_on p ending place fault k items other h fault_is k_is items_are =
    let at = played_at h.blocks p.clock (items_of p.items.items) h.played in
    let last : k.last ≡ last_from (start_of h.blocks) h.blocks = ap (λ k. k.last) k_is ∙ at.2 in
    record {
      other_beginning = other;
      blocks = h.blocks;
      ending = ending;
      blocks_are = h.blocks_are;
      timed = h.timed;
      start_is = ap (λ k. k.start) k_is ∙ at.0;
      fault_is = fault_is ∙ ap (λ n. fault_of ending goes_on n (length octets)) h.place_is;
      items_are = items_are
          ∙ (λ i. at.1 i ++ ticks (closing_tick p.items.items (last i) fault))
          ∙ ap (λ t. items_from (start_of h.blocks) h.blocks ++ t) (sym (closing_same h.blocks p.items.items fault at.1));
    }
