-- The times of day of a block's records.
use Rattle.std.proofs.Common.{◌≡◌, ◌∙◌, ap, sym, refl, subst, ℕ, ◌+◌, ◌<◌, ◌≢◌, List, [], ◌∷◌, ◌++◌, All, inl, inr}
use Rattle.std.specs.Prelude.{Option, Some, None, IfSome, if◌then◌else◌}
use Rattle.std.specs.Option.{option_and_then}
use Rattle.std.specs.List.{filter_map, cons_option, AllByRecursion}
use Rattle.std.proofs.lemmas.Bool.Decides.{eqb_tells}
use Rattle.std.proofs.lemmas.List.Elements.{All-from_recursion, filter_map-append}
use Rattle.trk_base.specs.Numbers.{day}
use Rattle.asterix_frame.specs.declared.tables.Uap.{Uap}
use Rattle.asterix_frame.specs.declared.block.Block.{Block}
use Rattle.asterix_frame.specs.declared.block.Malformed.{Malformed}
use Rattle.asterix_frame.specs.declared.walk.ItemSpans.{ItemSpans}
use Rattle.asterix_frame.specs.Blocks.{IsDataBlock}
use Rattle.asterix_frame.specs.Offsets.{data_block}
use Rattle.asterix_frame.specs.Elements.{Element}
use Rattle.asterix_frame.specs.Tables.{category_of, time_frn}
use Rattle.asterix_frame.specs.DataRecords.{DataRecord, IsDataItem, IsDataRecord, item, time_in, time_of}
use Rattle.asterix_frame.specs.Bodies.{HaveDataRecords, HasRecords, IsFaultOfBody, elements_at, times_of}
use Rattle.asterix_frame.specs.Datagrams as datagrams
use Rattle.asterix_frame.specs.Datagrams.{IsReadCategory}
use Rattle.recording.specs.Times.{HasTimes, whole, malformed}

-- by their places
times_have : (uap : Uap) (body : List ℕ) (from : ℕ) (rs : List DataRecord) (found : List ItemSpans) → HaveDataRecords uap body from rs found → filter_map (λ s. time_of uap (elements_at body s.frns.items)) found ≡ times_of uap rs
times_have uap body from [] [] h = refl
times_have uap body from [] (s ∷ found) h = absurd h
times_have uap body from (r ∷ rs) [] h = absurd h
times_have uap body from (r ∷ rs) (s ∷ found) h =
    λ i. cons_option (time_of uap (h.0.items i)) (times_have uap body s.next rs found h.1 i)

-- the time of day among items is below a day
in_day_at : (uap : Uap) (p : Element) (items : List Element) → (p.number + 1 ≡ time_frn uap → IfSome (time_in p.octets) (λ t. t < day)) → IfSome (time_of uap items) (λ t. t < day) → IfSome (time_of uap (p ∷ items)) (λ t. t < day)
in_day_at uap p items first others =
    elim (eqb_tells (p.number + 1) (time_frn uap)) [
      | inl y ↦ subst (λ b. IfSome (option_and_then time_in (if b then Some p.octets else item (time_frn uap) items)) (λ t. t < day)) (sym y.0) (first y.1)
      | inr n ↦ subst (λ b. IfSome (option_and_then time_in (if b then Some p.octets else item (time_frn uap) items)) (λ t. t < day)) (sym n.0) others
    ]

item_in_day : (uap : Uap) (items : List Element) → AllByRecursion (λ p. IsDataItem uap p.number p.octets) items → IfSome (time_of uap items) (λ t. t < day)
item_in_day uap [] h = tt
item_in_day uap (p ∷ items) h = in_day_at uap p items h.0.in_day (item_in_day uap items h.1)

cons_in_day : (time : Option ℕ) (times : List ℕ) → IfSome time (λ t. t < day) → AllByRecursion (λ t. t < day) times → AllByRecursion (λ t. t < day) (cons_option time times)
cons_in_day None times h k = k
cons_in_day (Some time) times h k = (h, k)

all_in_day : (uap : Uap) (rs : List DataRecord) → AllByRecursion (IsDataRecord uap) rs → AllByRecursion (λ t. t < day) (times_of uap rs)
all_in_day uap [] h = tt
all_in_day uap (r ∷ rs) h = cons_in_day (time_of uap r.items) (times_of uap rs) (item_in_day uap r.items h.0.are_items) (all_in_day uap rs h.1)

pub times_found : (uap : Uap) (block : Block) (found : List ItemSpans) (times : List ℕ) → IsReadCategory uap → block.cat ≡ category_of uap → IsDataBlock (data_block block) → HasRecords uap block.body.now found → times ≡ filter_map (λ s. time_of uap (elements_at block.body.now s.frns.items)) found → HasTimes (record { block = data_block block; times = times })
times_found uap block found times read category fits h e =
    let body : data_block block ≡ datagrams.block_of (datagrams.records uap h.records) = λ i. record { category = category i; body = h.is_body.whole i } in
    whole (datagrams.records uap h.records) (read, h.is_body.are_records, subst IsDataBlock body fits) body (e ∙ times_have uap block.body.now 0 h.records found h.have)

pub times_below : (uap : Uap) (body : List ℕ) (found : List ItemSpans) (times : List ℕ) → HasRecords uap body found → times ≡ filter_map (λ s. time_of uap (elements_at body s.frns.items)) found → All (λ t. t < day) times
times_below uap body found times h e =
    subst (All (λ t. t < day)) (sym (e ∙ times_have uap body 0 h.records found h.have)) (All-from_recursion (λ t. t < day) (times_of uap h.records) (all_in_day uap h.records h.is_body.are_records))

pub times_none : (uap : Uap) (block : Block) (m : Malformed) → IsReadCategory uap → block.cat ≡ category_of uap → IsFaultOfBody uap block m → HasTimes (record { block = data_block block; times = [] })
times_none uap block m read category h =
    malformed (record { uap = uap; is_read = read; category = category; place = h.body_offset; cause = m.cause; fault = h.fault }) refl

pub times_other : (block : Block) → block.cat ≢ 34 → block.cat ≢ 48 → IsDataBlock (data_block block) → HasTimes (record { block = data_block block; times = [] })
times_other block a b fits = whole (datagrams.other block.cat block.body.now) (a, b, fits) refl refl

-- one more, where there is one
pub times_more : {X : Type 0} (h : X → Option ℕ) (xs ys : List X) (x : X) (time : Option ℕ) (times times' : List ℕ) → ys ≡ xs ++ x ∷ [] → times ≡ filter_map h xs → h x ≡ time → times' ≡ times ++ cons_option time [] → times' ≡ filter_map h ys
times_more h xs ys x time times times' e so_far found pushed =
    pushed ∙ (λ i. so_far i ++ cons_option (sym found i) []) ∙ sym (ap (filter_map h) e ∙ filter_map-append h xs (x ∷ []))
