-- Each list of octets has a reading.
use Rattle.std.proofs.Common.{◌≡◌, ap, sym, refl, subst, inl, inr, ℕ, suc, ◌<◌, ◌≢◌, List, [], ◌∷◌, ◌++◌, length, arith}
use Rattle.std.specs.Prelude.{Bool, Some, None}
use Rattle.std.specs.List.{AllByRecursion}
use Rattle.std.proofs.lemmas.Bool.{cases_eq}
use Rattle.asterix_frame.specs.declared.tables.Uap.{Uap}
use Rattle.asterix_frame.specs.declared.tables.Uap.TheVariants.{Cat034, Cat048}
use Rattle.asterix_frame.specs.Blocks.{DataBlock, IsDataBlock, encoding}
use Rattle.asterix_frame.specs.Tables.{category_of}
use Rattle.asterix_frame.specs.Bodies.{times_of}
use Rattle.asterix_frame.specs.Datagrams.{IsReadCategory}
use Rattle.asterix_frame.specs.Datagrams as datagrams
use Rattle.asterix_frame.proofs.Bodies.{some_reading}
use Rattle.recording.specs.declared.header.Header.{Header}
use Rattle.recording.specs.declared.header.Header.TheVariants.{First, Second}
use Rattle.recording.specs.Endings.{fault_of}
use Rattle.recording.specs.Blocks.{AreBlocks}
use Rattle.recording.specs.Raw.{TimedBlock, blocks_of, start_of, raw_items}
use Rattle.recording.specs.Times.{HasTimes, whole, malformed}
use Rattle.recording.specs.Readings.{magic, version, HasHeader, header_octets, recording, HasReading}
use Rattle.recording.proofs.Codes.{IsBytes, some_written}
use Rattle.recording.proofs.Octets.{five_octets}
use Rattle.recording.proofs.ItemOctets.{items_decided, four_parts}
use Rattle.recording.proofs.BlockOctets.{blocks_decided}

-- ---- the recording form

read_items : (goes_on : Bool) (header : Header) (start : ℕ) (after : List ℕ) → start < 1099511627776 → IsBytes after → HasReading (header_octets header start ++ after) goes_on
read_items goes_on header start after fits bytes =
    let items = some_written (items_decided header) after bytes in
    record {
      header = Some header;
      start = start;
      items = items.things;
      fault = fault_of items.ending goes_on (length (recording header start items.things)) (length (header_octets header start ++ after));
      contents = inl (record { start_fits = fits; after = after; whole = refl; ending = items.ending; items_are = items.written; fault_is = refl });
    }

no_start : (goes_on : Bool) (header : Header) (few : List ℕ) → length few < 5 → HasReading (magic header ++ few) goes_on
no_start goes_on header few short =
    record { header = Some header; start = 0; items = []; fault = Some 4; contents = inr (record { few = few; short = short; whole = refl; start_is = refl; items_are = refl; fault_is = refl }) }

read_recorded : (goes_on : Bool) (h : Header) (after : List ℕ) → IsBytes after → HasReading (magic h ++ after) goes_on
read_recorded goes_on h [] bytes = no_start goes_on h [] (omega arith)
read_recorded goes_on h (a ∷ []) bytes = no_start goes_on h (a ∷ []) (omega arith)
read_recorded goes_on h (a ∷ b ∷ []) bytes = no_start goes_on h (a ∷ b ∷ []) (omega arith)
read_recorded goes_on h (a ∷ b ∷ c ∷ []) bytes = no_start goes_on h (a ∷ b ∷ c ∷ []) (omega arith)
read_recorded goes_on h (a ∷ b ∷ c ∷ d ∷ []) bytes = no_start goes_on h (a ∷ b ∷ c ∷ d ∷ []) (omega arith)
read_recorded goes_on h (a ∷ b ∷ c ∷ d ∷ e ∷ items) bytes =
    let start = five_octets a b c d e (bytes 0) (bytes 1) (bytes 2) (bytes 3) (bytes 4) in
    subst (λ t. HasReading t goes_on) (ap (λ t. magic h ++ (t ++ items)) start.2) (read_items goes_on h start.0 items start.1 (λ i. bytes (suc (suc (suc (suc (suc i)))))))

-- ---- the raw form

record TimedSo (b : DataBlock) : Type 0 where
  times : List ℕ
  has : HasTimes (record { block = b; times = times })

timed_read : (uap : Uap) (b : DataBlock) → IsReadCategory uap → b.category ≡ category_of uap → IsDataBlock b → TimedSo b
timed_read uap b read category fits =
    elim (some_reading uap b.body) [
      | inl (rs, body) ↦ (
          let block : b ≡ datagrams.block_of (datagrams.records uap rs) = λ i. record { category = category i; body = body.whole i } in
          record { times = times_of uap rs; has = whole (datagrams.records uap rs) (read, body.are_records, subst IsDataBlock block fits) block refl })
      | inr (place, cause, fault) ↦ record { times = []; has = malformed (record { uap = uap; is_read = read; category = category; place = place; cause = cause; fault = fault }) refl }
    ]

timed_one : (b : DataBlock) → IsDataBlock b → TimedSo b
timed_one b fits =
    elim (cases_eq b.category 34) [
      | inl e ↦ timed_read Cat034 b (inl refl) e fits
      | inr n ↦ elim (cases_eq b.category 48) [
        | inl e ↦ timed_read Cat048 b (inr refl) e fits
        | inr m ↦ record { times = []; has = whole (datagrams.other b.category b.body) (n, m, fits) refl refl }
      ]
    ]

record AllTimed (bs : List DataBlock) : Type 0 where
  timed : List TimedBlock
  are : bs ≡ blocks_of timed
  have : AllByRecursion HasTimes timed

all_timed : (bs : List DataBlock) → AllByRecursion IsDataBlock bs → AllTimed bs
all_timed [] h = record { timed = []; are = refl; have = tt }
all_timed (b ∷ bs) h =
    let one = timed_one b h.0 in
    let others = all_timed bs h.1 in
    record { timed = record { block = b; times = one.times } ∷ others.timed; are = ap (λ t. b ∷ t) others.are; have = (one.has, others.have) }

read_blocks : (octets : List ℕ) (goes_on : Bool) → IsBytes octets → HasHeader None octets → HasReading octets goes_on
read_blocks octets goes_on bytes other =
    let blocks = some_written blocks_decided octets bytes in
    let timed = all_timed blocks.things blocks.written.fit in
    let fault = fault_of blocks.ending goes_on (length (encoding (blocks_of timed.timed))) (length octets) in
    record {
      header = None;
      start = start_of timed.timed;
      items = raw_items timed.timed fault;
      fault = fault;
      contents = record {
        other_beginning = other;
        blocks = timed.timed;
        ending = blocks.ending;
        blocks_are = subst (λ t. AreBlocks octets t blocks.ending) timed.are blocks.written;
        timed = timed.have;
        start_is = refl;
        fault_is = refl;
        items_are = refl;
      };
    }

-- ---- both

first_differs : (a b c d : ℕ) (rest : List ℕ) → ((h : Header) → (a ≡ 77) × (b ≡ 82) × (c ≡ 84) × (d ≡ version h) → ⊥) → HasHeader None (a ∷ b ∷ c ∷ d ∷ rest)
first_differs a b c d rest differ h more e = differ h (four_parts a b c d (version h) rest more e)

no_version : (d : ℕ) → d ≢ 49 → d ≢ 50 → (h : Header) → d ≡ version h → ⊥
no_version d one two First e = one e
no_version d one two Second e = two e

pub some_reading_of : (octets : List ℕ) (goes_on : Bool) → IsBytes octets → HasReading octets goes_on
some_reading_of [] goes_on bytes = read_blocks [] goes_on bytes (λ h rest e. cc)
some_reading_of (a ∷ []) goes_on bytes = read_blocks (a ∷ []) goes_on bytes (λ h rest e. cc)
some_reading_of (a ∷ b ∷ []) goes_on bytes = read_blocks (a ∷ b ∷ []) goes_on bytes (λ h rest e. cc)
some_reading_of (a ∷ b ∷ c ∷ []) goes_on bytes = read_blocks (a ∷ b ∷ c ∷ []) goes_on bytes (λ h rest e. cc)
some_reading_of (a ∷ b ∷ c ∷ d ∷ after) goes_on bytes =
    let octets = a ∷ b ∷ c ∷ d ∷ after in
    let blocks : ((h : Header) → (a ≡ 77) × (b ≡ 82) × (c ≡ 84) × (d ≡ version h) → ⊥) → HasReading octets goes_on = λ differ. read_blocks octets goes_on bytes (first_differs a b c d after differ) in
    let recorded : (h : Header) → a ≡ 77 → b ≡ 82 → c ≡ 84 → d ≡ version h → HasReading octets goes_on =
    λ h ea eb ec ed. subst (λ t. HasReading t goes_on) (λ i. sym ea i ∷ sym eb i ∷ sym ec i ∷ sym ed i ∷ after) (read_recorded goes_on h after (λ i. bytes (suc (suc (suc (suc i)))))) in
    elim (cases_eq a 77) [
      | inr na ↦ blocks (λ h e. na e.0)
      | inl ea ↦ elim (cases_eq b 82) [
        | inr nb ↦ blocks (λ h e. nb e.1)
        | inl eb ↦ elim (cases_eq c 84) [
          | inr nc ↦ blocks (λ h e. nc e.2)
          | inl ec ↦ elim (cases_eq d 49) [
            | inl ed ↦ recorded First ea eb ec ed
            | inr nd ↦ elim (cases_eq d 50) [
              | inl ed ↦ recorded Second ea eb ec ed
              | inr md ↦ blocks (λ h e. no_version d nd md h e.3)
            ]
          ]
        ]
      ]
    ]
