-- What is known of a whole input by its prefix.
use Rattle.std.proofs.Common.{◌≡◌, ◌∙◌, ap, refl, subst, inl, inr, ℕ, ◌<◌, ◌≤◌, List, [], ◌∷◌, ◌++◌, length, arith, append_assoc}
use Rattle.std.specs.Prelude.{true, Option, Some, None}
use Rattle.std.specs.List.{flat_map}
use Rattle.asterix_frame.specs.Blocks.{encoding}
use Rattle.recording.specs.declared.ending.Ending.{Ending}
use Rattle.recording.specs.declared.ending.Ending.TheVariants.{Nothing, Other, Truncated}
use Rattle.recording.specs.declared.header.Header.{Header}
use Rattle.recording.specs.Endings.{AreWritten, fault_of}
use Rattle.recording.specs.Items.{Item}
use Rattle.recording.specs.Raw.{blocks_of}
use Rattle.recording.specs.Readings.{magic, version, HasHeader, header_octets, recording, IsRecording, IsRaw, IsReading, IsReadingOfPrefix}
use Rattle.recording.proofs.Codes.{IsCode}
use Rattle.recording.proofs.ItemOctets.{items_code, four_parts}
use Rattle.recording.proofs.BlockOctets.{blocks_code}

some_same : (a b : ℕ) → Some a ≡ Some b → a ≡ b
some_same a b e = cc

-- a fault before the end is at octets that begin none
faulty : (ending : Ending) (offset at end : ℕ) → Some offset ≡ fault_of ending true at end → offset < end → (ending ≡ Other) × (offset ≡ at)
faulty Nothing offset at end e before = absurd (omega (arith, some_same offset end e, before))
faulty Other offset at end e before = (refl, some_same offset at e)
faulty Truncated offset at end e before = absurd (omega (arith, some_same offset end e, before))

-- these stay so, however the octets go on
written_on : {T : Type 0} {Fits : T → Type 0} {encoded : T → List ℕ} {IsOther : List ℕ → Type 0} {IsPartial : List ℕ → Type 0} (code : IsCode T Fits encoded IsOther IsPartial) (octets more : List ℕ) (things : List T) (ending : Ending) → ending ≡ Other → AreWritten T Fits encoded IsOther IsPartial octets things ending → AreWritten T Fits encoded IsOther IsPartial (octets ++ more) things Other
written_on {T} {Fits} {encoded} {IsOther} {IsPartial} code octets more things ending e h =
    let k : AreWritten T Fits encoded IsOther IsPartial octets things Other = subst (AreWritten T Fits encoded IsOther IsPartial octets things) e h in
    record {
      fit = k.fit;
      rest = k.rest ++ more;
      whole = ap (λ t. t ++ more) k.whole ∙ append_assoc (flat_map encoded things) k.rest more;
      ends = code.goes_on k.rest more k.ends;
    }

four : (h : Header) (a b c d : ℕ) (rest more after : List ℕ) → a ∷ b ∷ c ∷ d ∷ (rest ++ more) ≡ magic h ++ after → a ∷ b ∷ c ∷ d ∷ rest ≡ magic h ++ rest
four h a b c d rest more after e =
    let p = four_parts a b c d (version h) (rest ++ more) after e in
    λ i. p.0 i ∷ p.1 i ∷ p.2 i ∷ p.3 i ∷ rest

still_other : (prefix more : List ℕ) → 9 ≤ length prefix → HasHeader None prefix → HasHeader None (prefix ++ more)
still_other [] more long o h rest e = omega arith
still_other (a ∷ []) more long o h rest e = omega arith
still_other (a ∷ b ∷ []) more long o h rest e = omega arith
still_other (a ∷ b ∷ c ∷ []) more long o h rest e = omega arith
still_other (a ∷ b ∷ c ∷ d ∷ prefix) more long o h rest e = o h prefix (four h a b c d prefix more rest e)

recording_on : (prefix more : List ℕ) (header : Header) (start : ℕ) (items : List Item) (offset : ℕ) → offset < length prefix → IsRecording prefix true header start items (Some offset) → IsReading (prefix ++ more) (Some header) start items (Some offset)
recording_on prefix more header start items offset before h =
    let f = faulty h.ending offset (length (recording header start items)) (length prefix) h.fault_is before in
    inl (record {
      start_fits = h.start_fits;
      after = h.after ++ more;
      whole = ap (λ t. t ++ more) h.whole ∙ append_assoc (header_octets header start) h.after more;
      ending = Other;
      items_are = written_on (items_code header) h.after more items h.ending f.0 h.items_are;
      fault_is = ap Some f.1;
    })

raw_on : (prefix more : List ℕ) (start : ℕ) (items : List Item) (offset : ℕ) → 9 ≤ length prefix → offset < length prefix → IsRaw prefix true start items (Some offset) → IsReading (prefix ++ more) None start items (Some offset)
raw_on prefix more start items offset long before h =
    let f = faulty h.ending offset (length (encoding (blocks_of h.blocks))) (length prefix) h.fault_is before in
    record {
      other_beginning = still_other prefix more long h.other_beginning;
      blocks = h.blocks;
      ending = Other;
      blocks_are = written_on blocks_code prefix more (blocks_of h.blocks) h.ending f.0 h.blocks_are;
      timed = h.timed;
      start_is = h.start_is;
      fault_is = ap Some f.1;
      items_are = h.items_are;
    }

pub prefix_fault_stays : (prefix more : List ℕ) (header : Option Header) (start : ℕ) (items : List Item) (offset : ℕ) → 9 ≤ length prefix → offset < length prefix → IsReadingOfPrefix prefix header start items (Some offset) → IsReading (prefix ++ more) header start items (Some offset)
prefix_fault_stays prefix more (Some header) start items offset long before (inl h) = recording_on prefix more header start items offset before h
prefix_fault_stays prefix more (Some header) start items offset long before (inr h) = absurd (omega (arith, long, h.short, ap length h.whole))
prefix_fault_stays prefix more None start items offset long before h = raw_on prefix more start items offset long before h
