-- Octets have one reading.
use Rattle.std.proofs.Common.{◌≡◌, ◌∙◌, ap, sym, refl, subst, inl, inr, length-append, ℕ, ◌≢◌, List, [], ◌∷◌, ◌++◌, length, arith}
use Rattle.std.specs.Prelude.{Bool, Option, Some, None}
use Rattle.std.specs.List.{AllByRecursion}
use Rattle.asterix_frame.specs.declared.tables.Uap.{Uap}
use Rattle.asterix_frame.specs.Blocks.{DataBlock, encoding}
use Rattle.asterix_frame.specs.Tables.{category_of}
use Rattle.asterix_frame.specs.DataRecords.{IsDataRecord}
use Rattle.asterix_frame.specs.Bodies.{BodyFault, body_of, times_of}
use Rattle.asterix_frame.specs.Datagrams.{Content, IsContent, IsReadCategory, block_of, times_of_content}
use Rattle.asterix_frame.specs.Datagrams as datagrams
use Rattle.asterix_frame.proofs.Bodies.{one_list, not_both}
use Rattle.recording.specs.declared.header.Header.{Header}
use Rattle.recording.specs.Endings.{fault_of}
use Rattle.recording.specs.Items.{Item, AreItems}
use Rattle.recording.specs.Raw.{TimedBlock, blocks_of, start_of, raw_items}
use Rattle.recording.specs.Times.{HasTimes, IsMalformed, whole, malformed}
use Rattle.recording.specs.Readings.{HasHeader, header_octets, recording, IsRecording, HasNoStart, IsRaw, HasContents}
use Rattle.recording.proofs.Codes.{written_same}
use Rattle.recording.proofs.ItemOctets.{items_code, headers_same, magics_same}
use Rattle.recording.proofs.BlockOctets.{blocks_code}

abbrev pub Same : ℕ → ℕ → List Item → List Item → Option ℕ → Option ℕ → Type 0
Same s t xs ys f g = (s ≡ t) × (xs ≡ ys) × (f ≡ g)

abbrev pub SameContents : Option Header → Option Header → ℕ → ℕ → List Item → List Item → Option ℕ → Option ℕ → Type 0
SameContents g h s t xs ys f k = (g ≡ h) × (s ≡ t) × (xs ≡ ys) × (f ≡ k)

-- ---- the recording form

recordings_same : (octets : List ℕ) (goes_on : Bool) (g h : Header) (s t : ℕ) (xs ys : List Item) (f k : Option ℕ) → IsRecording octets goes_on g s xs f → IsRecording octets goes_on h t ys k → SameContents (Some g) (Some h) s t xs ys f k
recordings_same octets goes_on g h s t xs ys f k a b =
    let starts = headers_same g h s t a.after b.after a.start_fits b.start_fits (sym a.whole ∙ b.whole) in
    let moved : AreItems g a.after ys b.ending = subst (λ z. AreItems z a.after ys b.ending) (sym starts.0) (subst (λ z. AreItems h z ys b.ending) (sym starts.2) b.items_are) in
    let things = written_same (items_code g) a.after xs ys a.ending b.ending a.items_are moved in
    (ap Some starts.0, starts.1, things.0, a.fault_is ∙ (λ i. fault_of (things.1 i) goes_on (length (recording (starts.0 i) (starts.1 i) (things.0 i))) (length octets)) ∙ sym b.fault_is)

start_cut : (octets : List ℕ) (goes_on : Bool) (g h : Header) (s t : ℕ) (xs ys : List Item) (f k : Option ℕ) → IsRecording octets goes_on g s xs f → HasNoStart octets h t ys k → ⊥
start_cut octets goes_on g h s t xs ys f k a b = omega (arith, ap length a.whole, length-append (header_octets g s) a.after, ap length b.whole, b.short)

no_starts_same : (octets : List ℕ) (g h : Header) (s t : ℕ) (xs ys : List Item) (f k : Option ℕ) → HasNoStart octets g s xs f → HasNoStart octets h t ys k → SameContents (Some g) (Some h) s t xs ys f k
no_starts_same octets g h s t xs ys f k a b =
    (ap Some (magics_same g h a.few b.few (sym a.whole ∙ b.whole)).0, a.start_is ∙ sym b.start_is, a.items_are ∙ sym b.items_are, a.fault_is ∙ sym b.fault_is)

-- ---- the raw form

categories : (uap uap' : Uap) → IsReadCategory uap → IsReadCategory uap' → category_of uap ≡ category_of uap' → uap ≡ uap'
categories uap uap' (inl a) (inl b) e = a ∙ sym b
categories uap uap' (inl a) (inr b) e = absurd (omega (arith, sym (ap category_of a) ∙ e ∙ ap category_of b))
categories uap uap' (inr a) (inl b) e = absurd (omega (arith, sym (ap category_of a) ∙ e ∙ ap category_of b))
categories uap uap' (inr a) (inr b) e = a ∙ sym b

other_category : (uap : Uap) (category : ℕ) → IsReadCategory uap → category ≢ 34 → category ≢ 48 → category_of uap ≡ category → ⊥
other_category uap category (inl a) n m e = n (sym e ∙ ap category_of a)
other_category uap category (inr a) n m e = m (sym e ∙ ap category_of a)

whole_same : (b : DataBlock) (c d : Content) → IsContent c → IsContent d → b ≡ block_of c → b ≡ block_of d → times_of_content c ≡ times_of_content d
whole_same b (datagrams.records uap rs) (datagrams.records uap' rs') h k e e' =
    let uaps = categories uap uap' h.0 k.0 (ap (λ b. b.category) (sym e ∙ e')) in
    let bodies : body_of rs ≡ body_of rs' = ap (λ b. b.body) (sym e ∙ e') in
    let one = one_list uap' (body_of rs') rs rs' (record { are_records = subst (λ u. AllByRecursion (IsDataRecord u) rs) uaps h.1; whole = sym bodies }) (record { are_records = k.1; whole = refl }) in
    λ i. times_of (uaps i) (one i)
whole_same b (datagrams.records uap rs) (datagrams.other category body) h k e e' = absurd (other_category uap category h.0 k.0 k.1 (ap (λ b. b.category) (sym e ∙ e')))
whole_same b (datagrams.other category body) (datagrams.records uap rs) h k e e' = absurd (other_category uap category k.0 h.0 h.1 (ap (λ b. b.category) (sym e' ∙ e)))
whole_same b (datagrams.other category body) (datagrams.other category' body') h k e e' = refl

malformed_whole : (b : DataBlock) (c : Content) → IsMalformed b → IsContent c → b ≡ block_of c → ⊥
malformed_whole b (datagrams.records uap rs) m h e =
    let uaps = categories m.uap uap m.is_read h.0 (sym m.category ∙ ap (λ b. b.category) e) in
    not_both uap b.body rs m.place m.cause (record { are_records = h.1; whole = ap (λ b. b.body) e }) (subst (λ u. BodyFault u b.body m.place m.cause) uaps m.fault)
malformed_whole b (datagrams.other category body) m h e = other_category m.uap category m.is_read h.0 h.1 (sym m.category ∙ ap (λ b. b.category) e)

times_same : (b : DataBlock) (times times' : List ℕ) → HasTimes (record { block = b; times = times }) → HasTimes (record { block = b; times = times' }) → times ≡ times'
times_same b times times' (whole c h e t) (whole d k e' t') = t ∙ whole_same b c d h k e e' ∙ sym t'
times_same b times times' (whole c h e t) (malformed m t') = absurd (malformed_whole b c m h e)
times_same b times times' (malformed m t) (whole c h e t') = absurd (malformed_whole b c m h e)
times_same b times times' (malformed m t) (malformed n t') = t ∙ sym t'

both_heads : (b c : DataBlock) (bs cs : List DataBlock) → b ∷ bs ≡ c ∷ cs → (b ≡ c) × (bs ≡ cs)
both_heads b c bs cs e = (cc, cc)

timed_same : (bs cs : List TimedBlock) → blocks_of bs ≡ blocks_of cs → AllByRecursion HasTimes bs → AllByRecursion HasTimes cs → bs ≡ cs
timed_same [] [] e h k = refl
timed_same [] (c ∷ cs) e h k = absurd (omega (arith, ap length e))
timed_same (b ∷ bs) [] e h k = absurd (omega (arith, ap length e))
timed_same (b ∷ bs) (c ∷ cs) e h k =
    let heads = both_heads b.block c.block (blocks_of bs) (blocks_of cs) e in
    let times = times_same c.block b.times c.times (subst (λ d. HasTimes (record { block = d; times = b.times })) heads.0 h.0) k.0 in
    let rest = timed_same bs cs heads.1 h.1 k.1 in
    λ i. record { block = heads.0 i; times = times i } ∷ rest i

raws_same : (octets : List ℕ) (goes_on : Bool) (s t : ℕ) (xs ys : List Item) (f g : Option ℕ) → IsRaw octets goes_on s xs f → IsRaw octets goes_on t ys g → Same s t xs ys f g
raws_same octets goes_on s t xs ys f g h k =
    let things = written_same blocks_code octets (blocks_of h.blocks) (blocks_of k.blocks) h.ending k.ending h.blocks_are k.blocks_are in
    let timed = timed_same h.blocks k.blocks things.0 h.timed k.timed in
    let fault : f ≡ g = h.fault_is ∙ (λ i. fault_of (things.1 i) goes_on (length (encoding (things.0 i))) (length octets)) ∙ sym k.fault_is in
    (h.start_is ∙ ap start_of timed ∙ sym k.start_is, h.items_are ∙ (λ i. raw_items (timed i) (fault i)) ∙ sym k.items_are, fault)

-- ---- both

-- a recording begins with its magic
begins_so : (octets : List ℕ) (goes_on : Bool) (h : Header) (s : ℕ) (xs : List Item) (f : Option ℕ) → HasContents octets goes_on (Some h) s xs f → HasHeader (Some h) octets
begins_so octets goes_on h s xs f (inl a) = (_, a.whole)
begins_so octets goes_on h s xs f (inr a) = (a.few, a.whole)

pub header_is : (octets : List ℕ) (goes_on : Bool) (h : Option Header) (s : ℕ) (xs : List Item) (f : Option ℕ) → HasContents octets goes_on h s xs f → HasHeader h octets
header_is octets goes_on (Some h) s xs f a = begins_so octets goes_on h s xs f a
header_is octets goes_on None s xs f a = a.other_beginning

not_both_forms : (octets : List ℕ) (goes_on : Bool) (h : Header) (s t : ℕ) (xs ys : List Item) (f k : Option ℕ) → HasContents octets goes_on (Some h) s xs f → IsRaw octets goes_on t ys k → ⊥
not_both_forms octets goes_on h s t xs ys f k a b =
    let begun = begins_so octets goes_on h s xs f a in
    b.other_beginning h begun.0 begun.1

pub one_recording : (octets : List ℕ) (goes_on : Bool) (g h : Option Header) (s t : ℕ) (xs ys : List Item) (f k : Option ℕ) → HasContents octets goes_on g s xs f → HasContents octets goes_on h t ys k → SameContents g h s t xs ys f k
one_recording octets goes_on (Some g) (Some h) s t xs ys f k (inl a) (inl b) = recordings_same octets goes_on g h s t xs ys f k a b
one_recording octets goes_on (Some g) (Some h) s t xs ys f k (inl a) (inr b) = absurd (start_cut octets goes_on g h s t xs ys f k a b)
one_recording octets goes_on (Some g) (Some h) s t xs ys f k (inr a) (inl b) = absurd (start_cut octets goes_on h g t s ys xs k f b a)
one_recording octets goes_on (Some g) (Some h) s t xs ys f k (inr a) (inr b) = no_starts_same octets g h s t xs ys f k a b
one_recording octets goes_on (Some g) None s t xs ys f k a b = absurd (not_both_forms octets goes_on g s t xs ys f k a b)
one_recording octets goes_on None (Some h) s t xs ys f k a b = absurd (not_both_forms octets goes_on h t s ys xs k f b a)
one_recording octets goes_on None None s t xs ys f k a b =
    let one = raws_same octets goes_on s t xs ys f k a b in
    (refl, one.0, one.1, one.2)
