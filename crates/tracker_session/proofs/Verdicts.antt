-- Octets have exactly one verdict as a price file.
use Rattle.std.proofs.Common.{◌≡◌, ◌∙◌, ap, sym, refl, subst, inl, inr, ℕ, ◌<◌, ◌⊎◌, List, [], ◌∷◌, ◌++◌, length, take, All, arith}
use Rattle.std.proofs.lemmas.Bool.{cases_lt}
use Rattle.std.proofs.lemmas.List.Elements.{All-nil, All-cons, All-head, All-tail}
use Rattle.price_form.specs.declared.certs.Cert.{Cert}
use Rattle.price_form.specs.declared.certs.PriceRecord.{PriceRecord}
use Rattle.price_form.specs.declared.certs.PriceRecord.TheVariants.{Edition, Cert as Certified}
use Rattle.price_form.specs.Prefixes.{IsPrefixFault}
use Rattle.price_form.proofs.OneFile.{same_records, same_fault, not_both}
use Rattle.price_form.proofs.OnePrefix.{one_fault}
use Rattle.price_form.proofs.PrefixFaults.{file_or_fault, some_fault}
use Rattle.recording.proofs.Codes.{bytes_of}
use Rattle.tracker_session.specs.Checking.{AllProve, Checks, FirstFails, HasFileFault, HasVerdict, IsFile, IsProved, Verdict, certificates_in, proved, fails, fault}
use Rattle.tracker_session.specs.Judging.{RecordFails}
use Rattle.io_traits.specs.Places.{place_limit}
use Rattle.tracker_session.proofs.Deciding.{record_proves}
use Rattle.tracker_session.proofs.Inputs.{prefix_bytes}
use Rattle.tracker_session.proofs.Alike.{Alike}

-- files that are one, or both pass the limit and are one before it, have one verdict
pub checks_alike : (a b : List ℕ) (v : Verdict) → Alike a b → Checks a v → Checks b v
checks_alike a b v (inl e) h = subst (λ (o : List ℕ). Checks o v) e h
checks_alike a b (proved count) (inr both) h = absurd (omega (arith, both.long, h.file.within))
checks_alike a b (fails index offset) (inr both) h = absurd (omega (arith, both.long, h.file.within))
checks_alike a b (fault offset) (inr both) h =
    record {
      whole = λ short. absurd (omega (arith, both.long', short));
      prefix = λ long. subst (λ (f : List ℕ). IsPrefixFault f offset) both.prefix (h.prefix both.long);
    }

-- ---- one at most

same_head : {X : Type 0} (c d : X) (cs ds : List X) → c ∷ cs ≡ d ∷ ds → c ≡ d
same_head c d cs ds e = cc

same_tail : {X : Type 0} (c d : X) (cs ds : List X) → c ∷ cs ≡ d ∷ ds → cs ≡ ds
same_tail c d cs ds e = cc

-- the first that fails stands at one place
one_first : {X : Type 0} (P : X → Type 0) (xs ys cs ds : List X) (c d : X) → xs ++ c ∷ cs ≡ ys ++ d ∷ ds → All P xs → (P c → ⊥) → All P ys → (P d → ⊥) → (xs ≡ ys) × (c ≡ d)
one_first P [] [] cs ds c d e all not all' not' = (refl, same_head c d cs ds e)
one_first P [] (y ∷ ys) cs ds c d e all not all' not' = absurd (not (subst P (sym (same_head c y cs (ys ++ d ∷ ds) e)) (All-head P y ys all')))
one_first P (x ∷ xs) [] cs ds c d e all not all' not' = absurd (not' (subst P (same_head x d (xs ++ c ∷ cs) ds e) (All-head P x xs all)))
one_first P (x ∷ xs) (y ∷ ys) cs ds c d e all not all' not' =
    let rest = one_first P xs ys cs ds c d (same_tail x y (xs ++ c ∷ cs) (ys ++ d ∷ ds) e) (All-tail P x xs all) not (All-tail P y ys all') not' in
    let head = same_head x y (xs ++ c ∷ cs) (ys ++ d ∷ ds) e in
    ((λ i. head i ∷ rest.0 i), rest.1)

middle : {X : Type 0} (P : X → Type 0) (xs cs : List X) (c : X) → All P (xs ++ c ∷ cs) → P c
middle P [] cs c h = All-head P c cs h
middle P (x ∷ xs) cs c h = middle P xs cs c (All-tail P x (xs ++ c ∷ cs) h)

same_place : (c d : Cert) (p q : ℕ) → Certified c p ≡ Certified d q → p ≡ q
same_place c d p q e = cc

proved_fails : (octets : List ℕ) (count index offset : ℕ) → AllProve octets count → FirstFails octets index offset → ⊥
proved_fails octets count index offset h k =
    let same = same_records octets h.records (k.before ++ Certified k.cert offset ∷ k.after) h.file.prices k.file.prices in
    k.fails (middle IsProved k.before k.after (Certified k.cert offset) (subst (λ (rs : List PriceRecord). All IsProved rs) same h.each))

file_fault : (octets : List ℕ) (records : List PriceRecord) (offset : ℕ) → IsFile octets records → HasFileFault octets offset → ⊥
file_fault octets records offset h k = not_both octets records offset h.prices (k.whole h.within)

fails_fails : (octets : List ℕ) (i j p q : ℕ) → FirstFails octets i p → FirstFails octets j q → fails i p ≡ fails j q
fails_fails octets i j p q h k =
    let same = same_records octets (h.before ++ Certified h.cert p ∷ h.after) (k.before ++ Certified k.cert q ∷ k.after) h.file.prices k.file.prices in
    let first = one_first IsProved h.before k.before h.after k.after (Certified h.cert p) (Certified k.cert q) same h.each h.fails k.each k.fails in
    let number = h.counted ∙ ap certificates_in first.0 ∙ sym k.counted in
    let place = same_place h.cert k.cert p q first.1 in
    λ x. fails (number x) (place x)

fault_fault : (octets : List ℕ) (p q : ℕ) → HasFileFault octets p → HasFileFault octets q → p ≡ q
fault_fault octets p q h k =
    elim (cases_lt place_limit (length octets)) [
      | inl long ↦ one_fault (take place_limit octets) p q (h.prefix long) (k.prefix long)
      | inr short ↦ same_fault octets p q (h.whole short) (k.whole short)
    ]

pub one_verdict : (octets : List ℕ) (v w : Verdict) → Checks octets v → Checks octets w → v ≡ w
one_verdict octets (proved a) (proved b) h k = ap proved (h.counted ∙ ap certificates_in (same_records octets h.records k.records h.file.prices k.file.prices) ∙ sym k.counted)
one_verdict octets (proved a) (fails j q) h k = absurd (proved_fails octets a j q h k)
one_verdict octets (proved a) (fault q) h k = absurd (file_fault octets h.records q h.file k)
one_verdict octets (fails i p) (proved b) h k = absurd (proved_fails octets b i p k h)
one_verdict octets (fails i p) (fails j q) h k = fails_fails octets i j p q h k
one_verdict octets (fails i p) (fault q) h k = absurd (file_fault octets (h.before ++ Certified h.cert p ∷ h.after) q h.file k)
one_verdict octets (fault p) (proved b) h k = absurd (file_fault octets k.records p k.file h)
one_verdict octets (fault p) (fails j q) h k = absurd (file_fault octets (k.before ++ Certified k.cert q ∷ k.after) p k.file h)
one_verdict octets (fault p) (fault q) h k = ap fault (fault_fault octets p q h k)

-- ---- one at least

abbrev pub FoundFirst : List PriceRecord → Type 0
FoundFirst records = (index : ℕ) × (offset : ℕ) × RecordFails records index offset

first_of : (r : PriceRecord) (rs : List PriceRecord) → (IsProved r → ⊥) → FoundFirst (r ∷ rs)
first_of (Edition number cut) rs not = absurd (not tt)
first_of (Certified c at) rs not = (0, at, record { before = []; cert = c; after = rs; parts = refl; each = All-nil IsProved; fails = not; counted = refl })

behind_first : (r : PriceRecord) (rs : List PriceRecord) → IsProved r → FoundFirst rs → FoundFirst (r ∷ rs)
behind_first r rs here found =
    let f = found.2 in
    (certificates_in (r ∷ f.before), found.1, record { before = r ∷ f.before; cert = f.cert; after = f.after; parts = ap (λ (t : List PriceRecord). r ∷ t) f.parts; each = All-cons IsProved r f.before here f.each; fails = f.fails; counted = refl })

judged : (records : List PriceRecord) → All IsProved records ⊎ FoundFirst records
judged [] = inl (All-nil IsProved)
judged (r ∷ rs) = elim (record_proves r) [
  | inr not ↦ inr (first_of r rs not)
  | inl here ↦ elim (judged rs) [
    | inl rest ↦ inl (All-cons IsProved r rs here rest)
    | inr found ↦ inr (behind_first r rs here found)
  ]
]

verdict_on : (octets : List ℕ) (records : List PriceRecord) → IsFile octets records → HasVerdict octets
verdict_on octets records file = elim (judged records) [
  | inl all ↦ record { verdict = proved (certificates_in records); checks = record { records = records; file = file; each = all; counted = refl } }
  | inr found ↦ (let f = found.2 in
      record {
        verdict = fails found.0 found.1;
        checks = record { before = f.before; cert = f.cert; after = f.after; file = subst (λ (rs : List PriceRecord). IsFile octets rs) f.parts file; each = f.each; fails = f.fails; counted = f.counted };
      })
]

pub some_verdict : (octets : List ℕ) → All (λ octet. octet < 256) octets → HasVerdict octets
some_verdict octets all = elim (cases_lt place_limit (length octets)) [
  | inl long ↦ (let f = some_fault (take place_limit octets) (prefix_bytes place_limit octets (bytes_of octets all)) in
      record { verdict = fault f.offset; checks = record { whole = λ short. absurd (omega (arith, long, short)); prefix = λ _. f.fault } })
  | inr short ↦ elim (file_or_fault octets (bytes_of octets all)) [
    | inl file ↦ verdict_on octets file.0 (record { within = short; prices = file.1 })
    | inr bad ↦ record { verdict = fault bad.0; checks = record { whole = λ _. bad.1; prefix = λ long. absurd (omega (arith, long, short)) } }
  ]
]
