-- The certificates of a price file, by their offsets and by their records.
use Rattle.std.proofs.Common.{◌≡◌, ◌∙◌, ap, sym, refl, subst, ℕ, zero, suc, ◌+◌, ◌-◌, ◌^◌, ◌<◌, ◌≤◌, List, [], ◌∷◌, length, min, take, slice_index, Bool, true, false, cond, All, Option, Some, None, Err, arith}
use Rattle.std.specs.Prelude.{MatchBool, MatchOption, option_map}
use Rattle.std.specs.List.{AllZip}
use Rattle.std.proofs.lemmas.List.Elements.{All-nil, All-cons, All-head, All-tail}
use Rattle.std.proofs.lemmas.List.Sums.{sum_by-cons}
use Rattle.rayon.specs.Lists.{first_true}
use Rattle.price_form.specs.declared.certs.Cert.{Cert}
use Rattle.price_form.specs.declared.certs.PriceRecord.{PriceRecord}
use Rattle.price_form.specs.declared.certs.PriceRecord.TheVariants.{Edition, Cert as Certified}
use Rattle.price_form.specs.Reading.{AreOffsets, IsThere, offsets_of}
use Rattle.io_traits.specs.Places.{place_limit}
use Rattle.session_script.specs.declared.status.Status.{Status}
use Rattle.session_script.specs.declared.status.Status.TheVariants.{Done, Usage, Settings, Input, Read, Write, Memory, NotProved}
use Rattle.tracker_session.specs.Checking.{AllProve, FirstFails, IsFile, IsProved, certificates_in, is_certificate}
use Rattle.tracker_session.specs.Judging.{FailsAt, IsFirstFailure, Judged, ProvesAt, RecordFails, StopsTaking}

-- one more certificate proves, before the first that doesn't
first_later : (octets : List ℕ) (at : ℕ) (offsets : List ℕ) (found : Option ℕ) → length (at ∷ offsets) < 2 ^ 64 → ProvesAt octets at → MatchOption found (All (ProvesAt octets) offsets) (IsFirstFailure octets offsets)
    → MatchOption (option_map (λ k. min (k + 1) (2 ^ 64 - 1)) found) (All (ProvesAt octets) (at ∷ offsets)) (IsFirstFailure octets (at ∷ offsets))
first_later octets at offsets None few here h = All-cons (ProvesAt octets) at offsets here h
first_later octets at offsets (Some k) few here h =
    let next : suc k ≡ min (k + 1) (2 ^ 64 - 1) = omega (arith, few, h.inside) in
    subst (IsFirstFailure octets (at ∷ offsets)) next (record {
      inside = omega (arith, h.inside);
      before = All-cons (ProvesAt octets) at (take k offsets) here h.before;
      fails = h.fails;
    })

-- the first of the answers that tells a failure
pub first_told : (octets offsets : List ℕ) (answers : List Bool) → length offsets < 2 ^ 64 → AllZip (λ at answer. MatchBool answer (FailsAt octets at) (ProvesAt octets at)) offsets answers
    → MatchOption (first_true answers) (All (ProvesAt octets) offsets) (IsFirstFailure octets offsets)
first_told octets [] [] few h = All-nil (ProvesAt octets)
first_told octets [] (answer ∷ answers) few h = absurd h
first_told octets (at ∷ offsets) [] few h = absurd h
first_told octets (at ∷ offsets) (true ∷ answers) few h = record { inside = omega arith; before = All-nil (ProvesAt octets); fails = h.0 }
first_told octets (at ∷ offsets) (false ∷ answers) few h = first_later octets at offsets (first_true answers) few h.0 (first_told octets offsets answers (omega (arith, few)) h.1)

one_more : (n : ℕ) → 1 + n ≡ suc n
one_more n = omega arith

cert_counted : (c : Cert) (at : ℕ) (rs : List PriceRecord) → certificates_in (Certified c at ∷ rs) ≡ suc (certificates_in rs)
cert_counted c at rs = sum_by-cons (λ r. cond (is_certificate r) 1 0) (Certified c at) rs ∙ one_more (certificates_in rs)

-- there are as many offsets as certificates
offsets_counted : (records : List PriceRecord) → length (offsets_of records) ≡ certificates_in records
offsets_counted [] = refl
offsets_counted (Edition number cut ∷ rs) = offsets_counted rs
offsets_counted (Certified c at ∷ rs) = ap suc (offsets_counted rs) ∙ sym (cert_counted c at rs)

-- where the certificates prove at their offsets, all records do
records_prove : (octets : List ℕ) (records : List PriceRecord) → All (IsThere octets) records → All (ProvesAt octets) (offsets_of records) → All IsProved records
records_prove octets [] there h = All-nil IsProved
records_prove octets (Edition number cut ∷ rs) there h =
    All-cons IsProved (Edition number cut) rs tt (records_prove octets rs (All-tail (IsThere octets) (Edition number cut) rs there) h)
records_prove octets (Certified c at ∷ rs) there h =
    let here = All-head (ProvesAt octets) at (offsets_of rs) h c (All-head (IsThere octets) (Certified c at) rs there) in
    All-cons IsProved (Certified c at) rs here (records_prove octets rs (All-tail (IsThere octets) (Certified c at) rs there) (All-tail (ProvesAt octets) at (offsets_of rs) h))

-- one more edition, before the first certificate that doesn't prove
edition_first : (number cut : ℕ) (rs : List PriceRecord) (index offset : ℕ) → RecordFails rs index offset → RecordFails (Edition number cut ∷ rs) index offset
edition_first number cut rs index offset h = record {
  before = Edition number cut ∷ h.before;
  cert = h.cert;
  after = h.after;
  parts = ap (λ (t : List PriceRecord). Edition number cut ∷ t) h.parts;
  each = All-cons IsProved (Edition number cut) h.before tt h.each;
  fails = h.fails;
  counted = h.counted;
}

-- one more certificate that proves, before it
cert_first : (c : Cert) (at : ℕ) (rs : List PriceRecord) (index offset : ℕ) → IsProved (Certified c at) → RecordFails rs index offset → RecordFails (Certified c at ∷ rs) (suc index) offset
cert_first c at rs index offset here h = record {
  before = Certified c at ∷ h.before;
  cert = h.cert;
  after = h.after;
  parts = ap (λ (t : List PriceRecord). Certified c at ∷ t) h.parts;
  each = All-cons IsProved (Certified c at) h.before here h.each;
  fails = h.fails;
  counted = ap suc h.counted ∙ sym (cert_counted c at h.before);
}

-- the first that doesn't prove at its offset is the first record that doesn't
record_fails : (octets : List ℕ) (records : List PriceRecord) (index : ℕ) → All (IsThere octets) records → IsFirstFailure octets (offsets_of records) index → RecordFails records index (slice_index (offsets_of records) index)
record_fails octets [] index there h = absurd (omega (arith, h.inside))
record_fails octets (Edition number cut ∷ rs) index there h =
    edition_first number cut rs index (slice_index (offsets_of rs) index)
    (record_fails octets rs index (All-tail (IsThere octets) (Edition number cut) rs there) (record { inside = h.inside; before = h.before; fails = h.fails }))
record_fails octets (Certified c at ∷ rs) zero there h = record {
  before = [];
  cert = c;
  after = rs;
  parts = refl;
  each = All-nil IsProved;
  fails = h.fails c (All-head (IsThere octets) (Certified c at) rs there);
  counted = refl;
}
record_fails octets (Certified c at ∷ rs) (suc index) there h =
    let here = All-head (ProvesAt octets) at (take index (offsets_of rs)) h.before c (All-head (IsThere octets) (Certified c at) rs there) in
    cert_first c at rs index (slice_index (offsets_of rs) index) here
    (record_fails octets rs index (All-tail (IsThere octets) (Certified c at) rs there) (record {
      inside = omega (arith, h.inside);
      before = All-tail (ProvesAt octets) at (take index (offsets_of rs)) h.before;
      fails = h.fails;
    }))

-- so all certificates of the file prove
pub all_prove : (octets offsets : List ℕ) → length octets ≤ place_limit → AreOffsets octets offsets → All (ProvesAt octets) offsets → AllProve octets (length offsets)
all_prove octets offsets within are h = record {
  records = are.records;
  file = record { within = within; prices = are.file };
  each = records_prove octets are.records are.there (subst (λ (o : List ℕ). All (ProvesAt octets) o) are.offsets_are h);
  counted = ap (λ (o : List ℕ). length o) are.offsets_are ∙ offsets_counted are.records;
}

-- or one is the first that doesn't
pub first_fails : (octets offsets : List ℕ) (index offset : ℕ) → length octets ≤ place_limit → AreOffsets octets offsets → IsFirstFailure octets offsets index → slice_index offsets index ≡ offset → FirstFails octets index offset
first_fails octets offsets index offset within are h e =
    let first = record_fails octets are.records index are.there (subst (λ (o : List ℕ). IsFirstFailure octets o index) are.offsets_are h) in
    let at : slice_index (offsets_of are.records) index ≡ offset = subst (λ (o : List ℕ). slice_index o index ≡ offset) are.offsets_are e in
    let f = subst (λ (p : ℕ). RecordFails are.records index p) at first in
    record {
      before = f.before;
      cert = f.cert;
      after = f.after;
      file = subst (λ (rs : List PriceRecord). IsFile octets rs) f.parts (record { within = within; prices = are.file });
      each = f.each;
      fails = f.fails;
      counted = f.counted;
    }

pub taking_judged : (octets : List ℕ) (s : Status) → StopsTaking octets s → Judged octets (Err s)
taking_judged octets (Input offset) h = h
taking_judged octets Memory h = tt
taking_judged octets Done h = absurd h
taking_judged octets Usage h = absurd h
taking_judged octets (Settings f) h = absurd h
taking_judged octets (Read spot) h = absurd h
taking_judged octets (Write spot) h = absurd h
taking_judged octets (NotProved i o) h = absurd h
