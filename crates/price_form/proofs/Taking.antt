-- The offsets of a file's certificates, record by record.
use Rattle.std.proofs.Common.{◌≡◌, ◌≢◌, ℕ, ◌<◌, ◌≤◌, List, [], ◌∷◌, ◌++◌, length, get_or, take, arith, refl, sym, ◌∙◌, ap, subst}
use Rattle.std.specs.List.{flat_map, All}
use Rattle.std.proofs.lemmas.List.Elements.{All-cons, All-head, All-nil, All-push, All-tail}
use Rattle.assignment_dual.specs.Problems.{IsProblem}
use Rattle.price_form.specs.declared.certs.Cert.{Cert}
use Rattle.price_form.specs.Certificates.{IsCert}
use Rattle.price_form.specs.declared.certs.PriceRecord.{PriceRecord}
use Rattle.price_form.specs.declared.certs.PriceRecord.TheVariants.{Edition, Cert as Certified}
use Rattle.price_form.specs.declared.reading.Counts.{Counts}
use Rattle.price_form.specs.Encoding.{cert_octets, price_record_octets}
use Rattle.price_form.specs.Files.{magic, IsRecord, StandFrom, StopsAt}
use Rattle.price_form.specs.Reading.{NoRecord, ReadsRecord, EndsRecord, HasCert, BeginsCert, IsThere, offsets_of, AreOffsets, HasCounts, ReadsCert, cert_read, cert_end, end_of}
use Rattle.price_form.proofs.Standing.{AreOctets, stands_head}
use Rattle.price_form.proofs.Filed.{one_record, stops_here, whole_file, cert_reads}

-- whole records up to here, and the offsets of their certificates
pub record Taken (bytes : List ℕ) (at : ℕ) (offsets : List ℕ) : Type 0 where
  pub records : List PriceRecord
  pub inside : at ≤ length bytes
  pub encoded : take at bytes ≡ magic ++ flat_map price_record_octets records
  pub each : All IsRecord records
  pub places : StandFrom 4 records
  pub there : All (IsThere bytes) records
  pub offsets_are : offsets ≡ offsets_of records

pub record TakenOn (bytes : List ℕ) (at end : ℕ) (offsets : List ℕ) : Type 0 where
  pub taken : Taken bytes end offsets
  pub on : at < end

offsets_push : (rs : List PriceRecord) (r : PriceRecord) → offsets_of (rs ++ r ∷ []) ≡ offsets_of rs ++ offsets_of (r ∷ [])
offsets_push [] r = refl
offsets_push (Edition number cut ∷ rs) r = offsets_push rs r
offsets_push (Certified c at ∷ rs) r = ap (λ (o : List ℕ). at ∷ o) (offsets_push rs r)

is_there : (bytes : List ℕ) (p end : ℕ) (r : PriceRecord) → ReadsRecord bytes p r end → IsThere bytes r
is_there bytes p end (Edition number cut) h = tt
is_there bytes p end (Certified c at) h =
    subst (λ (q : ℕ). HasCert bytes q c) (sym h.at) (record { formed = h.formed.0; problem = h.formed.1; fits = h.formed.2; stands = h.stands })

taken_on : (bytes : List ℕ) (at end : ℕ) (offsets new : List ℕ) (r : PriceRecord) → Taken bytes at offsets → ReadsRecord bytes at r end → new ≡ offsets ++ offsets_of (r ∷ []) → TakenOn bytes at end new
taken_on bytes at end offsets new r t h e =
    let more = one_record bytes at end t.records r t.inside t.encoded t.each t.places h in
    record {
      taken = record {
        records = t.records ++ r ∷ [];
        inside = more.inside;
        encoded = more.encoded;
        each = more.each;
        places = more.places;
        there = All-push (IsThere bytes) t.records r t.there (is_there bytes at end r h);
        offsets_are = e ∙ ap (λ (o : List ℕ). o ++ offsets_of (r ∷ [])) t.offsets_are ∙ sym (offsets_push t.records r);
      };
      on = more.on;
    }

append_none : (xs : List ℕ) → xs ≡ xs ++ []
append_none [] = refl
append_none (x ∷ xs) = ap (λ (o : List ℕ). x ∷ o) (append_none xs)

pub taken_cert : (bytes : List ℕ) (at end : ℕ) (offsets new : List ℕ) → Taken bytes at offsets → EndsRecord bytes at end → get_or bytes at 0 ≡ 2 → new ≡ offsets ++ at ∷ [] → TakenOn bytes at end new
taken_cert bytes at end offsets new t h two e = by h.stands_there h.reads where
  by : (r : PriceRecord) → ReadsRecord bytes at r end → TakenOn bytes at end new
  by (Edition number cut) k = absurd (omega (arith, sym two ∙ stands_head k.stands))
  by (Certified c q) k = taken_on bytes at end offsets new (Certified c q) t k (e ∙ ap (λ (o : ℕ). offsets ++ o ∷ []) (sym k.at))

head_two : (bytes : List ℕ) (at end q : ℕ) (c : Cert) → ReadsRecord bytes at (Certified c q) end → get_or bytes at 0 ≡ 2
unfolding cert_octets
head_two bytes at end q c k = stands_head k.stands

pub taken_other : (bytes : List ℕ) (at end : ℕ) (offsets : List ℕ) → Taken bytes at offsets → EndsRecord bytes at end → get_or bytes at 0 ≢ 2 → TakenOn bytes at end offsets
taken_other bytes at end offsets t h other = by h.stands_there h.reads where
  by : (r : PriceRecord) → ReadsRecord bytes at r end → TakenOn bytes at end offsets
  by (Edition number cut) k = taken_on bytes at end offsets offsets (Edition number cut) t k (append_none offsets)
  by (Certified c q) k = absurd (other (head_two bytes at end q c k))

pub taken_stops : (bytes : List ℕ) (at : ℕ) (offsets : List ℕ) → Taken bytes at offsets → at < length bytes → NoRecord bytes at → StopsAt bytes at
taken_stops bytes at offsets t lt none = stops_here bytes at t.records lt t.encoded t.each none

-- each of these offsets is where a certificate's record begins
begins_each : (bytes : List ℕ) (rs : List PriceRecord) → All (IsThere bytes) rs → All (BeginsCert bytes) (offsets_of rs)
begins_each bytes [] h = All-nil (BeginsCert bytes)
begins_each bytes (Edition number cut ∷ rs) h = begins_each bytes rs (All-tail (IsThere bytes) (Edition number cut) rs h)
begins_each bytes (Certified c at ∷ rs) h =
    All-cons (BeginsCert bytes) at (offsets_of rs) (record { cert = c; has = All-head (IsThere bytes) (Certified c at) rs h }) (begins_each bytes rs (All-tail (IsThere bytes) (Certified c at) rs h))

pub taken_whole : (bytes : List ℕ) (at : ℕ) (offsets : List ℕ) → Taken bytes at offsets → length bytes ≤ at → AreOffsets bytes offsets
taken_whole bytes at offsets t le = record {
  records = t.records;
  file = whole_file bytes at t.records le t.encoded t.each t.places;
  offsets_are = t.offsets_are;
  there = t.there;
  begins = subst (λ (o : List ℕ). All (BeginsCert bytes) o) (sym t.offsets_are) (begins_each bytes t.records t.there);
}

-- a certificate that was judged where it stands
pub cert_stands_here : (xs : List ℕ) (p end : ℕ) (c : Cert) (cs : Counts) → AreOctets xs → get_or xs p 0 ≡ 2 → HasCounts xs p cs × ReadsCert xs p (cert_read xs p) (cert_end xs p) → c ≡ cert_read xs p → end ≡ end_of cs.plots cs.tracks cs.edges p → ReadsRecord xs p (Certified c p) end
cert_stands_here xs p end c cs o two h value ends =
    cert_reads xs p end c p o two value (ends ∙ (λ t. end_of (h.0.plots t) (h.0.tracks t) (h.0.edges t) p)) h.0.inside (subst (λ (d : Cert). IsCert d) (sym value) h.1.formed) (subst (λ (d : Cert). IsProblem d.costs) (sym value) h.1.problem) refl
