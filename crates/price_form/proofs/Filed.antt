-- Records, one after the other.
use Rattle.std.proofs.Common.{◌≡◌, ℕ, ◌+◌, ◌-◌, ◌*◌, ◌<◌, ◌≤◌, ◌^◌, List, [], ◌∷◌, ◌++◌, length, get_or, take, drop, arith, refl, sym, ◌∙◌, ap, subst, inl, inr, length-append, append_assoc, append-nil}
use Rattle.std.specs.Int.{w64, cast_signed}
use Rattle.std.specs.Prelude.{FitsSigned}
use Rattle.std.specs.List.{flat_map, All, range_with_len}
use Rattle.std.proofs.Math.Facts.{sfits_to_z}
use Rattle.std.proofs.lemmas.Bool.{cases_lt}
use Rattle.std.proofs.lemmas.Grind.{same_number_lists, flat_map-append}
use Rattle.std.proofs.lemmas.List.{get_or_append_left, get_or-append-add, get_or-drop, get_or-take, length-drop, length-take-le, take-append-drop, take_all}
use Rattle.std.proofs.lemmas.List.Elements.{All-push, All-map}
use Rattle.assignment_dual.specs.Problems.{IsProblem}
use Rattle.price_form.specs.declared.certs.Cert.{Cert}
use Rattle.price_form.specs.declared.certs.PriceRecord.{PriceRecord}
use Rattle.price_form.specs.declared.certs.PriceRecord.TheVariants.{Edition, Cert as Certified}
use Rattle.price_form.specs.Certificates.{IsCert}
use Rattle.price_form.specs.Octets.{word_octets, word_at, half_at, price_number_at, many_at}
use Rattle.price_form.specs.Encoding.{price_record_octets, cert_octets}
use Rattle.price_form.specs.Files.{IsInRange, IsRecord, StandsAt, StandFrom, ArePrices, StopsAt, magic}
use Rattle.price_form.specs.Reading.{Stands, NoRecord, ReadsRecord, ReadsNone, cert_read, cert_end}
use Rattle.price_form.proofs.Standing.{AreOctets, stands_head, stands_both, stands_cons, word_stands}
use Rattle.price_form.proofs.Certified.{cert_is, cert_stands, small_word}

pub stands_from_drop : (bytes : List ℕ) (at : ℕ) (piece rest : List ℕ) → at ≤ length bytes → drop at bytes ≡ piece ++ rest → Stands bytes at piece
stands_from_drop bytes at piece rest le e = record {
  inside = omega (arith, le, length-drop at bytes, ap length e, length-append piece rest);
  same = λ k lt. sym (get_or-drop at bytes k 0) ∙ ap (λ xs. get_or xs k 0) e ∙ get_or_append_left piece rest 0 k lt;
}

pub record_some : (r : PriceRecord) → 0 < length (price_record_octets r)
unfolding cert_octets
record_some (Edition number cut) = omega arith
record_some (Certified c at) = omega arith

-- where no record stands, the octets stop being a price file
pub stops_here : (bytes : List ℕ) (at : ℕ) (records : List PriceRecord) → at < length bytes → take at bytes ≡ magic ++ flat_map price_record_octets records → All IsRecord records → NoRecord bytes at → StopsAt bytes at
stops_here bytes at records lt e each none = record {
  records = records;
  rest = drop at bytes;
  encoded = sym (take-append-drop at bytes) ∙ ap (λ xs. xs ++ drop at bytes) e ∙ append_assoc magic (flat_map price_record_octets records) (drop at bytes);
  each = each;
  stops = record {
    some_left = omega (arith, lt, length-drop at bytes);
    none = λ r rest ok f. none r ok (stands_from_drop bytes at (price_record_octets r) rest (omega (arith, lt)) f);
  };
  place = sym (length-take-le at bytes (omega (arith, lt))) ∙ ap length e;
}

take_stands : (bytes : List ℕ) (at : ℕ) (piece : List ℕ) → Stands bytes at piece → take (at + length piece) bytes ≡ take at bytes ++ piece
take_stands bytes at piece h =
    let long = length-take-le at bytes (omega (arith, h.inside)) in
    let long' = length-take-le (at + length piece) bytes h.inside in
    same_number_lists _ _ (omega (arith, long, long', length-append (take at bytes) piece)) (λ k lt.
    elim (cases_lt k at) [
      | inl low ↦ get_or-take (at + length piece) bytes k 0 (omega (arith, low)) ∙ sym (get_or_append_left (take at bytes) piece 0 k (omega (arith, low, long)) ∙ get_or-take at bytes k 0 low)
      | inr high ↦
          let i = k - at in
          let back : at + i ≡ k = omega (arith, high) in
          let back' : length (take at bytes) + i ≡ k = omega (arith, high, long) in
          let in' : i < length piece = omega (arith, high, lt, long') in
          get_or-take (at + length piece) bytes k 0 (omega (arith, lt, long')) ∙ ap (λ j. get_or bytes j 0) (sym back) ∙ h.same i in' ∙ sym (get_or-append-add (take at bytes) piece i 0) ∙ ap (λ j. get_or (take at bytes ++ piece) j 0) back'
    ])

stand_push : (p : ℕ) (rs : List PriceRecord) (r : PriceRecord) → StandFrom p rs → StandsAt (p + length (flat_map price_record_octets rs)) r → StandFrom p (rs ++ r ∷ [])
stand_push p [] r h k = let e : p + 0 ≡ p = omega arith in (subst (λ q. StandsAt q r) e k, tt)
stand_push p (s ∷ rs) r h k =
    let e : p + length (price_record_octets s ++ flat_map price_record_octets rs) ≡ p + length (price_record_octets s) + length (flat_map price_record_octets rs) = omega (arith, length-append (price_record_octets s) (flat_map price_record_octets rs)) in
    (h.0, stand_push (p + length (price_record_octets s)) rs r h.1 (subst (λ q. StandsAt q r) e k))

-- what is known after one more record
pub record More (bytes : List ℕ) (at end : ℕ) (records : List PriceRecord) : Type 0 where
  pub inside : end ≤ length bytes
  pub on : at < end
  pub encoded : take end bytes ≡ magic ++ flat_map price_record_octets records
  pub each : All IsRecord records
  pub places : StandFrom 4 records

pub one_record : (bytes : List ℕ) (at end : ℕ) (records : List PriceRecord) (r : PriceRecord) → at ≤ length bytes → take at bytes ≡ magic ++ flat_map price_record_octets records → All IsRecord records → StandFrom 4 records → ReadsRecord bytes at r end → More bytes at end (records ++ r ∷ [])
one_record bytes at end records r le e each places h =
    let flat : flat_map price_record_octets (records ++ r ∷ []) ≡ flat_map price_record_octets records ++ price_record_octets r = flat_map-append price_record_octets records (r ∷ []) ∙ ap (λ xs. flat_map price_record_octets records ++ xs) (append-nil (price_record_octets r)) in
    let long : at ≡ 4 + length (flat_map price_record_octets records) = sym (length-take-le at bytes le) ∙ ap length e ∙ length-append magic (flat_map price_record_octets records) in
    record {
      inside = omega (arith, h.ends, h.stands.inside);
      on = omega (arith, h.ends, record_some r);
      encoded = ap (λ n. take n bytes) h.ends ∙ take_stands bytes at (price_record_octets r) h.stands ∙ ap (λ xs. xs ++ price_record_octets r) e ∙ append_assoc magic (flat_map price_record_octets records) (price_record_octets r) ∙ ap (λ xs. magic ++ xs) (sym flat);
      each = All-push IsRecord records r each h.formed;
      places = stand_push 4 records r places (subst (λ q. StandsAt q r) long h.at);
    }

pub whole_file : (bytes : List ℕ) (at : ℕ) (records : List PriceRecord) → length bytes ≤ at → take at bytes ≡ magic ++ flat_map price_record_octets records → All IsRecord records → StandFrom 4 records → ArePrices bytes records
whole_file bytes at records le e each places = record { encoded = sym (take_all at bytes le) ∙ e; each = each; places = places }

-- Records that can't stand there

pub no_edition : (xs : List ℕ) (p : ℕ) → get_or xs p 0 ≡ 1 → length xs < p + 17 → NoRecord xs p
unfolding cert_octets
no_edition xs p e lt (Edition number cut) ok h = omega (arith, lt, h.inside, length-append (word_octets number) (word_octets cut))
no_edition xs p e lt (Certified c at) ok h = omega (arith, sym e ∙ stands_head h)

pub no_cert : (xs : List ℕ) (p : ℕ) → get_or xs p 0 ≡ 2 → ReadsNone xs p → NoRecord xs p
unfolding cert_octets
no_cert xs p e none (Edition number cut) ok h = omega (arith, sym e ∙ stands_head h)
no_cert xs p e none (Certified c at) ok h =
    let k = cert_is c ok.0 ok.1 ok.2 h in
    none (omega (arith, k.1, h.inside)) (subst IsCert (sym k.0) ok.0) (subst (λ d. IsProblem d.costs) (sym k.0) ok.1)

pub no_other : (xs : List ℕ) (p : ℕ) → (get_or xs p 0 ≡ 1 → ⊥) → (get_or xs p 0 ≡ 2 → ⊥) → NoRecord xs p
unfolding cert_octets
no_other xs p a b (Edition number cut) ok h = a (stands_head h)
no_other xs p a b (Certified c at) ok h = b (stands_head h)

-- Records that stand there

pub edition_read : (xs : List ℕ) (p number cut end : ℕ) → AreOctets xs → get_or xs p 0 ≡ 1 → p + 17 ≤ length xs → number ≡ word_at xs (p + 1) → cut ≡ word_at xs (p + 9) → end ≡ p + 17 → ReadsRecord xs p (Edition number cut) end
edition_read xs p number cut end o e le a b f = record {
  formed = (omega (arith, a, small_word xs o (p + 1)), omega (arith, b, small_word xs o (p + 9)));
  stands = stands_cons {q = p + 1} e refl (stands_both {q = p + 9} (subst (λ n. Stands xs (p + 1) (word_octets n)) (sym a) (word_stands (p + 1) o (omega (arith, le)))) (omega arith) (subst (λ n. Stands xs (p + 9) (word_octets n)) (sym b) (word_stands (p + 9) o (omega (arith, le)))));
  at = tt;
  ends = omega (arith, f, length-append (word_octets number) (word_octets cut));
}

all_many : {X : Type 0} (P : X → Type 0) (r : List ℕ → ℕ → X) (s : ℕ) (xs : List ℕ) (p n : ℕ) → ((q : ℕ) → P (r xs q)) → All P (many_at r s xs p n)
unfolding many_at
all_many P r s xs p n h = All-map P (λ i. r xs (p + i * s)) (range_with_len 0 n) (λ k d lt. h _)

pub small_half : (xs : List ℕ) → AreOctets xs → (p : ℕ) → half_at xs p < 2 ^ 32
small_half xs o p = omega (arith, o p, o (p + 1), o (p + 2), o (p + 3))

price_fits : (n : ℕ) → n < 2 ^ 64 → FitsSigned w64 (cast_signed w64 n)
price_fits n h = sfits_to_z (record { fits = h })

in_range : (xs : List ℕ) (p : ℕ) → AreOctets xs → IsInRange (cert_read xs p)
unfolding cert_read
in_range xs p o = record {
  slot = small_word xs o (p + 1);
  radar = o (p + 9);
  plots = small_half xs o (p + 10);
  plot_arrivals = all_many (λ a. a < 2 ^ 64) word_at 8 xs _ _ (small_word xs o);
  track_arrivals = all_many (λ a. a < 2 ^ 64) word_at 8 xs _ _ (small_word xs o);
  u = all_many (FitsSigned w64) price_number_at 8 xs _ _ (λ q. price_fits (word_at xs q) (small_word xs o q));
  v = all_many (FitsSigned w64) price_number_at 8 xs _ _ (λ q. price_fits (word_at xs q) (small_word xs o q));
}

pub cert_reads : (xs : List ℕ) (p end : ℕ) (c : Cert) (at : ℕ) → AreOctets xs → get_or xs p 0 ≡ 2 → c ≡ cert_read xs p → end ≡ cert_end xs p → cert_end xs p ≤ length xs → IsCert c → IsProblem c.costs → at ≡ p → ReadsRecord xs p (Certified c at) end
cert_reads xs p end c at o e value ends le formed problem place =
    let h = cert_stands p o e le in
    record {
      formed = (formed, problem, subst IsInRange (sym value) (in_range xs p o));
      stands = subst (λ d. Stands xs p (cert_octets d)) (sym value) h.0;
      at = place;
      ends = ends ∙ h.1 ∙ ap (λ d. p + length (cert_octets d)) (sym value);
    }

pub more_as : {bytes : List ℕ} {at end : ℕ} {records records' : List PriceRecord} → records' ≡ records → More bytes at end records → More bytes at end records'
more_as {bytes} {at} {end} {records} {records'} e h = subst (More bytes at end) (sym e) h
