-- The price file of a load, record by record.
use Rattle.std.proofs.Common.{◌≡◌, ◌∙◌, ap, sym, refl, subst, inl, inr, ℕ, ◌+◌, ◌*◌, ◌<◌, ◌≤◌, Option, List, [], ◌∷◌, ◌++◌, length, get_or, take, drop, arith, append_assoc, append-nil, length-append}
use Rattle.std.specs.List.{flat_map}
use Rattle.std.specs.Io.KnownBytes.{Appends}
use Rattle.std.proofs.Math.Seq.{take-add}
use Rattle.std.proofs.lemmas.Bool.{cases_lt}
use Rattle.std.proofs.lemmas.Grind.{flat_map-append}
use Rattle.std.proofs.lemmas.List.{get_or_append_left, get_or_push, take_at, drop_at}
use Rattle.std.proofs.lemmas.List.Elements.{All-push}
use Rattle.io_traits.specs.Host.{HostState}
use Rattle.io_traits.specs.Touching.{Touches}
use Rattle.io_traits.specs.declared.host.Place.{Place}
use Rattle.io_traits.specs.declared.host.Place.TheVariants as places
use Rattle.io_traits.proofs.Touching.{Touches_refl, Touches_trans, widened}
use Rattle.io_traits.proofs.Known.{Appends_nothing, Appends_trans}
use Rattle.rand_pcg.specs.Lcg.{Lcg}
use Rattle.price_form.specs.declared.certs.PriceRecord.{PriceRecord}
use Rattle.price_form.specs.declared.certs.PriceRecord.TheVariants.{Edition, Cert as Certified}
use Rattle.price_form.specs.Files.{IsRecord, StandFrom, StandsAt, magic}
use Rattle.price_form.specs.Encoding.{price_record_octets}
use Rattle.pairing_load.specs.declared.problems.EdgeCosts.TheVariants.{Random}
use Rattle.io_traits.specs.Places.{Got, GotPrefix}
use Rattle.pairing_load.specs.Problems.{after, generator_of}
use Rattle.pairing_load.specs.Certificates.{IsLoadRecord}
use Rattle.pairing_load.specs.PriceFiles.{FileWritten, PrefixWritten, IsLoadFile, RecordMade, generator_at}
use Rattle.pairing_load.proofs.Drawing.{after_after, after_none}

stand_push : (p : ℕ) (rs : List PriceRecord) (r : PriceRecord) → StandFrom p rs → StandsAt (p + length (flat_map price_record_octets rs)) r → StandFrom p (rs ++ r ∷ [])
stand_push p [] r h k =
    let e : p + 0 ≡ p = omega arith in
    (subst (λ (q : ℕ). StandsAt q r) e k, tt)
stand_push p (s ∷ rs) r h k =
    let e : p + length (price_record_octets s ++ flat_map price_record_octets rs) ≡ p + length (price_record_octets s) + length (flat_map price_record_octets rs) = omega (arith, length-append (price_record_octets s) (flat_map price_record_octets rs)) in
    (h.0, stand_push (p + length (price_record_octets s)) rs r h.1 (subst (λ (q : ℕ). StandsAt q r) e k))

-- what the file begins with
abbrev pub head : List ℕ
head = magic ++ price_record_octets (Edition 1 0)

-- a file without certificates
pub file_none : (seed : ℕ) → IsLoadFile seed 0 head
file_none seed = record {
  records = [];
  file = record {
    encoded = refl;
    each = All-push IsRecord [] (Edition 1 0) (λ k d lt. absurd (omega (arith, lt))) (omega arith, omega arith);
    places = (tt, tt);
  };
  count_is = refl;
  certs = λ k lt. absurd (omega (arith, lt));
}

-- one certificate more
pub file_more : (seed n : ℕ) (bytes octets : List ℕ) → IsLoadFile seed n bytes → RecordMade n (generator_at seed n) octets → IsLoadFile seed (n + 1) (bytes ++ octets)
file_more seed n bytes octets h made =
    let before : List PriceRecord = Edition 1 0 ∷ h.records in
    let at : ℕ = 4 + length (flat_map price_record_octets before) in
    let r : PriceRecord = Certified made.cert at in
    let none : PriceRecord = Edition 0 0 in
    let flat : flat_map price_record_octets (before ++ r ∷ []) ≡ flat_map price_record_octets before ++ price_record_octets r = flat_map-append price_record_octets before (r ∷ []) ∙ ap (λ (xs : List ℕ). flat_map price_record_octets before ++ xs) (append-nil (price_record_octets r)) in
    let here : get_or (h.records ++ r ∷ []) n none ≡ r = get_or_push h.records r none n h.count_is in
    record {
      records = h.records ++ r ∷ [];
      file = record {
        encoded = (λ i. h.file.encoded i ++ made.encoded i) ∙ append_assoc magic (flat_map price_record_octets before) (price_record_octets r) ∙ ap (λ (xs : List ℕ). magic ++ xs) (sym flat);
        each = All-push IsRecord before r h.file.each made.formed;
        places = stand_push 4 before r h.file.places refl;
      };
      count_is = omega (arith, h.count_is, length-append h.records (r ∷ []));
      certs = λ k lt. elim (cases_lt k n) [
        | inl low ↦ subst (IsLoadRecord k (generator_at seed k)) (sym (get_or_append_left h.records (r ∷ []) none k (omega (arith, low, h.count_is)))) (h.certs k low)
        | inr high ↦
            let same : n ≡ k = omega (arith, high, lt) in
            subst (λ (i : ℕ). IsLoadRecord i (generator_at seed i) (get_or (h.records ++ r ∷ []) i none)) same (subst (IsLoadRecord n (generator_at seed n)) (sym here) made.is)
      ];
    }

-- all is a prefix
pub got_prefix : (place : Place) (old new : HostState) (out : List ℕ) → Got place old new out → GotPrefix place old new out
got_prefix place old new out got =
    let all : take (length out) out ≡ out = ap (take (length out)) (sym (append-nil out)) ∙ take_at out [] (length out) refl in
    (length out, omega arith, subst (λ (t : List ℕ). Appends (old.got place) (new.got place) t) (sym all) got)

-- octets, and a prefix of a piece after them
pub prefix_more : (place : Place) (old mid new : HostState) (out piece : List ℕ) → Got place old mid out → GotPrefix place mid new piece → GotPrefix place old new (out ++ piece)
prefix_more place old mid new out piece got part =
    let n = part.0 in
    let first : take (length out) (out ++ piece) ≡ out = take_at out piece (length out) refl in
    let after' : drop (length out) (out ++ piece) ≡ piece = drop_at out piece (length out) refl in
    let prefix : take (length out + n) (out ++ piece) ≡ out ++ take n piece = take-add (length out) n (out ++ piece) ∙ (λ i. first i ++ take n (after' i)) in
    (length out + n, omega (arith, length-append out piece, part.1), subst (λ (t : List ℕ). Appends (old.got place) (new.got place) t) (sym prefix) (Appends_trans (old.got place) (mid.got place) (new.got place) out (take n piece) got part.2))

-- how far the file was written
pub record Progress (seed n : ℕ) (generator : Lcg) (old new : HostState) : Type 0 where
  pub drawn : generator ≡ generator_at seed n
  pub written : FileWritten seed n old new

pub progress_none : (seed : ℕ) (generator : Lcg) (old new : HostState) → generator ≡ generator_of seed → Got places.Output old new head → Progress seed 0 generator old new
progress_none seed generator old new drawn got = record {
  drawn = drawn ∙ sym (after_none Random (generator_of seed));
  written = record { bytes = head; file = file_none seed; got = got };
}

made_at : (n : ℕ) {g h : Lcg} {octets : List ℕ} → g ≡ h → RecordMade n g octets → RecordMade n h octets
made_at n {g} {h} {octets} e made = subst (λ (k : Lcg). RecordMade n k octets) e made

next_place : (n : ℕ) → n * 9 + 9 ≡ (n + 1) * 9
next_place n = omega arith

pub progress_more : (seed n : ℕ) (generator generator' : Lcg) (octets : List ℕ) (old mid new : HostState) → Progress seed n generator old mid → RecordMade n generator octets → generator' ≡ after Random 9 generator → Got places.Output mid new octets → Progress seed (n + 1) generator' old new
progress_more seed n generator generator' octets old mid new h made drawn got = record {
  drawn = drawn ∙ ap (after Random 9) h.drawn ∙ after_after Random (n * 9) 9 (generator_of seed) ∙ ap (λ (k : ℕ). after Random k (generator_of seed)) (next_place n);
  written = record {
    bytes = h.written.bytes ++ octets;
    file = file_more seed n h.written.bytes octets h.written.file (made_at n h.drawn made);
    got = Appends_trans (old.got places.Output) (mid.got places.Output) (new.got places.Output) h.written.bytes octets h.written.got got;
  };
}

pub prefix_none : (seed count : ℕ) (old new : HostState) → GotPrefix places.Output old new head → PrefixWritten seed count old new
prefix_none seed count old new got = record { made = 0; within = omega arith; bytes = head; file = file_none seed; got = got }

pub prefix_nothing : (seed count : ℕ) (old new : HostState) → new.got places.Output ≡ old.got places.Output → PrefixWritten seed count old new
prefix_nothing seed count old new same = prefix_none seed count old new (0, omega arith, subst (λ (o : Option (List ℕ)). Appends (old.got places.Output) o []) (sym same) (Appends_nothing (old.got places.Output)))

pub prefix_here : (seed n count : ℕ) (old new : HostState) → n ≤ count → FileWritten seed n old new → PrefixWritten seed count old new
prefix_here seed n count old new le h = record { made = n; within = le; bytes = h.bytes; file = h.file; got = got_prefix places.Output old new h.bytes h.got }

pub prefix_broken : (seed n count : ℕ) (generator : Lcg) (octets : List ℕ) (old mid new : HostState) → n < count → Progress seed n generator old mid → RecordMade n generator octets → GotPrefix places.Output mid new octets → PrefixWritten seed count old new
prefix_broken seed n count generator octets old mid new lt h made got = record {
  made = n + 1;
  within = omega (arith, lt);
  bytes = h.written.bytes ++ octets;
  file = file_more seed n h.written.bytes octets h.written.file (made_at n h.drawn made);
  got = prefix_more places.Output old mid new h.written.bytes octets h.written.got got;
}

-- what Output got before was the same
pub prefix_moved : (seed count : ℕ) (old mid new : HostState) → mid.got places.Output ≡ old.got places.Output → PrefixWritten seed count mid new → PrefixWritten seed count old new
prefix_moved seed count old mid new e h = record {
  made = h.made;
  within = h.within;
  bytes = h.bytes;
  file = h.file;
  got = (h.got.0, h.got.1, subst (λ (o : Option (List ℕ)). Appends o (new.got places.Output) (take h.got.0 h.bytes)) e h.got.2);
}

pub written_moved : (seed count : ℕ) (old mid new : HostState) → mid.got places.Output ≡ old.got places.Output → FileWritten seed count mid new → FileWritten seed count old new
written_moved seed count old mid new e h = record {
  bytes = h.bytes;
  file = h.file;
  got = subst (λ (o : Option (List ℕ)). Appends o (new.got places.Output) h.bytes) e h.got;
}

-- bound, and then written
pub bound_written : (a b c : HostState) → Touches (places.Output ∷ []) [] [] a b → Touches [] [] (places.Output ∷ []) b c → Touches (places.Output ∷ []) [] (places.Output ∷ []) a c
bound_written a b c h k =
    Touches_trans (places.Output ∷ []) [] (places.Output ∷ []) a b c
    (widened (places.Output ∷ []) [] [] (places.Output ∷ []) [] (places.Output ∷ []) a b refl refl refl h)
    (widened [] [] (places.Output ∷ []) (places.Output ∷ []) [] (places.Output ∷ []) b c refl refl refl k)

pub bound_only : (a b : HostState) → Touches (places.Output ∷ []) [] [] a b → Touches (places.Output ∷ []) [] (places.Output ∷ []) a b
bound_only a b h = widened (places.Output ∷ []) [] [] (places.Output ∷ []) [] (places.Output ∷ []) a b refl refl refl h

pub bound_none : (a : HostState) → Touches (places.Output ∷ []) [] (places.Output ∷ []) a a
bound_none a = Touches_refl (places.Output ∷ []) [] (places.Output ∷ []) a
