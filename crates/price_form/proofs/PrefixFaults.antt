-- Each prefix has a fault, and each list of octets is a price file or has one.
use Rattle.std.proofs.Common.{◌≡◌, ◌≢◌, ◌⊎◌, ℕ, suc, zero, ◌+◌, ◌<◌, ◌≤◌, List, [], ◌∷◌, ◌++◌, Option, Some, None, length, get_or, take, drop, Bool, true, eqb, arith, refl, sym, ◌∙◌, ap, subst, inl, inr, length-append, append-nil, take-append-drop}
use Rattle.std.specs.List.{flat_map, All, starts_with}
use Rattle.std.specs.Option.{MatchOption}
use Rattle.std.proofs.lemmas.Bool.{cases_lt, cases_eq}
use Rattle.std.proofs.lemmas.Bool.Decides.{Decides-eqb}
use Rattle.std.proofs.lemmas.Slice.Eq.{starts_is}
use Rattle.std.proofs.lemmas.List.{take_at, take-append-le}
use Rattle.price_form.specs.declared.certs.PriceRecord.{PriceRecord}
use Rattle.price_form.specs.declared.certs.PriceRecord.TheVariants.{Edition}
use Rattle.price_form.specs.Octets.{word_at}
use Rattle.price_form.specs.Encoding.{price_record_octets}
use Rattle.price_form.specs.Files.{magic, IsRecord, StandFrom, ArePrices, StopsAt, IsPriceFault}
use Rattle.price_form.specs.Reading.{NoRecord, ReadsRecord, cert_end}
use Rattle.price_form.specs.Prefixes.{HasWrongNumber, IsWrong, IsPrefixFault, begins_otherwise, in_magic, is_whole, is_wrong, is_truncated, HasPrefixFault}
use Rattle.price_form.proofs.Standing.{AreOctets}
use Rattle.price_form.proofs.Filed.{no_edition, no_cert, no_other, edition_read, one_record, stops_here, whole_file}
use Rattle.price_form.proofs.ReadSteps.{truncated}
use Rattle.price_form.proofs.Decided.{dec_number}
use Rattle.price_form.proofs.FineNumbers.{ReadsSome, formed_fine, reads_fine}

-- ---- how far the prefix was read

-- whole records stand after the four octets, up to a place
pub record Begun (bytes : List ℕ) (at : ℕ) : Type 0 where
  pub records : List PriceRecord
  pub inside : at ≤ length bytes
  pub encoded : take at bytes ≡ magic ++ flat_map price_record_octets records
  pub each : All IsRecord records
  pub places : StandFrom 4 records

-- and one more
pub record BegunOn (bytes : List ℕ) (at end : ℕ) : Type 0 where
  pub begun : Begun bytes end
  pub on : at < end

pub begun_on : (bytes : List ℕ) (at end : ℕ) (r : PriceRecord) → Begun bytes at → ReadsRecord bytes at r end → BegunOn bytes at end
begun_on bytes at end r b h =
    let more = one_record bytes at end b.records r b.inside b.encoded b.each b.places h in
    record { begun = record { records = b.records ++ r ∷ []; inside = more.inside; encoded = more.encoded; each = more.each; places = more.places }; on = more.on }

pub begun_first : (bytes rest : List ℕ) → bytes ≡ magic ++ rest → Begun bytes 4
begun_first bytes rest e = record {
  records = [];
  inside = omega (arith, ap length e, length-append magic rest);
  encoded = ap (take 4) e;
  each = λ k d lt. absurd (omega (arith, lt));
  places = tt;
}

pub begun_stops : (bytes : List ℕ) (at : ℕ) → Begun bytes at → at < length bytes → NoRecord bytes at → StopsAt bytes at
begun_stops bytes at b lt none = stops_here bytes at b.records lt b.encoded b.each none

-- what is known of the place after a record that was read
pub begun_next : (bytes : List ℕ) (at end : ℕ) (found : Option (PriceRecord × ℕ)) (r : PriceRecord) → Begun bytes at → MatchOption found (NoRecord bytes at) (λ x. ReadsRecord bytes at x.0 x.1) → found ≡ Some (r, end) → BegunOn bytes at end
begun_next bytes at end found r b h e = begun_on bytes at end r b (subst (λ o. MatchOption o (NoRecord bytes at) (λ x. ReadsRecord bytes at x.0 x.1)) e h)

-- and of a place where none stands
pub begun_ends : (bytes : List ℕ) (at : ℕ) (found : Option (PriceRecord × ℕ)) → Begun bytes at → at < length bytes → MatchOption found (NoRecord bytes at) (λ r. ReadsRecord bytes at r.0 r.1) → found ≡ None → StopsAt bytes at
begun_ends bytes at found b lt h e = begun_stops bytes at b lt (subst (λ o. MatchOption o (NoRecord bytes at) (λ r. ReadsRecord bytes at r.0 r.1)) e h)

pub begun_whole : (bytes : List ℕ) (at : ℕ) → Begun bytes at → length bytes ≤ at → IsPrefixFault bytes (length bytes)
begun_whole bytes at b le = is_whole b.records (whole_file bytes at b.records le b.encoded b.each b.places) refl

-- the four octets, or fewer of them
pub magic_prefix : (prefix : List ℕ) (b : Bool) → b ≡ starts_with eqb magic prefix → b ≡ true → IsPrefixFault prefix (length prefix)
magic_prefix prefix b e on = in_magic (drop (length prefix) magic) (sym ((starts_is Decides-eqb magic prefix b e).0 on)) refl

-- octets that begin neither in the four nor with them
pub otherwise : (prefix : List ℕ) → ((rest : List ℕ) → magic ≡ prefix ++ rest → ⊥) → ((rest : List ℕ) → prefix ≡ magic ++ rest → ⊥) → (more rest : List ℕ) → prefix ++ more ≢ magic ++ rest
otherwise prefix short long more rest e =
    elim (cases_lt (length prefix) 4) [
      | inl lt ↦
          let n = length prefix in
          let same : prefix ≡ take n magic = sym (take_at prefix more n refl) ∙ ap (take n) e ∙ take-append-le n magic rest (omega (arith, lt)) in
          short (drop n magic) (sym (take-append-drop n magic) ∙ ap (λ xs. xs ++ drop n magic) (sym same))
      | inr le ↦
          let same : take 4 prefix ≡ magic = sym (take-append-le 4 prefix more le) ∙ ap (take 4) e in
          long (drop 4 prefix) (sym (take-append-drop 4 prefix) ∙ ap (λ xs. xs ++ drop 4 prefix) same)
    ]

-- ---- some fault

pub wrong_none : (xs : List ℕ) (p : ℕ) → IsWrong xs p → NoRecord xs p
wrong_none xs p (inl h) = no_other xs p h.0 h.1
wrong_none xs p (inr h) = no_cert xs p h.0 (λ le f q. formed_fine xs p f q h.1)

pub not_wrong : (xs : List ℕ) (p : ℕ) → (get_or xs p 0 ≢ 1 → get_or xs p 0 ≢ 2 → ⊥) → (get_or xs p 0 ≡ 2 → HasWrongNumber xs p → ⊥) → IsWrong xs p → ⊥
not_wrong xs p a b (inl h) = a h.0 h.1
not_wrong xs p a b (inr h) = b h.0 h.1

dec_wrong : (xs : List ℕ) (p : ℕ) → IsWrong xs p ⊎ (IsWrong xs p → ⊥)
dec_wrong xs p =
    elim (cases_eq (get_or xs p 0) 2) [
      | inl two ↦
          elim (dec_number xs p) [
            | inl w ↦ inl (inr (two, w))
            | inr fine ↦ inr (not_wrong xs p (λ a b. b two) (λ e w. fine w))
          ]
      | inr not_two ↦
          elim (cases_eq (get_or xs p 0) 1) [
            | inl one ↦ inr (not_wrong xs p (λ a b. a one) (λ e w. not_two e))
            | inr not_one ↦ inl (inl (not_one, not_two))
          ]
    ]

dec_record : (xs : List ℕ) (p : ℕ) → AreOctets xs → ReadsSome xs p ⊎ NoRecord xs p
dec_record xs p o =
    elim (cases_eq (get_or xs p 0) 1) [
      | inl one ↦
          elim (cases_lt (length xs) (p + 17)) [
            | inl lt ↦ inr (no_edition xs p one lt)
            | inr le ↦ inl (record { found = Edition (word_at xs (p + 1)) (word_at xs (p + 9)); end = p + 17; reads = edition_read xs p _ _ _ o one le refl refl refl })
          ]
      | inr not_one ↦
          elim (cases_eq (get_or xs p 0) 2) [
            | inl two ↦
                elim (cases_lt (length xs) (cert_end xs p)) [
                  | inl lt ↦ inr (no_cert xs p two (truncated xs p lt))
                  | inr le ↦
                      elim (dec_number xs p) [
                        | inl w ↦ inr (no_cert xs p two (λ le' f q. formed_fine xs p f q w))
                        | inr fine ↦ inl (reads_fine xs p o two le fine)
                      ]
                ]
            | inr not_two ↦ inr (no_other xs p not_one not_two)
          ]
    ]

run : (n : ℕ) (bytes : List ℕ) → AreOctets bytes → (at : ℕ) → length bytes < at + n → Begun bytes at → HasPrefixFault bytes
run zero bytes o at le b = record { offset = length bytes; fault = begun_whole bytes at b (omega (arith, le)) }
run (suc n) bytes o at le b =
    elim (cases_lt at (length bytes)) [
      | inr done ↦ record { offset = length bytes; fault = begun_whole bytes at b done }
      | inl lt ↦
          elim (dec_record bytes at o) [
            | inl s ↦
                let next = begun_on bytes at s.end s.found b s.reads in
                run n bytes o s.end (omega (arith, le, next.on)) next.begun
            | inr none ↦
                elim (dec_wrong bytes at) [
                  | inl w ↦ record { offset = at; fault = is_wrong (begun_stops bytes at b lt none) w }
                  | inr fine ↦ record { offset = length bytes; fault = is_truncated at (begun_stops bytes at b lt none) fine refl }
                ]
          ]
    ]

begins_with : (xs ys : List ℕ) → ((rest : List ℕ) × (xs ≡ ys ++ rest)) ⊎ ((rest : List ℕ) → xs ≡ ys ++ rest → ⊥)
begins_with xs [] = inl (xs, refl)
begins_with [] (y ∷ ys) = inr (λ rest e. omega (arith, ap length e))
begins_with (x ∷ xs) (y ∷ ys) =
    elim (cases_eq x y) [
      | inl e ↦
          elim (begins_with xs ys) [
            | inl h ↦ inl (h.0, (λ j. e j ∷ h.1 j))
            | inr none ↦ inr (λ rest f. none rest (ap (drop 1) f))
          ]
      | inr ne ↦ inr (λ rest f. ne (ap (λ zs. get_or zs 0 0) f))
    ]

pub some_fault : (prefix : List ℕ) → AreOctets prefix → HasPrefixFault prefix
some_fault prefix o =
    elim (begins_with magic prefix) [
      | inl h ↦ record { offset = length prefix; fault = in_magic h.0 (sym h.1) refl }
      | inr short ↦
          elim (begins_with prefix magic) [
            | inl h ↦ run (length prefix) prefix o 4 (omega arith) (begun_first prefix h.0 h.1)
            | inr long ↦ record { offset = 0; fault = begins_otherwise (otherwise prefix short long) refl }
          ]
    ]

-- ---- and what it says of the whole file

pub file_or_fault : (bytes : List ℕ) → AreOctets bytes → ((records : List PriceRecord) × ArePrices bytes records) ⊎ ((offset : ℕ) × IsPriceFault bytes offset)
file_or_fault bytes o = sorted bytes (some_fault bytes o).offset (some_fault bytes o).fault where
  sorted : (bytes : List ℕ) (p : ℕ) → IsPrefixFault bytes p → ((records : List PriceRecord) × ArePrices bytes records) ⊎ ((offset : ℕ) × IsPriceFault bytes offset)
  sorted bytes p (begins_otherwise h e) = inr (0, inl ((λ rest f. h [] rest (append-nil bytes ∙ f)), refl))
  sorted bytes p (in_magic [] e f) = inl ([], record { encoded = sym (append-nil bytes) ∙ e; each = λ k d lt. absurd (omega (arith, lt)); places = tt })
  sorted bytes p (in_magic (m ∷ ms) e f) = inr (0, inl ((λ rest g. omega (arith, ap length e, ap length g, length-append bytes (m ∷ ms), length-append magic rest)), refl))
  sorted bytes p (is_whole rs a e) = inl (rs, a)
  sorted bytes p (is_wrong s w) = inr (p, inr s)
  sorted bytes p (is_truncated place s fine e) = inr (place, inr s)
