-- Where a price file stops and no whole number is wrong, its octets end before the record does.
use Rattle.std.proofs.Common.{◌≡◌, ◌⊎◌, ℕ, ◌+◌, ◌<◌, cond, List, ◌++◌, length, get_or, drop, refl, sym, ◌∙◌, ap, subst, inl, inr, append_assoc}
use Rattle.std.specs.List.{flat_map}
use Rattle.std.proofs.lemmas.Bool.{cases_lt, cases_eq, eq-eqb, ne_eqb}
use Rattle.std.proofs.lemmas.List.{drop_at}
use Rattle.std.proofs.lemmas.List.Prefix.{at_from_reads}
use Rattle.price_form.specs.Octets.{word_at}
use Rattle.price_form.specs.Encoding.{price_record_octets}
use Rattle.price_form.specs.Files.{magic, StopsAt}
use Rattle.price_form.specs.Reading.{NoRecord, cert_end}
use Rattle.price_form.specs.Prefixes.{IsWrong, record_end}
use Rattle.price_form.proofs.Standing.{AreOctets}
use Rattle.price_form.proofs.Filed.{edition_read}
use Rattle.price_form.proofs.Decided.{dec_number}
use Rattle.price_form.proofs.FineNumbers.{ReadsSome, reads_fine}

stops_none : (bytes : List ℕ) (p : ℕ) → StopsAt bytes p → NoRecord bytes p
stops_none bytes p s r ok h =
    let before = magic ++ flat_map price_record_octets s.records in
    let encoded : bytes ≡ before ++ s.rest = s.encoded ∙ sym (append_assoc magic (flat_map price_record_octets s.records) s.rest) in
    let left : drop p bytes ≡ s.rest = ap (drop p) encoded ∙ drop_at before s.rest p (sym s.place) in
    s.stops.none r (drop (p + length (price_record_octets r)) bytes) ok (sym left ∙ at_from_reads 0 bytes (price_record_octets r) p h.inside h.same)

none_stands : (bytes : List ℕ) (p : ℕ) → StopsAt bytes p → ReadsSome bytes p → ⊥
none_stands bytes p s h = stops_none bytes p s h.found h.reads.formed h.reads.stands

pub causes : (bytes : List ℕ) (p : ℕ) → AreOctets bytes → StopsAt bytes p → IsWrong bytes p ⊎ (length bytes < record_end bytes p)
causes bytes p o s =
    elim (cases_eq (get_or bytes p 0) 1) [
      | inl one ↦
          elim (cases_lt (length bytes) (p + 17)) [
            | inl lt ↦ inr (subst (λ n. length bytes < n) (sym (ap (λ b. cond b (p + 17) (cert_end bytes p)) (eq-eqb (get_or bytes p 0) 1 one))) lt)
            | inr le ↦ absurd (none_stands bytes p s (record { found = _; end = p + 17; reads = edition_read bytes p (word_at bytes (p + 1)) (word_at bytes (p + 9)) (p + 17) o one le refl refl refl }))
          ]
      | inr not_one ↦
          elim (cases_eq (get_or bytes p 0) 2) [
            | inl two ↦
                elim (dec_number bytes p) [
                  | inl w ↦ inl (inr (two, w))
                  | inr fine ↦
                      elim (cases_lt (length bytes) (cert_end bytes p)) [
                        | inl lt ↦ inr (subst (λ n. length bytes < n) (sym (ap (λ b. cond b (p + 17) (cert_end bytes p)) (ne_eqb (get_or bytes p 0) 1 not_one))) lt)
                        | inr le ↦ absurd (none_stands bytes p s (reads_fine bytes p o two le fine))
                      ]
                ]
            | inr not_two ↦ inl (inl (not_one, not_two))
          ]
    ]
