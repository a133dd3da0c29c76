-- Each prefix has one fault alone, which stays where it stands before the end.
use Rattle.std.proofs.Common.{◌≡◌, ◌≢◌, ℕ, ◌<◌, List, [], ◌++◌, length, arith, sym, ◌∙◌, ap, subst, inl, inr, length-append, append_assoc, append-nil}
use Rattle.std.specs.List.{flat_map}
use Rattle.price_form.specs.Encoding.{price_record_octets}
use Rattle.price_form.specs.Files.{magic, StopsAt, IsPriceFault}
use Rattle.price_form.specs.Reading.{Stands}
use Rattle.price_form.specs.Prefixes.{IsWrong, IsPrefixFault, begins_otherwise, in_magic, is_whole, is_wrong, is_truncated}
use Rattle.price_form.proofs.Standing.{stands_second}
use Rattle.price_form.proofs.OneFile.{at_front, same_fault, not_both}
use Rattle.price_form.proofs.GoesOn.{wrong_on}
use Rattle.price_form.proofs.PrefixFaults.{wrong_none}

-- ---- and one alone

otherwise_only : (prefix : List ℕ) (q : ℕ) → ((more rest : List ℕ) → prefix ++ more ≢ magic ++ rest) → IsPrefixFault prefix q → q ≡ 0
otherwise_only prefix q h (begins_otherwise k e) = e
otherwise_only prefix q h (in_magic more e f) = absurd (h more [] e)
otherwise_only prefix q h (is_whole rs a e) = absurd (h [] _ (append-nil prefix ∙ a.encoded))
otherwise_only prefix q h (is_wrong s w) = absurd (h [] _ (append-nil prefix ∙ s.encoded))
otherwise_only prefix q h (is_truncated place s fine e) = absurd (h [] _ (append-nil prefix ∙ s.encoded))

wrong_only : (prefix : List ℕ) (p q : ℕ) → StopsAt prefix p → IsWrong prefix p → IsPrefixFault prefix q → q ≡ p
wrong_only prefix p q s w (begins_otherwise h e) = absurd (h [] _ (append-nil prefix ∙ s.encoded))
wrong_only prefix p q s w (in_magic more e f) =
    let after = flat_map price_record_octets s.records ++ s.rest in
    absurd (omega (arith, s.stops.some_left, ap length e, ap length s.encoded, length-append prefix more, length-append magic after, length-append (flat_map price_record_octets s.records) s.rest))
wrong_only prefix p q s w (is_whole rs a e) = absurd (not_both prefix rs p a (inr s))
wrong_only prefix p q s w (is_wrong t v) = same_fault prefix q p (inr t) (inr s)
wrong_only prefix p q s w (is_truncated place t fine e) = absurd (fine (subst (IsWrong prefix) (same_fault prefix p place (inr s) (inr t)) w))

end_only : (prefix : List ℕ) (p q : ℕ) → IsPrefixFault prefix p → p ≡ length prefix → IsPrefixFault prefix q → p ≡ q
end_only prefix p q f at_end (begins_otherwise h e) = otherwise_only prefix p h f ∙ sym e
end_only prefix p q f at_end (in_magic more e g) = at_end ∙ sym g
end_only prefix p q f at_end (is_whole rs a e) = at_end ∙ sym e
end_only prefix p q f at_end (is_wrong s w) = wrong_only prefix q p s w f
end_only prefix p q f at_end (is_truncated place s fine e) = at_end ∙ sym e

pub one_fault : (prefix : List ℕ) (p q : ℕ) → IsPrefixFault prefix p → IsPrefixFault prefix q → p ≡ q
one_fault prefix p q (begins_otherwise h e) g = e ∙ sym (otherwise_only prefix q h g)
one_fault prefix p q (in_magic more e f) g = end_only prefix p q (in_magic more e f) f g
one_fault prefix p q (is_whole rs a e) g = end_only prefix p q (is_whole rs a e) e g
one_fault prefix p q (is_wrong s w) g = sym (wrong_only prefix p q s w g)
one_fault prefix p q (is_truncated place s fine e) g = end_only prefix p q (is_truncated place s fine e) e g

-- ---- it stays

stands_after : (xs pre piece rest : List ℕ) → xs ≡ pre ++ (piece ++ rest) → Stands xs (length pre) piece
stands_after xs pre piece rest e = stands_second {p = 0} {q = length pre} pre piece (omega arith) (at_front xs (pre ++ piece) rest (e ∙ sym (append_assoc pre piece rest)))

stops_on : (prefix more : List ℕ) (p : ℕ) → StopsAt prefix p → IsWrong prefix p → p < length prefix → StopsAt (prefix ++ more) p
stops_on prefix more p s w lt =
    let flat = flat_map price_record_octets s.records in
    let encoded : prefix ++ more ≡ magic ++ (flat ++ (s.rest ++ more)) = ap (λ xs. xs ++ more) s.encoded ∙ append_assoc magic (flat ++ s.rest) more ∙ ap (λ xs. magic ++ xs) (append_assoc flat s.rest more) in
    record {
      records = s.records;
      rest = s.rest ++ more;
      encoded = encoded;
      each = s.each;
      stops = record {
        some_left = omega (arith, s.stops.some_left, length-append s.rest more);
        none = λ r rest ok e.
            let stands = stands_after (prefix ++ more) (magic ++ flat) (price_record_octets r) rest (encoded ∙ sym (append_assoc magic flat (s.rest ++ more)) ∙ ap (λ xs. (magic ++ flat) ++ xs) e) in
            wrong_none (prefix ++ more) p (wrong_on prefix more p lt w) r ok (subst (λ q. Stands (prefix ++ more) q (price_record_octets r)) (sym s.place) stands);
      };
      place = s.place;
    }

pub fault_stays : (prefix more : List ℕ) (p : ℕ) → IsPrefixFault prefix p → p < length prefix → IsPriceFault (prefix ++ more) p
fault_stays prefix more p (begins_otherwise h e) lt = inl ((λ rest f. h more rest f), e)
fault_stays prefix more p (in_magic more' e f) lt = absurd (omega (arith, lt, f))
fault_stays prefix more p (is_whole rs a e) lt = absurd (omega (arith, lt, e))
fault_stays prefix more p (is_wrong s w) lt = inr (stops_on prefix more p s w lt)
fault_stays prefix more p (is_truncated place s fine e) lt = absurd (omega (arith, lt, e))
