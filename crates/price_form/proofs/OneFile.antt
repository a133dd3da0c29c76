-- Octets are a price file in one way, or have one fault.
use Rattle.std.proofs.Common.{◌≡◌, ◌⊎◌, ℕ, ◌+◌, List, [], ◌∷◌, ◌++◌, length, get_or, arith, refl, sym, ◌∙◌, ap, subst, inl, inr, length-append, append_assoc, append-nil}
use Rattle.std.specs.List.{flat_map, All}
use Rattle.std.proofs.lemmas.List.{append_cancel_left, get_or_append_left}
use Rattle.std.proofs.lemmas.List.Elements.{All-head, All-tail}
use Rattle.price_form.specs.declared.certs.PriceRecord.{PriceRecord}
use Rattle.price_form.specs.declared.certs.PriceRecord.TheVariants.{Edition, Cert as Certified}
use Rattle.price_form.specs.Octets.{word_octets}
use Rattle.price_form.specs.Encoding.{price_record_octets, cert_octets}
use Rattle.price_form.specs.Files.{IsRecord, StandsAt, StandFrom, ArePrices, BeginNone, IsPriceFault, magic}
use Rattle.price_form.specs.Reading.{Stands}
use Rattle.price_form.proofs.Standing.{stands_head, stands_first, stands_second, stands_tail, word_is}
use Rattle.price_form.proofs.Certified.{cert_is}
use Rattle.price_form.proofs.Filed.{record_some}

pub at_front : (xs piece rest : List ℕ) → xs ≡ piece ++ rest → Stands xs 0 piece
at_front xs piece rest e = record {
  inside = omega (arith, ap length e, length-append piece rest);
  same = λ k lt. let z : 0 + k ≡ k = omega arith in ap (λ j. get_or xs j 0) z ∙ ap (λ ys. get_or ys k 0) e ∙ get_or_append_left piece rest 0 k lt;
}

-- two records that stand at one place are encoded alike, and are one where they tell one place
same_at : (xs : List ℕ) (r q : PriceRecord) → IsRecord r → IsRecord q → Stands xs 0 (price_record_octets r) → Stands xs 0 (price_record_octets q) → (price_record_octets r ≡ price_record_octets q) × ((p : ℕ) → StandsAt p r → StandsAt p q → r ≡ q)
unfolding cert_octets
same_at xs (Edition a b) (Edition d e) o k h g =
    let h1 = stands_tail {q = 1} refl h in
    let g1 = stands_tail {q = 1} refl g in
    let first : a ≡ d = sym (word_is o.0 (stands_first (word_octets a) (word_octets b) h1)) ∙ word_is k.0 (stands_first (word_octets d) (word_octets e) g1) in
    let second : b ≡ e = sym (word_is o.1 (stands_second {q = 9} (word_octets a) (word_octets b) refl h1)) ∙ word_is k.1 (stands_second {q = 9} (word_octets d) (word_octets e) refl g1) in
    ((λ j. 1 ∷ (word_octets (first j) ++ word_octets (second j))), (λ p s t. λ j. Edition (first j) (second j)))
same_at xs (Edition a b) (Certified d at) o k h g = absurd (omega (arith, sym (stands_head h) ∙ stands_head g))
same_at xs (Certified c at) (Edition d e) o k h g = absurd (omega (arith, sym (stands_head h) ∙ stands_head g))
same_at xs (Certified c at) (Certified d at') o k h g =
    let same : c ≡ d = sym (cert_is c o.0 o.1 o.2 h).0 ∙ (cert_is d k.0 k.1 k.2 g).0 in
    (ap cert_octets same, (λ p s t. λ j. Certified (same j) ((s ∙ sym t) j)))

pub same_first : (r q : PriceRecord) (s t : List ℕ) → IsRecord r → IsRecord q → price_record_octets r ++ s ≡ price_record_octets q ++ t → (price_record_octets r ≡ price_record_octets q) × ((p : ℕ) → StandsAt p r → StandsAt p q → r ≡ q) × (s ≡ t)
same_first r q s t o k e =
    let h = same_at (price_record_octets r ++ s) r q o k (at_front _ (price_record_octets r) s refl) (at_front _ (price_record_octets q) t e) in
    (h.0, h.1, append_cancel_left (price_record_octets r) s t (e ∙ ap (λ xs. xs ++ t) (sym h.0)))

IsEnd : List ℕ → Type 0
IsEnd s = (s ≡ []) ⊎ BeginNone s

no_more : (s : List ℕ) (q : PriceRecord) (rest : List ℕ) → IsEnd s → IsRecord q → s ≡ price_record_octets q ++ rest → ⊥
unfolding IsEnd
no_more s q rest (inl e) o f = omega (arith, ap length e, ap length f, length-append (price_record_octets q) rest, record_some q)
no_more s q rest (inr n) o f = n.none q rest o f

same_ends : (a b : List PriceRecord) (s t : List ℕ) → All IsRecord a → All IsRecord b → flat_map price_record_octets a ++ s ≡ flat_map price_record_octets b ++ t → IsEnd s → IsEnd t → (flat_map price_record_octets a ≡ flat_map price_record_octets b) × (s ≡ t)
same_ends [] [] s t o k e h g = (refl, e)
same_ends [] (q ∷ b) s t o k e h g = absurd (no_more s q (flat_map price_record_octets b ++ t) h (All-head IsRecord q b k) (e ∙ append_assoc (price_record_octets q) (flat_map price_record_octets b) t))
same_ends (r ∷ a) [] s t o k e h g = absurd (no_more t r (flat_map price_record_octets a ++ s) g (All-head IsRecord r a o) (sym e ∙ append_assoc (price_record_octets r) (flat_map price_record_octets a) s))
same_ends (r ∷ a) (q ∷ b) s t o k e h g =
    let f = same_first r q (flat_map price_record_octets a ++ s) (flat_map price_record_octets b ++ t) (All-head IsRecord r a o) (All-head IsRecord q b k)
    (sym (append_assoc (price_record_octets r) (flat_map price_record_octets a) s) ∙ e ∙ append_assoc (price_record_octets q) (flat_map price_record_octets b) t) in
    let rest = same_ends a b s t (All-tail IsRecord r a o) (All-tail IsRecord q b k) f.2 h g in
    ((λ j. f.0 j ++ rest.0 j), rest.1)

same_list : (p : ℕ) (a b : List PriceRecord) → All IsRecord a → All IsRecord b → StandFrom p a → StandFrom p b → flat_map price_record_octets a ≡ flat_map price_record_octets b → a ≡ b
same_list p [] [] o k h g e = refl
same_list p [] (q ∷ b) o k h g e = absurd (omega (arith, ap length e, length-append (price_record_octets q) (flat_map price_record_octets b), record_some q))
same_list p (r ∷ a) [] o k h g e = absurd (omega (arith, ap length e, length-append (price_record_octets r) (flat_map price_record_octets a), record_some r))
same_list p (r ∷ a) (q ∷ b) o k h g e =
    let f = same_first r q (flat_map price_record_octets a) (flat_map price_record_octets b) (All-head IsRecord r a o) (All-head IsRecord q b k) e in
    let one = f.1 p h.0 g.0 in
    let rest = same_list (p + length (price_record_octets r)) a b (All-tail IsRecord r a o) (All-tail IsRecord q b k) h.1 (subst (λ n. StandFrom (p + n) b) (sym (ap length f.0)) g.1) f.2 in
    λ j. one j ∷ rest j

pub same_records : (bytes : List ℕ) (a b : List PriceRecord) → ArePrices bytes a → ArePrices bytes b → a ≡ b
same_records bytes a b h g = same_list 4 a b h.each g.each h.places g.places (append_cancel_left magic _ _ (sym h.encoded ∙ g.encoded))

stops : (bytes : List ℕ) (a b : List PriceRecord) (s t : List ℕ) → bytes ≡ magic ++ (flat_map price_record_octets a ++ s) → bytes ≡ magic ++ (flat_map price_record_octets b ++ t) → All IsRecord a → All IsRecord b → IsEnd s → IsEnd t → (flat_map price_record_octets a ≡ flat_map price_record_octets b) × (s ≡ t)
stops bytes a b s t e f o k h g = same_ends a b s t o k (append_cancel_left magic _ _ (sym e ∙ f)) h g

pub same_fault : (bytes : List ℕ) (p q : ℕ) → IsPriceFault bytes p → IsPriceFault bytes q → p ≡ q
unfolding IsEnd
same_fault bytes p q (inl h) (inl g) = h.1 ∙ sym g.1
same_fault bytes p q (inl h) (inr g) = absurd (h.0 _ g.encoded)
same_fault bytes p q (inr h) (inl g) = absurd (g.0 _ h.encoded)
same_fault bytes p q (inr h) (inr g) =
    let s = stops bytes h.records g.records h.rest g.rest h.encoded g.encoded h.each g.each (inr h.stops) (inr g.stops) in
    h.place ∙ ap (λ xs. length (magic ++ xs)) s.0 ∙ sym g.place

pub not_both : (bytes : List ℕ) (a : List PriceRecord) (p : ℕ) → ArePrices bytes a → IsPriceFault bytes p → ⊥
unfolding IsEnd
not_both bytes a p h (inl g) = g.0 _ h.encoded
not_both bytes a p h (inr g) =
    let s = stops bytes a g.records [] g.rest (h.encoded ∙ ap (λ xs. magic ++ xs) (sym (append-nil (flat_map price_record_octets a)))) g.encoded h.each g.each (inl refl) (inr g.stops) in
    omega (arith, ap length s.1, g.stops.some_left)
