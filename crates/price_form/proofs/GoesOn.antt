-- Octets that go on: a number that is whole stays, and so does one that is wrong.
use Rattle.std.proofs.Common.{◌≡◌, ◌⊎◌, ℕ, ◌+◌, ◌-◌, ◌*◌, ◌<◌, ◌≤◌, List, [], ◌∷◌, ◌++◌, length, arith, sym, ◌∙◌, ap, subst, inl, inr, length-append}
use Rattle.std.specs.Int.{w16, w32, from_be_bytes}
use Rattle.std.proofs.lemmas.List.{get_or_append_left}
use Rattle.price_form.specs.Octets.{half_at, short_at}
use Rattle.price_form.specs.Reading.{plots_at, tracks_at, edges_at}
use Rattle.price_form.specs.Prefixes.{edges_offset, pairing_offset, IsOutOfRange, IsWrongEdge, HasWrongEdge, HasWrongEntry, HasWrongNumber, no_plots, many_tracks, in_edges, in_pairing, IsWrong}
use Rattle.price_form.proofs.WrongNumbers.{edge_begun}

half_on : (xs more : List ℕ) (q : ℕ) → q + 4 ≤ length xs → half_at (xs ++ more) q ≡ half_at xs q
half_on xs more q le =
    let a = get_or_append_left xs more 0 q (omega (arith, le)) in
    let b = get_or_append_left xs more 0 (q + 1) (omega (arith, le)) in
    let c = get_or_append_left xs more 0 (q + 2) (omega (arith, le)) in
    let d = get_or_append_left xs more 0 (q + 3) (omega (arith, le)) in
    ap (from_be_bytes w32) (λ j. a j ∷ b j ∷ c j ∷ d j ∷ [])

short_on : (xs more : List ℕ) (q : ℕ) → q + 2 ≤ length xs → short_at (xs ++ more) q ≡ short_at xs q
short_on xs more q le =
    let a = get_or_append_left xs more 0 q (omega (arith, le)) in
    let b = get_or_append_left xs more 0 (q + 1) (omega (arith, le)) in
    ap (from_be_bytes w16) (λ j. a j ∷ b j ∷ [])

longer : (xs more : List ℕ) (m : ℕ) → m ≤ length xs → m ≤ length (xs ++ more)
longer xs more m le = omega (arith, le, length-append xs more)

range_on : (xs more : List ℕ) (n k q : ℕ) → IsOutOfRange xs n k q → IsOutOfRange (xs ++ more) n k q
range_on xs more n k q (inl w) = inl (longer xs more (q + 4) w.0, omega (arith, w.1, half_on xs more q w.0))
range_on xs more n k q (inr (inl w)) = inr (inl (longer xs more (q + 8) w.0, omega (arith, w.1, half_on xs more (q + 4) (omega (arith, w.0)))))
range_on xs more n k q (inr (inr w)) = inr (inr (longer xs more (q + 10) w.0, omega (arith, w.1, short_on xs more (q + 8) (omega (arith, w.0)))))

edge_on : (xs more : List ℕ) (n k from i : ℕ) → IsWrongEdge xs n k from i → IsWrongEdge (xs ++ more) n k from i
edge_on xs more n k from i (inl w) = inl (range_on xs more n k (from + i * 10) w)
edge_on xs more n k from i (inr w) =
    let q = from + i * 10 in
    let le = w.1.0 in
    let a = half_on xs more (q - 10) (omega (arith, le)) in
    let b = half_on xs more (q - 10 + 4) (omega (arith, le)) in
    let c = half_on xs more q (omega (arith, le)) in
    let d = half_on xs more (q + 4) (omega (arith, le)) in
    inr (w.0, (longer xs more (q + 8) le, (λ h. w.1.1 (subst (λ (t : ℕ × ℕ × ℕ × ℕ). (t.0 < t.2) ⊎ ((t.0 ≡ t.2) × (t.1 < t.3))) (λ j. (a j, b j, c j, d j)) h))))

edges_on : (xs more : List ℕ) (n k m from : ℕ) → HasWrongEdge xs n k m from → HasWrongEdge (xs ++ more) n k m from
edges_on xs more n k m from h = record { i = h.i; counted = h.counted; wrong = edge_on xs more n k from h.i h.wrong }

entries_on : (xs more : List ℕ) (n k from : ℕ) → HasWrongEntry xs n k from → HasWrongEntry (xs ++ more) n k from
entries_on xs more n k from h =
    let q = from + h.i * 4 in
    let e = half_on xs more q h.wrong.0 in
    record { i = h.i; counted = h.counted; wrong = (longer xs more (q + 4) h.wrong.0, (λ f. h.wrong.1 (sym e ∙ f)), omega (arith, h.wrong.2, e)) }

-- the counts stay
count_on : (xs more : List ℕ) (p : ℕ) → edges_offset xs p ≤ length xs → edges_at (xs ++ more) p ≡ edges_at xs p
count_on xs more p le =
    let a = half_on xs more (p + 10) (omega (arith, le)) in
    let b = half_on xs more (p + 14) (omega (arith, le)) in
    (λ j. half_at (xs ++ more) (p + 18 + a j * 8 + b j * 8)) ∙ half_on xs more (p + 18 + plots_at xs p * 8 + tracks_at xs p * 8) (omega (arith, le))

number_on : (xs more : List ℕ) (p : ℕ) → HasWrongNumber xs p → HasWrongNumber (xs ++ more) p
number_on xs more p (no_plots le e) = no_plots (longer xs more (p + 14) le) (half_on xs more (p + 10) (omega (arith, le)) ∙ e)
number_on xs more p (many_tracks le e) = many_tracks (longer xs more (p + 18) le) (half_on xs more (p + 14) (omega (arith, le)) ∙ e)
number_on xs more p (in_edges h) =
    let le : edges_offset xs p ≤ length xs = omega (arith, edge_begun xs (plots_at xs p) (tracks_at xs p) (edges_offset xs p) h.i h.wrong) in
    let a = sym (half_on xs more (p + 10) (omega (arith, le))) in
    let b = sym (half_on xs more (p + 14) (omega (arith, le))) in
    let c = sym (count_on xs more p le) in
    in_edges (subst (λ (t : ℕ × ℕ × ℕ × ℕ). HasWrongEdge (xs ++ more) t.0 t.1 t.2 t.3) (λ j. (a j, b j, c j, p + 22 + a j * 8 + b j * 8)) (edges_on xs more (plots_at xs p) (tracks_at xs p) (edges_at xs p) (edges_offset xs p) h))
number_on xs more p (in_pairing h) =
    let le : edges_offset xs p ≤ length xs = omega (arith, h.wrong.0) in
    let a = sym (half_on xs more (p + 10) (omega (arith, le))) in
    let b = sym (half_on xs more (p + 14) (omega (arith, le))) in
    let c = sym (count_on xs more p le) in
    in_pairing (subst (λ (t : ℕ × ℕ × ℕ). HasWrongEntry (xs ++ more) t.0 t.1 t.2) (λ j. (a j, b j, p + 22 + a j * 8 + b j * 8 + c j * 10)) (entries_on xs more (plots_at xs p) (tracks_at xs p) (pairing_offset xs p) h))

pub wrong_on : (xs more : List ℕ) (p : ℕ) → p < length xs → IsWrong xs p → IsWrong (xs ++ more) p
wrong_on xs more p lt (inl w) = let e = get_or_append_left xs more 0 p lt in inl ((λ f. w.0 (sym e ∙ f)), (λ f. w.1 (sym e ∙ f)))
wrong_on xs more p lt (inr w) = inr (get_or_append_left xs more 0 p lt ∙ w.0, number_on xs more p w.1)
