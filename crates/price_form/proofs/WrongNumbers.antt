-- Wrong numbers of a certificate that is begun: where they may be, and the steps of looking for one.
use Rattle.std.proofs.Common.{◌≡◌, ℕ, ◌+◌, ◌*◌, ◌<◌, ◌≤◌, List, length, arith, sym, subst, inl, inr, Bool, true, false}
use Rattle.std.specs.Prelude.{MatchBool}
use Rattle.std.proofs.lemmas.Bool.{cases_lt, cases_eq}
use Rattle.price_form.specs.Octets.{none_number}
use Rattle.price_form.specs.Reading.{plots_at, tracks_at, edges_at}
use Rattle.price_form.specs.Prefixes.{edges_offset, pairing_offset, IsOutOfRange, IsWrongEdge, HasWrongEdge, IsWrongEntry, HasWrongEntry, HasWrongNumber, no_plots, many_tracks, in_edges, in_pairing}

-- ---- a wrong number is whole

range_begun : (xs : List ℕ) (n k q : ℕ) → IsOutOfRange xs n k q → q + 4 ≤ length xs
range_begun xs n k q (inl h) = h.0
range_begun xs n k q (inr (inl h)) = omega (arith, h.0)
range_begun xs n k q (inr (inr h)) = omega (arith, h.0)

pub edge_begun : (xs : List ℕ) (n k from i : ℕ) → IsWrongEdge xs n k from i → from + i * 10 + 4 ≤ length xs
edge_begun xs n k from i (inl h) = range_begun xs n k (from + i * 10) h
edge_begun xs n k from i (inr h) = omega (arith, h.1.0)

-- ---- the steps of looking for one

abbrev pub NoWrongEdge : List ℕ → ℕ → ℕ → ℕ → ℕ → Type 0
NoWrongEdge xs n k from i = (j : ℕ) → j < i → IsWrongEdge xs n k from j → ⊥

pub edges_end : (xs : List ℕ) (n k m from i : ℕ) → NoWrongEdge xs n k from i → length xs ≤ from + i * 10 → HasWrongEdge xs n k m from → ⊥
edges_end xs n k m from i no' le h =
    elim (cases_lt h.i i) [
      | inl lt ↦ no' h.i lt h.wrong
      | inr ge ↦ omega (arith, le, ge, edge_begun xs n k from h.i h.wrong)
    ]

pub edges_done : (xs : List ℕ) (n k m from i : ℕ) → NoWrongEdge xs n k from i → m ≤ i → HasWrongEdge xs n k m from → ⊥
edges_done xs n k m from i no' le h = no' h.i (omega (arith, le, h.counted)) h.wrong

pub edges_more : (xs : List ℕ) (n k from i : ℕ) → NoWrongEdge xs n k from i → (IsWrongEdge xs n k from i → ⊥) → NoWrongEdge xs n k from (i + 1)
edges_more xs n k from i no' here j lt h =
    elim (cases_eq j i) [
      | inl e ↦ here (subst (λ l. IsWrongEdge xs n k from l) e h)
      | inr ne ↦ no' j (omega (arith, lt, ne)) h
    ]

abbrev pub NoWrongEntry : List ℕ → ℕ → ℕ → ℕ → Type 0
NoWrongEntry xs k from i = (j : ℕ) → j < i → IsWrongEntry xs k (from + j * 4) → ⊥

pub entries_end : (xs : List ℕ) (n k from i : ℕ) → NoWrongEntry xs k from i → length xs ≤ from + i * 4 → HasWrongEntry xs n k from → ⊥
entries_end xs n k from i no' le h =
    elim (cases_lt h.i i) [
      | inl lt ↦ no' h.i lt h.wrong
      | inr ge ↦ omega (arith, le, ge, h.wrong.0)
    ]

pub entries_done : (xs : List ℕ) (n k from i : ℕ) → NoWrongEntry xs k from i → n ≤ i → HasWrongEntry xs n k from → ⊥
entries_done xs n k from i no' le h = no' h.i (omega (arith, le, h.counted)) h.wrong

pub entries_more : (xs : List ℕ) (k from i : ℕ) → NoWrongEntry xs k from i → (IsWrongEntry xs k (from + i * 4) → ⊥) → NoWrongEntry xs k from (i + 1)
entries_more xs k from i no' here j lt h =
    elim (cases_eq j i) [
      | inl e ↦ here (subst (λ l. IsWrongEntry xs k (from + l * 4)) e h)
      | inr ne ↦ no' j (omega (arith, lt, ne)) h
    ]

-- no number is wrong of a certificate where none of the four kinds is
pub none_wrong : (xs : List ℕ) (p : ℕ) → (p + 14 ≤ length xs → plots_at xs p ≡ 0 → ⊥) → (p + 18 ≤ length xs → tracks_at xs p ≡ none_number → ⊥)
    → (edges_offset xs p + 4 ≤ length xs → HasWrongEdge xs (plots_at xs p) (tracks_at xs p) (edges_at xs p) (edges_offset xs p) → ⊥)
    → (edges_offset xs p + 4 ≤ length xs → HasWrongEntry xs (plots_at xs p) (tracks_at xs p) (pairing_offset xs p) → ⊥) → HasWrongNumber xs p → ⊥
none_wrong xs p a b c d (no_plots le e) = a le e
none_wrong xs p a b c d (many_tracks le e) = b le e
none_wrong xs p a b c d (in_edges h) = c (omega (arith, edge_begun xs _ _ _ h.i h.wrong)) h
none_wrong xs p a b c d (in_pairing h) = d (omega (arith, h.wrong.0)) h

-- ---- the counts that were read

-- what was read of the counts is what stands there
pub edges_read : (xs : List ℕ) (p : ℕ) {n k m : ℕ} → n ≡ plots_at xs p → k ≡ tracks_at xs p → m ≡ edges_at xs p
    → HasWrongEdge xs n k m (p + 18 + n * 8 + k * 8 + 4) → HasWrongEdge xs (plots_at xs p) (tracks_at xs p) (edges_at xs p) (edges_offset xs p)
edges_read xs p {n} {k} {m} a b c h =
    let from : p + 18 + n * 8 + k * 8 + 4 ≡ edges_offset xs p = omega (arith, a, b) in
    subst (λ (t : ℕ × ℕ × ℕ × ℕ). HasWrongEdge xs t.0 t.1 t.2 t.3) (λ j. (a j, b j, c j, from j)) h

pub entries_read : (xs : List ℕ) (p : ℕ) {n k m : ℕ} → n ≡ plots_at xs p → k ≡ tracks_at xs p → m ≡ edges_at xs p
    → HasWrongEntry xs n k (p + 18 + n * 8 + k * 8 + 4 + m * 10) → HasWrongEntry xs (plots_at xs p) (tracks_at xs p) (pairing_offset xs p)
entries_read xs p {n} {k} {m} a b c h =
    let from : p + 18 + n * 8 + k * 8 + 4 + m * 10 ≡ pairing_offset xs p = omega (arith, a, b, c) in
    subst (λ (t : ℕ × ℕ × ℕ). HasWrongEntry xs t.0 t.1 t.2) (λ j. (a j, b j, from j)) h

-- the certificate that is begun, where its counts are whole
pub number_answer : (xs : List ℕ) (p : ℕ) (b : Bool) {n k m : ℕ} → n ≡ plots_at xs p → k ≡ tracks_at xs p → m ≡ edges_at xs p → (n ≡ 0 → ⊥) → (k ≡ none_number → ⊥) → (HasWrongEdge xs n k m (p + 18 + n * 8 + k * 8 + 4) → ⊥)
    → MatchBool b (HasWrongEntry xs n k (p + 18 + n * 8 + k * 8 + 4 + m * 10)) (HasWrongEntry xs n k (p + 18 + n * 8 + k * 8 + 4 + m * 10) → ⊥) → MatchBool b (HasWrongNumber xs p) (HasWrongNumber xs p → ⊥)
number_answer xs p true a b c some few edges h = in_pairing (entries_read xs p a b c h)
number_answer xs p false {n} {k} {m} a b c some few edges h =
    let back : edges_offset xs p ≡ p + 18 + n * 8 + k * 8 + 4 = omega (arith, a, b) in
    let back' : pairing_offset xs p ≡ p + 18 + n * 8 + k * 8 + 4 + m * 10 = omega (arith, a, b, c) in
    none_wrong xs p (λ le e. some (omega (arith, a, e))) (λ le e. few (omega (arith, b, e)))
    (λ le w. edges (subst (λ (t : ℕ × ℕ × ℕ × ℕ). HasWrongEdge xs t.0 t.1 t.2 t.3) (λ j. (sym a j, sym b j, sym c j, back j)) w))
    (λ le w. h (subst (λ (t : ℕ × ℕ × ℕ). HasWrongEntry xs t.0 t.1 t.2) (λ j. (sym a j, sym b j, back' j)) w))
