-- That a certificate which is begun has a wrong number, or has none.
use Rattle.std.proofs.Common.{◌⊎◌, ℕ, suc, zero, ◌+◌, ◌-◌, ◌*◌, ◌<◌, ◌≤◌, List, length, arith, subst, inl, inr}
use Rattle.std.proofs.lemmas.Bool.{cases_lt, cases_eq}
use Rattle.assignment_dual.specs.Problems.{Edge, EdgeBefore}
use Rattle.price_form.specs.Octets.{none_number, half_at, short_at, edge_numbers_at}
use Rattle.price_form.specs.Reading.{plots_at, tracks_at, edges_at}
use Rattle.price_form.specs.Prefixes.{edges_offset, pairing_offset, IsWrongEdge, HasWrongEdge, IsWrongEntry, HasWrongEntry, HasWrongNumber, no_plots, many_tracks, in_edges, in_pairing}
use Rattle.price_form.proofs.WrongNumbers.{none_wrong}

-- a fact, or that it doesn't hold
abbrev Decided : Type 0 → Type 0
Decided P = P ⊎ (P → ⊥)

dec_both : {A B : Type 0} → Decided A → Decided B → Decided (A × B)
dec_both (inl a) (inl b) = inl (a, b)
dec_both (inl a) (inr nb) = inr (λ p. nb p.1)
dec_both (inr na) b = inr (λ p. na p.0)

neither : {A B : Type 0} → (A → ⊥) → (B → ⊥) → A ⊎ B → ⊥
neither na nb (inl a) = na a
neither na nb (inr b) = nb b

dec_either : {A B : Type 0} → Decided A → Decided B → Decided (A ⊎ B)
dec_either (inl a) b = inl (inl a)
dec_either (inr na) (inl b) = inl (inr b)
dec_either (inr na) (inr nb) = inr (neither na nb)

dec_not : {A : Type 0} → Decided A → Decided (A → ⊥)
dec_not (inl a) = inr (λ na. na a)
dec_not (inr na) = inl na

dec_le : (m n : ℕ) → Decided (m ≤ n)
dec_le m n =
    elim (cases_lt n m) [
      | inl lt ↦ inr (λ le. omega (arith, lt, le))
      | inr le ↦ inl le
    ]

dec_lt : (m n : ℕ) → Decided (m < n)
dec_lt m n =
    elim (cases_lt m n) [
      | inl lt ↦ inl lt
      | inr le ↦ inr (λ lt. omega (arith, lt, le))
    ]

pub dec_before : (e f : Edge) → Decided (EdgeBefore e f)
dec_before e f = dec_either (dec_lt e.0 f.0) (dec_both (cases_eq e.0 f.0) (dec_lt e.1 f.1))

dec_below : (P : ℕ → Type 0) → ((i : ℕ) → Decided (P i)) → (n : ℕ) → ((i : ℕ) × (i < n) × P i) ⊎ ((i : ℕ) → i < n → P i → ⊥)
dec_below P d zero = inr (λ i lt h. omega (arith, lt))
dec_below P d (suc n) =
    elim (dec_below P d n) [
      | inl h ↦ inl (h.0, omega (arith, h.1), h.2)
      | inr none ↦
          elim (d n) [
            | inl h ↦ inl (n, omega arith, h)
            | inr not_n ↦ inr (λ i lt h.
                elim (cases_eq i n) [
                  | inl e ↦ not_n (subst P e h)
                  | inr ne ↦ none i (omega (arith, lt, ne)) h
                ])
          ]
    ]

dec_edge : (xs : List ℕ) (n k from i : ℕ) → Decided (IsWrongEdge xs n k from i)
dec_edge xs n k from i =
    let q = from + i * 10 in
    dec_either
    (dec_either (dec_both (dec_le (q + 4) (length xs)) (dec_le n (half_at xs q)))
    (dec_either (dec_both (dec_le (q + 8) (length xs)) (dec_le k (half_at xs (q + 4)))) (dec_both (dec_le (q + 10) (length xs)) (dec_lt 4096 (short_at xs (q + 8))))))
    (dec_both (dec_lt 0 i) (dec_both (dec_le (q + 8) (length xs)) (dec_not (dec_before (edge_numbers_at xs (q - 10)) (edge_numbers_at xs q)))))

dec_edges : (xs : List ℕ) (n k m from : ℕ) → Decided (HasWrongEdge xs n k m from)
dec_edges xs n k m from =
    elim (dec_below (IsWrongEdge xs n k from) (dec_edge xs n k from) m) [
      | inl h ↦ inl (record { i = h.0; counted = h.1; wrong = h.2 })
      | inr none ↦ inr (λ h. none h.i h.counted h.wrong)
    ]

three : {A B C : Type 0} → Decided A → Decided B → Decided C → Decided (A × B × C)
three (inl a) (inl b) (inl c) = inl (a, b, c)
three (inl a) (inl b) (inr nc) = inr (λ p. nc p.2)
three (inl a) (inr nb) c = inr (λ p. nb p.1)
three (inr na) b c = inr (λ p. na p.0)

dec_entries : (xs : List ℕ) (n k from : ℕ) → Decided (HasWrongEntry xs n k from)
dec_entries xs n k from =
    elim (dec_below (λ i. IsWrongEntry xs k (from + i * 4)) (λ i. three (dec_le (from + i * 4 + 4) (length xs)) (dec_not (cases_eq (half_at xs (from + i * 4)) none_number)) (dec_le k (half_at xs (from + i * 4)))) n) [
      | inl h ↦ inl (record { i = h.0; counted = h.1; wrong = h.2 })
      | inr none ↦ inr (λ h. none h.i h.counted h.wrong)
    ]

pub dec_number : (xs : List ℕ) (p : ℕ) → HasWrongNumber xs p ⊎ (HasWrongNumber xs p → ⊥)
dec_number xs p =
    elim (dec_both (dec_le (p + 14) (length xs)) (cases_eq (plots_at xs p) 0)) [
      | inl h ↦ inl (no_plots h.0 h.1)
      | inr a ↦
          elim (dec_both (dec_le (p + 18) (length xs)) (cases_eq (tracks_at xs p) none_number)) [
            | inl h ↦ inl (many_tracks h.0 h.1)
            | inr b ↦
                elim (dec_edges xs (plots_at xs p) (tracks_at xs p) (edges_at xs p) (edges_offset xs p)) [
                  | inl h ↦ inl (in_edges h)
                  | inr c ↦
                      elim (dec_entries xs (plots_at xs p) (tracks_at xs p) (pairing_offset xs p)) [
                        | inl h ↦ inl (in_pairing h)
                        | inr d ↦ inr (none_wrong xs p (λ le e. a (le, e)) (λ le e. b (le, e)) (λ le h. c h) (λ le h. d h))
                      ]
                ]
          ]
    ]
