-- A certificate that stands whole is one of a file exactly where no number of it is wrong.
use Rattle.std.proofs.Common.{◌≡◌, ◌≢◌, ℕ, suc, zero, ◌+◌, ◌-◌, ◌*◌, ◌<◌, ◌≤◌, List, Option, Some, None, length, get_or, arith, refl, sym, ◌∙◌, ap, subst, inl, inr, cond}
use Rattle.std.specs.List.{All}
use Rattle.std.specs.Option.{IfSome}
use Rattle.std.proofs.lemmas.Bool.{cases_lt, cases_eq, ne_eqb, eq-eqb}
use Rattle.std.proofs.lemmas.List.Elements.{All-from_get_or}
use Rattle.assignment_dual.specs.Problems.{Edge, EdgeBefore, Problem, IsProblem, edge_at}
use Rattle.price_form.specs.declared.certs.PriceRecord.{PriceRecord}
use Rattle.price_form.specs.Certificates.{IsCert}
use Rattle.price_form.specs.Octets.{none_number, half_at, short_at, edge_numbers_at, entry_of, entry_number_at}
use Rattle.price_form.specs.Reading.{plots_at, tracks_at, edges_at, cert_end, cert_read, HasCounts, ReadsRecord}
use Rattle.price_form.specs.Prefixes.{edges_offset, pairing_offset, IsOutOfRange, IsOutOfOrder, IsWrongEdge, HasWrongEdge, IsWrongEntry, HasWrongEntry, HasWrongNumber, no_plots, many_tracks, in_edges, in_pairing}
use Rattle.price_form.proofs.Standing.{AreOctets, get-many, length-many}
use Rattle.price_form.proofs.Filed.{small_half, cert_reads}
use Rattle.price_form.proofs.ReadSteps.{read_edges, read_entries, rises_more}
use Rattle.price_form.proofs.CertReading.{put_together}
use Rattle.price_form.proofs.Decided.{dec_before}

-- ---- the numbers of a record

edge_of : (xs : List ℕ) (p i : ℕ) → i < edges_at xs p → edge_at (read_edges xs p) i ≡ edge_numbers_at xs (edges_offset xs p + i * 10)
edge_of xs p i lt = get-many edge_numbers_at 10 xs (edges_offset xs p) (edges_at xs p) i (0, 0, 0) lt

entry_of_place : (xs : List ℕ) (p i : ℕ) → i < plots_at xs p → get_or (read_entries xs p) i None ≡ entry_number_at xs (pairing_offset xs p + i * 4)
entry_of_place xs p i lt = get-many entry_number_at 4 xs (pairing_offset xs p) (plots_at xs p) i None lt

entry_none : (n : ℕ) → n ≡ none_number → entry_of n ≡ None
entry_none n e = ap (λ b. cond b None (Some n)) (eq-eqb n none_number e)

entry_some : (n : ℕ) → n ≢ none_number → entry_of n ≡ Some n
entry_some n ne = ap (λ b. cond b None (Some n)) (ne_eqb n none_number ne)

-- the problem that stands there
abbrev pub read_problem : List ℕ → ℕ → Problem
read_problem xs p = record { plots = plots_at xs p; tracks = tracks_at xs p; edges = read_edges xs p }

edge_fails : (xs : List ℕ) (p i : ℕ) → IsProblem (read_problem xs p) → i < edges_at xs p → IsWrongEdge xs (plots_at xs p) (tracks_at xs p) (edges_offset xs p) i → ⊥
edge_fails xs p i q lt (inl (inl w)) =
    let long = length-many edge_numbers_at 10 xs (edges_offset xs p) (edges_at xs p) in
    let h : half_at xs (edges_offset xs p + i * 10) < plots_at xs p = subst (λ (e : Edge). e.0 < plots_at xs p) (edge_of xs p i lt) (q.plots i (0, 0, 0) (omega (arith, lt, long))) in
    omega (arith, h, w.1)
edge_fails xs p i q lt (inl (inr (inl w))) =
    let long = length-many edge_numbers_at 10 xs (edges_offset xs p) (edges_at xs p) in
    let h : half_at xs (edges_offset xs p + i * 10 + 4) < tracks_at xs p = subst (λ (e : Edge). e.1 < tracks_at xs p) (edge_of xs p i lt) (q.tracks i (0, 0, 0) (omega (arith, lt, long))) in
    omega (arith, h, w.1)
edge_fails xs p i q lt (inl (inr (inr w))) =
    let long = length-many edge_numbers_at 10 xs (edges_offset xs p) (edges_at xs p) in
    let h : short_at xs (edges_offset xs p + i * 10 + 8) ≤ 4096 = subst (λ (e : Edge). e.2 ≤ 4096) (edge_of xs p i lt) (q.costs i (0, 0, 0) (omega (arith, lt, long))) in
    omega (arith, h, w.1)
edge_fails xs p i q lt (inr w) =
    let long = length-many edge_numbers_at 10 xs (edges_offset xs p) (edges_at xs p) in
    let back : edges_offset xs p + (i - 1) * 10 ≡ edges_offset xs p + i * 10 - 10 = omega (arith, w.0) in
    let first = edge_of xs p (i - 1) (omega (arith, lt)) ∙ ap (edge_numbers_at xs) back in
    w.1.1 (subst (λ (e : Edge × Edge). EdgeBefore e.0 e.1) (λ j. (first j, edge_of xs p i lt j)) (q.rising (i - 1) i (omega (arith, w.0)) (omega (arith, lt, long))))

entry_fails : (xs : List ℕ) (p i : ℕ) → All (λ x. IfSome x (λ t. t < tracks_at xs p)) (read_entries xs p) → i < plots_at xs p → IsWrongEntry xs (tracks_at xs p) (pairing_offset xs p + i * 4) → ⊥
entry_fails xs p i named lt w =
    let long = length-many entry_number_at 4 xs (pairing_offset xs p) (plots_at xs p) in
    let P : Option ℕ → Type 0 = λ x. IfSome x (λ t. t < tracks_at xs p) in
    let h : half_at xs (pairing_offset xs p + i * 4) < tracks_at xs p = subst P (entry_of_place xs p i lt ∙ entry_some (half_at xs (pairing_offset xs p + i * 4)) w.1) (named i None (omega (arith, lt, long))) in
    omega (arith, h, w.2)

-- a certificate of a file has no wrong number
pub formed_fine : (xs : List ℕ) (p : ℕ) → IsCert (cert_read xs p) → IsProblem (cert_read xs p).costs → HasWrongNumber xs p → ⊥
unfolding cert_read
formed_fine xs p f q (no_plots le e) = omega (arith, f.some_plot, e)
formed_fine xs p f q (many_tracks le e) = omega (arith, f.few_tracks, e)
formed_fine xs p f q (in_edges h) = edge_fails xs p h.i q h.counted h.wrong
formed_fine xs p f q (in_pairing h) = entry_fails xs p h.i f.named h.counted h.wrong

-- ---- and one without a wrong number is a certificate of a file

in_range : (xs : List ℕ) (n k q : ℕ) → q + 10 ≤ length xs → (IsOutOfRange xs n k q → ⊥) → (half_at xs q < n) × (half_at xs (q + 4) < k) × (short_at xs (q + 8) ≤ 4096)
in_range xs n k q le no' = (
  elim (cases_lt (half_at xs q) n) [
    | inl lt ↦ lt
    | inr ge ↦ absurd (no' (inl (omega (arith, le), ge)))
  ],
  elim (cases_lt (half_at xs (q + 4)) k) [
    | inl lt ↦ lt
    | inr ge ↦ absurd (no' (inr (inl (omega (arith, le), ge))))
  ],
  elim (cases_lt 4096 (short_at xs (q + 8))) [
    | inl lt ↦ absurd (no' (inr (inr (le, lt))))
    | inr ge ↦ ge
  ],
)

in_order : (xs : List ℕ) (q : ℕ) → q + 10 ≤ length xs → (IsOutOfOrder xs q → ⊥) → EdgeBefore (edge_numbers_at xs (q - 10)) (edge_numbers_at xs q)
in_order xs q le no' =
    elim (dec_before (edge_numbers_at xs (q - 10)) (edge_numbers_at xs q)) [
      | inl h ↦ h
      | inr h ↦ absurd (no' (omega (arith, le), h))
    ]

rising_from : (edges : List Edge) (m : ℕ) → ((i : ℕ) → 0 < i → i < m → EdgeBefore (edge_at edges (i - 1)) (edge_at edges i)) → (a b : ℕ) → a < b → b < m → EdgeBefore (edge_at edges a) (edge_at edges b)
rising_from edges zero h a b lt in' = absurd (omega (arith, in'))
rising_from edges (suc m) h a b lt in' = rises_more edges m (rising_from edges m (λ i p q. h i p (omega (arith, q)))) (λ p. h m p (omega arith)) a b lt (omega (arith, in'))

fine_problem : (xs : List ℕ) (p : ℕ) → edges_offset xs p + edges_at xs p * 10 ≤ length xs → (HasWrongEdge xs (plots_at xs p) (tracks_at xs p) (edges_at xs p) (edges_offset xs p) → ⊥) → IsProblem (read_problem xs p)
fine_problem xs p le no' =
    let m = edges_at xs p in
    let long = length-many edge_numbers_at 10 xs (edges_offset xs p) m in
    let range = λ (i : ℕ) (lt : i < m). in_range xs (plots_at xs p) (tracks_at xs p) (edges_offset xs p + i * 10) (omega (arith, lt, le)) (λ w. no' (record { i = i; counted = lt; wrong = inl w })) in
    record {
      rising = λ a b lt in'. rising_from (read_edges xs p) m (λ i zero_lt i_lt.
          let back : edges_offset xs p + (i - 1) * 10 ≡ edges_offset xs p + i * 10 - 10 = omega (arith, zero_lt) in
          let first = edge_of xs p (i - 1) (omega (arith, i_lt)) ∙ ap (edge_numbers_at xs) back in
          let second = edge_of xs p i i_lt in
          subst (λ (e : Edge × Edge). EdgeBefore e.0 e.1) (λ j. (sym first j, sym second j)) (in_order xs (edges_offset xs p + i * 10) (omega (arith, i_lt, le)) (λ w. no' (record { i = i; counted = i_lt; wrong = inr (zero_lt, w) })))) a b lt (omega (arith, in', long));
      plots = All-from_get_or (λ (e : Edge). e.0 < plots_at xs p) (read_edges xs p) (0, 0, 0) (λ i lt. let i_lt : i < m = omega (arith, lt, long) in subst (λ (e : Edge). e.0 < plots_at xs p) (sym (edge_of xs p i i_lt)) (range i i_lt).0);
      tracks = All-from_get_or (λ (e : Edge). e.1 < tracks_at xs p) (read_edges xs p) (0, 0, 0) (λ i lt. let i_lt : i < m = omega (arith, lt, long) in subst (λ (e : Edge). e.1 < tracks_at xs p) (sym (edge_of xs p i i_lt)) (range i i_lt).1);
      costs = All-from_get_or (λ (e : Edge). e.2 ≤ 4096) (read_edges xs p) (0, 0, 0) (λ i lt. let i_lt : i < m = omega (arith, lt, long) in subst (λ (e : Edge). e.2 ≤ 4096) (sym (edge_of xs p i i_lt)) (range i i_lt).2);
    }

fine_entry : (xs : List ℕ) (k q : ℕ) → q + 4 ≤ length xs → (IsWrongEntry xs k q → ⊥) → IfSome (entry_number_at xs q) (λ t. t < k)
fine_entry xs k q le no' =
    let P : Option ℕ → Type 0 = λ x. IfSome x (λ t. t < k) in
    elim (cases_eq (half_at xs q) none_number) [
      | inl e ↦ subst P (sym (entry_none (half_at xs q) e)) tt
      | inr ne ↦
          elim (cases_lt (half_at xs q) k) [
            | inl lt ↦ subst P (sym (entry_some (half_at xs q) ne)) lt
            | inr ge ↦ absurd (no' (le, ne, ge))
          ]
    ]

fine_names : (xs : List ℕ) (p : ℕ) → pairing_offset xs p + plots_at xs p * 4 ≤ length xs → (HasWrongEntry xs (plots_at xs p) (tracks_at xs p) (pairing_offset xs p) → ⊥) → All (λ x. IfSome x (λ t. t < tracks_at xs p)) (read_entries xs p)
fine_names xs p le no' =
    let P : Option ℕ → Type 0 = λ x. IfSome x (λ t. t < tracks_at xs p) in
    let long = length-many entry_number_at 4 xs (pairing_offset xs p) (plots_at xs p) in
    All-from_get_or P (read_entries xs p) None (λ i lt.
    let i_lt : i < plots_at xs p = omega (arith, lt, long) in
    subst P (sym (entry_of_place xs p i i_lt)) (fine_entry xs (tracks_at xs p) (pairing_offset xs p + i * 4) (omega (arith, i_lt, le)) (λ w. no' (record { i = i; counted = i_lt; wrong = w }))))

counts_read : (xs : List ℕ) (p : ℕ) → AreOctets xs → cert_end xs p ≤ length xs → (HasWrongNumber xs p → ⊥) → HasCounts xs p (record { plots = plots_at xs p; tracks = tracks_at xs p; edges = edges_at xs p })
counts_read xs p o le no' = record {
  inside = le;
  plots = refl;
  tracks = refl;
  edges = refl;
  some_plot =
      elim (cases_eq (plots_at xs p) 0) [
        | inl e ↦ absurd (no' (no_plots (omega (arith, le)) e))
        | inr ne ↦ omega (arith, ne)
      ];
  few_tracks =
      elim (cases_eq (tracks_at xs p) none_number) [
        | inl e ↦ absurd (no' (many_tracks (omega (arith, le)) e))
        | inr ne ↦ omega (arith, ne, small_half xs o (p + 14))
      ];
}

-- a record that stands at a place
pub record ReadsSome (xs : List ℕ) (p : ℕ) : Type 0 where
  pub found : PriceRecord
  pub end : ℕ
  pub reads : ReadsRecord xs p found end

pub reads_fine : (xs : List ℕ) (p : ℕ) → AreOctets xs → get_or xs p 0 ≡ 2 → cert_end xs p ≤ length xs → (HasWrongNumber xs p → ⊥) → ReadsSome xs p
reads_fine xs p o two le no' =
    let problem = fine_problem xs p (omega (arith, le)) (λ h. no' (in_edges h)) in
    let named = fine_names xs p (omega (arith, le)) (λ h. no' (in_pairing h)) in
    let r = put_together xs p (record { plots = plots_at xs p; tracks = tracks_at xs p; edges = edges_at xs p }) (cert_end xs p) o (counts_read xs p o le no') refl refl refl refl refl refl refl refl problem named refl in
    record { found = _; end = cert_end xs p; reads = cert_reads xs p _ _ p o two r.value r.end' r.inside r.formed r.problem refl }
