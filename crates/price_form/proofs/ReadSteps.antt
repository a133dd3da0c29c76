-- The steps of reading: numbers one by one, and what is refused.
use Rattle.std.proofs.Common.{◌≡◌, ℕ, ◌+◌, ◌-◌, ◌*◌, ◌<◌, ◌≤◌, List, [], ◌∷◌, ◌++◌, Option, Some, None, zero, suc, get_or, length, arith, refl, sym, ◌∙◌, ap, subst, inl, inr}
use Rattle.std.specs.List.{All}
use Rattle.std.specs.Option.{IfSome}
use Rattle.std.proofs.lemmas.Bool.{cases_eq}
use Rattle.std.proofs.lemmas.List.{get_or_default}
use Rattle.std.proofs.lemmas.List.FromFn.{map-range_with_len_more}
use Rattle.assignment_dual.specs.Problems.{Edge, EdgeBefore, IsProblem, edge_at}
use Rattle.price_form.specs.Octets.{many_at, edge_numbers_at, entry_number_at}
use Rattle.price_form.specs.Reading.{plots_at, tracks_at, edges_at, cert_end, cert_read, ReadsNone}
use Rattle.price_form.proofs.Rows.{before_trans}

pub none_yet : {X : Type 0} (r : List ℕ → ℕ → X) (s : ℕ) (xs : List ℕ) (p : ℕ) {now : List X} → now ≡ [] → now ≡ many_at r s xs p 0
unfolding many_at
none_yet r s xs p e = e

pub one_more : {X : Type 0} (r : List ℕ → ℕ → X) (s : ℕ) (xs : List ℕ) (p n : ℕ) {now after : List X} {y : X} → now ≡ many_at r s xs p n → y ≡ r xs (p + n * s) → after ≡ now ++ y ∷ [] → after ≡ many_at r s xs p (n + 1)
unfolding many_at
one_more r s xs p n {now} {after} {y} h e f = f ∙ (λ j. h j ++ e j ∷ []) ∙ sym (map-range_with_len_more (λ i. r xs (p + i * s)) 0 n n (omega arith))

pub truncated : (xs : List ℕ) (p : ℕ) → length xs < cert_end xs p → ReadsNone xs p
truncated xs p lt le f q = omega (arith, lt, le)

pub no_plots : (xs : List ℕ) (p : ℕ) → plots_at xs p ≡ 0 → ReadsNone xs p
unfolding cert_read
no_plots xs p e le f q = omega (arith, f.some_plot, e)

pub many_tracks : (xs : List ℕ) (p : ℕ) → tracks_at xs p ≡ 4294967295 → ReadsNone xs p
unfolding cert_read
many_tracks xs p e le f q = omega (arith, f.few_tracks, e)

abbrev pub read_edges : List ℕ → ℕ → List Edge
read_edges xs p = many_at edge_numbers_at 10 xs (p + 22 + plots_at xs p * 8 + tracks_at xs p * 8) (edges_at xs p)

abbrev pub read_entries : List ℕ → ℕ → List (Option ℕ)
read_entries xs p = many_at entry_number_at 4 xs (p + 22 + plots_at xs p * 8 + tracks_at xs p * 8 + edges_at xs p * 10) (plots_at xs p)

pub bad_edges : (xs : List ℕ) (p : ℕ) → (IsProblem (record { plots = plots_at xs p; tracks = tracks_at xs p; edges = read_edges xs p }) → ⊥) → ReadsNone xs p
unfolding cert_read
bad_edges xs p h le f q = h q

pub bad_names : (xs : List ℕ) (p : ℕ) → (All (λ x. IfSome x (λ t. t < tracks_at xs p)) (read_entries xs p) → ⊥) → ReadsNone xs p
unfolding cert_read
bad_names xs p h le f q = h f.named

-- the edge at n after those before it
pub rises_more : (edges : List Edge) (n : ℕ) → ((a b : ℕ) → a < b → b < n → EdgeBefore (edge_at edges a) (edge_at edges b)) → (0 < n → EdgeBefore (edge_at edges (n - 1)) (edge_at edges n))
    → (a b : ℕ) → a < b → b < n + 1 → EdgeBefore (edge_at edges a) (edge_at edges b)
rises_more edges n h k a b lt in' =
    elim (cases_eq b n) [
      | inl e ↦ subst (λ m. EdgeBefore (edge_at edges a) (edge_at edges m)) (sym e) (
          elim (cases_eq a (n - 1)) [
            | inl f ↦ subst (λ m. EdgeBefore (edge_at edges m) (edge_at edges n)) (sym f) (k (omega (arith, lt, e)))
            | inr ne ↦ before_trans (edge_at edges a) (edge_at edges (n - 1)) (edge_at edges n) (h a (n - 1) (omega (arith, lt, e, ne)) (omega (arith, lt, e))) (k (omega (arith, lt, e)))
          ])
      | inr ne ↦ h a b lt (omega (arith, in', ne))
    ]

pub each_more : (edges : List Edge) (P : Edge → Type 0) (n : ℕ) → ((k : ℕ) → k < n → P (edge_at edges k)) → P (edge_at edges n) → (k : ℕ) → k < n + 1 → P (edge_at edges k)
each_more edges P n h here k lt =
    elim (cases_eq k n) [
      | inl e ↦ subst (λ m. P (edge_at edges m)) (sym e) here
      | inr ne ↦ h k (omega (arith, lt, ne))
    ]

pub all_edges : (edges : List Edge) (P : Edge → Type 0) (n : ℕ) → length edges ≤ n → ((k : ℕ) → k < n → P (edge_at edges k)) → All P edges
all_edges edges P n le h k d lt = subst P (get_or_default edges k (0, 0, 0) d lt) (h k (omega (arith, lt, le)))

-- the edge before index i, if there is one
pub record IsLast (edges : List Edge) (i : ℕ) (last : Option Edge) : Type 0 where
  pub first : i ≡ 0 → last ≡ None
  pub later : 0 < i → last ≡ Some (edge_at edges (i - 1))

pub last_next : (edges : List Edge) (i : ℕ) (e : Edge) → ((d : Edge) → e ≡ get_or edges i d) → IsLast edges (i + 1) (Some e)
last_next edges i e h = record {
  first = λ q. absurd (omega (arith, q));
  later = λ lt. let at : i ≡ i + 1 - 1 = omega arith in ap Some (h (0, 0, 0)) ∙ ap (λ j. Some (edge_at edges j)) at;
}

-- it stands before the edge at i
pub last_before : (edges : List Edge) (i : ℕ) (last : Option Edge) (e : Edge) → IsLast edges i last → ((d : Edge) → e ≡ get_or edges i d) → IfSome last (λ f. EdgeBefore f e) → 0 < i → EdgeBefore (edge_at edges (i - 1)) (edge_at edges i)
last_before edges i last e l h k lt =
    let j : IfSome (Some (edge_at edges (i - 1))) (λ f. EdgeBefore f e) = subst (λ (o : Option Edge). IfSome o (λ f. EdgeBefore f e)) (l.later lt) k in
    subst (λ (o : Edge). EdgeBefore (edge_at edges (i - 1)) o) (h (0, 0, 0)) j

-- and where it doesn't, the edges don't rise
pub last_after : (edges : List Edge) (i : ℕ) (last : Option Edge) (e : Edge) → IsLast edges i last → ((d : Edge) → e ≡ get_or edges i d) → (0 < i → EdgeBefore (edge_at edges (i - 1)) (edge_at edges i)) → IfSome last (λ f. EdgeBefore f e)
last_after edges zero last e l h k = subst (λ (o : Option Edge). IfSome o (λ f. EdgeBefore f e)) (sym (l.first refl)) tt
last_after edges (suc i) last e l h k =
    subst (λ (o : Option Edge). IfSome o (λ f. EdgeBefore f e)) (sym (l.later (omega arith)))
    (subst (λ (o : Edge). EdgeBefore (edge_at edges (suc i - 1)) o) (sym (h (0, 0, 0))) (k (omega arith)))
