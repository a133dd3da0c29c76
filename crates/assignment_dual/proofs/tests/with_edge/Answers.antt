use Rattle.std.proofs.Common.{◌≡◌, ◌≤◌, ◌<◌, inl, inr, ℕ, ◌+◌, ◌-◌, length, List, ◌++◌, ◌∷◌, [], arith, refl, sym, ◌∙◌, ap, subst}
use Rattle.std.specs.List.{All}
use Rattle.std.proofs.lemmas.List.{get_or_append_left, length_push}
use Rattle.std.proofs.lemmas.List.Elements.{All-from_get_or}
use Rattle.std.proofs.Math.Seq.{get_or-append_seam}
use Rattle.std.proofs.lemmas.Bool.{cases_eq, cases_lt}
use Rattle.assignment_dual.specs.Problems.{Edge, Problem, IsProblem, EdgeBefore, edge_at}
use Rattle.assignment_dual.proofs.tests.with_edge.Goals as goal

before_then : (d e f : Edge) → EdgeBefore d e → EdgeBefore e f → EdgeBefore d f
before_then d e f a b = elim a [
  | inl h ↦ elim b [ inl k ↦ inl (omega (arith, h, k)) | inr k ↦ inl (omega (arith, h, k.0)) ]
  | inr h ↦ elim b [ inl k ↦ inl (omega (arith, h.0, k)) | inr k ↦ inr (h.0 ∙ k.0, omega (arith, h.1, k.1)) ]
]

all_pushed : (P : Edge → Type 0) (edges : List Edge) (e : Edge) → All P edges → P e → All P (edges ++ e ∷ [])
all_pushed P edges e a p = All-from_get_or P (edges ++ e ∷ []) (0, 0, 0) (λ i h. elim (cases_lt i (length edges)) [
  | inl l ↦ subst P (sym (get_or_append_left edges (e ∷ []) (0, 0, 0) i l)) (a i (0, 0, 0) l)
  | inr l ↦ let q : i ≡ length edges = omega (arith, h, l, length_push edges e) in subst P (sym (ap (edge_at (edges ++ e ∷ [])) q ∙ get_or-append_seam edges e [] (0, 0, 0))) p
])

rising_pushed : (edges : List Edge) (e : Edge) → ((i j : ℕ) → i < j → j < length edges → EdgeBefore (edge_at edges i) (edge_at edges j)) → ((i : ℕ) → i + 1 ≡ length edges → EdgeBefore (edge_at edges i) e)
    → (i j : ℕ) → i < j → j < length (edges ++ e ∷ []) → EdgeBefore (edge_at (edges ++ e ∷ []) i) (edge_at (edges ++ e ∷ []) j)
rising_pushed edges e r b i j h l =
    let old : (k : ℕ) → k < length edges → edge_at edges k ≡ edge_at (edges ++ e ∷ []) k = λ k q. sym (get_or_append_left edges (e ∷ []) (0, 0, 0) k q) in
    let il : i < length edges = omega (arith, h, l, length_push edges e) in
    elim (cases_lt j (length edges)) [
      | inl q ↦ subst (λ (o : Edge). EdgeBefore o (edge_at (edges ++ e ∷ []) j)) (old i il) (subst (EdgeBefore (edge_at edges i)) (old j q) (r i j h q))
      | inr q ↦
          let z : j ≡ length edges = omega (arith, l, q, length_push edges e) in
          let w : e ≡ edge_at (edges ++ e ∷ []) j = sym (ap (edge_at (edges ++ e ∷ [])) z ∙ get_or-append_seam edges e [] (0, 0, 0)) in
          let d : EdgeBefore (edge_at edges i) e = elim (cases_eq (i + 1) (length edges)) [
            | inl y ↦ b i y
            | inr y ↦ before_then (edge_at edges i) (edge_at edges (length edges - 1)) e (r i (length edges - 1) (omega (arith, il, y)) (omega (arith, il))) (b (length edges - 1) (omega (arith, il)))
          ] in
          subst (λ (o : Edge). EdgeBefore o (edge_at (edges ++ e ∷ []) j)) (old i il) (subst (EdgeBefore (edge_at edges i)) w d)
    ]

pushed : {p : Problem} {e : Edge} {new : List Edge} → IsProblem p → e.0 < p.plots → e.1 < p.tracks → e.2 ≤ 4096 → ((i : ℕ) → i + 1 ≡ length p.edges → EdgeBefore (edge_at p.edges i) e) → new ≡ p.edges ++ e ∷ [] → IsProblem (record { plots = p.plots; tracks = p.tracks; edges = new })
pushed {p} {e} {new} h a b c d q = subst (λ (o : List Edge). IsProblem (record { plots = p.plots; tracks = p.tracks; edges = o })) (sym q) (record {
  rising = rising_pushed p.edges e h.rising d;
  plots = all_pushed (λ e. e.0 < p.plots) p.edges e h.plots a;
  tracks = all_pushed (λ e. e.1 < p.tracks) p.edges e h.tracks b;
  costs = all_pushed (λ e. e.2 ≤ 4096) p.edges e h.costs c;
})

pub invariant_of-costs : goal.invariant_of-costs
invariant_of-costs c =
    let b : (i : ℕ) → i + 1 ≡ length c.costs.inside.edges → EdgeBefore (edge_at c.costs.inside.edges i) c.args.edge =
    subst (λ (o : List Edge). (i : ℕ) → i + 1 ≡ length o → EdgeBefore (edge_at o i) c.args.edge) c.as_slice.ensures (c.if-is_after.ensures refl) in
    pushed c.costs.invariant (omega (arith, c.if-edge-costs.false)) (omega (arith, c.if-edge-costs-2.false)) (omega (arith, c.if-edge-gt4096.false)) b c.in_ok-push.ensures.ok
