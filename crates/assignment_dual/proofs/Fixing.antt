-- One more plot is fixed.
use Rattle.std.proofs.Common.{◌≡◌, ◌≢◌, ◌<◌, inl, inr, ℕ, zero, suc, ◌+◌, length, get_or, set, List, [], ◌∷◌, Option, Some, None, Bool, true, false, cond, eqb, arith, refl, sym, ◌∙◌, ap, subst, get_or-set_same, get_or-set_other, eq-eqb}
use Rattle.std.proofs.lemmas.Bool.{cases_eq, ne_eqb}
use Rattle.assignment_dual.specs.declared.graph.Graph.{Graph}
use Rattle.assignment_dual.specs.Vertices.{HasArc, to_of, cost_at}
use Rattle.assignment_dual.specs.Pairings.{Row}
use Rattle.assignment_dual.specs.First.{without, rest}
use Rattle.assignment_dual.specs.Rests.{row_at, IsGate, ShowsRest}

-- the plot p stays alone
pub shows_alone : {g : Graph} {n tracks p : ℕ} {gone : List Bool} {row : Row} {rows : List Row} → ShowsRest g n tracks gone p (row ∷ rows) → length gone ≡ n → ShowsRest g n tracks (set gone p true) (p + 1) rows
shows_alone {g} {n} {tracks} {p} {gone} {row} {rows} s l =
    let pn : p < n = omega (arith, s.count, s.size) in
    let pp : p < g.plots = omega (arith, s.count) in
    let pl : p < length gone = omega (arith, pn, l) in
    let other : (v : ℕ) → v ≢ p → get_or (set gone p true) v false ≡ get_or gone v false = λ v d. get_or-set_other gone p v true false d in
    let track : (t : ℕ) → get_or (set gone p true) (g.plots + t) false ≡ get_or gone (g.plots + t) false = λ t. other (g.plots + t) (λ e. omega (arith, e, pp)) in
    record {
      count = omega (arith, s.count);
      size = s.size;
      before = λ v h. elim (cases_eq v p) [
        | inl e ↦ ap (λ (i : ℕ). get_or (set gone p true) i false) e ∙ get_or-set_same gone p true false pl
        | inr d ↦ other v d ∙ s.before v (omega (arith, h, d))
      ];
      from = λ v h k. other v (λ e. omega (arith, e, h)) ∙ s.from v (omega (arith, h)) k;
      has = λ i t c h e.
          let j : p + suc i < g.plots = omega (arith, h) in
          let q : p + suc i ≡ p + 1 + i = omega arith in
          let r : (get_or gone (g.plots + t) false ≡ false) × ((k : ℕ) × IsGate g (p + suc i) t c k) = s.has (suc i) t c j e in
          (track t ∙ r.0, subst (λ (o : ℕ). (k : ℕ) × IsGate g o t c k) q r.1);
      of = λ i k h a.
          let j : p + suc i < g.plots = omega (arith, h) in
          let q : p + 1 + i ≡ p + suc i = omega arith in
          let r : (t : ℕ) × (to_of g k ≡ g.plots + t) × (get_or gone (g.plots + t) false ≡ false → row_at rows i t ≡ Some (cost_at g k)) = s.of (suc i) k j (subst (λ (o : ℕ). HasArc g o k) q a) in
          (r.0, r.1, (λ z. r.2 (sym (track r.0) ∙ z)));
    }

row_rest : (s : ℕ) (rows : List Row) (i t : ℕ) → row_at (rest (Some s) rows) i t ≡ without (Some s) (row_at rows i) t
row_rest s [] i t = elim (eqb t s) as (λ b. None ≡ cond {A = Option ℕ} b None None) [ true ↦ refl | false ↦ refl ]
row_rest s (row ∷ rows) zero t = refl
row_rest s (row ∷ rows) (suc i) t = row_rest s rows i t

without_same : (s : ℕ) (row : Row) (t c : ℕ) → without (Some s) row t ≡ Some c → (t ≢ s) × (row t ≡ Some c)
without_same s row t c e = elim (cases_eq t s) [
  | inl q ↦ absurd (let a : without (Some s) row t ≡ None = ap (λ (b : Bool). cond b None (row t)) (eq-eqb t s q) in cc)
  | inr d ↦ (d, sym (ap (λ (b : Bool). cond b None (row t)) (ne_eqb t s d)) ∙ e)
]

rest_length : (s : ℕ) (rows : List Row) → length (rest (Some s) rows) ≡ length rows
rest_length s [] = refl
rest_length s (row ∷ rows) = ap suc (rest_length s rows)

-- the track s is gone
pub shows_taken : {g : Graph} {n tracks p : ℕ} {gone : List Bool} {rows : List Row} (s : ℕ) → ShowsRest g n tracks gone p rows → length gone ≡ n → s < tracks → ShowsRest g n tracks (set gone (g.plots + s) true) p (rest (Some s) rows)
shows_taken {g} {n} {tracks} {p} {gone} {rows} s h l st =
    let sn : g.plots + s < length gone = omega (arith, h.size, l, st) in
    let other : (v : ℕ) → v ≢ g.plots + s → get_or (set gone (g.plots + s) true) v false ≡ get_or gone v false = λ v d. get_or-set_other gone (g.plots + s) v true false d in
    let here : get_or (set gone (g.plots + s) true) (g.plots + s) false ≡ true = get_or-set_same gone (g.plots + s) true false sn in
    record {
      count = omega (arith, h.count, rest_length s rows);
      size = h.size;
      before = λ v j. elim (cases_eq v (g.plots + s)) [
        | inl e ↦ ap (λ (i : ℕ). get_or (set gone (g.plots + s) true) i false) e ∙ here
        | inr d ↦ other v d ∙ h.before v j
      ];
      from = λ v j k. other v (λ e. omega (arith, e, k)) ∙ h.from v j k;
      has = λ i t c j e.
          let r : (t ≢ s) × (row_at rows i t ≡ Some c) = without_same s (row_at rows i) t c (sym (row_rest s rows i t) ∙ e) in
          let b : (get_or gone (g.plots + t) false ≡ false) × ((k : ℕ) × IsGate g (p + i) t c k) = h.has i t c j r.1 in
          (other (g.plots + t) (λ q. r.0 (omega (arith, q))) ∙ b.0, b.1);
      of = λ i k j a.
          let b : (t : ℕ) × (to_of g k ≡ g.plots + t) × (get_or gone (g.plots + t) false ≡ false → row_at rows i t ≡ Some (cost_at g k)) = h.of i k j a in (
            b.0,
            b.1,
            (λ z.
                let d : b.0 ≢ s = λ e. absurd (let y : get_or (set gone (g.plots + s) true) (g.plots + b.0) false ≡ true = ap (λ (i : ℕ). get_or (set gone (g.plots + s) true) (g.plots + i) false) e ∙ here in cc) in
                row_rest s rows i b.0 ∙ ap (λ (q : Bool). cond q None (row_at rows i b.0)) (ne_eqb b.0 s d) ∙ b.2 (sym (other (g.plots + b.0) (λ q. d (omega (arith, q)))) ∙ z)),
          );
    }
