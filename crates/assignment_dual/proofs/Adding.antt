-- The plots before p have their places.
use Rattle.std.proofs.Common.{◌≡◌, ◌≢◌, ◌≤◌, ◌<◌, ◌⊎◌, inl, inr, ℕ, ◌+◌, length, get_or, List, arith, sym, ◌∙◌, ap, subst}
use Rattle.std.proofs.lemmas.Bool.{cases_lt}
use Rattle.assignment_dual.specs.declared.graph.Graph.{Graph}
use Rattle.trk_base.specs.Limits.{miss_cost}
use Rattle.assignment_dual.specs.Vertices.{to_of, IsArc, IsGraph, IsDualFeasible, AreMatched, OthersPay, IsAugmented}
use Rattle.assignment_dual.proofs.Shifts.{priced_past}

pub record Adding (g : Graph) (n : ℕ) (qs ms : List ℕ) (p : ℕ) : Type 0 where
  pub priced : IsDualFeasible g n qs
  pub mates : AreMatched g n qs ms
  pub waiting : (v : ℕ) → p ≤ v → v < g.plots → (get_or ms v 0 ≡ v) × (get_or qs v 0 ≡ 0)
  pub full : (v : ℕ) → v < n → (v < p) ⊎ (g.plots ≤ v) → get_or ms v 0 ≡ v → get_or qs v 0 ≡ miss_cost

pub at_first : {g : Graph} (n : ℕ) (qs ms : List ℕ) → IsGraph g n → length qs ≡ n → length ms ≡ n → ((v : ℕ) → v < n → get_or ms v 0 ≡ v) → ((v : ℕ) → v < g.plots → get_or qs v 0 ≡ 0)
    → ((v : ℕ) → g.plots ≤ v → v < n → get_or qs v 0 ≡ miss_cost) → g.plots ≤ n → Adding g n qs ms 0
at_first {g} n qs ms gr l k a o f le = record {
  priced = record {
    count = l;
    alone = λ v. elim (cases_lt v g.plots) [
      | inl h ↦ omega (arith, o v h)
      | inr h ↦ elim (cases_lt v n) [ inl j ↦ omega (arith, f v h j) | inr j ↦ omega (arith, priced_past qs n v l j) ]
    ];
    arcs = λ v i h r.
        let e : IsArc g n v i = gr.arcs v i h r in
        elim e.across.sides [
          | inl s ↦ omega (arith, o v s.0, f (to_of g i) s.1 e.to)
          | inr s ↦ omega (arith, f v s.0 h, o (to_of g i) s.1)
        ];
  };
  mates = record {
    count = k;
    within = λ v h. subst (λ (i : ℕ). i < n) (sym (a v h)) h;
    back = λ v h. ap (λ (i : ℕ). get_or ms i 0) (a v h) ∙ a v h;
    tight = λ v h m. absurd (m (a v h));
  };
  waiting = λ v z h. (a v (omega (arith, h, le)), o v h);
  full = λ v h s e. elim s [ inl j ↦ absurd (omega (arith, j)) | inr j ↦ f v j h ];
}

pub adding_pay : {g : Graph} {n : ℕ} {qs ms : List ℕ} {p : ℕ} → Adding g n qs ms p → OthersPay n qs ms p
adding_pay {g} {n} {qs} {ms} {p} a = record {
  pay = λ v h d e. elim (cases_lt v p) [
    | inl j ↦ inl (a.full v h (inl j) e)
    | inr j ↦ elim (cases_lt v g.plots) [ inl i ↦ inr (a.waiting v j i).1 | inr i ↦ inl (a.full v h (inr i) e) ]
  ];
}

below_next : (v p : ℕ) → v < p + 1 → v ≢ p → v < p
below_next v p h d = omega arith

pub adding_next : {g : Graph} {n : ℕ} {qs ms new_q new_m : List ℕ} {p : ℕ} → Adding g n qs ms p → g.plots ≤ n → IsDualFeasible g n new_q → AreMatched g n new_q new_m → IsAugmented n qs ms new_q new_m p → Adding g n new_q new_m (p + 1)
adding_next {g} {n} {qs} {ms} {new_q} {new_m} {p} a le pr am st = record {
  priced = pr;
  mates = am;
  waiting = λ v h i.
      let w : (get_or ms v 0 ≡ v) × (get_or qs v 0 ≡ 0) = a.waiting v (omega (arith, h)) i in
      let r : (get_or new_m v 0 ≡ v) × (get_or new_q v 0 ≡ get_or qs v 0) = st.out v (omega (arith, i, le)) (λ e. omega (arith, h, e)) w.0 (λ e. omega (arith, e, w.1)) in
      (r.0, r.1 ∙ w.1);
  full = λ v h s e. elim (st.alone v h e) [
    | inl q ↦ q
    | inr r ↦ r.2 ∙ a.full v h (elim s [ inl j ↦ inl (below_next v p j r.0) | inr j ↦ inr j ]) r.1
  ];
}
