-- A vertex is taken out, or comes back.
use Rattle.std.proofs.Common.{◌≡◌, ◌≢◌, ◌≤◌, ◌<◌, ◌⊎◌, inl, inr, ℕ, ◌+◌, length, get_or, set, sum, true, false, Bool, List, arith, refl, sym, ◌∙◌, ap, get_or-set_same, get_or-set_other}
use Rattle.std.proofs.lemmas.List.{length-set}
use Rattle.std.proofs.lemmas.List.Sums.{sum_by-set}
use Rattle.std.proofs.lemmas.Bool.{cases_eq, cases_Bool}
use Rattle.assignment_dual.specs.declared.graph.Graph.{Graph}
use Rattle.trk_base.specs.Limits.{miss_cost}
use Rattle.assignment_dual.specs.Vertices.{to_of, IsDualFeasible, AreMatched, OthersPay, IsAugmented, IsOptimal}
use Rattle.assignment_dual.specs.Search.{AreUnmatched}
use Rattle.assignment_dual.proofs.Paths.{parted_mates}

false_true : {b : Bool} → b ≡ true → b ≡ false → ⊥
false_true h k = cc

-- x and its mate y are parted, and x stands out at 0
pub record AreOut (n : ℕ) (qs ms new_q new_m : List ℕ) (x y : ℕ) : Type 0 where
  pub q_count : length new_q ≡ n
  pub m_count : length new_m ≡ n
  pub price : get_or new_q x 0 ≡ 0
  pub prices : (v : ℕ) → v ≢ x → get_or new_q v 0 ≡ get_or qs v 0
  pub x_is : get_or new_m x 0 ≡ x
  pub y_is : get_or new_m y 0 ≡ y
  pub others : (v : ℕ) → v ≢ x → v ≢ y → get_or new_m v 0 ≡ get_or ms v 0

lower : {n : ℕ} {qs ms new_q new_m : List ℕ} {x y : ℕ} → AreOut n qs ms new_q new_m x y → (v : ℕ) → get_or new_q v 0 ≤ get_or qs v 0
lower {n} {qs} {ms} {new_q} {new_m} {x} {y} p v = elim (cases_eq v x) [ inl e ↦ omega (arith, ap (λ (i : ℕ). get_or new_q i 0) e, p.price) | inr d ↦ omega (arith, p.prices v d) ]

pub out_priced : {g : Graph} {n : ℕ} {qs ms new_q new_m : List ℕ} {x y : ℕ} → IsDualFeasible g n qs → AreOut n qs ms new_q new_m x y → IsDualFeasible g n new_q
out_priced {g} {n} {qs} {ms} {new_q} {new_m} {x} {y} pr p = record {
  count = p.q_count;
  alone = λ v. omega (arith, lower p v, pr.alone v);
  arcs = λ v k h a. omega (arith, lower p v, lower p (to_of g k), pr.arcs v k h a);
}

pub out_mates : {g : Graph} {n : ℕ} {qs ms new_q new_m : List ℕ} {x y : ℕ} → AreMatched g n qs ms → x < n → y ≡ get_or ms x 0 → AreOut n qs ms new_q new_m x y → AreMatched g n new_q new_m
out_mates {g} {n} {qs} {ms} {new_q} {new_m} {x} {y} am hx hy p =
    parted_mates am hx hy (record { count = p.m_count ∙ sym am.count; x_is = p.x_is; y_is = p.y_is; others = p.others }) p.prices

gone_before : (gone : List Bool) (x v : ℕ) (b : Bool) → v ≢ x → get_or (set gone x b) v false ≡ get_or gone v false
gone_before gone x v b d = get_or-set_other gone x v b false d

-- whoever is alone after the parting pays or stands out
out_alone : {g : Graph} {n : ℕ} {qs ms new_q new_m : List ℕ} {gone : List Bool} {x y : ℕ} → IsOptimal g n qs ms gone → AreOut n qs ms new_q new_m x y → (v : ℕ) → v < n → v ≢ x → v ≢ y → get_or new_m v 0 ≡ v
    → ((get_or gone v false ≡ false) × (get_or new_q v 0 ≡ miss_cost)) ⊎ ((get_or gone v false ≡ true) × (get_or new_q v 0 ≡ 0))
out_alone {g} {n} {qs} {ms} {new_q} {new_m} {gone} {x} {y} r p v h i j e = elim (cases_Bool (get_or gone v false)) [
  | inl k ↦ inr (k, p.prices v i ∙ (r.out v h k).1)
  | inr k ↦ inl (k, p.prices v i ∙ r.full v h k (sym (p.others v i j) ∙ e))
]

pub out_pay : {g : Graph} {n : ℕ} {qs ms new_q new_m : List ℕ} {gone : List Bool} {x y : ℕ} → IsOptimal g n qs ms gone → AreOut n qs ms new_q new_m x y → OthersPay n new_q new_m y
out_pay {g} {n} {qs} {ms} {new_q} {new_m} {gone} {x} {y} r p = record {
  pay = λ v h j e. elim (cases_eq v x) [
    | inl q ↦ inr (ap (λ (o : ℕ). get_or new_q o 0) q ∙ p.price)
    | inr i ↦ elim (out_alone r p v h i j e) [ inl a ↦ inl a.1 | inr a ↦ inr a.1 ]
  ];
}

-- x is out and y has another place
pub rests_without : {g : Graph} {n : ℕ} {qs ms mid_q mid_m new_q new_m : List ℕ} {gone : List Bool} {x y : ℕ} → IsOptimal g n qs ms gone → length gone ≡ n → x < n → x ≢ y → get_or gone x false ≡ false → y < n → get_or ms y 0 ≡ x
    → AreOut n qs ms mid_q mid_m x y → IsDualFeasible g n new_q → AreMatched g n new_q new_m → IsAugmented n mid_q mid_m new_q new_m y → IsOptimal g n new_q new_m (set gone x true)
rests_without {g} {n} {qs} {ms} {mid_q} {mid_m} {new_q} {new_m} {gone} {x} {y} r l hx d hg hy my p pr am st = record {
  priced = pr;
  mates = am;
  out = λ v h k. elim (cases_eq v x) [
    | inl e ↦
        let o : (get_or new_m x 0 ≡ x) × (get_or new_q x 0 ≡ get_or mid_q x 0) = st.out x hx d p.x_is (λ q. omega (arith, q, p.price)) in
        (ap (λ (i : ℕ). get_or new_m i 0) e ∙ o.0 ∙ sym e, ap (λ (i : ℕ). get_or new_q i 0) e ∙ o.1 ∙ p.price)
    | inr i ↦
        let k' : get_or gone v false ≡ true = sym (gone_before gone x v true i) ∙ k in
        let vy : v ≢ y = λ e. d (sym my ∙ ap (λ (o : ℕ). get_or ms o 0) (sym e) ∙ (r.out v h k').0 ∙ e) in
        let z : get_or mid_q v 0 ≡ 0 = p.prices v i ∙ (r.out v h k').1 in
        let o : (get_or new_m v 0 ≡ v) × (get_or new_q v 0 ≡ get_or mid_q v 0) = st.out v h vy (p.others v i vy ∙ (r.out v h k').0) (λ q. omega (arith, q, z)) in
        (o.0, o.1 ∙ z)
  ];
  full = λ v h k e.
      let i : v ≢ x = λ q. false_true (ap (λ (o : ℕ). get_or (set gone x true) o false) q ∙ get_or-set_same gone x true false (omega (arith, hx, l))) k in
      let k' : get_or gone v false ≡ false = sym (gone_before gone x v true i) ∙ k in
      elim (st.alone v h e) [
        | inl q ↦ q
        | inr b ↦ b.2 ∙ p.prices v i ∙ r.full v h k' (sym (p.others v i b.0) ∙ b.1)
      ];
}

-- x was alone and is out
pub rests_alone : {g : Graph} {n : ℕ} {qs ms mid_q mid_m : List ℕ} {gone : List Bool} {x y : ℕ} → IsOptimal g n qs ms gone → length gone ≡ n → x < n → y ≡ x → y ≡ get_or ms x 0 → AreOut n qs ms mid_q mid_m x y → IsOptimal g n mid_q mid_m (set gone x true)
rests_alone {g} {n} {qs} {ms} {mid_q} {mid_m} {gone} {x} {y} r l hx e hy p = record {
  priced = out_priced r.priced p;
  mates = out_mates r.mates hx hy p;
  out = λ v h k. elim (cases_eq v x) [
    | inl q ↦ (ap (λ (i : ℕ). get_or mid_m i 0) q ∙ p.x_is ∙ sym q, ap (λ (i : ℕ). get_or mid_q i 0) q ∙ p.price)
    | inr i ↦
        let k' : get_or gone v false ≡ true = sym (gone_before gone x v true i) ∙ k in
        (p.others v i (λ q. i (q ∙ e)) ∙ (r.out v h k').0, p.prices v i ∙ (r.out v h k').1)
  ];
  full = λ v h k m.
      let i : v ≢ x = λ q. false_true (ap (λ (o : ℕ). get_or (set gone x true) o false) q ∙ get_or-set_same gone x true false (omega (arith, hx, l))) k in
      p.prices v i ∙ r.full v h (sym (gone_before gone x v true i) ∙ k) (sym (p.others v i (λ q. i (q ∙ e))) ∙ m);
}

pub back_pay : {g : Graph} {n : ℕ} {qs ms : List ℕ} {gone : List Bool} → IsOptimal g n qs ms gone → (x : ℕ) → OthersPay n qs ms x
back_pay {g} {n} {qs} {ms} {gone} r x = record { pay = λ v h i e. elim (cases_Bool (get_or gone v false)) [ inl k ↦ inr (r.out v h k).1 | inr k ↦ inl (r.full v h k e) ] }

pub rests_with : {g : Graph} {n : ℕ} {qs ms new_q new_m : List ℕ} {gone : List Bool} {x : ℕ} → IsOptimal g n qs ms gone → length gone ≡ n → x < n → IsDualFeasible g n new_q → AreMatched g n new_q new_m → IsAugmented n qs ms new_q new_m x → IsOptimal g n new_q new_m (set gone x false)
rests_with {g} {n} {qs} {ms} {new_q} {new_m} {gone} {x} r l hx pr am st = record {
  priced = pr;
  mates = am;
  out = λ v h k.
      let i : v ≢ x = λ q. false_true k (ap (λ (o : ℕ). get_or (set gone x false) o false) q ∙ get_or-set_same gone x false false (omega (arith, hx, l))) in
      let k' : get_or gone v false ≡ true = sym (gone_before gone x v false i) ∙ k in
      let z : get_or qs v 0 ≡ 0 = (r.out v h k').1 in
      let o : (get_or new_m v 0 ≡ v) × (get_or new_q v 0 ≡ get_or qs v 0) = st.out v h i (r.out v h k').0 (λ q. omega (arith, q, z)) in
      (o.0, o.1 ∙ z);
  full = λ v h k e. elim (st.alone v h e) [
    | inl q ↦ q
    | inr b ↦ b.2 ∙ r.full v h (sym (gone_before gone x v false b.0) ∙ k) b.1
  ];
}

pub out_parted : {n : ℕ} {qs ms new_m : List ℕ} {x y : ℕ} → length qs ≡ n → length ms ≡ n → x < n → AreUnmatched ms new_m x y → AreOut n qs ms (set qs x 0) new_m x y
out_parted {n} {qs} {ms} {new_m} {x} {y} lq lm hx p = record {
  q_count = length-set qs x 0 ∙ lq;
  m_count = p.count ∙ lm;
  price = get_or-set_same qs x 0 0 (omega (arith, lq, hx));
  prices = λ v d. get_or-set_other qs x v 0 0 d;
  x_is = p.x_is;
  y_is = p.y_is;
  others = p.others;
}

-- x and its mate y are out
pub pair_rests : {g : Graph} {n : ℕ} {qs ms new_m : List ℕ} {gone : List Bool} {x y : ℕ} → IsOptimal g n qs ms gone → length gone ≡ n → x < n → y < n → y ≡ get_or ms x 0 → x ≢ y → AreUnmatched ms new_m x y
    → IsOptimal g n (set (set qs x 0) y 0) new_m (set (set gone x true) y true)
pair_rests {g} {n} {qs} {ms} {new_m} {gone} {x} {y} r l hx hyn hy d p =
    let a : AreOut n qs ms (set qs x 0) new_m x y = out_parted r.priced.count r.mates.count hx p in
    let b : AreOut n (set qs x 0) new_m (set (set qs x 0) y 0) new_m y y = record {
      q_count = length-set (set qs x 0) y 0 ∙ a.q_count;
      m_count = a.m_count;
      price = get_or-set_same (set qs x 0) y 0 0 (omega (arith, a.q_count, hyn));
      prices = λ v e. get_or-set_other (set qs x 0) y v 0 0 e;
      x_is = a.y_is;
      y_is = a.y_is;
      others = λ v e f. refl;
    } in
    let gl : length (set gone x true) ≡ n = length-set gone x true ∙ l in
    let away : (v : ℕ) → v ≢ x → v ≢ y → get_or (set (set gone x true) y true) v false ≡ get_or gone v false = λ v e f. gone_before (set gone x true) y v true f ∙ gone_before gone x v true e in
    record {
      priced = out_priced (out_priced r.priced a) b;
      mates = out_mates (out_mates r.mates hx hy a) hyn (sym a.y_is) b;
      out = λ v h k. elim (cases_eq v y) [
        | inl e ↦ (ap (λ (i : ℕ). get_or new_m i 0) e ∙ a.y_is ∙ sym e, ap (λ (i : ℕ). get_or (set (set qs x 0) y 0) i 0) e ∙ b.price)
        | inr f ↦ elim (cases_eq v x) [
          | inl e ↦ (ap (λ (i : ℕ). get_or new_m i 0) e ∙ a.x_is ∙ sym e, b.prices v f ∙ ap (λ (i : ℕ). get_or (set qs x 0) i 0) e ∙ a.price)
          | inr e ↦
              let k' : get_or gone v false ≡ true = sym (away v e f) ∙ k in
              (a.others v e f ∙ (r.out v h k').0, b.prices v f ∙ a.prices v e ∙ (r.out v h k').1)
        ]
      ];
      full = λ v h k m.
          let f : v ≢ y = λ q. false_true (ap (λ (o : ℕ). get_or (set (set gone x true) y true) o false) q ∙ get_or-set_same (set gone x true) y true false (omega (arith, hyn, gl))) k in
          let e : v ≢ x = λ q. false_true (gone_before (set gone x true) y v true f ∙ ap (λ (o : ℕ). get_or (set gone x true) o false) q ∙ get_or-set_same gone x true false (omega (arith, hx, l))) k in
          b.prices v f ∙ a.prices v e ∙ r.full v h (sym (away v e f) ∙ k) (sym (a.others v e f) ∙ m);
    }

pub pair_sum : (qs : List ℕ) (x y : ℕ) → x < length qs → y < length qs → x ≢ y → sum (set (set qs x 0) y 0) + (get_or qs x 0 + get_or qs y 0) ≡ sum qs
pair_sum qs x y hx hy d =
    let one : sum (set qs x 0) + get_or qs x 0 ≡ sum qs + 0 = sum_by-set (λ (q : ℕ). q) qs x 0 0 hx in
    let two : sum (set (set qs x 0) y 0) + get_or (set qs x 0) y 0 ≡ sum (set qs x 0) + 0 = sum_by-set (λ (q : ℕ). q) (set qs x 0) y 0 0 (omega (arith, hy, length-set qs x 0)) in
    let same : get_or (set qs x 0) y 0 ≡ get_or qs y 0 = get_or-set_other qs x y 0 0 (λ e. d (sym e)) in
    omega (arith, one, two, same)
