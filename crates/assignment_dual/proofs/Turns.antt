-- A vertex and its mates, before and after a turn; vertices that are seen.
use Rattle.std.proofs.Common.{◌≡◌, ◌≢◌, ◌<◌, ◌⊎◌, inl, inr, ℕ, ◌+◌, length, get_or, set, true, false, Bool, cond, not, List, arith, refl, sym, ◌∙◌, ap, subst, get_or-set_same, get_or-set_other}
use Rattle.std.proofs.lemmas.List.Sums.{sum_by-set}
use Rattle.std.proofs.lemmas.Bool.{cases_eq, cases_lt}
use Rattle.assignment_dual.specs.declared.graph.Graph.{Graph}
use Rattle.trk_base.specs.Limits.{miss_cost}
use Rattle.assignment_dual.specs.Vertices.{Across, HasArc, to_of, cost_at, GoesBack, IsArc, IsGraph, TightArc, Tight, AreMatched}
use Rattle.assignment_dual.specs.Search.{SeenAcross, unseen, IsSwept, AreRematched}

pub across_differ : {p x y : ℕ} → Across p x y → x ≢ y
across_differ a e = elim a.sides [ inl h ↦ omega (arith, h.0, h.1) | inr h ↦ omega (arith, h.0, h.1) ]

pub across_back : {p x y : ℕ} → Across p x y → Across p y x
across_back a = elim a.sides [ inl h ↦ record { sides = inr (h.1, h.0) } | inr h ↦ record { sides = inl (h.1, h.0) } ]

-- x to y, y to z: z stands where x does
pub across_thrice : {p x y z v : ℕ} → Across p x y → Across p y z → Across p x v → Across p z v
across_thrice a b d = elim a.sides [
  | inl h ↦ elim b.sides [ inl k ↦ absurd (omega (arith, h.1, k.0)) | inr k ↦ elim d.sides [ inl j ↦ record { sides = inl (k.1, j.1) } | inr j ↦ absurd (omega (arith, h.0, j.0)) ] ]
  | inr h ↦ elim b.sides [ inl k ↦ elim d.sides [ inl j ↦ absurd (omega (arith, h.0, j.0)) | inr j ↦ record { sides = inr (k.1, j.1) } ] | inr k ↦ absurd (omega (arith, h.1, k.0)) ]
]

pub by_turn : (P : ℕ → ℕ → Type 0) {ms new : List ℕ} {x y z : ℕ} → AreRematched ms new x y z → P x y → P y x → (z ≢ y → P z z)
    → ((v : ℕ) → v ≢ x → v ≢ y → v ≢ z → P v (get_or ms v 0)) → (v : ℕ) → P v (get_or new v 0)
by_turn P {ms} {new} {x} {y} {z} t a b d o v =
    elim (cases_eq v x) [
      | inl e ↦ subst (λ (i : ℕ). P i (get_or new i 0)) (sym e) (subst (P x) (sym t.x_is) a)
      | inr n ↦ elim (cases_eq v y) [
        | inl e ↦ subst (λ (i : ℕ). P i (get_or new i 0)) (sym e) (subst (P y) (sym t.y_is) b)
        | inr m ↦ elim (cases_eq v z) [
          | inl e ↦ subst (λ (i : ℕ). P i (get_or new i 0)) (sym e) (subst (P z) (sym (t.z_is (λ q. m (e ∙ q)))) (d (λ q. m (e ∙ q))))
          | inr k ↦ subst (P v) (sym (t.others v n m k)) (o v n m k)
        ]
      ]
    ]

pub back_arc : {g : Graph} {qs : List ℕ} {x y k : ℕ} → TightArc g qs x y k → (j : ℕ) × GoesBack g x k j → Tight g qs y x
back_arc {g} {qs} {x} {y} {k} t b = (b.0, record { arc = subst (λ (i : ℕ). HasArc g i b.0) t.to b.1.arc; to = b.1.to; exact = omega (arith, t.exact, b.1.cost) })

-- y's mate is on x's side, and none of the three is another's mate
pub turned_mates : {g : Graph} {n : ℕ} {qs ms new : List ℕ} {x y z k : ℕ} → IsGraph g n → AreMatched g n qs ms → AreRematched ms new x y z → x < n → get_or ms x 0 ≡ x → z ≡ get_or ms y 0
    → TightArc g qs x y k → AreMatched g n qs new
turned_mates {g} {n} {qs} {ms} {new} {x} {y} {z} {k} gr am t hx e hz ta =
    let a : IsArc g n x k = gr.arcs x k hx ta.arc in
    let hy : y < n = subst (λ (i : ℕ). i < n) ta.to a.to in
    let zn : z < n = subst (λ (i : ℕ). i < n) (sym hz) (am.within y hy) in
    let zy : get_or ms z 0 ≡ y = ap (λ (i : ℕ). get_or ms i 0) hz ∙ am.back y hy in
    record {
      count = t.count ∙ am.count;
      within = by_turn (λ v w. v < n → w < n) t (λ h. hy) (λ h. hx) (λ d h. zn) (λ v i j l h. am.within v h);
      back = by_turn (λ v w. v < n → get_or new w 0 ≡ v) t (λ h. t.y_is) (λ h. t.x_is) (λ d h. t.z_is d)
          (λ v i j l h. t.others (get_or ms v 0)
          (λ q. i (sym (am.back v h) ∙ ap (λ (o : ℕ). get_or ms o 0) q ∙ e))
          (λ q. l (sym (am.back v h) ∙ ap (λ (o : ℕ). get_or ms o 0) q ∙ sym hz))
          (λ q. j (sym (am.back v h) ∙ ap (λ (o : ℕ). get_or ms o 0) q ∙ zy))
          ∙ am.back v h);
      tight = by_turn (λ v w. v < n → w ≢ v → Tight g qs v w) t (λ h d. (k, ta)) (λ h d. back_arc ta a.back) (λ d h m. absurd (m refl)) (λ v i j l h d. am.tight v h d);
    }

-- Vertices that are seen.
pub seen_set : (seen : List Bool) (y v : ℕ) → get_or (set seen y true) v false ≡ true → (v ≡ y) ⊎ (get_or seen v false ≡ true)
seen_set seen y v h = elim (cases_eq v y) [ inl e ↦ inl e | inr n ↦ inr (sym (get_or-set_other seen y v true false n) ∙ h) ]

pub seen_kept : (seen : List Bool) (y v : ℕ) → y < length seen → get_or seen v false ≡ true → get_or (set seen y true) v false ≡ true
seen_kept seen y v l h = elim (cases_eq v y) [
  | inl e ↦ ap (λ (i : ℕ). get_or (set seen y true) i false) e ∙ get_or-set_same seen y true false l
  | inr n ↦ get_or-set_other seen y v true false n ∙ h
]

not_counted : (b : Bool) → b ≡ false → cond {A = ℕ} (not b) 1 0 ≡ 1
not_counted true h = absurd (cc)
not_counted false h = refl

pub unseen_set : (seen : List Bool) (y : ℕ) → y < length seen → get_or seen y false ≡ false → unseen (set seen y true) + 1 ≡ unseen seen
unseen_set seen y l h =
    let a : unseen (set seen y true) + cond (not (get_or seen y false)) 1 0 ≡ unseen seen + 0 = sum_by-set (λ (b : Bool). cond (not b) 1 0) seen y true false l in
    let b : cond {A = ℕ} (not (get_or seen y false)) 1 0 ≡ 1 = not_counted (get_or seen y false) h in
    omega arith

pub across_set : {p x y : ℕ} {seen : List Bool} → SeenAcross p seen x → Across p x y → SeenAcross p (set seen y true) x
across_set {p} {x} {y} {seen} s a = record { across = λ v h. elim (seen_set seen y v h) [ inl e ↦ subst (Across p x) (sym e) a | inr k ↦ s.across v k ] }

pub swept_more : {g : Graph} {qs : List ℕ} {seen new : List Bool} {x : ℕ} → IsSwept g qs seen x → ((v : ℕ) → get_or seen v false ≡ true → get_or new v false ≡ true) → IsSwept g qs new x
swept_more s m = record { below = s.below; arcs = λ k a t. m _ (s.arcs k a t) }

pub across_at : {g : Graph} {n : ℕ} {qs : List ℕ} {x y k : ℕ} → IsGraph g n → x < n → TightArc g qs x y k → Across g.plots x y
across_at {g} {n} {qs} {x} {y} {k} gr h t = subst (Across g.plots x) t.to (gr.arcs x k h t.arc).across

-- a vertex and its mate lie across
pub mates_across : {g : Graph} {n : ℕ} {qs ms : List ℕ} {y z : ℕ} → IsGraph g n → AreMatched g n qs ms → y < n → z ≡ get_or ms y 0 → z ≢ y → Across g.plots y z
mates_across {g} {n} {qs} {ms} {y} {z} gr am h e d =
    let t : Tight g qs y (get_or ms y 0) = am.tight y h (λ q. d (e ∙ q)) in
    subst (Across g.plots y) (sym e) (across_at gr h t.1)

pub arcs_next : (g : Graph) (qs : List ℕ) (seen new : List Bool) (x k : ℕ) → ((v : ℕ) → get_or seen v false ≡ true → get_or new v false ≡ true)
    → ((j : ℕ) → HasArc g x j → j < k → get_or qs x 0 + get_or qs (to_of g j) 0 ≡ cost_at g j + miss_cost → get_or seen (to_of g j) false ≡ true)
    → (get_or qs x 0 + get_or qs (to_of g k) 0 ≡ cost_at g k + miss_cost → get_or new (to_of g k) false ≡ true)
    → (j : ℕ) → HasArc g x j → j < k + 1 → get_or qs x 0 + get_or qs (to_of g j) 0 ≡ cost_at g j + miss_cost → get_or new (to_of g j) false ≡ true
arcs_next g qs seen new x k more before here j a l t = elim (cases_lt j k) [
  | inl b ↦ more (to_of g j) (before j a b t)
  | inr b ↦
      let e : j ≡ k = omega arith in
      subst (λ (i : ℕ). get_or qs x 0 + get_or qs (to_of g i) 0 ≡ cost_at g i + miss_cost → get_or new (to_of g i) false ≡ true) (sym e) here t
]
