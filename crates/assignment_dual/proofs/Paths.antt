-- The path from a node back to the root is turned.
use Rattle.std.proofs.Common.{◌≡◌, ◌≢◌, ◌<◌, ◌⊎◌, inl, inr, ℕ, zero, suc, length, get_or, Bool, List, arith, refl, sym, ◌∙◌, ap, subst}
use Rattle.std.proofs.lemmas.Bool.{cases_eq, cases_lt}
use Rattle.assignment_dual.specs.declared.graph.Graph.{Graph}
use Rattle.assignment_dual.specs.declared.search.Node.{Node}
use Rattle.trk_base.specs.Limits.{miss_cost}
use Rattle.assignment_dual.specs.Vertices.{Across, IsGraph, Tight, AreMatched}
use Rattle.assignment_dual.specs.Search.{vertex_at, from_at, mate_at, IsSearchTree, ArePaired, IsEnd, IsMatchedAfter, AreRematched, AreUnmatched}
use Rattle.assignment_dual.proofs.Turns.{across_differ, across_back, across_thrice, across_at, mates_across, by_turn, back_arc, turned_mates}
use Rattle.assignment_dual.proofs.Trees.{root_apart, mate_side}

-- a vertex is parted from its mate; prices may change at that vertex
pub parted_mates : {g : Graph} {n : ℕ} {qs ms new_q new_m : List ℕ} {x y : ℕ} → AreMatched g n qs ms → x < n → y ≡ get_or ms x 0 → AreUnmatched ms new_m x y → ((v : ℕ) → v ≢ x → get_or new_q v 0 ≡ get_or qs v 0) → AreMatched g n new_q new_m
parted_mates {g} {n} {qs} {ms} {new_q} {new_m} {x} {y} am hx hy p same =
    let yx : get_or ms y 0 ≡ x = ap (λ (i : ℕ). get_or ms i 0) hy ∙ am.back x hx in
    let away : (v : ℕ) → v < n → v ≢ x → v ≢ y → (get_or ms v 0 ≢ x) × (get_or ms v 0 ≢ y) =
    λ v h i j. ((λ e. j (sym (am.back v h) ∙ ap (λ (o : ℕ). get_or ms o 0) e ∙ sym hy)), (λ e. i (sym (am.back v h) ∙ ap (λ (o : ℕ). get_or ms o 0) e ∙ yx))) in
    record {
      count = p.count ∙ am.count;
      within = λ v h. elim (cases_eq v x) [
        | inl e ↦ subst (λ (i : ℕ). get_or new_m i 0 < n) (sym e) (subst (λ (i : ℕ). i < n) (sym p.x_is) hx)
        | inr i ↦ elim (cases_eq v y) [
          | inl e ↦ subst (λ (o : ℕ). o < n) (sym (ap (λ (o : ℕ). get_or new_m o 0) e ∙ p.y_is ∙ sym e)) h
          | inr j ↦ subst (λ (o : ℕ). o < n) (sym (p.others v i j)) (am.within v h)
        ]
      ];
      back = λ v h. elim (cases_eq v x) [
        | inl e ↦ ap (λ (o : ℕ). get_or new_m (get_or new_m o 0) 0) e ∙ ap (λ (o : ℕ). get_or new_m o 0) p.x_is ∙ p.x_is ∙ sym e
        | inr i ↦ elim (cases_eq v y) [
          | inl e ↦ ap (λ (o : ℕ). get_or new_m (get_or new_m o 0) 0) e ∙ ap (λ (o : ℕ). get_or new_m o 0) p.y_is ∙ p.y_is ∙ sym e
          | inr j ↦ ap (λ (o : ℕ). get_or new_m o 0) (p.others v i j) ∙ p.others (get_or ms v 0) (away v h i j).0 (away v h i j).1 ∙ am.back v h
        ]
      ];
      tight = λ v h m.
          let i : v ≢ x = λ e. m (ap (λ (o : ℕ). get_or new_m o 0) e ∙ p.x_is ∙ sym e) in
          let j : v ≢ y = λ e. m (ap (λ (o : ℕ). get_or new_m o 0) e ∙ p.y_is ∙ sym e) in
          let t : Tight g qs v (get_or ms v 0) = am.tight v h (λ e. m (p.others v i j ∙ e)) in
          let mate : get_or new_m v 0 ≡ get_or ms v 0 = p.others v i j in
          let q : get_or new_q (get_or ms v 0) 0 ≡ get_or qs (get_or ms v 0) 0 = same (get_or ms v 0) (away v h i j).0 in
          let z : Tight g new_q v (get_or ms v 0) = (t.0, record { arc = t.1.arc; to = t.1.to; exact = omega (arith, t.1.exact, q, same v i) }) in
          subst (λ (o : ℕ). Tight g new_q v o) (sym mate) z;
    }

-- The path after the node `at` is turned: its vertex is alone, the nodes before it are as they were.
pub record Turning (g : Graph) (n : ℕ) (qs ms now : List ℕ) (tree : List Node) (x at : ℕ) : Type 0 where
  pub inside : at < length tree
  pub mates : AreMatched g n qs now
  pub hole : 0 < at → get_or now (vertex_at tree at) 0 ≡ vertex_at tree at
  pub before : ArePaired ms tree at
  pub busy : 0 < at → (mate_at ms tree at ≢ vertex_at tree at) ⊎ (get_or qs (vertex_at tree at) 0 ≡ miss_cost)
  pub kept : (m : ℕ) → m < at → mate_at now tree m ≡ mate_at ms tree m
  pub root : at ≡ 0 → (get_or now x 0 ≢ x) ⊎ (get_or qs x 0 ≡ miss_cost)
  pub alone : (v : ℕ) → v < n → get_or now v 0 ≡ v → (0 < at → v ≢ vertex_at tree at) → (get_or qs v 0 ≡ miss_cost) ⊎ (get_or ms v 0 ≡ v)
  pub out : (v : ℕ) → v < n → v ≢ x → get_or ms v 0 ≡ v → get_or qs v 0 ≢ miss_cost → get_or now v 0 ≡ v

-- the mate of a node is no vertex seen
pub mate_unseen : {g : Graph} {n : ℕ} {qs ms : List ℕ} {seen : List Bool} {tree : List Node} {x : ℕ} → IsGraph g n → AreMatched g n qs ms → IsSearchTree g n qs ms seen tree x → get_or ms x 0 ≡ x
    → (i m : ℕ) → i < length tree → (0 < i → mate_at ms tree i ≢ vertex_at tree i) → 0 < m → m < length tree → mate_at ms tree i ≢ vertex_at tree m
mate_unseen {g} {n} {qs} {ms} {seen} {tree} {x} gr am t e zero m h p q l c = root_apart t m q l (sym (sym (ap (λ (v : ℕ). get_or ms v 0) t.root ∙ e) ∙ c))
mate_unseen {g} {n} {qs} {ms} {seen} {tree} {x} gr am t e (suc i) m h p q l c =
    let a : Across g.plots (mate_at ms tree (suc i)) (vertex_at tree (suc i)) = across_back (mates_across gr am (t.within (suc i) h) refl (p (omega arith))) in
    let b : Across g.plots x (vertex_at tree (suc i)) = mate_side gr am t e (suc i) h p _ a in
    let d : Across g.plots x (vertex_at tree m) = t.across.across _ (t.marked m q l) in
    let l : Across g.plots (vertex_at tree m) (vertex_at tree (suc i)) = subst (λ (v : ℕ). Across g.plots v (vertex_at tree (suc i))) c a in
    across_differ (across_thrice b (across_back l) d) refl

pub turning_first : {g : Graph} {n : ℕ} {qs ms now : List ℕ} {seen : List Bool} {tree : List Node} {x e : ℕ} → IsGraph g n → AreMatched g n qs ms → IsSearchTree g n qs ms seen tree x → get_or ms x 0 ≡ x → IsEnd qs ms tree e
    → AreUnmatched ms now (vertex_at tree e) (mate_at ms tree e) → Turning g n qs ms now tree x e
turning_first {g} {n} {qs} {ms} {now} {seen} {tree} {x} {e} gr am t mx en p =
    let le : vertex_at tree e < n = t.within e en.inside in
    record {
      inside = en.inside;
      mates = parted_mates am le refl p (λ v d. refl);
      hole = λ h. p.x_is;
      before = en.before;
      busy = λ h. elim (cases_eq (mate_at ms tree e) (vertex_at tree e)) [
        | inl q ↦ inr (ap (λ (v : ℕ). get_or qs v 0) (sym q) ∙ en.pays)
        | inr q ↦ inl q
      ];
      kept = λ m h. elim (cases_lt 0 m) [
        | inl q ↦
            p.others (vertex_at tree m) (t.distinct m e q h en.inside)
            (λ z.
            let w : mate_at ms tree m ≡ vertex_at tree e = ap (λ (v : ℕ). get_or ms v 0) z ∙ am.back (vertex_at tree e) le in
            mate_unseen gr am t mx m e (omega (arith, h, en.inside)) (λ r. en.before.paired m q h) (omega (arith, q, h)) en.inside w)
        | inr q ↦
            let z : m ≡ 0 = omega (arith, q) in
            let r : vertex_at tree m ≡ x = ap (vertex_at tree) z ∙ t.root in
            let pe : 0 < e = omega (arith, h) in
            p.others (vertex_at tree m) (λ w. root_apart t e pe en.inside (sym w ∙ r))
            (λ w.
            let u : get_or ms x 0 ≡ vertex_at tree e = ap (λ (v : ℕ). get_or ms v 0) (sym r ∙ w) ∙ am.back (vertex_at tree e) le in
            root_apart t e pe en.inside (sym u ∙ mx))
      ];
      root = λ z.
          let r : vertex_at tree e ≡ x = ap (vertex_at tree) z ∙ t.root in
          inr (ap (λ (v : ℕ). get_or qs v 0) (sym (ap (λ (v : ℕ). get_or ms v 0) r ∙ mx)) ∙ en.pays);
      alone = λ v h a d. elim (cases_eq v (mate_at ms tree e)) [
        | inl q ↦ inl (ap (λ (i : ℕ). get_or qs i 0) q ∙ en.pays)
        | inr q ↦ elim (cases_eq v (vertex_at tree e)) [
          | inl w ↦ elim (cases_lt 0 e) [
            | inl pe ↦ absurd (d pe w)
            | inr pe ↦
                let r : vertex_at tree e ≡ x = ap (vertex_at tree) (omega (arith, pe)) ∙ t.root in
                inr (ap (λ (i : ℕ). get_or ms i 0) (w ∙ r) ∙ mx ∙ sym (w ∙ r))
          ]
          | inr w ↦ inr (sym (p.others v w q) ∙ a)
        ]
      ];
      out = λ v h d a f. elim (cases_eq v (vertex_at tree e)) [
        | inl w ↦ ap (λ (i : ℕ). get_or now i 0) w ∙ p.x_is ∙ sym w
        | inr w ↦ elim (cases_eq v (mate_at ms tree e)) [
          | inl q ↦ ap (λ (i : ℕ). get_or now i 0) q ∙ p.y_is ∙ sym q
          | inr q ↦ p.others v w q ∙ a
        ]
      ];
    }

-- the vertex of the node is given to the mate of the node before
pub turning_next : {g : Graph} {n : ℕ} {qs ms now new : List ℕ} {seen : List Bool} {tree : List Node} {x at : ℕ} → IsGraph g n → AreMatched g n qs ms → IsSearchTree g n qs ms seen tree x → get_or ms x 0 ≡ x
    → Turning g n qs ms now tree x at → 0 < at → (w : ℕ) → w ≡ mate_at now tree (from_at tree at) → AreRematched now new (vertex_at tree at) w (get_or now w 0) → Turning g n qs ms new tree x (from_at tree at)
turning_next {g} {n} {qs} {ms} {now} {new} {seen} {tree} {x} {at} gr am t mx u pa w we tu =
    let b : ℕ = from_at tree at in
    let ba : b < at = t.earlier at pa u.inside in
    let bl : b < length tree = omega (arith, ba, u.inside) in
    let vb : vertex_at tree b < n = t.within b bl in
    let wm : w ≡ mate_at ms tree b = we ∙ u.kept b ba in
    let wn : w < n = subst (λ (v : ℕ). v < n) (sym wm) (am.within _ vb) in
    let z : get_or now w 0 ≡ vertex_at tree b = ap (λ (v : ℕ). get_or now v 0) we ∙ u.mates.back _ vb in
    let pb : 0 < b → mate_at ms tree b ≢ vertex_at tree b = λ h. u.before.paired b h ba in
    let ta : Tight g qs w (vertex_at tree at) = subst (λ (v : ℕ). Tight g qs v (vertex_at tree at)) (sym wm) (t.tight at pa u.inside) in
    let back : Tight g qs (vertex_at tree at) w = back_arc ta.1 (gr.arcs w ta.0 wn ta.1.arc).back in
    let yn : vertex_at tree at < n = t.within at u.inside in
    let mates' : AreMatched g n qs new = turned_mates gr u.mates tu yn (u.hole pa) refl back.1 in
    -- a vertex of an earlier node is none of the three that change
    let away : (m : ℕ) → m < b → get_or new (vertex_at tree m) 0 ≡ get_or now (vertex_at tree m) 0 = λ m h.
    let ml : m < length tree = omega (arith, h, bl) in
    let pbb : 0 < b = omega (arith, h) in
    tu.others (vertex_at tree m)
    (elim (cases_lt 0 m) [
      | inl q ↦ t.distinct m at q (omega (arith, h, ba)) u.inside
      | inr q ↦ (λ c. root_apart t at pa u.inside (sym c ∙ ap (vertex_at tree) (omega (arith, q)) ∙ t.root))
    ])
    (λ c.
    let k : mate_at ms tree b ≡ vertex_at tree m = sym wm ∙ sym c in
    elim (cases_lt 0 m) [
      | inl q ↦ mate_unseen gr am t mx b m bl pb q ml k
      | inr q ↦
          let r : vertex_at tree m ≡ x = ap (vertex_at tree) (omega (arith, q)) ∙ t.root in
          let j : get_or ms x 0 ≡ vertex_at tree b = ap (λ (v : ℕ). get_or ms v 0) (sym (k ∙ r)) ∙ am.back _ vb in
          root_apart t b pbb bl (sym j ∙ mx)
    ])
    (λ c.
    let k : vertex_at tree m ≡ vertex_at tree b = c ∙ z in
    elim (cases_lt 0 m) [
      | inl q ↦ t.distinct m b q h bl k
      | inr q ↦ root_apart t b pbb bl (sym k ∙ ap (vertex_at tree) (omega (arith, q)) ∙ t.root)
    ]) in
    record {
      inside = bl;
      mates = mates';
      hole = λ h. ap (λ (v : ℕ). get_or new v 0) (sym z) ∙ tu.z_is (λ c. pb h (sym wm ∙ sym c ∙ z)) ∙ z;
      before = record { paired = λ i q h. u.before.paired i q (omega (arith, h, ba)) };
      busy = λ h. inl (pb h);
      kept = λ m h. away m h ∙ u.kept m (omega (arith, h, ba));
      root = λ e.
          let r : w ≡ x = wm ∙ ap (mate_at ms tree) e ∙ ap (λ (v : ℕ). get_or ms v 0) t.root ∙ mx in
          inl (λ c. root_apart t at pa u.inside (sym tu.y_is ∙ ap (λ (v : ℕ). get_or new v 0) r ∙ c));
      alone = λ v h a d.
          by_turn (λ v o. o ≡ v → v < n → (0 < b → v ≢ vertex_at tree b) → (get_or qs v 0 ≡ miss_cost) ⊎ (get_or ms v 0 ≡ v)) tu
          (λ c l d. absurd (across_differ (across_at gr wn ta.1) c))
          (λ c l d. absurd (across_differ (across_at gr wn ta.1) (sym c)))
          (λ q c l d. elim (cases_lt 0 b) [
            | inl pbb ↦ absurd (d pbb z)
            | inr pbb ↦
                let e : b ≡ 0 = omega (arith, pbb) in
                let r : vertex_at tree b ≡ x = ap (vertex_at tree) e ∙ t.root in
                inr (ap (λ (i : ℕ). get_or ms i 0) (z ∙ r) ∙ mx ∙ sym (z ∙ r))
          ])
          (λ v i j k c l d. u.alone v l c (λ q. i)) v a h d;
      out = λ v h d a f.
          tu.others v
          (λ c. elim (u.busy pa) [
            | inl q ↦ q (ap (λ (i : ℕ). get_or ms i 0) (sym c) ∙ a ∙ c)
            | inr q ↦ f (ap (λ (i : ℕ). get_or qs i 0) c ∙ q)
          ])
          (λ c.
          let k : v ≡ mate_at ms tree b = c ∙ wm in
          let j : get_or ms v 0 ≡ vertex_at tree b = ap (λ (i : ℕ). get_or ms i 0) k ∙ am.back _ vb in
          elim (cases_lt 0 b) [
            | inl q ↦ pb q (sym k ∙ sym a ∙ j)
            | inr q ↦ d (sym a ∙ j ∙ ap (vertex_at tree) (omega (arith, q)) ∙ t.root)
          ])
          (λ c.
          let k : v ≡ vertex_at tree b = c ∙ z in
          elim (cases_lt 0 b) [
            | inl q ↦ pb q (ap (λ (i : ℕ). get_or ms i 0) (sym k) ∙ a ∙ k)
            | inr q ↦ d (k ∙ ap (vertex_at tree) (omega (arith, q)) ∙ t.root)
          ])
          ∙ u.out v h d a f;
    }

-- the two are neither one vertex nor mates
pub turning_apart : {g : Graph} {n : ℕ} {qs ms now : List ℕ} {seen : List Bool} {tree : List Node} {x at : ℕ} → IsGraph g n → AreMatched g n qs ms → IsSearchTree g n qs ms seen tree x → get_or ms x 0 ≡ x
    → Turning g n qs ms now tree x at → 0 < at → (y b w : ℕ) → y ≡ vertex_at tree at → b ≡ from_at tree at → w ≡ mate_at now tree b → (y ≢ w) × (get_or now w 0 ≢ y)
turning_apart {g} {n} {qs} {ms} {now} {seen} {tree} {x} {at} gr am t mx u pa y b w ye be we =
    let ba : b < at = omega (arith, be, t.earlier at pa u.inside) in
    let bl : b < length tree = omega (arith, ba, u.inside) in
    let wm : w ≡ mate_at ms tree b = we ∙ u.kept b ba in
    let wn : w < n = subst (λ (v : ℕ). v < n) (sym wm) (am.within _ (t.within b bl)) in
    let z : get_or now w 0 ≡ vertex_at tree b = ap (λ (v : ℕ). get_or now v 0) we ∙ u.mates.back _ (t.within b bl) in
    let ta : Tight g qs w (vertex_at tree at) = subst (λ (v : ℕ). Tight g qs v (vertex_at tree at)) (sym (wm ∙ ap (mate_at ms tree) be)) (t.tight at pa u.inside) in (
      (λ c. across_differ (across_at gr wn ta.1) (sym c ∙ ye)),
      (λ c. elim (cases_lt 0 b) [
        | inl q ↦ t.distinct b at q ba u.inside (sym z ∙ c ∙ ye)
        | inr q ↦ root_apart t at pa u.inside (sym ye ∙ sym c ∙ z ∙ ap (vertex_at tree) (omega (arith, q)) ∙ t.root)
      ]),
    )

pub turning_step : {g : Graph} {n : ℕ} {qs ms now new : List ℕ} {seen : List Bool} {tree : List Node} {x at : ℕ} → IsGraph g n → AreMatched g n qs ms → IsSearchTree g n qs ms seen tree x → get_or ms x 0 ≡ x
    → Turning g n qs ms now tree x at → 0 < at → (y b w z : ℕ) → y ≡ vertex_at tree at → b ≡ from_at tree at → w ≡ mate_at now tree b → z ≡ get_or now w 0 → AreRematched now new y w z → Turning g n qs ms new tree x b
turning_step {g} {n} {qs} {ms} {now} {new} {seen} {tree} {x} {at} gr am t mx u pa y b w z ye be we ze tu =
    subst (Turning g n qs ms new tree x) (sym be)
    (turning_next gr am t mx u pa w (we ∙ ap (mate_at now tree) be) (subst (λ (v : ℕ). AreRematched now new v w (get_or now w 0)) ye (subst (AreRematched now new y w) ze tu)))

pub turned_whole : {g : Graph} {n : ℕ} {qs ms now : List ℕ} {tree : List Node} {x at : ℕ} → Turning g n qs ms now tree x at → at ≡ 0 → IsMatchedAfter n qs ms now x
turned_whole {g} {n} {qs} {ms} {now} {tree} {x} {at} u z = record {
  alone = λ v h a. elim (cases_eq v x) [
    | inl e ↦ elim (u.root z) [
      | inl q ↦ absurd (q (ap (λ (i : ℕ). get_or now i 0) (sym e) ∙ a ∙ e))
      | inr q ↦ inl (ap (λ (i : ℕ). get_or qs i 0) e ∙ q)
    ]
    | inr d ↦ elim (u.alone v h a (λ q. absurd (omega (arith, q, z)))) [ inl q ↦ inl q | inr q ↦ inr (d, q) ]
  ];
  out = u.out;
}
