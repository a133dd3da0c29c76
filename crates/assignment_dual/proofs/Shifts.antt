-- Prices after a shift.
use Rattle.std.proofs.Common.{◌≡◌, ◌≢◌, ◌≤◌, ◌<◌, ◌⊎◌, inl, inr, ℕ, ◌+◌, length, get_or, true, false, Bool, List, arith, refl, sym, ◌∙◌, ap, subst}
use Rattle.std.proofs.lemmas.List.{get_or_past}
use Rattle.std.proofs.lemmas.Bool.{cases_lt, cases_Bool}
use Rattle.assignment_dual.specs.declared.graph.Graph.{Graph}
use Rattle.assignment_dual.specs.declared.search.Node.{Node}
use Rattle.trk_base.specs.Limits.{miss_cost}
use Rattle.assignment_dual.specs.Vertices.{Across, HasArc, to_of, cost_at, GoesBack, IsArc, IsGraph, IsDualFeasible, Tight, AreMatched}
use Rattle.assignment_dual.specs.Search.{SeenAcross, IsSwept, mate_at}
use Rattle.assignment_dual.specs.Rising.{HasSlack, AllHaveSlack}
use Rattle.assignment_dual.proofs.Turns.{across_differ, across_back, across_thrice, mates_across}

-- x and the mates of those seen
abbrev pub Rises : List ℕ → List Bool → ℕ → ℕ → Type 0
Rises ms seen x v = (v ≡ x) ⊎ (get_or seen (get_or ms v 0) false ≡ true)

-- what a failed search leaves
pub record IsTree (g : Graph) (n : ℕ) (qs ms : List ℕ) (seen : List Bool) (x : ℕ) : Type 0 where
  pub across : SeenAcross g.plots seen x
  pub paired : (y : ℕ) → get_or seen y false ≡ true → get_or ms y 0 ≢ y
  pub swept : (v : ℕ) → v < n → Rises ms seen x v → IsSwept g qs seen v

pub record EachHasRoom (g : Graph) (n : ℕ) (qs ms : List ℕ) (seen : List Bool) (x d : ℕ) : Type 0 where
  pub room : (v : ℕ) → v < n → Rises ms seen x v → HasSlack g qs seen v d

-- those seen fall, those that rise rise, the others stay
abbrev pub Moved : List ℕ → List ℕ → List ℕ → List Bool → ℕ → ℕ → ℕ → Type 0
Moved qs new ms seen x d v =
    ((get_or seen v false ≡ true) × (get_or new v 0 + d ≡ get_or qs v 0))
    ⊎ ((get_or seen v false ≡ false) × Rises ms seen x v × (get_or new v 0 ≡ get_or qs v 0 + d))
    ⊎ ((get_or seen v false ≡ false) × (Rises ms seen x v → ⊥) × (get_or new v 0 ≡ get_or qs v 0))

pub record AreMoved (n : ℕ) (qs new ms : List ℕ) (seen : List Bool) (x d : ℕ) : Type 0 where
  pub count : length new ≡ length qs
  pub moved : (v : ℕ) → v < n → Moved qs new ms seen x d v

-- the arcs of x before k have been looked at
pub record Roomy (g : Graph) (qs : List ℕ) (seen : List Bool) (x k d : ℕ) : Type 0 where
  pub some : 0 < d
  pub alone : get_or qs x 0 + d ≤ miss_cost
  pub from : get_or g.first.items x 0 ≤ k
  pub arcs : (j : ℕ) → HasArc g x j → j < k → get_or seen (to_of g j) false ≡ false → get_or qs x 0 + get_or qs (to_of g j) 0 + d ≤ cost_at g j + miss_cost
  pub most : (e : ℕ) → HasSlack g qs seen x e → e ≤ d

-- the nodes before i have been looked at
pub record RoomyBelow (g : Graph) (qs ms : List ℕ) (seen : List Bool) (tree : List Node) (i d : ℕ) : Type 0 where
  pub some : 0 < d
  pub room : (j : ℕ) → j < i → HasSlack g qs seen (mate_at ms tree j) d
  pub most : (e : ℕ) → AllHaveSlack g qs ms seen tree e → e ≤ d

pub less_room : {g : Graph} {qs : List ℕ} {seen : List Bool} {v d e : ℕ} → HasSlack g qs seen v d → e ≤ d → HasSlack g qs seen v e
less_room h l = record { alone = omega (arith, h.alone); arcs = λ k a s. omega (arith, h.arcs k a s) }

-- two on the other side than x are on one side
pub across_two : {p x a b : ℕ} → Across p x a → Across p x b → Across p b a → ⊥
across_two h k l = across_differ (across_thrice h (across_back l) k) refl

seen_mate : {g : Graph} {n : ℕ} {qs ms : List ℕ} {seen : List Bool} {x v : ℕ} → IsGraph g n → AreMatched g n qs ms → IsTree g n qs ms seen x → v < n → get_or seen (get_or ms v 0) false ≡ true → Across g.plots v (get_or ms v 0)
seen_mate {g} {n} {qs} {ms} {seen} {x} {v} gr am tr h s =
    mates_across gr am h refl (λ e. tr.paired (get_or ms v 0) s (ap (λ (i : ℕ). get_or ms i 0) e))

-- whoever rises stands on x's side
pub rises_across : {g : Graph} {n : ℕ} {qs ms : List ℕ} {seen : List Bool} {x v u : ℕ} → IsGraph g n → AreMatched g n qs ms → IsTree g n qs ms seen x → v < n → Rises ms seen x v → Across g.plots v u → Across g.plots x u
rises_across {g} {n} {qs} {ms} {seen} {x} {v} {u} gr am tr h r a = elim r [
  | inl e ↦ subst (λ (i : ℕ). Across g.plots i u) e a
  | inr s ↦ across_thrice (seen_mate gr am tr h s) (across_back (tr.across.across (get_or ms v 0) s)) a
]

pub rises_not_seen : {g : Graph} {n : ℕ} {qs ms : List ℕ} {seen : List Bool} {x v : ℕ} → IsGraph g n → AreMatched g n qs ms → IsTree g n qs ms seen x → v < n → Rises ms seen x v → get_or seen v false ≡ true → ⊥
rises_not_seen {g} {n} {qs} {ms} {seen} {x} {v} gr am tr h r s = elim r [
  | inl e ↦ across_differ (tr.across.across v s) (sym e)
  | inr k ↦ across_two (tr.across.across (get_or ms v 0) k) (tr.across.across v s) (seen_mate gr am tr h k)
]

pub rises_apart : {g : Graph} {n : ℕ} {qs ms : List ℕ} {seen : List Bool} {x v u : ℕ} → IsGraph g n → AreMatched g n qs ms → IsTree g n qs ms seen x → v < n → u < n → Rises ms seen x v → Rises ms seen x u → Across g.plots v u → ⊥
rises_apart {g} {n} {qs} {ms} {seen} {x} {v} {u} gr am tr h k r q a =
    across_differ (rises_across gr am tr k q (across_back (rises_across gr am tr h r a))) refl

-- one arc more has been looked at, for whose sake x may rise by f
pub roomy_next : {g : Graph} {qs : List ℕ} {seen : List Bool} {x k d e : ℕ} (f : ℕ) → Roomy g qs seen x k d → HasArc g x k → (get_or seen (to_of g k) false ≡ false → get_or qs x 0 + get_or qs (to_of g k) 0 + f ≡ cost_at g k + miss_cost)
    → (get_or seen (to_of g k) false ≡ true → f ≡ miss_cost) → 0 < e → e ≤ d → e ≤ f → (e ≡ d) ⊎ (e ≡ f) → Roomy g qs seen x (k + 1) e
roomy_next {g} {qs} {seen} {x} {k} {d} {e} f s a free within p l m either = record {
  some = p;
  alone = omega (arith, s.alone, l);
  from = omega (arith, s.from);
  arcs = λ j b h u. elim (cases_lt j k) [
    | inl q ↦ omega (arith, s.arcs j b q u, l)
    | inr q ↦
        let z : j ≡ k = omega (arith, h, q) in
        let t : get_or qs x 0 + get_or qs (to_of g k) 0 + e ≤ cost_at g k + miss_cost = omega (arith, free (ap (λ (o : ℕ). get_or seen (to_of g o) false) (sym z) ∙ u), m) in
        subst (λ (o : ℕ). get_or qs x 0 + get_or qs (to_of g o) 0 + e ≤ cost_at g o + miss_cost) (sym z) t
  ];
  most = λ o h. elim either [
    | inl q ↦ omega (arith, q, s.most o h)
    | inr q ↦ elim (cases_Bool (get_or seen (to_of g k) false)) [
      | inl t ↦ omega (arith, q, within t, h.alone)
      | inr u ↦ omega (arith, q, free u, h.arcs k a u)
    ]
  ];
}

pub roomy_more : {g : Graph} {qs ms : List ℕ} {seen : List Bool} {tree : List Node} {i d e f : ℕ} → RoomyBelow g qs ms seen tree i d → i < length tree → HasSlack g qs seen (mate_at ms tree i) f → ((o : ℕ) → HasSlack g qs seen (mate_at ms tree i) o → o ≤ f)
    → 0 < e → e ≤ d → e ≤ f → (e ≡ d) ⊎ (e ≡ f) → RoomyBelow g qs ms seen tree (i + 1) e
roomy_more {g} {qs} {ms} {seen} {tree} {i} {d} {e} {f} b il h most p l m either = record {
  some = p;
  room = λ j k. elim (cases_lt j i) [
    | inl q ↦ less_room (b.room j q) l
    | inr q ↦ let z : j ≡ i = omega (arith, k, q) in subst (λ (o : ℕ). HasSlack g qs seen (mate_at ms tree o) e) (sym z) (less_room h m)
  ];
  most = λ o a. elim either [ inl q ↦ omega (arith, q, b.most o a) | inr q ↦ omega (arith, q, most o (a.room i il)) ];
}

pub priced_past : (qs : List ℕ) (n x : ℕ) → length qs ≡ n → n ≤ x → get_or qs x 0 ≡ 0
priced_past qs n x e l = get_or_past qs x 0 (omega arith)

-- the prices after the shift are undercut by no arc
arc_kept : {g : Graph} {n : ℕ} {qs new ms : List ℕ} {seen : List Bool} {x d : ℕ} → IsGraph g n → IsDualFeasible g n qs → AreMatched g n qs ms → IsTree g n qs ms seen x → EachHasRoom g n qs ms seen x d → AreMoved n qs new ms seen x d
    → (v k : ℕ) → v < n → HasArc g v k → get_or new v 0 + get_or new (to_of g k) 0 ≤ cost_at g k + miss_cost
arc_kept {g} {n} {qs} {new} {ms} {seen} {x} {d} gr pr am te ro sh v k h a =
    let i : IsArc g n v k = gr.arcs v k h a in
    let p : get_or qs v 0 + get_or qs (to_of g k) 0 ≤ cost_at g k + miss_cost = pr.arcs v k h a in
    elim (sh.moved v h) [
      | inl f ↦ elim (sh.moved (to_of g k) i.to) [
        | inl e ↦ omega (arith, f.1, e.1)
        | inr o ↦ elim o [ inl e ↦ omega (arith, f.1, e.2) | inr e ↦ omega (arith, f.1, e.2) ]
      ]
      | inr m ↦ elim m [
        | inl f ↦ elim (sh.moved (to_of g k) i.to) [
          | inl e ↦ omega (arith, f.2, e.1)
          | inr o ↦ elim o [
            | inl e ↦ absurd (rises_apart gr am te h i.to f.1 e.1 i.across)
            | inr e ↦ omega (arith, f.2, e.2, (ro.room v h f.1).arcs k a e.0)
          ]
        ]
        | inr f ↦ elim (sh.moved (to_of g k) i.to) [
          | inl e ↦ omega (arith, f.2, e.1)
          | inr o ↦ elim o [
            | inl e ↦
                let b : (j : ℕ) × GoesBack g v k j = i.back in
                let z : get_or seen (to_of g b.0) false ≡ false = ap (λ (q : ℕ). get_or seen q false) b.1.to ∙ f.0 in
                let r : get_or qs (to_of g k) 0 + get_or qs (to_of g b.0) 0 + d ≤ cost_at g b.0 + miss_cost = (ro.room (to_of g k) i.to e.1).arcs b.0 b.1.arc z in
                let u : get_or qs (to_of g b.0) 0 ≡ get_or qs v 0 = ap (λ (q : ℕ). get_or qs q 0) b.1.to in
                omega (arith, f.2, e.2, r, u, b.1.cost)
            | inr e ↦ omega (arith, f.2, e.2)
          ]
        ]
      ]
    ]

pub shifted_priced : {g : Graph} {n : ℕ} {qs new ms : List ℕ} {seen : List Bool} {x d : ℕ} → IsGraph g n → IsDualFeasible g n qs → AreMatched g n qs ms → IsTree g n qs ms seen x → EachHasRoom g n qs ms seen x d → AreMoved n qs new ms seen x d → IsDualFeasible g n new
shifted_priced {g} {n} {qs} {new} {ms} {seen} {x} {d} gr pr am te ro sh = record {
  count = sh.count ∙ pr.count;
  alone = λ v. elim (cases_lt v n) [
    | inl h ↦ elim (sh.moved v h) [
      | inl f ↦ omega (arith, f.1, pr.alone v)
      | inr m ↦ elim m [ inl f ↦ omega (arith, f.2, (ro.room v h f.1).alone) | inr f ↦ omega (arith, f.2, pr.alone v) ]
    ]
    | inr h ↦ omega (arith, priced_past new n v (sh.count ∙ pr.count) h)
  ];
  arcs = arc_kept gr pr am te ro sh;
}

pub false_true : {b : Bool} → b ≡ true → b ≡ false → ⊥
false_true h k = cc

-- mates rise and fall together
mate_kept : {g : Graph} {n : ℕ} {qs new ms : List ℕ} {seen : List Bool} {x d : ℕ} → IsGraph g n → AreMatched g n qs ms → IsTree g n qs ms seen x → AreMoved n qs new ms seen x d → get_or ms x 0 ≡ x
    → (v : ℕ) → v < n → get_or ms v 0 ≢ v → get_or new v 0 + get_or new (get_or ms v 0) 0 ≡ get_or qs v 0 + get_or qs (get_or ms v 0) 0
mate_kept {g} {n} {qs} {new} {ms} {seen} {x} {d} gr am te sh ex v h m =
    let bk : get_or ms (get_or ms v 0) 0 ≡ v = am.back v h in
    let mn : get_or ms v 0 < n = am.within v h in
    let vx : v ≢ x = λ e. m (ap (λ (i : ℕ). get_or ms i 0) e ∙ ex ∙ sym e) in
    let mx : get_or ms v 0 ≢ x = λ e. vx (sym bk ∙ ap (λ (i : ℕ). get_or ms i 0) e ∙ ex) in
    let sv : get_or seen v false ≡ true → Rises ms seen x (get_or ms v 0) = λ s. inr (ap (λ (i : ℕ). get_or seen i false) bk ∙ s) in
    elim (sh.moved v h) [
      | inl f ↦ elim (sh.moved (get_or ms v 0) mn) [
        | inl e ↦ absurd (rises_not_seen gr am te mn (sv f.0) e.0)
        | inr o ↦ elim o [ inl e ↦ omega (arith, f.1, e.2) | inr e ↦ absurd (e.1 (sv f.0)) ]
      ]
      | inr q ↦ elim q [
        | inl f ↦
            let sm : get_or seen (get_or ms v 0) false ≡ true = elim f.1 [ inl e ↦ absurd (vx e) | inr s ↦ s ] in
            elim (sh.moved (get_or ms v 0) mn) [
              | inl e ↦ omega (arith, f.2, e.1)
              | inr o ↦ elim o [ inl e ↦ absurd (false_true sm e.0) | inr e ↦ absurd (false_true sm e.0) ]
            ]
        | inr f ↦ elim (sh.moved (get_or ms v 0) mn) [
          | inl e ↦ absurd (f.1 (inr e.0))
          | inr o ↦ elim o [
            | inl e ↦ absurd (elim e.1 [ inl r ↦ mx r | inr s ↦ false_true (sym (ap (λ (i : ℕ). get_or seen i false) bk) ∙ s) f.0 ])
            | inr e ↦ omega (arith, f.2, e.2)
          ]
        ]
      ]
    ]

pub shifted_mates : {g : Graph} {n : ℕ} {qs new ms : List ℕ} {seen : List Bool} {x d : ℕ} → IsGraph g n → AreMatched g n qs ms → IsTree g n qs ms seen x → AreMoved n qs new ms seen x d → get_or ms x 0 ≡ x → AreMatched g n new ms
shifted_mates {g} {n} {qs} {new} {ms} {seen} {x} {d} gr am te sh ex = record {
  count = am.count;
  within = am.within;
  back = am.back;
  tight = λ v h m.
      let t : Tight g qs v (get_or ms v 0) = am.tight v h m in
      (t.0, record { arc = t.1.arc; to = t.1.to; exact = mate_kept gr am te sh ex v h m ∙ t.1.exact });
}

-- who is alone and isn't x keeps the price
pub shifted_alone : {g : Graph} {n : ℕ} {qs new ms : List ℕ} {seen : List Bool} {x d : ℕ} → IsTree g n qs ms seen x → AreMoved n qs new ms seen x d → (v : ℕ) → v < n → v ≢ x → get_or ms v 0 ≡ v → get_or new v 0 ≡ get_or qs v 0
shifted_alone {g} {n} {qs} {new} {ms} {seen} {x} {d} te sh v h i e = elim (sh.moved v h) [
  | inl f ↦ absurd (te.paired v f.0 e)
  | inr q ↦ elim q [
    | inl f ↦ absurd (elim f.1 [ inl j ↦ i j | inr s ↦ te.paired v (sym (ap (λ (o : ℕ). get_or seen o false) e) ∙ s) e ])
    | inr f ↦ f.2
  ]
]

-- x itself rises
pub shifted_root : {g : Graph} {n : ℕ} {qs new ms : List ℕ} {seen : List Bool} {x d : ℕ} → IsTree g n qs ms seen x → AreMoved n qs new ms seen x d → x < n → get_or new x 0 ≡ get_or qs x 0 + d
shifted_root te sh h = elim (sh.moved _ h) [
  | inl f ↦ absurd (across_differ (te.across.across _ f.0) refl)
  | inr q ↦ elim q [ inl f ↦ f.2 | inr f ↦ absurd (f.1 (inl refl)) ]
]
