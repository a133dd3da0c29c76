-- A vertex gets its place: the tree of its search, before and after a shift of prices.
use Rattle.std.proofs.Common.{◌≡◌, ◌≢◌, ◌≤◌, ◌<◌, inl, inr, ℕ, ◌+◌, length, get_or, true, false, Bool, List, [], ◌∷◌, arith, refl, sym, ◌∙◌, ap, subst}
use Rattle.std.proofs.lemmas.Bool.{cases_eq, cases_lt, cases_Bool}
use Rattle.assignment_dual.specs.declared.graph.Graph.{Graph}
use Rattle.assignment_dual.specs.declared.search.Node.{Node}
use Rattle.assignment_dual.specs.Vertices.{IsGraph, IsDualFeasible, Tight, AreMatched, OthersPay, IsAugmented}
use Rattle.assignment_dual.specs.Search.{IsSwept, vertex_at, from_at, mate_at, IsSearchTree, ArePaired, IsExhausted, IsMatchedAfter}
use Rattle.assignment_dual.specs.Rising.{HasSlack, AllHaveSlack, MayShift, AreShifted}
use Rattle.assignment_dual.proofs.Trees.{root_apart}
use Rattle.assignment_dual.proofs.Paths.{mate_unseen}
use Rattle.assignment_dual.proofs.Shifts.{Rises, IsTree, EachHasRoom, Moved, AreMoved, rises_not_seen, false_true, shifted_priced, shifted_mates, shifted_alone}

-- the tree of a search that failed
pub tree_of : {g : Graph} {n : ℕ} {qs ms : List ℕ} {seen : List Bool} {tree : List Node} {x : ℕ} → IsSearchTree g n qs ms seen tree x → IsExhausted g qs ms seen tree → AreMatched g n qs ms → get_or ms x 0 ≡ x → IsTree g n qs ms seen x
tree_of {g} {n} {qs} {ms} {seen} {tree} {x} t ex am mx = record {
  across = t.across;
  paired = λ y s e.
      let k : (i : ℕ) × (0 < i) × (i < length tree) × (vertex_at tree i ≡ y) = t.known y s in
      ex.paired.paired k.0 k.1 k.2 (ap (λ (v : ℕ). get_or ms v 0) k.3 ∙ e ∙ sym k.3);
  swept = λ v h r. elim r [
    | inl e ↦ subst (IsSwept g qs seen) (ap (λ (o : ℕ). get_or ms o 0) t.root ∙ mx ∙ sym e) (ex.swept 0 t.some)
    | inr s ↦
        let k : (i : ℕ) × (0 < i) × (i < length tree) × (vertex_at tree i ≡ get_or ms v 0) = t.known (get_or ms v 0) s in
        subst (IsSwept g qs seen) (ap (λ (o : ℕ). get_or ms o 0) k.3 ∙ am.back v h) (ex.swept k.0 k.2)
  ];
}

-- the tree's arcs stay tight
pub tree_shifted : {g : Graph} {n : ℕ} {qs new ms : List ℕ} {seen : List Bool} {tree : List Node} {x d : ℕ} → IsGraph g n → AreMatched g n qs ms → IsSearchTree g n qs ms seen tree x → IsTree g n qs ms seen x → AreMoved n qs new ms seen x d → get_or ms x 0 ≡ x
    → IsSearchTree g n new ms seen tree x
tree_shifted {g} {n} {qs} {new} {ms} {seen} {tree} {x} {d} gr am t te sh mx = record {
  some = t.some;
  root = t.root;
  within = t.within;
  earlier = t.earlier;
  marked = t.marked;
  distinct = t.distinct;
  known = t.known;
  across = t.across;
  tight = λ i p h.
      let b : from_at tree i < length tree = omega (arith, t.earlier i p h, h) in
      let vb : vertex_at tree (from_at tree i) < n = t.within (from_at tree i) b in
      let ta : Tight g qs (mate_at ms tree (from_at tree i)) (vertex_at tree i) = t.tight i p h in
      let mn : mate_at ms tree (from_at tree i) < n = am.within _ vb in
      let fell : get_or new (vertex_at tree i) 0 + d ≡ get_or qs (vertex_at tree i) 0 = elim (sh.moved (vertex_at tree i) (t.within i h)) [
        | inl f ↦ f.1
        | inr o ↦ elim o [ inl f ↦ absurd (false_true (t.marked i p h) f.0) | inr f ↦ absurd (false_true (t.marked i p h) f.0) ]
      ] in
      let r : Rises ms seen x (mate_at ms tree (from_at tree i)) = elim (cases_lt 0 (from_at tree i)) [
        | inl q ↦ inr (ap (λ (v : ℕ). get_or seen v false) (am.back _ vb) ∙ t.marked (from_at tree i) q b)
        | inr q ↦ inl (ap (mate_at ms tree) (omega (arith, q)) ∙ ap (λ (v : ℕ). get_or ms v 0) t.root ∙ mx)
      ] in
      let rose : get_or new (mate_at ms tree (from_at tree i)) 0 ≡ get_or qs (mate_at ms tree (from_at tree i)) 0 + d = elim (sh.moved (mate_at ms tree (from_at tree i)) mn) [
        | inl f ↦ absurd (rises_not_seen gr am te mn r f.0)
        | inr o ↦ elim o [ inl f ↦ f.2 | inr f ↦ absurd (f.1 r) ]
      ] in
      (ta.0, record { arc = ta.1.arc; to = ta.1.to; exact = omega (arith, ta.1.exact, fell, rose) });
}

-- x's place is sought
pub record Augments (g : Graph) (qs ms now_q : List ℕ) (seen : List Bool) (tree : List Node) (x : ℕ) : Type 0 where
  pub count : length now_q ≡ length qs
  pub seen_count : length seen ≡ length qs
  pub priced : IsDualFeasible g (length qs) now_q
  pub mates : AreMatched g (length qs) now_q ms
  pub pay : OthersPay (length qs) now_q ms x
  pub kept : (v : ℕ) → v < length qs → v ≢ x → get_or ms v 0 ≡ v → get_or now_q v 0 ≡ get_or qs v 0
  pub search : IsSearchTree g (length qs) now_q ms seen tree x
  pub paired : ArePaired ms tree (length tree)

pub settled : {g : Graph} {qs ms now_q new : List ℕ} {seen : List Bool} {tree : List Node} {x : ℕ} → Augments g qs ms now_q seen tree x → IsMatchedAfter (length qs) now_q ms new x → IsAugmented (length qs) qs ms now_q new x
settled {g} {qs} {ms} {now_q} {new} {seen} {tree} {x} s p = record {
  alone = λ v h e. elim (p.alone v h e) [ inl a ↦ inl a | inr b ↦ inr (b.0, b.1, s.kept v h b.0 b.1) ];
  out = λ v h i e f. (p.out v h i e (λ q. f (sym (s.kept v h i e) ∙ q)), s.kept v h i e);
}

pub settling_next : {g : Graph} {qs ms now_q new : List ℕ} {first seen : List Bool} {before tree : List Node} {x d : ℕ} → IsGraph g (length qs) → get_or ms x 0 ≡ x → Augments g qs ms now_q first before x → length seen ≡ length first
    → IsSearchTree g (length qs) now_q ms seen tree x → IsExhausted g now_q ms seen tree
    → EachHasRoom g (length qs) now_q ms seen x d → AreMoved (length qs) now_q new ms seen x d → Augments g qs ms new seen tree x
settling_next {g} {qs} {ms} {now_q} {new} {first} {seen} {before} {tree} {x} {d} gr mx s l t ex ro sh =
    let te : IsTree g (length qs) now_q ms seen x = tree_of t ex s.mates mx in
    record {
      count = sh.count ∙ s.count;
      seen_count = l ∙ s.seen_count;
      priced = shifted_priced gr s.priced s.mates te ro sh;
      mates = shifted_mates gr s.mates te sh mx;
      pay = record {
        pay = λ v h i q. elim (s.pay.pay v h i q) [
          | inl a ↦ inl (shifted_alone te sh v h i q ∙ a)
          | inr a ↦ inr (shifted_alone te sh v h i q ∙ a)
        ];
      };
      kept = λ v h i q. shifted_alone te sh v h i q ∙ s.kept v h i q;
      search = tree_shifted gr s.mates t te sh mx;
      paired = ex.paired;
    }

-- the root alone
pub root_tree : {g : Graph} {n : ℕ} {qs ms : List ℕ} {seen : List Bool} {x : ℕ} → x < n → ((y : ℕ) → get_or seen y false ≡ false) → IsSearchTree g n qs ms seen ((record { vertex = x; from = 0 }) ∷ []) x
root_tree {g} {n} {qs} {ms} {seen} {x} h z = record {
  some = omega arith;
  root = refl;
  within = λ i j. let e : 0 ≡ i = omega (arith, j) in subst (λ (o : ℕ). vertex_at ((record { vertex = x; from = 0 }) ∷ []) o < n) e h;
  earlier = λ i p j. absurd (omega (arith, p, j));
  tight = λ i p j. absurd (omega (arith, p, j));
  marked = λ i p j. absurd (omega (arith, p, j));
  distinct = λ i j p q r. absurd (omega (arith, p, q, r));
  known = λ y s. absurd (false_true s (z y));
  across = record { across = λ y s. absurd (false_true s (z y)) };
}

-- A tree's nodes, and who is seen or rises.
-- who rises is a node's mate
node_of : {g : Graph} {n : ℕ} {qs ms : List ℕ} {seen : List Bool} {tree : List Node} {x : ℕ} → IsSearchTree g n qs ms seen tree x → AreMatched g n qs ms → get_or ms x 0 ≡ x
    → (v : ℕ) → v < n → Rises ms seen x v → (i : ℕ) × (i < length tree) × (mate_at ms tree i ≡ v)
node_of {g} {n} {qs} {ms} {seen} {tree} {x} t am mx v h r = elim r [
  | inl e ↦ (0, t.some, ap (λ (o : ℕ). get_or ms o 0) t.root ∙ mx ∙ sym e)
  | inr s ↦
      let k : (i : ℕ) × (0 < i) × (i < length tree) × (vertex_at tree i ≡ get_or ms v 0) = t.known (get_or ms v 0) s in
      (k.0, k.2, ap (λ (o : ℕ). get_or ms o 0) k.3 ∙ am.back v h)
]

mate_rises : {g : Graph} {n : ℕ} {qs ms : List ℕ} {seen : List Bool} {tree : List Node} {x : ℕ} → IsSearchTree g n qs ms seen tree x → AreMatched g n qs ms → get_or ms x 0 ≡ x
    → (i : ℕ) → i < length tree → Rises ms seen x (mate_at ms tree i)
mate_rises {g} {n} {qs} {ms} {seen} {tree} {x} t am mx i h = elim (cases_lt 0 i) [
  | inl q ↦ inr (ap (λ (v : ℕ). get_or seen v false) (am.back _ (t.within i h)) ∙ t.marked i q h)
  | inr q ↦ inl (ap (mate_at ms tree) (omega (arith, q)) ∙ ap (λ (v : ℕ). get_or ms v 0) t.root ∙ mx)
]

each_has_room : {g : Graph} {n : ℕ} {qs ms : List ℕ} {seen : List Bool} {tree : List Node} {x d : ℕ} → IsSearchTree g n qs ms seen tree x → AreMatched g n qs ms → get_or ms x 0 ≡ x
    → AllHaveSlack g qs ms seen tree d → EachHasRoom g n qs ms seen x d
each_has_room {g} {n} {qs} {ms} {seen} {tree} {x} {d} t am mx a = record {
  room = λ v h r.
      let k : (i : ℕ) × (i < length tree) × (mate_at ms tree i ≡ v) = node_of t am mx v h r in
      subst (λ (o : ℕ). HasSlack g qs seen o d) k.2 (a.room k.0 k.1);
}

are_moved : {g : Graph} {n : ℕ} {qs new ms : List ℕ} {seen : List Bool} {tree : List Node} {x d : ℕ} → IsSearchTree g n qs ms seen tree x → AreMatched g n qs ms → get_or ms x 0 ≡ x
    → AreShifted qs new ms tree d → AreMoved n qs new ms seen x d
are_moved {g} {n} {qs} {new} {ms} {seen} {tree} {x} {d} t am mx s =
    let rise : (v : ℕ) → v < n → get_or seen v false ≡ false → Rises ms seen x v → Moved qs new ms seen x d v = λ v h u r.
    let k : (i : ℕ) × (i < length tree) × (mate_at ms tree i ≡ v) = node_of t am mx v h r in
    inr (inl (u, r, subst (λ (o : ℕ). get_or new o 0 ≡ get_or qs o 0 + d) k.2 (s.risen k.0 k.1))) in
    record {
      count = s.count;
      moved = λ v h. elim (cases_Bool (get_or seen v false)) [
        | inl m ↦
            let k : (i : ℕ) × (0 < i) × (i < length tree) × (vertex_at tree i ≡ v) = t.known v m in
            inl (m, subst (λ (o : ℕ). get_or new o 0 + d ≡ get_or qs o 0) k.3 (s.fallen k.0 k.1 k.2))
        | inr u ↦ elim (cases_eq v x) [
          | inl e ↦ rise v h u (inl e)
          | inr e ↦ elim (cases_Bool (get_or seen (get_or ms v 0) false)) [
            | inl m ↦ rise v h u (inr m)
            | inr m ↦
                let stays : Rises ms seen x v → ⊥ = λ r. elim r [ inl q ↦ e q | inr q ↦ false_true q m ] in
                inr (inr (
                  u,
                  stays,
                  s.others v
                      (λ i l q. stays (subst (Rises ms seen x) q (mate_rises t am mx i l)))
                      (λ i p l q. false_true (ap (λ (o : ℕ). get_or seen o false) (sym q) ∙ t.marked i p l) u),
                ))
          ]
        ]
      ];
    }

may_shift : {g : Graph} {n : ℕ} {qs ms : List ℕ} {seen : List Bool} {tree : List Node} {x d : ℕ} → IsGraph g n → IsDualFeasible g n qs → IsSearchTree g n qs ms seen tree x → AreMatched g n qs ms → get_or ms x 0 ≡ x
    → ArePaired ms tree (length tree) → AllHaveSlack g qs ms seen tree d → MayShift qs ms tree d
may_shift {g} {n} {qs} {ms} {seen} {tree} {x} {d} gr pr t am mx p a =
    let vl : (i : ℕ) → i < length tree → vertex_at tree i < length qs = λ i h. omega (arith, t.within i h, pr.count) in
    record {
      some = t.some;
      count = am.count ∙ sym pr.count;
      vertices = vl;
      mates = λ i h. omega (arith, am.within (vertex_at tree i) (t.within i h), pr.count);
      vertices_differ = t.distinct;
      mates_differ = λ i j h k e.
          let il : i < length tree = omega (arith, h, k) in
          let q : vertex_at tree i ≡ vertex_at tree j = sym (am.back (vertex_at tree i) (t.within i il)) ∙ ap (λ (o : ℕ). get_or ms o 0) e ∙ am.back (vertex_at tree j) (t.within j k) in
          elim (cases_lt 0 i) [
            | inl z ↦ t.distinct i j z h k q
            | inr z ↦ root_apart t j (omega (arith, h)) k (sym q ∙ ap (vertex_at tree) (omega (arith, z)) ∙ t.root)
          ];
      apart = λ i j h q k. mate_unseen gr am t mx i j h (λ z. p.paired i z h) q k;
      rise = λ i h. (a.room i h).alone;
      fall = λ i q h.
          let ta : Tight g qs (vertex_at tree i) (mate_at ms tree i) = am.tight (vertex_at tree i) (t.within i h) (p.paired i q h) in
          omega (arith, (a.room i h).alone, ta.1.exact);
    }

-- a round whose search fails: the tree, the mates and the rooms, told of the mates from before
record Failed (g : Graph) (qs ms now_q : List ℕ) (seen : List Bool) (tree : List Node) (x d : ℕ) : Type 0 where
  pub search : IsSearchTree g (length qs) now_q ms seen tree x
  pub exhausted : IsExhausted g now_q ms seen tree
  pub rooms : AllHaveSlack g now_q ms seen tree d

failed : {g : Graph} {qs ms now_q now_m then_m : List ℕ} {first seen : List Bool} {before tree : List Node} {x d : ℕ} → now_m ≡ ms → Augments g qs ms now_q first before x → then_m ≡ now_m
    → IsSearchTree g (length now_q) now_q now_m seen tree (vertex_at before 0) → IsExhausted g now_q now_m seen tree → AllHaveSlack g now_q then_m seen tree d → Failed g qs ms now_q seen tree x d
failed {g} {qs} {ms} {now_q} {now_m} {then_m} {first} {seen} {before} {tree} {x} {d} e s f t ex ro = record {
  search = subst (IsSearchTree g (length qs) now_q ms seen tree) s.search.root
      (subst (λ (o : List ℕ). IsSearchTree g (length qs) now_q o seen tree (vertex_at before 0)) e (subst (λ (n : ℕ). IsSearchTree g n now_q now_m seen tree (vertex_at before 0)) s.count t));
  exhausted = subst (λ (o : List ℕ). IsExhausted g now_q o seen tree) e ex;
  rooms = subst (λ (o : List ℕ). AllHaveSlack g now_q o seen tree d) (f ∙ e) ro;
}

pub settling_step : {g : Graph} {qs ms now_q now_m then_m new : List ℕ} {first seen : List Bool} {before tree : List Node} {x d : ℕ} → IsGraph g (length qs) → get_or ms x 0 ≡ x → now_m ≡ ms → Augments g qs ms now_q first before x
    → then_m ≡ now_m → length seen ≡ length first → IsSearchTree g (length now_q) now_q now_m seen tree (vertex_at before 0) → IsExhausted g now_q now_m seen tree
    → AllHaveSlack g now_q then_m seen tree d → AreShifted now_q new then_m tree d → (then_m ≡ ms) × Augments g qs ms new seen tree x
settling_step {g} {qs} {ms} {now_q} {now_m} {then_m} {new} {first} {seen} {before} {tree} {x} {d} gr mx e s f l t ex ro sh =
    let a : Failed g qs ms now_q seen tree x d = failed e s f t ex ro in (
      f ∙ e,
      settling_next gr mx s l a.search a.exhausted (each_has_room a.search s.mates mx a.rooms)
          (are_moved a.search s.mates mx (subst (λ (o : List ℕ). AreShifted now_q new o tree d) (f ∙ e) sh)),
    )

pub settling_shift : {g : Graph} {qs ms now_q now_m then_m : List ℕ} {first seen : List Bool} {before tree : List Node} {x d : ℕ} → IsGraph g (length qs) → get_or ms x 0 ≡ x → now_m ≡ ms → Augments g qs ms now_q first before x
    → then_m ≡ now_m → IsSearchTree g (length now_q) now_q now_m seen tree (vertex_at before 0) → IsExhausted g now_q now_m seen tree → AllHaveSlack g now_q then_m seen tree d → MayShift now_q then_m tree d
settling_shift {g} {qs} {ms} {now_q} {now_m} {then_m} {first} {seen} {before} {tree} {x} {d} gr mx e s f t ex ro =
    let a : Failed g qs ms now_q seen tree x d = failed e s f t ex ro in
    subst (λ (o : List ℕ). MayShift now_q o tree d) (sym (f ∙ e)) (may_shift gr s.priced a.search s.mates mx a.exhausted.paired a.rooms)

-- the vertices of the nodes before k are forgotten
abbrev pub ForgottenBelow : List Bool → List Node → ℕ → Type 0
ForgottenBelow seen tree k = (y : ℕ) → get_or seen y false ≡ true → (i : ℕ) × (k ≤ i) × (i < length tree) × (vertex_at tree i ≡ y)
