-- A search tree that grows.
use Rattle.std.proofs.Common.{◌≡◌, ◌≢◌, ◌≤◌, ◌<◌, inl, inr, ℕ, zero, suc, ◌+◌, length, get_or, set, true, false, Bool, List, [], ◌∷◌, ◌++◌, arith, refl, sym, ◌∙◌, ap, subst, get_or-set_same}
use Rattle.std.proofs.lemmas.List.{get_or_append_left, length_push}
use Rattle.std.proofs.Math.Seq.{get_or-append_seam}
use Rattle.std.proofs.lemmas.Bool.{cases_lt}
use Rattle.assignment_dual.specs.declared.graph.Graph.{Graph}
use Rattle.assignment_dual.specs.declared.search.Node.{Node}
use Rattle.trk_base.specs.Limits.{miss_cost}
use Rattle.assignment_dual.specs.Vertices.{Across, HasArc, to_of, cost_at, IsGraph, IsDualFeasible, TightArc, Tight, AreMatched, OthersPay}
use Rattle.assignment_dual.specs.Search.{unseen, IsSwept, no_node, vertex_at, from_at, mate_at, IsSearchTree, ArePaired, IsEnd, IsExtended}
use Rattle.assignment_dual.proofs.Turns.{across_differ, across_back, across_thrice, across_at, mates_across, seen_set, seen_kept, unseen_set, across_set, swept_more, arcs_next}

push_old : (tree : List Node) (a : Node) (i : ℕ) → i < length tree → get_or (tree ++ a ∷ []) i no_node ≡ get_or tree i no_node
push_old tree a i h = get_or_append_left tree (a ∷ []) no_node i h

push_new : (tree : List Node) (a : Node) → get_or (tree ++ a ∷ []) (length tree) no_node ≡ a
push_new tree a = get_or-append_seam tree a [] no_node

push_length : (tree : List Node) (a : Node) → length (tree ++ a ∷ []) ≡ length tree + 1
push_length tree a = length_push tree a

-- an old node or the new one
push_cases : (tree : List Node) (a : Node) (P : ℕ → Node → Type 0) → ((i : ℕ) → i < length tree → P i (get_or tree i no_node)) → P (length tree) a → (i : ℕ) → i < length (tree ++ a ∷ []) → P i (get_or (tree ++ a ∷ []) i no_node)
push_cases tree a P old new i h = elim (cases_lt i (length tree)) [
  | inl l ↦ subst (P i) (sym (push_old tree a i l)) (old i l)
  | inr l ↦
      let e : i ≡ length tree = omega (arith, h, l, push_length tree a) in
      subst (λ (j : ℕ). P j (get_or (tree ++ a ∷ []) j no_node)) (sym e) (subst (P (length tree)) (sym (push_new tree a)) new)
]

-- the root is no vertex that is seen
pub root_apart : {g : Graph} {n : ℕ} {qs ms : List ℕ} {seen : List Bool} {tree : List Node} {x : ℕ} → IsSearchTree g n qs ms seen tree x → (i : ℕ) → 0 < i → i < length tree → vertex_at tree i ≢ x
root_apart t i p h e = across_differ (t.across.across _ (t.marked i p h)) (sym e)

-- the mate of a node stands on the root's side
pub mate_side : {g : Graph} {n : ℕ} {qs ms : List ℕ} {seen : List Bool} {tree : List Node} {x : ℕ} → IsGraph g n → AreMatched g n qs ms → IsSearchTree g n qs ms seen tree x → get_or ms x 0 ≡ x
    → (i : ℕ) → i < length tree → (0 < i → mate_at ms tree i ≢ vertex_at tree i) → (y : ℕ) → Across g.plots (mate_at ms tree i) y → Across g.plots x y
mate_side {g} {n} {qs} {ms} {seen} {tree} {x} gr am t e zero h p y a = subst (λ (v : ℕ). Across g.plots v y) (ap (λ (v : ℕ). get_or ms v 0) t.root ∙ e) a
mate_side {g} {n} {qs} {ms} {seen} {tree} {x} gr am t e (suc i) h p y a =
    let s : Across g.plots x (vertex_at tree (suc i)) = t.across.across (vertex_at tree (suc i)) (t.marked (suc i) (omega arith) h) in
    let m : Across g.plots (vertex_at tree (suc i)) (mate_at ms tree (suc i)) = mates_across gr am (t.within (suc i) h) refl (p (omega arith)) in
    across_thrice (across_back m) (across_back s) a

pub tree_pushed : {g : Graph} {n : ℕ} {qs ms : List ℕ} {seen : List Bool} {tree : List Node} {x y at : ℕ} → IsSearchTree g n qs ms seen tree x → length seen ≡ n → at < length tree → y < n → get_or seen y false ≡ false
    → Tight g qs (mate_at ms tree at) y → Across g.plots x y → IsSearchTree g n qs ms (set seen y true) (tree ++ (record { vertex = y; from = at }) ∷ []) x
tree_pushed {g} {n} {qs} {ms} {seen} {tree} {x} {y} {at} t l h k u ta ac =
    let a : Node = record { vertex = y; from = at } in
    let len : length (tree ++ a ∷ []) ≡ length tree + 1 = push_length tree a in
    let yl : y < length seen = omega (arith, k, l) in
    let old : (i : ℕ) → i < length tree → vertex_at (tree ++ a ∷ []) i ≡ vertex_at tree i = λ i j. ap (λ (o : Node). o.vertex) (push_old tree a i j) in
    let new : vertex_at (tree ++ a ∷ []) (length tree) ≡ y = ap (λ (o : Node). o.vertex) (push_new tree a) in
    let fresh : (i : ℕ) → 0 < i → i < length tree → vertex_at tree i ≢ y = λ i p j e. let q : get_or seen y false ≡ true = ap (λ (v : ℕ). get_or seen v false) (sym e) ∙ t.marked i p j in cc in
    record {
      some = omega (arith, t.some, len);
      root = old 0 t.some ∙ t.root;
      within = push_cases tree a (λ i o. o.vertex < n) t.within k;
      earlier = λ i p j. push_cases tree a (λ i o. 0 < i → o.from < i) (λ i q p. t.earlier i p q) (λ p. h) i j p;
      tight = λ i p j. push_cases tree a (λ i o. 0 < i → Tight g qs (mate_at ms (tree ++ a ∷ []) o.from) o.vertex)
          (λ i q p. subst (λ (v : ℕ). Tight g qs (get_or ms v 0) (vertex_at tree i)) (sym (old (from_at tree i) (omega (arith, t.earlier i p q, q)))) (t.tight i p q))
          (λ p. subst (λ (v : ℕ). Tight g qs (get_or ms v 0) y) (sym (old at h)) ta) i j p;
      marked = λ i p j. push_cases tree a (λ i o. 0 < i → get_or (set seen y true) o.vertex false ≡ true) (λ i q p. seen_kept seen y _ yl (t.marked i p q)) (λ p. get_or-set_same seen y true false yl) i j p;
      distinct = λ i j p q r.
          let il : i < length tree = omega (arith, q, r, len) in
          elim (cases_lt j (length tree)) [
            | inl jl ↦ (λ e. t.distinct i j p q jl (sym (old i il) ∙ e ∙ old j jl))
            | inr jl ↦
                let je : j ≡ length tree = omega (arith, r, jl, len) in
                (λ e. fresh i p il (sym (old i il) ∙ e ∙ ap (vertex_at (tree ++ a ∷ [])) je ∙ new))
          ];
      known = λ v s. elim (seen_set seen y v s) [
        | inl e ↦ (length tree, t.some, omega (arith, len), new ∙ sym e)
        | inr s ↦
            let o : (i : ℕ) × (0 < i) × (i < length tree) × (vertex_at tree i ≡ v) = t.known v s in
            (o.0, o.1, omega (arith, o.2, len), old o.0 o.2 ∙ o.3)
      ];
      across = across_set t.across ac;
    }

pub goes_on_same : (tree : List Node) → IsExtended tree tree
goes_on_same tree = record { longer = omega arith; same = λ i h. refl }

pub goes_on_pushed : (tree mid : List Node) (a : Node) → IsExtended tree mid → IsExtended tree (mid ++ a ∷ [])
goes_on_pushed tree mid a g = record { longer = omega (arith, g.longer, push_length mid a); same = λ i h. push_old mid a i (omega (arith, h, g.longer)) ∙ g.same i h }

pub goes_on_then : {tree mid new : List Node} → IsExtended tree mid → IsExtended mid new → IsExtended tree new
goes_on_then {tree} {mid} {new} a b = record { longer = omega (arith, a.longer, b.longer); same = λ i h. b.same i (omega (arith, h, a.longer)) ∙ a.same i h }

pub paired_pushed : {ms : List ℕ} {tree : List Node} {y : ℕ} (at : ℕ) → ArePaired ms tree (length tree) → get_or ms y 0 ≢ y
    → ArePaired ms (tree ++ (record { vertex = y; from = at }) ∷ []) (length (tree ++ (record { vertex = y; from = at }) ∷ []))
paired_pushed {ms} {tree} {y} at p m = record {
  paired = λ i q j. push_cases tree (record { vertex = y; from = at }) (λ i o. 0 < i → get_or ms o.vertex 0 ≢ o.vertex) (λ i l k. p.paired i k l) (λ k. m) i j q;
}

-- the new node is alone, and pays for it
pub end_pushed : {qs ms : List ℕ} {tree : List Node} {y : ℕ} (at : ℕ) → ArePaired ms tree (length tree) → get_or ms y 0 ≡ y → get_or qs y 0 ≡ miss_cost
    → IsEnd qs ms (tree ++ (record { vertex = y; from = at }) ∷ []) (length tree)
end_pushed {qs} {ms} {tree} {y} at p m f =
    let a : Node = record { vertex = y; from = at } in
    let new : vertex_at (tree ++ a ∷ []) (length tree) ≡ y = ap (λ (o : Node). o.vertex) (push_new tree a) in
    record {
      inside = omega (arith, push_length tree a);
      before = record { paired = λ i q j. let e : vertex_at (tree ++ a ∷ []) i ≡ vertex_at tree i = ap (λ (o : Node). o.vertex) (push_old tree a i j) in (λ z. p.paired i q j (ap (λ (v : ℕ). get_or ms v 0) (sym e) ∙ z ∙ e)) };
      pays = ap (λ (v : ℕ). get_or qs (get_or ms v 0) 0) new ∙ ap (λ (v : ℕ). get_or qs v 0) m ∙ f;
    }

-- the arcs of x, the mate of a node, before k are swept
pub record Sweeping (g : Graph) (qs ms : List ℕ) (first_seen seen : List Bool) (first tree : List Node) (x k : ℕ) : Type 0 where
  pub search : IsSearchTree g (length qs) qs ms seen tree (vertex_at first 0)
  pub count : length seen ≡ length qs
  pub paired : ArePaired ms tree (length tree)
  pub kept : (y : ℕ) → get_or first_seen y false ≡ true → get_or seen y false ≡ true
  pub front : IsExtended first tree
  pub grown : length tree + unseen seen ≡ length first + unseen first_seen
  pub from : get_or g.first.items x 0 ≤ k
  pub arcs : (j : ℕ) → HasArc g x j → j < k → get_or qs x 0 + get_or qs (to_of g j) 0 ≡ cost_at g j + miss_cost → get_or seen (to_of g j) false ≡ true

-- the arc opens y
pub record Opened (g : Graph) (qs ms : List ℕ) (first_seen seen : List Bool) (first tree : List Node) (y at : ℕ) : Type 0 where
  pub search : IsSearchTree g (length qs) qs ms (set seen y true) (tree ++ (record { vertex = y; from = at }) ∷ []) (vertex_at first 0)
  pub kept : (v : ℕ) → get_or first_seen v false ≡ true → get_or (set seen y true) v false ≡ true
  pub front : IsExtended first (tree ++ (record { vertex = y; from = at }) ∷ [])
  pub grown : length (tree ++ (record { vertex = y; from = at }) ∷ []) + unseen (set seen y true) ≡ length first + unseen first_seen
  pub side : Across g.plots (vertex_at first 0) y

pub opened : {g : Graph} {qs ms : List ℕ} {first_seen seen : List Bool} {first tree : List Node} {x k y at : ℕ} → IsGraph g (length qs) → AreMatched g (length qs) qs ms → get_or ms (vertex_at first 0) 0 ≡ vertex_at first 0
    → Sweeping g qs ms first_seen seen first tree x k → at < length first → x ≡ mate_at ms first at → x < length qs → TightArc g qs x y k → y < length qs → get_or seen y false ≡ false → Opened g qs ms first_seen seen first tree y at
opened {g} {qs} {ms} {first_seen} {seen} {first} {tree} {x} {k} {y} {at} gr am al s h xe xl ta yl u =
    let a : Node = record { vertex = y; from = at } in
    let hl : at < length tree = omega (arith, h, s.front.longer) in
    let me : mate_at ms tree at ≡ x = ap (λ (o : Node). get_or ms o.vertex 0) (s.front.same at h) ∙ sym xe in
    let ac : Across g.plots x y = across_at gr xl ta in
    let side : Across g.plots (vertex_at first 0) y = mate_side gr am s.search al at hl (λ p. s.paired.paired at p hl) y (subst (λ (v : ℕ). Across g.plots v y) (sym me) ac) in
    let un : unseen (set seen y true) + 1 ≡ unseen seen = unseen_set seen y (omega (arith, yl, s.count)) u in
    record {
      search = tree_pushed s.search s.count hl yl u (k, subst (λ (v : ℕ). TightArc g qs v y k) (sym me) ta) side;
      kept = λ v q. seen_kept seen y v (omega (arith, yl, s.count)) (s.kept v q);
      front = goes_on_pushed first tree a s.front;
      grown = omega (arith, un, push_length tree a, s.grown);
      side = side;
    }

-- y is alone and pays for it
pub open_pays : {g : Graph} {qs ms : List ℕ} {x y z k : ℕ} → IsDualFeasible g (length qs) qs → OthersPay (length qs) qs ms z → z ≢ y → y < length qs → get_or ms y 0 ≡ y → get_or qs x 0 ≢ miss_cost → TightArc g qs x y k → get_or qs y 0 ≡ miss_cost
open_pays {g} {qs} {ms} {x} {y} {z} {k} pr o d h e b ta = elim (o.pay y h (λ q. d (sym q)) e) [ inl f ↦ f | inr f ↦ absurd (b (omega (arith, ta.exact, pr.alone x, f))) ]

pub sweeping_opened : {g : Graph} {qs ms : List ℕ} {first_seen seen : List Bool} {first tree : List Node} {x k y at : ℕ} → Sweeping g qs ms first_seen seen first tree x k → Opened g qs ms first_seen seen first tree y at → y < length qs
    → TightArc g qs x y k → get_or ms y 0 ≢ y → length (set seen y true) ≡ length seen → Sweeping g qs ms first_seen (set seen y true) first (tree ++ (record { vertex = y; from = at }) ∷ []) x (k + 1)
sweeping_opened {g} {qs} {ms} {first_seen} {seen} {first} {tree} {x} {k} {y} {at} s o yl ta m l =
    let ys : y < length seen = omega (arith, yl, s.count) in
    record {
      search = o.search;
      count = l ∙ s.count;
      paired = paired_pushed at s.paired m;
      kept = o.kept;
      front = o.front;
      grown = o.grown;
      from = omega (arith, s.from);
      arcs = arcs_next g qs seen (set seen y true) x k (λ v q. seen_kept seen y v ys q) s.arcs (λ q. ap (λ (v : ℕ). get_or (set seen y true) v false) ta.to ∙ get_or-set_same seen y true false ys);
    }

pub sweeping_closed : {g : Graph} {qs ms : List ℕ} {first_seen seen : List Bool} {first tree : List Node} {x k : ℕ} → Sweeping g qs ms first_seen seen first tree x k
    → (get_or qs x 0 + get_or qs (to_of g k) 0 ≡ cost_at g k + miss_cost → get_or seen (to_of g k) false ≡ true) → Sweeping g qs ms first_seen seen first tree x (k + 1)
sweeping_closed {g} {qs} {ms} {first_seen} {seen} {first} {tree} {x} {k} s h = record {
  search = s.search;
  count = s.count;
  paired = s.paired;
  kept = s.kept;
  front = s.front;
  grown = s.grown;
  from = omega (arith, s.from);
  arcs = arcs_next g qs seen seen x k (λ v q. q) s.arcs h;
}

-- the nodes before `next` are swept
pub record Growing (g : Graph) (qs ms : List ℕ) (first_seen seen : List Bool) (first tree : List Node) (next : ℕ) : Type 0 where
  pub search : IsSearchTree g (length qs) qs ms seen tree (vertex_at first 0)
  pub count : length seen ≡ length qs
  pub paired : ArePaired ms tree (length tree)
  pub front : IsExtended first tree
  pub within : next ≤ length tree
  pub swept : (i : ℕ) → i < next → IsSwept g qs seen (mate_at ms tree i)

pub growing_next : {g : Graph} {qs ms : List ℕ} {first_seen seen new : List Bool} {first tree then : List Node} {next : ℕ} → Growing g qs ms first_seen seen first tree next → next < length tree
    → IsSearchTree g (length qs) qs ms new then (vertex_at tree 0) → length new ≡ length seen → ((y : ℕ) → get_or seen y false ≡ true → get_or new y false ≡ true) → IsExtended tree then
    → ArePaired ms then (length then) × IsSwept g qs new (mate_at ms tree next) → Growing g qs ms first_seen new first then (next + 1)
growing_next {g} {qs} {ms} {first_seen} {seen} {new} {first} {tree} {then} {next} s h t l k f a =
    let at : (i : ℕ) → i < length tree → mate_at ms then i ≡ mate_at ms tree i = λ i j. ap (λ (o : Node). get_or ms o.vertex 0) (f.same i j) in
    record {
      search = subst (IsSearchTree g (length qs) qs ms new then) s.search.root t;
      count = l ∙ s.count;
      paired = a.0;
      front = goes_on_then s.front f;
      within = omega (arith, h, f.longer);
      swept = λ i j. elim (cases_lt i next) [
        | inl q ↦ subst (IsSwept g qs new) (sym (at i (omega (arith, q, h)))) (swept_more (s.swept i q) k)
        | inr q ↦
            let e : i ≡ next = omega (arith, q, j) in
            subst (IsSwept g qs new) (sym (at i (omega (arith, e, h)) ∙ ap (mate_at ms tree) e)) a.1
      ];
    }
