-- The candidates of a plot are collected and tried.
use Rattle.std.proofs.Common.{◌≡◌, ◌≢◌, ◌≤◌, ◌<◌, inl, inr, ℕ, zero, suc, ◌+◌, ◌-◌, length, get_or, get_or-set_other, set, sum, Some, None, List, [], ◌∷◌, ◌++◌, Bool, true, false, arith, refl, sym, ◌∙◌, ap, subst}
use Rattle.std.proofs.lemmas.List.{get_or_append_left, length_push}
use Rattle.std.proofs.Math.Seq.{get_or-append_seam}
use Rattle.std.proofs.lemmas.Bool.{cases_lt}
use Rattle.assignment_dual.specs.declared.graph.Graph.{Graph}
use Rattle.assignment_dual.specs.declared.graph.Arc.{Arc}
use Rattle.trk_base.specs.Limits.{miss_cost}
use Rattle.assignment_dual.specs.Pairings.{Row}
use Rattle.assignment_dual.specs.Vertices.{no_arc, to_of, cost_at, IsArc, IsGraph, IsOptimal}
use Rattle.assignment_dual.specs.Rests.{ShowsRest}
use Rattle.assignment_dual.specs.Choices.{IsCandidate, AreCandidates, Fails, IsFixedBy}
use Rattle.assignment_dual.proofs.Columns.{arc_read}
use Rattle.assignment_dual.proofs.Choices.{Fixing, fixing, chosen_track, chosen_none}

-- the arcs before k have been looked at
pub record Collecting (g : Graph) (qs : List ℕ) (gone : List Bool) (p : ℕ) (tight : List ℕ) (k : ℕ) : Type 0 where
  pub from : get_or g.first.items p 0 ≤ k
  pub sound : (i : ℕ) → i < length tight → IsCandidate g qs gone p (get_or tight i 0)
  pub complete : (j : ℕ) → j < k → IsCandidate g qs gone p j → (i : ℕ) × (i < length tight) × (get_or tight i 0 ≡ j)
  pub below : (i : ℕ) → i < length tight → get_or tight i 0 < k
  pub rising : (i j : ℕ) → i < j → j < length tight → get_or tight i 0 < get_or tight j 0

pub collecting_first : (g : Graph) (qs : List ℕ) (gone : List Bool) (p : ℕ) → Collecting g qs gone p [] (get_or g.first.items p 0)
collecting_first g qs gone p = record {
  from = omega arith;
  sound = λ i h. absurd (omega (arith, h));
  complete = λ j h c. absurd (omega (arith, h, c.arc.from));
  below = λ i h. absurd (omega (arith, h));
  rising = λ i j h k. absurd (omega (arith, h, k));
}

pub collecting_skip : {g : Graph} {qs : List ℕ} {gone : List Bool} {p : ℕ} {tight : List ℕ} {k : ℕ} → Collecting g qs gone p tight k → (IsCandidate g qs gone p k → ⊥) → Collecting g qs gone p tight (k + 1)
collecting_skip {g} {qs} {gone} {p} {tight} {k} s d = record {
  from = omega (arith, s.from);
  sound = s.sound;
  complete = λ j h c. elim (cases_lt j k) [
    | inl l ↦ s.complete j l c
    | inr l ↦ let e : j ≡ k = omega (arith, h, l) in absurd (d (subst (IsCandidate g qs gone p) e c))
  ];
  below = λ i h. omega (arith, s.below i h);
  rising = s.rising;
}

pub collecting_more : {g : Graph} {qs : List ℕ} {gone : List Bool} {p : ℕ} {tight : List ℕ} {k : ℕ} → Collecting g qs gone p tight k → IsCandidate g qs gone p k → Collecting g qs gone p (tight ++ k ∷ []) (k + 1)
collecting_more {g} {qs} {gone} {p} {tight} {k} s d =
    let len : length (tight ++ k ∷ []) ≡ length tight + 1 = length_push tight k in
    let old : (i : ℕ) → i < length tight → get_or (tight ++ k ∷ []) i 0 ≡ get_or tight i 0 = λ i h. get_or_append_left tight (k ∷ []) 0 i h in
    let new : get_or (tight ++ k ∷ []) (length tight) 0 ≡ k = get_or-append_seam tight k [] 0 in
    let at : (P : ℕ → Type 0) → ((i : ℕ) → i < length tight → P (get_or tight i 0)) → P k → (i : ℕ) → i < length (tight ++ k ∷ []) → P (get_or (tight ++ k ∷ []) i 0) = λ P a b i h. elim (cases_lt i (length tight)) [
      | inl l ↦ subst P (sym (old i l)) (a i l)
      | inr l ↦ let e : i ≡ length tight = omega (arith, h, l, len) in subst P (sym (ap (λ (o : ℕ). get_or (tight ++ k ∷ []) o 0) e ∙ new)) b
    ] in
    record {
      from = omega (arith, s.from);
      sound = at (IsCandidate g qs gone p) s.sound d;
      complete = λ j h c. elim (cases_lt j k) [
        | inl l ↦ let o : (i : ℕ) × (i < length tight) × (get_or tight i 0 ≡ j) = s.complete j l c in (o.0, omega (arith, o.1, len), old o.0 o.1 ∙ o.2)
        | inr l ↦ (length tight, omega (arith, len), omega (arith, new, h, l))
      ];
      below = at (λ o. o < k + 1) (λ i h. omega (arith, s.below i h)) (omega arith);
      rising = λ i j h l.
          let il : i < length tight = omega (arith, h, l, len) in
          elim (cases_lt j (length tight)) [
            | inl q ↦ omega (arith, old i il, old j q, s.rising i j h q)
            | inr q ↦ let e : j ≡ length tight = omega (arith, l, q, len) in omega (arith, old i il, s.below i il, ap (λ (o : ℕ). get_or (tight ++ k ∷ []) o 0) e, new)
          ];
    }

pub collected : {g : Graph} {qs : List ℕ} {gone : List Bool} {p : ℕ} {tight : List ℕ} {k : ℕ} → Collecting g qs gone p tight k → get_or g.first.items (p + 1) 0 ≤ k → AreCandidates g qs gone p tight
collected s h = record { sound = s.sound; complete = λ j c. s.complete j (omega (arith, h, c.arc.upto)) c; rising = s.rising }

-- the candidates before i have failed
pub record Trying (g : Graph) (n : ℕ) (first : List Bool) (qs ms : List ℕ) (gone : List Bool) (whole : ℕ) (tight : List ℕ) (p i : ℕ) : Type 0 where
  pub resting : IsOptimal g n qs ms gone
  pub fixed : gone ≡ set first p true
  pub failed : (j : ℕ) → j < i → Fails g n (set first p true) whole (get_or tight j 0)

pub set_back : (xs : List Bool) (i : ℕ) (b d : Bool) → get_or xs i false ≡ b → set (set xs i d) i b ≡ xs
set_back [] i b d e = refl
set_back (x ∷ xs) zero b d e = ap (λ (o : Bool). o ∷ xs) (sym e)
set_back (x ∷ xs) (suc i) b d e = ap (λ (o : List Bool). x ∷ o) (set_back xs i b d e)

pub trying_next : {g : Graph} {n : ℕ} {first : List Bool} {qs ms : List ℕ} {gone : List Bool} {whole : ℕ} {tight : List ℕ} {p i : ℕ} → Trying g n first qs ms gone whole tight p i → (k t c : ℕ) → k ≡ get_or tight i 0 → t ≡ to_of g k → c ≡ cost_at g k
    → get_or gone t false ≡ false → (mid_q mid_m new_q new_m : List ℕ) (mid new : List Bool) → mid ≡ set gone t true → IsOptimal g n mid_q mid_m mid → c + miss_cost + sum mid_q ≢ whole → new ≡ set mid t false → IsOptimal g n new_q new_m new
    → Trying g n first new_q new_m new whole tight p (i + 1)
trying_next {g} {n} {first} {qs} {ms} {gone} {whole} {tight} {p} {i} s k t c ke te ce h mid_q mid_m new_q new_m mid new me mr d ne nr =
    let tj : t ≡ to_of g (get_or tight i 0) = te ∙ ap (to_of g) ke in
    record {
      resting = nr;
      fixed = ne ∙ ap (λ (o : List Bool). set o t false) me ∙ set_back gone t false true h ∙ s.fixed;
      failed = λ j l. elim (cases_lt j i) [
        | inl q ↦ s.failed j q
        | inr q ↦
            let e : j ≡ i = omega (arith, l, q) in
            subst (λ (o : ℕ). Fails g n (set first p true) whole (get_or tight o 0)) (sym e) (record {
              prices = mid_q;
              mates = mid_m;
              resting = subst (λ (o : ℕ). IsOptimal g n mid_q mid_m (set (set first p true) o true)) tj (subst (λ (o : List Bool). IsOptimal g n mid_q mid_m (set o t true)) s.fixed (subst (IsOptimal g n mid_q mid_m) me mr));
              other = λ z. d (omega (arith, z, ce ∙ ap (cost_at g) ke));
            })
      ];
    }

-- what is read of a candidate's arc
pub record Tried (g : Graph) (n : ℕ) (gone : List Bool) (r : Arc) (k : ℕ) : Type 0 where
  pub to : r.to ≡ to_of g k
  pub cost : r.cost ≡ cost_at g k
  pub small : r.cost ≤ 4096
  pub low : g.plots ≤ r.to
  pub high : r.to < n
  pub here : get_or gone r.to false ≡ false

pub tried : {g : Graph} {n : ℕ} {qs : List ℕ} {gone : List Bool} {p : ℕ} {tight : List ℕ} → IsGraph g n → AreCandidates g qs gone p tight → p < g.plots → g.plots ≤ n → (i : ℕ) (r : Arc) → i < length tight
    → r ≡ get_or g.arcs.items (get_or tight i 0) r → Tried g n gone r (get_or tight i 0)
tried {g} {n} {qs} {gone} {p} {tight} gr ca pp le i r il e =
    let cd : IsCandidate g qs gone p (get_or tight i 0) = ca.sound i il in
    let a : IsArc g n p (get_or tight i 0) = gr.arcs p (get_or tight i 0) (omega (arith, pp, le)) cd.arc in
    let q : r ≡ get_or g.arcs.items (get_or tight i 0) no_arc = arc_read g (get_or tight i 0) r a.inside e in
    let t : r.to ≡ to_of g (get_or tight i 0) = ap (λ (o : Arc). o.to) q in
    let c : r.cost ≡ cost_at g (get_or tight i 0) = ap (λ (o : Arc). o.cost) q in
    record {
      to = t;
      cost = c;
      small = omega (arith, c, a.cost);
      low = elim a.across.sides [ inl s ↦ omega (arith, t, s.1) | inr s ↦ absurd (omega (arith, s.0, pp)) ];
      high = omega (arith, t, a.to);
      here = ap (λ (o : ℕ). get_or gone o false) t ∙ cd.here;
    }

-- a track is none of the plots
pub track_here : {g : Graph} {n : ℕ} {gone : List Bool} {r : Arc} {p k : ℕ} → Tried g n gone r k → p < g.plots → get_or (set gone p true) r.to false ≡ false
track_here {g} {n} {gone} {r} {p} {k} t h = get_or-set_other gone p r.to true false (λ e. omega (arith, e, t.low, h)) ∙ t.here

pub fixed_track : {g : Graph} {n p : ℕ} {qs ms now_q now_m new_q new_m : List ℕ} {gone now new : List Bool} {tight : List ℕ} → IsGraph g n → IsOptimal g n qs ms gone → length gone ≡ n → AreCandidates g qs gone p tight
    → (i t c whole : ℕ) → i < length tight → t ≡ to_of g (get_or tight i 0) → c ≡ cost_at g (get_or tight i 0) → g.plots ≤ t → whole ≡ sum qs → Trying g n gone now_q now_m now whole tight p i
    → new ≡ set now t true → IsOptimal g n new_q new_m new → c + miss_cost + sum new_q ≡ whole
    → (tracks : ℕ) (row : Row) (rows : List Row) → ShowsRest g n tracks gone p (row ∷ rows) → IsFixedBy g n gone new p (Some (t - g.plots)) tracks row rows
fixed_track {g} {n} {p} {qs} {ms} {now_q} {now_m} {new_q} {new_m} {gone} {now} {new} {tight} gr r l ca i t c whole il te ce lo we tr ne nr w tracks row rows sh =
    let f : (m : ℕ) × Fixing g n tracks p qs ms gone row rows m = fixing gr r l sh in
    let e : t ≡ g.plots + (t - g.plots) = omega (arith, lo) in
    let ne' : new ≡ set (set gone p true) (g.plots + (t - g.plots)) true = ne ∙ ap (λ (o : List Bool). set o t true) tr.fixed ∙ ap (λ (o : ℕ). set (set gone p true) o true) e in
    subst (λ (o : List Bool). IsFixedBy g n gone o p (Some (t - g.plots)) tracks row rows) (sym ne')
    (chosen_track f.1 ca il (λ j h. subst (λ (o : ℕ). Fails g n (set gone p true) o (get_or tight j 0)) we (tr.failed j h)) (sym te ∙ e) (subst (IsOptimal g n new_q new_m) ne' nr) (omega (arith, w, ce, we)))

pub fixed_none : {g : Graph} {n p : ℕ} {qs ms now_q now_m : List ℕ} {gone now : List Bool} {tight : List ℕ} → IsGraph g n → IsOptimal g n qs ms gone → length gone ≡ n → AreCandidates g qs gone p tight
    → (i whole : ℕ) → length tight ≤ i → whole ≡ sum qs → Trying g n gone now_q now_m now whole tight p i
    → (tracks : ℕ) (row : Row) (rows : List Row) → ShowsRest g n tracks gone p (row ∷ rows) → IsFixedBy g n gone now p None tracks row rows
fixed_none {g} {n} {p} {qs} {ms} {now_q} {now_m} {gone} {now} {tight} gr r l ca i whole il we tr tracks row rows sh =
    let f : (m : ℕ) × Fixing g n tracks p qs ms gone row rows m = fixing gr r l sh in
    subst (λ (o : List Bool). IsFixedBy g n gone o p None tracks row rows) (sym tr.fixed)
    (chosen_none f.1 ca (λ j h. subst (λ (o : ℕ). Fails g n (set gone p true) o (get_or tight j 0)) we (tr.failed j (omega (arith, h, il)))))

pub others_none : {g : Graph} {n p : ℕ} {qs ms : List ℕ} {first gone : List Bool} {whole : ℕ} {tight : List ℕ} {i : ℕ} → Trying g n first qs ms gone whole tight p i → (v : ℕ) → v ≢ p → get_or gone v false ≡ get_or first v false
others_none {g} {n} {p} {qs} {ms} {first} {gone} t v d = ap (λ (o : List Bool). get_or o v false) t.fixed ∙ get_or-set_other first p v true false d

pub others_track : {g : Graph} {n p : ℕ} {qs ms : List ℕ} {first gone new : List Bool} {whole : ℕ} {tight : List ℕ} {i : ℕ} → Trying g n first qs ms gone whole tight p i → (t : ℕ) → g.plots ≤ t → new ≡ set gone t true
    → (v : ℕ) → v < g.plots → v ≢ p → get_or new v false ≡ get_or first v false
others_track {g} {n} {p} {qs} {ms} {first} {gone} {new} tr t l e v h d =
    ap (λ (o : List Bool). get_or o v false) e ∙ get_or-set_other gone t v true false (λ q. omega (arith, q, l, h)) ∙ others_none tr v d

-- a candidate's arc is one of the graph's
candidate_arc : {g : Graph} {n : ℕ} {qs : List ℕ} {gone : List Bool} {p : ℕ} {tight : List ℕ} → IsGraph g n → AreCandidates g qs gone p tight → p < n → (i : ℕ) → i < length tight → IsArc g n p (get_or tight i 0)
candidate_arc gr ca h i il = gr.arcs _ _ h (ca.sound i il).arc

-- the plot keeps its mate t, to which its first candidate leads
pub fixed_pair : {g : Graph} {n p : ℕ} {qs ms new_q new_m : List ℕ} {gone new : List Bool} {tight : List ℕ} → IsGraph g n → IsOptimal g n qs ms gone → length gone ≡ n → AreCandidates g qs gone p tight
    → (t : ℕ) → 0 < length tight → to_of g (get_or tight 0 0) ≡ t → p < g.plots → g.plots ≤ n → new ≡ set (set gone p true) t true → IsOptimal g n new_q new_m new → sum new_q + (get_or qs p 0 + get_or qs t 0) ≡ sum qs
    → (tracks : ℕ) (row : Row) (rows : List Row) → ShowsRest g n tracks gone p (row ∷ rows) → IsFixedBy g n gone new p (Some (t - g.plots)) tracks row rows
fixed_pair {g} {n} {p} {qs} {ms} {new_q} {new_m} {gone} {new} {tight} gr r l ca t il te pp le ne nr w tracks row rows sh =
    let f : (m : ℕ) × Fixing g n tracks p qs ms gone row rows m = fixing gr r l sh in
    let lo : g.plots ≤ t = elim (candidate_arc gr ca (omega (arith, pp, le)) 0 il).across.sides [ inl s ↦ omega (arith, te, s.1) | inr s ↦ absurd (omega (arith, s.0, pp)) ] in
    let e : t ≡ g.plots + (t - g.plots) = omega (arith, lo) in
    let ne' : new ≡ set (set gone p true) (g.plots + (t - g.plots)) true = ne ∙ ap (λ (o : ℕ). set (set gone p true) o true) e in
    let x : get_or qs p 0 + get_or qs t 0 ≡ cost_at g (get_or tight 0 0) + miss_cost = ap (λ (o : ℕ). get_or qs p 0 + get_or qs o 0) (sym te) ∙ (ca.sound 0 il).exact in
    subst (λ (o : List Bool). IsFixedBy g n gone o p (Some (t - g.plots)) tracks row rows) (sym ne')
    (chosen_track f.1 ca il (λ j h. absurd (omega (arith, h))) (te ∙ e) (subst (IsOptimal g n new_q new_m) ne' nr) (omega (arith, w, x)))
