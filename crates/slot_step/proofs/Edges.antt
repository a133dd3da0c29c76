-- The gates of a batch, found track by track and put in order, are its problem.
use Rattle.std.proofs.Common.{◌≡◌, ◌≢◌, ◌∙◌, ap, sym, refl, ℕ, zero, suc, ◌+◌, ◌-◌, ◌<◌, ◌≤◌, ℤ, Bool, true, false, cond, eqb, List, [], ◌∷◌, ◌++◌, length, Option, Some, None, arith, subst, inl, inr}
use Rattle.std.specs.Prelude.{◌⊎◌, ◌↔◌, ◌&&◌, Contains}
use Rattle.std.specs.Cmp.{ranks}
use Rattle.std.specs.Fn.{Called, ComputesKey}
use Rattle.std.specs.List.Sorted.{IsPermutation, IsSortedByKey}
use Rattle.std.specs.Ordering.{is_lt, nat_cmp, ordering_then, MatchOrdering}
use Rattle.std.specs.declared.cmp.Ordering.{Ordering}
use Rattle.std.specs.declared.cmp.Ordering.TheVariants.{Less, Equal, Greater}
use Rattle.std.proofs.lemmas.Bool.{cases_eq, eq-eqb, ne_eqb}
use Rattle.std.proofs.lemmas.List.Elements.{Contains-push, Contains-push_cases, Contains-append_left}
use Rattle.std.proofs.lemmas.List.Sorted.{Contains-permutation, IsPermutation-sym, sum_by-IsPermutation}
use Rattle.std.proofs.lemmas.List.Sums.{sum_by-cons, sum_by_push, sum_by_more, sum_by-take-le}
use Rattle.std.proofs.lemmas.Fn.{always_returns_same}
use denote.Ref.{Bor}
use denote.Param.Members.{Mut}
use Rattle.trk_base.specs.Limits.{gate_cost}
use Rattle.assignment_dual.specs.Problems.{Edge, EdgeBefore, edge_at}
use Rattle.slot_step.specs.Certificates.{IsAt}
use Rattle.slot_step.specs.Gates.{times_joined, CoverGates, IsGateNear, AreAdded}
use Rattle.slot_step.specs.Problems.{IsGateBetween, IsProblemOf}
use Rattle.slot_step.proofs.Certifying.{some_is, within}
use Rattle.slot_step.proofs.Interleavings.{contains_first, contains_later, contains_none}
use Rattle.slot_step.proofs.Problems.{one_at}
use Rattle.slot_step.proofs.RisingEdges.{all_by_index}

-- 1 for an edge between these two, and else 0
abbrev joins : ℕ → ℕ → Edge → ℕ
joins i j e = cond (eqb e.0 i && eqb e.1 j) 1 0

apart_by_track : (i j : ℕ) (e : Edge) → e.1 ≢ j → joins i j e ≡ 0
apart_by_track i j e n = ap (λ b. cond (eqb e.0 i && b) 1 0) (ne_eqb e.1 j n) ∙ both (eqb e.0 i)
  where
    both : (b : Bool) → let x : ℕ = cond (b && false) 1 0 in x ≡ 0
    both true = refl
    both false = refl

one_place_more : (b c : Bool) → cond (b && c) 1 0 ≤ cond b 1 0
one_place_more true true = omega arith
one_place_more true false = omega arith
one_place_more false c = omega arith

none_joined : (i j : ℕ) (es : List Edge) → ((e : Edge) → Contains es e → e.1 ≢ j) → times_joined i j es ≡ 0
none_joined i j [] f = refl
none_joined i j (e ∷ es) f =
    omega (arith, sum_by-cons (joins i j) e es, apart_by_track i j e (f e (contains_first e e es refl)), none_joined i j es (λ d c. f d (contains_later e d es c)))

-- ---- the gates of one track

module _ {P : Type 0} (gate : P → Option ℕ) (ps : List P) (j : ℕ) where
  pub nothing_added : (es : List Edge) → AreAdded gate ps [] j es es
  nothing_added es = record {
    edges_are = λ i k cost. (λ c. inl c, λ s. elim s [ inl c ↦ c | inr h ↦ contains_none (h.1.x, i) h.1.place ]);
    others = λ i k n. omega arith;
    own = λ i. omega arith;
  }

  wider : (near : List (ℤ × ℕ)) (e : ℤ × ℕ) (i cost : ℕ) → IsGateNear gate ps near i cost → IsGateNear gate ps (near ++ e ∷ []) i cost
  wider near e i cost g = record { plot = g.plot; plot_at = g.plot_at; x = g.x; place = Contains-append_left near (e ∷ []) (g.x, i) g.place; gate_is = g.gate_is }

  -- a gate for a plot at one of these places, or at one place more
  at_last : (near : List (ℤ × ℕ)) (e : ℤ × ℕ) (p : P) (i cost : ℕ) → IsAt ps e.1 p → IsGateNear gate ps (near ++ e ∷ []) i cost → IsGateNear gate ps near i cost ⊎ ((e.1 ≡ i) × (gate p ≡ Some cost))
  at_last near e p i cost a g = elim (Contains-push_cases near e (g.x, i) g.place) [
    | inl d ↦ inl (record { plot = g.plot; plot_at = g.plot_at; x = g.x; place = d; gate_is = g.gate_is })
    | inr s ↦ let own : e.1 ≡ i = ap (λ (y : ℤ × ℕ). y.1) s in inr (own, ap gate (one_at ps i p g.plot (subst (λ n. IsAt ps n p) own a) g.plot_at) ∙ g.gate_is)
  ]

  pub none_added : (near : List (ℤ × ℕ)) (e : ℤ × ℕ) (p : P) (es fs : List Edge) → IsAt ps e.1 p → gate p ≡ None → AreAdded gate ps near j es fs → AreAdded gate ps (near ++ e ∷ []) j es fs
  none_added near e p es fs a n h = record {
    edges_are = λ i k cost. (
      (λ c. elim ((h.edges_are i k cost).0 c) [ inl d ↦ inl d | inr g ↦ inr (g.0, wider near e i cost g.1) ]),
      (λ s. elim s [
        | inl d ↦ (h.edges_are i k cost).1 (inl d)
        | inr g ↦ elim (at_last near e p i cost a g.1) [
          | inl d ↦ (h.edges_are i k cost).1 (inr (g.0, d))
          | inr d ↦ let x : Some cost ≡ None = sym d.1 ∙ n in absurd (cc)
        ]
      ]),
    );
    others = h.others;
    own = λ i. omega (arith, h.own i, sum_by_push (λ (d : ℤ × ℕ). cond (eqb d.1 i) 1 0) near e);
  }

  pub one_added : (near : List (ℤ × ℕ)) (e : ℤ × ℕ) (p : P) (es fs : List Edge) (paid : ℕ) → IsAt ps e.1 p → gate p ≡ Some paid → AreAdded gate ps near j es fs → AreAdded gate ps (near ++ e ∷ []) j es (fs ++ (e.1, j, paid) ∷ [])
  one_added near e p es fs paid a n h = record {
    edges_are = λ i k cost. (
      (λ c. elim (Contains-push_cases fs (e.1, j, paid) (i, k, cost) c) [
        | inl d ↦ elim ((h.edges_are i k cost).0 d) [ inl f ↦ inl f | inr g ↦ inr (g.0, wider near e i cost g.1) ]
        | inr s ↦
            let plot : e.1 ≡ i = ap (λ (f : Edge). f.0) s in
            let place : e ≡ (e.0, i) = λ m. (e.0, plot m) in
            inr (sym (ap (λ (f : Edge). f.1) s), record { plot = p; plot_at = subst (λ m. IsAt ps m p) plot a; x = e.0; place = subst (Contains (near ++ e ∷ [])) place (Contains-push near e); gate_is = n ∙ ap (λ (f : Edge). Some f.2) s })
      ]),
      (λ s. elim s [
        | inl d ↦ Contains-append_left fs ((e.1, j, paid) ∷ []) (i, k, cost) ((h.edges_are i k cost).1 (inl d))
        | inr g ↦ elim (at_last near e p i cost a g.1) [
          | inl d ↦ Contains-append_left fs ((e.1, j, paid) ∷ []) (i, k, cost) ((h.edges_are i k cost).1 (inr (g.0, d)))
          | inr d ↦
              let same : Some paid ≡ Some cost = sym n ∙ d.1 in
              let worth : paid ≡ cost = cc in
              subst (Contains (fs ++ (e.1, j, paid) ∷ [])) (λ m. (d.0 m, sym g.0 m, worth m)) (Contains-push fs (e.1, j, paid))
        ]
      ]),
    );
    others = λ i k apart. omega (arith, h.others i k apart, sum_by_push (joins i k) fs (e.1, j, paid), apart_by_track i k (e.1, j, paid) (λ s. apart (sym s)));
    own = λ i. omega (arith, h.own i, sum_by_push (joins i j) fs (e.1, j, paid), sum_by_push (λ (d : ℤ × ℕ). cond (eqb d.1 i) 1 0) near e, one_place_more (eqb e.1 i) (eqb j j));
  }

-- ---- those of all tracks

-- the gates of the first n tracks, each once
pub record AreFound {T P : Type 0} (gate : T → P → Option ℕ) (ts : List T) (ps : List P) (n : ℕ) (es : List Edge) : Type 0 where
  pub edges_are : (i j cost : ℕ) → Contains es (i, j, cost) ↔ ((j < n) × IsGateBetween gate ts ps i j cost)
  pub once : (i j : ℕ) → times_joined i j es ≤ 1

module _ {T P : Type 0} (gate : T → P → Option ℕ) (ts : List T) (ps : List P) where
  pub none_found : AreFound gate ts ps 0 []
  none_found = record { edges_are = λ i j cost. (λ c. contains_none (i, j, cost) c, λ h. absurd (omega (arith, h.0))); once = λ i j. omega arith }

  pub more_found : (n : ℕ) (t : T) (near : List (ℤ × ℕ)) (es fs : List Edge) → IsAt ts n t → CoverGates (gate t) ps near → AreAdded (gate t) ps near n es fs → AreFound gate ts ps n es → AreFound gate ts ps (n + 1) fs
  more_found n t near es fs at near_is a h = record {
    edges_are = λ i j cost. (
      (λ c. elim ((a.edges_are i j cost).0 c) [
        | inl d ↦ let g : (j < n) × IsGateBetween gate ts ps i j cost = (h.edges_are i j cost).0 d in (omega (arith, g.0), g.1)
        | inr g ↦ (omega (arith, g.0), record { plot = g.1.plot; track = t; plot_at = g.1.plot_at; track_at = subst (λ m. IsAt ts m t) (sym g.0) at; gate_is = g.1.gate_is })
      ]),
      (λ g. elim (cases_eq j n) [
        | inl e ↦
            let own : gate t g.1.plot ≡ Some cost = ap (λ u. gate u g.1.plot) (one_at ts n t g.1.track at (subst (λ m. IsAt ts m g.1.track) e g.1.track_at)) ∙ g.1.gate_is in
            let c : (x : ℤ) × Contains near (x, i) = near_is.all i g.1.plot g.1.plot_at (some_is (gate t g.1.plot) cost own) in
            (a.edges_are i j cost).1 (inr (e, record { plot = g.1.plot; plot_at = g.1.plot_at; x = c.0; place = c.1; gate_is = own }))
        | inr apart ↦ (a.edges_are i j cost).1 (inl ((h.edges_are i j cost).1 (omega (arith, g.0, apart), g.1)))
      ]),
    );
    once = λ i j. elim (cases_eq j n) [
      | inl e ↦
          let none : times_joined i n es ≡ 0 = none_joined i n es (λ d c s. omega (arith, ((h.edges_are d.0 d.1 d.2).0 c).0, s)) in
          omega (arith, a.own i, none, near_is.once i, ap (λ m. times_joined i m fs) e)
      | inr apart ↦ omega (arith, a.others i j apart, h.once i j)
    ];
  }

-- ---- in order

-- by plot and then by track
abbrev pub IsByPlot : List Edge → Type 0
IsByPlot es = IsSortedByKey (λ (e : Edge). (e.0, e.1)) (λ (x y : ℕ × ℕ). ordering_then (nat_cmp x.0 y.0) (nat_cmp x.1 y.1)) es

-- as the sort's clause has it, where each call gives the edge's plot and track
pub by_plot : {F : Type 0} {g : Mut F (Bor Edge × Unit {0}) (ℕ × ℕ)} {f : F} (es : List Edge)
    → ((key : Edge → ℕ × ℕ) → ComputesKey g key f → IsSortedByKey key (λ (x y : ℕ × ℕ). ordering_then (nat_cmp x.0 y.0) (nat_cmp x.1 y.1)) es)
    → ((a : Bor Edge × Unit {0}) (r : ℕ × ℕ) (f' : F) → Called g f a r f' → (r ≡ (a.0.now.0, a.0.now.1)) × (f' ≡ f)) → IsByPlot es
by_plot {g = g} {f = f} es up h = up (λ e. (e.0, e.1)) (always_returns_same g (λ a r. r ≡ (a.0.now.0, a.0.now.1)) f h)

-- what is not below another so
not_below : (a b c d : ℕ) → is_lt (ordering_then (nat_cmp a b) (nat_cmp c d)) ≡ false → (b < a) ⊎ ((b ≡ a) × (d < c)) ⊎ ((b ≡ a) × (d ≡ c))
not_below a b c d = by (nat_cmp a b) (nat_cmp c d) (ranks a b) (ranks c d)
  where
    by : (o r : Ordering) → MatchOrdering o (a < b) (a ≡ b) (b < a) → MatchOrdering r (c < d) (c ≡ d) (d < c) → is_lt (ordering_then o r) ≡ false → (b < a) ⊎ ((b ≡ a) × (d < c)) ⊎ ((b ≡ a) × (d ≡ c))
    by Less r h k e = absurd (cc)
    by Greater r h k e = inl h
    by Equal Less h k e = absurd (cc)
    by Equal Equal h k e = inr (inr (sym h, sym k))
    by Equal Greater h k e = inr (inl (sym h, k))

module _ (es : List Edge) (once : (i j : ℕ) → times_joined i j es ≤ 1)
    (up : IsByPlot es) where
  joined : (e : Edge) (i j : ℕ) → e.0 ≡ i → e.1 ≡ j → joins i j e ≡ 1
  joined e i j p q = λ m. cond (eq-eqb e.0 i p m && eq-eqb e.1 j q m) 1 0

  next_before : (k : ℕ) → k + 1 < length es → EdgeBefore (edge_at es k) (edge_at es (k + 1))
  next_before k lt =
      let e : Edge = edge_at es k in
      let f : Edge = edge_at es (k + 1) in
      elim (not_below f.0 e.0 f.1 e.1 (up k (0, 0, 0) (omega arith) lt)) [
        | inl h ↦ inl h
        | inr h ↦ elim h [
          | inl g ↦ inr g
          | inr g ↦
              let test : Edge → ℕ = joins e.0 e.1 in
              absurd (omega (arith, once e.0 e.1, sum_by-take-le test es (k + 1 + 1), sum_by_more test es (k + 1) (0, 0, 0) lt, sum_by_more test es k (0, 0, 0) (omega (arith, lt)), joined e e.0 e.1 refl refl, joined f e.0 e.1 (sym g.0) (sym g.1)))
        ]
      ]

  after_next : (e f g : Edge) → EdgeBefore e f → EdgeBefore f g → EdgeBefore e g
  after_next e f g (inl h) (inl k) = inl (omega (arith, h, k))
  after_next e f g (inl h) (inr k) = inl (omega (arith, h, k.0))
  after_next e f g (inr h) (inl k) = inl (omega (arith, h.0, k))
  after_next e f g (inr h) (inr k) = inr (h.0 ∙ k.0, omega (arith, h.1, k.1))

  far : (i m : ℕ) → i + m + 1 < length es → EdgeBefore (edge_at es i) (edge_at es (i + m + 1))
  far i zero lt = let s : i + zero ≡ i = omega arith in subst (λ n. EdgeBefore (edge_at es i) (edge_at es (n + 1))) (sym s) (next_before i (omega (arith, lt)))
  far i (suc m) lt =
      let s : i + m + 1 ≡ i + suc m = omega arith in
      after_next (edge_at es i) (edge_at es (i + m + 1)) (edge_at es (i + suc m + 1)) (far i m (omega (arith, lt))) (subst (λ n. EdgeBefore (edge_at es n) (edge_at es (i + suc m + 1))) (sym s) (next_before (i + suc m) lt))

  pub all_rise : (i j : ℕ) → i < j → j < length es → EdgeBefore (edge_at es i) (edge_at es j)
  all_rise i j lt l = let s : i + (j - i - 1) + 1 ≡ j = omega (arith, lt) in subst (λ n. EdgeBefore (edge_at es i) (edge_at es n)) s (far i (j - i - 1) (omega (arith, lt, l)))

-- ---- the problem that they make

module _ {T P : Type 0} (gate : T → P → Option ℕ) (low : (t : T) (p : P) (cost : ℕ) → gate t p ≡ Some cost → cost ≤ gate_cost) (ts : List T) (ps : List P) where
  pub problem_of : (n : ℕ) (es fs : List Edge) → AreFound gate ts ps n es → ((j : ℕ) (t : T) → IsAt ts j t → j < n) → IsPermutation es fs → IsByPlot fs → IsProblemOf gate ts ps (record { plots = length ps; tracks = length ts; edges = fs })
  problem_of n es fs h end moves up =
      let back : (e : Edge) → Contains fs e → IsGateBetween gate ts ps e.0 e.1 e.2 = λ e c. ((h.edges_are e.0 e.1 e.2).0 (Contains-permutation fs es e (IsPermutation-sym es fs moves) c)).1 in
      record {
        problem = record {
          rising = all_rise fs (λ i j. omega (arith, h.once i j, sum_by-IsPermutation (joins i j) es fs moves)) up;
          plots = all_by_index (λ e. e.0 < length ps) fs (λ e c. let g = back e c in within ps e.0 g.plot g.plot_at);
          tracks = all_by_index (λ e. e.1 < length ts) fs (λ e c. let g = back e c in within ts e.1 g.track g.track_at);
          costs = all_by_index (λ e. e.2 ≤ gate_cost) fs (λ e c. let g = back e c in low g.track g.plot e.2 g.gate_is);
        };
        plot_count = refl;
        track_count = refl;
        edges_are = λ i j cost. (
          (λ c. back (i, j, cost) c),
          (λ g. Contains-permutation es fs (i, j, cost) moves ((h.edges_are i j cost).1 (end j g.track g.track_at, g))),
        );
      }
