-- The least pairing of one plot is its first nearest track.
use Rattle.std.proofs.Common.{◌≡◌, ◌≤◌, ◌<◌, ◌⊎◌, inl, inr, ℕ, zero, suc, ◌+◌, List, [], ◌∷◌, length, map, replicate, is_some, Option, Some, None, arith, refl, sym, ◌∙◌, ap, subst, ℤ, pos, ◌+ℤ◌, ◌≤ℤ◌}
use Rattle.std.specs.List.{range_with_len}
use Rattle.std.specs.Option.{IfSome}
use Rattle.std.proofs.lemmas.Bool.{cases_eq}
use Rattle.std.proofs.lemmas.Int.{ints}
use Rattle.std.proofs.lemmas.List.{length-replicate}
use Rattle.std.proofs.lemmas.List.Elements.{All-cons, All-nil, All-replicate, All-from_get_or}
use Rattle.trk_base.specs.Limits.{miss_cost}
use Rattle.assignment_dual.specs.Pairings.{Row, paired_cost, Once, Gates, IsPairing, entry_cost, cost, EntryBefore, ComesFirst, IsLeast}
use Rattle.assignment_dual.specs.Problems.{Edge, Problem, IsProblem, EdgeBefore, edge_at, row_of, rows_of, price_at, total, Proves, IsSolvedBy}
use Rattle.assignment_dual.specs.Single.{IsNearest}
use Rattle.assignment_dual.proofs.Building.{row_found}
use Rattle.assignment_dual.proofs.Choices.{is_some_of}
use Rattle.assignment_dual.proofs.First.{le_cases}
use Rattle.assignment_dual.proofs.Signed.{row_tells, total-cons}

pub nearest_first : (edges : List Edge) → IsNearest edges 0 None 4097
nearest_first edges = record {
  most = omega arith;
  none = λ e. refl;
  some = λ t e. absurd (cc);
  lowest = λ j h. absurd (omega (arith, h));
  first = λ t j e h. absurd (omega (arith, h));
}

some_is : {a b : ℕ} → (let x : Option ℕ = Some a in let y : Option ℕ = Some b in x ≡ y) → a ≡ b
some_is e = cc

pub nearest_taken : (edges : List Edge) (n : ℕ) (x : Option ℕ) (least track cost : ℕ) → IsNearest edges n x least → track ≡ (edge_at edges n).1 → cost ≡ (edge_at edges n).2 → cost < least → IsNearest edges (n + 1) (Some track) cost
nearest_taken edges n x least track cost h a b lt = record {
  most = omega (arith, lt, h.most);
  none = λ e. absurd (cc);
  some = λ t e. (n, omega arith, sym a ∙ some_is e, sym b);
  lowest = λ j l. elim (cases_eq j n) [
    | inl q ↦ let z = ap (λ i. (edge_at edges i).2) q in omega (arith, z, b)
    | inr d ↦ omega (arith, lt, h.lowest j (omega (arith, l, d)))
  ];
  first = λ t j e l q. elim (cases_eq j n) [
    | inl z ↦ let y = ap (λ i. (edge_at edges i).1) z in omega (arith, y, a, some_is e)
    | inr d ↦ absurd (omega (arith, q, lt, h.lowest j (omega (arith, l, d))))
  ];
}

later_track : (edges : List Edge) → ((i j : ℕ) → i < j → j < length edges → EdgeBefore (edge_at edges i) (edge_at edges j)) → ((j : ℕ) → j < length edges → (edge_at edges j).0 ≡ 0) → (k n : ℕ) → k < n → n < length edges → (edge_at edges k).1 < (edge_at edges n).1
later_track edges r z k n lt in' = elim (r k n lt in') [
  | inl a ↦ absurd (omega (arith, a, z n in'))
  | inr b ↦ b.1
]

pub plots_zero : (p : Problem) → IsProblem p → p.plots ≡ 1 → (j : ℕ) → j < length p.edges → (edge_at p.edges j).0 ≡ 0
plots_zero p h one j l = omega (arith, h.plots j (0, 0, 0) l, one)

pub nearest_kept : (p : Problem) (n : ℕ) (x : Option ℕ) (least cost : ℕ) → IsProblem p → p.plots ≡ 1 → n < length p.edges → IsNearest p.edges n x least → cost ≡ (edge_at p.edges n).2 → (cost < least → ⊥) → IsNearest p.edges (n + 1) x least
nearest_kept p n x least cost q one in' h b le = record {
  most = h.most;
  none = h.none;
  some = λ t e. let k = h.some t e in (k.0, omega (arith, k.1), k.2, k.3);
  lowest = λ j l. elim (cases_eq j n) [
    | inl z ↦ let y = ap (λ i. (edge_at p.edges i).2) z in omega (arith, y, b, le)
    | inr d ↦ h.lowest j (omega (arith, l, d))
  ];
  first = λ t j e l c. elim (cases_eq j n) [
    | inl z ↦
        let k = h.some t e in
        let y = ap (λ i. (edge_at p.edges i).1) z in
        omega (arith, y, k.2, later_track p.edges q.rising (plots_zero p q one) k.0 n k.1 in')
    | inr d ↦ h.first t j e (omega (arith, l, d)) c
  ];
}

-- the one row
one_row : (p : Problem) → p.plots ≡ 1 → rows_of p ≡ row_of p.edges 0 ∷ []
one_row p one = ap (λ (n : ℕ). map (row_of p.edges) (range_with_len 0 n)) one

found_at : (p : Problem) → IsProblem p → p.plots ≡ 1 → (k : ℕ) → k < length p.edges → row_of p.edges 0 (edge_at p.edges k).1 ≡ Some (edge_at p.edges k).2
found_at p q one k l = subst (λ (i : ℕ). row_of p.edges i (edge_at p.edges k).1 ≡ Some (edge_at p.edges k).2) (plots_zero p q one k l) (row_found p.edges k q.rising l)

entry_gates : (p : Problem) → IsProblem p → p.plots ≡ 1 → (x : Option ℕ) (least : ℕ) → IsNearest p.edges (length p.edges) x least → Gates (row_of p.edges 0) x × (entry_cost (row_of p.edges 0) x ≡ least)
entry_gates p q one None least h = (tt, sym (h.none refl))
entry_gates p q one (Some t) least h =
    let k = h.some t refl in
    let e : row_of p.edges 0 t ≡ Some least = subst (λ (s : ℕ). row_of p.edges 0 s ≡ Some least) k.2 (found_at p q one k.0 k.1 ∙ ap Some k.3) in
    (ap (λ (o : Option ℕ). is_some o) e, ap paired_cost e)

-- any entry costs as much, and one that costs the same doesn't come before
record IsBeaten (row : Row) (x : Option ℕ) (least : ℕ) (y : Option ℕ) : Type 0 where
  pub beaten : (least < entry_cost row y) ⊎ ((least ≡ entry_cost row y) × (EntryBefore x y ⊎ (x ≡ y)))

edge_with : (edges : List Edge) (plot track c : ℕ) → row_of edges plot track ≡ Some c → (k : ℕ) × (k < length edges) × ((edge_at edges k).1 ≡ track) × ((edge_at edges k).2 ≡ c)
edge_with edges plot track c e = row_tells (λ a b d. (k : ℕ) × (k < length edges) × ((edge_at edges k).1 ≡ b) × ((edge_at edges k).2 ≡ d)) edges plot track c (λ i l. (i, l, refl, refl)) e

beaten_by : (p : Problem) → IsProblem p → (x : Option ℕ) (least : ℕ) → IsNearest p.edges (length p.edges) x least → (y : Option ℕ) → Gates (row_of p.edges 0) y → IsBeaten (row_of p.edges 0) x least y
beaten_by p q None least h None g = record { beaten = inr (h.none refl, inr refl) }
beaten_by p q (Some s) least h None g = record { beaten = elim (le_cases least miss_cost h.most) [ inl l ↦ inl l | inr e ↦ inr (e, inl tt) ] }
beaten_by p q x least h (Some t) g =
    let c = is_some_of (row_of p.edges 0 t) g in
    let k = edge_with p.edges 0 t c.0 c.1 in
    let w : entry_cost (row_of p.edges 0) (Some t) ≡ c.0 = ap paired_cost c.1 in
    let le : least ≤ c.0 = omega (arith, h.lowest k.0 k.1, k.3) in
    record {
      beaten = elim (le_cases least c.0 le) [
        | inl l ↦ inl (omega (arith, l, w))
        | inr e ↦ inr (e ∙ sym w, order x (omega (arith, e, k.3, q.costs k.0 (0, 0, 0) k.1)) h.none (λ s f. omega (arith, h.first s k.0 f k.1 (k.3 ∙ sym e), k.2)))
      ];
    }
  where
    order : (x : Option ℕ) → least ≤ 4096 → (x ≡ None → least ≡ miss_cost) → ((s : ℕ) → x ≡ Some s → s ≤ t) → EntryBefore x (Some t) ⊎ (x ≡ Some t)
    order None small none first = absurd (omega (arith, small, none refl))
    order (Some s) small none first = elim (le_cases s t (first s refl)) [ inl l ↦ inl l | inr e ↦ inr (ap Some e) ]

single_first : (row : Row) (x : Option ℕ) (least : ℕ) → Gates row x → entry_cost row x ≡ least → ((y : Option ℕ) → Gates row y → IsBeaten row x least y) → IsLeast (row ∷ []) (x ∷ [])
single_first row x least g e b = record {
  pairing = record { gates = (g, tt); once = once x };
  first = λ ys p. against ys p;
}
  where
    once : (x : Option ℕ) → Once (x ∷ [])
    once None = tt
    once (Some t) = (tt, tt)

    against : (ys : List (Option ℕ)) → IsPairing (row ∷ []) ys → ComesFirst (row ∷ []) (x ∷ []) ys
    against [] p = absurd p.gates
    against (y ∷ []) p = elim (b y p.gates.0).beaten [
      | inl l ↦ inl (omega (arith, e, l))
      | inr o ↦ inr (omega (arith, e, o.0), elim o.1 [ inl k ↦ inl k | inr k ↦ inr (k, tt) ])
    ]
    against (y ∷ (z ∷ zs)) p = absurd p.gates.1

-- prices of 0
zeros_at : (n i : ℕ) → price_at (replicate n (pos 0)) i ≡ pos 0
zeros_at zero i = refl
zeros_at (suc n) zero = refl
zeros_at (suc n) (suc i) = zeros_at n i

zeros_total : (n : ℕ) → total (replicate n (pos 0)) ≡ pos 0
zeros_total zero = refl
zeros_total (suc n) = total-cons (pos 0) (replicate n (pos 0)) ∙ omega (arith, ints, zeros_total n)

single_proves : (p : Problem) → IsProblem p → p.plots ≡ 1 → (x : Option ℕ) (least : ℕ) → IsNearest p.edges (length p.edges) x least → IsPairing (rows_of p) (x ∷ []) → cost (rows_of p) (x ∷ []) ≡ least
    → Proves p (x ∷ []) (pos least ∷ []) (replicate p.tracks (pos 0))
single_proves p q one x least h pairs worth = record {
  pairing = pairs;
  plot_prices = sym one;
  track_prices = length-replicate p.tracks (pos 0);
  below_miss = All-cons (λ u. u ≤ℤ pos miss_cost) (pos least) [] (omega (arith, ints, h.most)) (All-nil (λ u. u ≤ℤ pos miss_cost));
  below_zero = All-replicate (λ v. v ≤ℤ pos 0) p.tracks (pos 0) (omega (arith, ints));
  below_cost = All-from_get_or (λ (e : Edge). (price_at (pos least ∷ []) e.0 +ℤ price_at (replicate p.tracks (pos 0)) e.1) ≤ℤ pos e.2) p.edges (0, 0, 0) (λ i l.
      let u : price_at (pos least ∷ []) (edge_at p.edges i).0 ≡ pos least = ap (price_at (pos least ∷ [])) (plots_zero p q one i l) in
      let v : price_at (replicate p.tracks (pos 0)) (edge_at p.edges i).1 ≡ pos 0 = zeros_at p.tracks (edge_at p.edges i).1 in
      let le : least ≤ (edge_at p.edges i).2 = h.lowest i l in
      omega (arith, ints, u, v, le));
  equal = omega (arith, ints, total-cons (pos least) [], zeros_total p.tracks, worth);
}

pub single_solved : (p : Problem) → IsProblem p → p.plots ≡ 1 → (x : Option ℕ) (least : ℕ) → IsNearest p.edges (length p.edges) x least → (xs : List (Option ℕ)) (us vs : List ℤ) (c : ℤ)
    → xs ≡ x ∷ [] → us ≡ pos least ∷ [] → vs ≡ replicate p.tracks (pos 0) → c ≡ pos least → IsSolvedBy p xs us vs c
single_solved p q one x least h xs us vs c a b d e =
    let row = row_of p.edges 0 in
    let g : Gates row x × (entry_cost row x ≡ least) = entry_gates p q one x least h in
    let rows : rows_of p ≡ row ∷ [] = one_row p one in
    let l : IsLeast (rows_of p) (x ∷ []) = subst (λ (rs : List Row). IsLeast rs (x ∷ [])) (sym rows) (single_first row x least g.0 g.1 (λ y k. beaten_by p q x least h y k)) in
    let worth : cost (rows_of p) (x ∷ []) ≡ least = ap (λ (rs : List Row). cost rs (x ∷ [])) rows ∙ omega (arith, g.1) in
    let solved : IsSolvedBy p (x ∷ []) (pos least ∷ []) (replicate p.tracks (pos 0)) (pos least) = record {
      least = l;
      worth = ap pos (sym worth);
      proves = single_proves p q one x least h l.pairing worth;
      tracks = All-cons (λ (y : Option ℕ). IfSome y (λ t. t < p.tracks)) x [] (named x least h) (All-nil (λ (y : Option ℕ). IfSome y (λ t. t < p.tracks)));
    } in
    subst (λ (t : List (Option ℕ) × List ℤ × List ℤ × ℤ). IsSolvedBy p t.0 t.1 t.2 t.3) (λ j. (sym a j, sym b j, sym d j, sym e j)) solved
  where
    named : (x : Option ℕ) (least : ℕ) → IsNearest p.edges (length p.edges) x least → IfSome x (λ t. t < p.tracks)
    named None least h = tt
    named (Some t) least h = let k = h.some t refl in omega (arith, q.tracks k.0 (0, 0, 0) k.1, k.2)
