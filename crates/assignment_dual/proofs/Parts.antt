-- The least pairings of any number of parts, put together.
use Rattle.std.proofs.Common.{◌≡◌, ◌≢◌, ◌<◌, ◌⊎◌, inl, inr, ℕ, zero, suc, ◌+◌, ◌-◌, List, [], ◌∷◌, length, get_or, map, Bool, true, false, eqb, Option, Some, None, IsSome, arith, refl, sym, ◌∙◌, ap, subst}
use Rattle.std.specs.List.{Contains}
use Rattle.std.specs.List.Sorted.{IsStrictlyIncreasing}
use Rattle.std.proofs.lemmas.Bool.{cases_eq, eq-eqb, ne_eqb}
use Rattle.std.proofs.lemmas.List.{length-map, get_or-map, get_or_default}
use Rattle.std.proofs.lemmas.List.Elements.{Contains-get_or}
use Rattle.assignment_dual.specs.Pairings.{Row, IsLeast, part, GatesNone}
use Rattle.assignment_dual.specs.Rests.{no_row, row_at}
use Rattle.assignment_dual.specs.Parts.{part_at, at_plots, AreParts}
use Rattle.assignment_dual.proofs.Sets.{two_sets, least_of_set}
use Rattle.assignment_dual.proofs.Unique.{gate_count}
use Rattle.assignment_dual.proofs.Prefixes.{nothing_least}
use Rattle.assignment_dual.proofs.Renumbering.{rise_on}

-- Each plot has a label, the place of its part.
abbrev is_label : ℕ → List ℕ → List Bool
is_label n labels = map (λ l. eqb l n) labels

-- those with this label
abbrev labelled : {X : Type 0} → ℕ → List ℕ → List X → List X
labelled n labels xs = part true (is_label n labels) xs

abbrev others : {X : Type 0} → ℕ → List ℕ → List X → List X
others n labels xs = part false (is_label n labels) xs

abbrev Below : ℕ → List ℕ → Type 0
Below n [] = Unit {0}
Below n (l ∷ labels) = (l < n) × Below n labels

-- the track gates plots with this label alone
abbrev Only : ℕ → ℕ → List ℕ → List Row → Type 0
Only t m [] rows = Unit {0}
Only t m (l ∷ labels) [] = Unit {0}
Only t m (l ∷ labels) (row ∷ rows) = ((row t ≡ None) ⊎ (l ≡ m)) × Only t m labels rows

is_here : {l n : ℕ} → l ≡ n → eqb l n ≡ true
is_here {l} {n} e = eq-eqb l n e

is_other : {l n : ℕ} → l ≢ n → eqb l n ≡ false
is_other {l} {n} d = ne_eqb l n d

-- one list step, by whether the label is n
here_step : {X : Type 0} (b : Bool) (n l : ℕ) (labels : List ℕ) (x : X) (xs : List X) → l ≡ n → part b (is_label n (l ∷ labels)) (x ∷ xs) ≡ part b (true ∷ is_label n labels) (x ∷ xs)
here_step b n l labels x xs e = ap (λ (o : Bool). part b (o ∷ is_label n labels) (x ∷ xs)) (is_here e)

other_step : {X : Type 0} (b : Bool) (n l : ℕ) (labels : List ℕ) (x : X) (xs : List X) → l ≢ n → part b (is_label n (l ∷ labels)) (x ∷ xs) ≡ part b (false ∷ is_label n labels) (x ∷ xs)
other_step b n l labels x xs d = ap (λ (o : Bool). part b (o ∷ is_label n labels) (x ∷ xs)) (is_other d)

others_below : (n : ℕ) (labels : List ℕ) → Below (n + 1) labels → Below n (others n labels labels)
others_below n [] b = tt
others_below n (l ∷ labels) b = elim (cases_eq l n) [
  | inl e ↦ subst (Below n) (sym (here_step false n l labels l labels e)) (others_below n labels b.1)
  | inr d ↦ subst (Below n) (sym (other_step false n l labels l labels d)) (omega (arith, b.0, d), others_below n labels b.1)
]

-- who has the label m isn't lost with those of the label n
still : {X : Type 0} (n m : ℕ) (labels : List ℕ) (xs : List X) → m ≢ n → length xs ≡ length labels → labelled m (others n labels labels) (others n labels xs) ≡ labelled m labels xs
still n m [] xs d l = refl
still n m (a ∷ labels) [] d l = absurd (omega (arith, l))
still {X} n m (a ∷ labels) (x ∷ xs) d l = elim (cases_eq a n) [
  | inl e ↦
      ap (λ (o : List ℕ). labelled m o (others n (a ∷ labels) (x ∷ xs))) (here_step false n a labels a labels e)
      ∙ ap (λ (o : List X). labelled m (others n labels labels) o) (here_step false n a labels x xs e)
      ∙ still n m labels xs d (omega (arith, l))
      ∙ sym (other_step true m a labels x xs (λ q. d (sym q ∙ e)))
  | inr f ↦
      ap (λ (o : List ℕ). labelled m o (others n (a ∷ labels) (x ∷ xs))) (other_step false n a labels a labels f)
      ∙ ap (λ (o : List X). labelled m (a ∷ others n labels labels) o) (other_step false n a labels x xs f)
      ∙ elim (cases_eq a m) [
        | inl e ↦
            here_step true m a (others n labels labels) x (others n labels xs) e
            ∙ ap (λ (o : List X). x ∷ o) (still n m labels xs d (omega (arith, l)))
            ∙ sym (here_step true m a labels x xs e)
        | inr e ↦
            other_step true m a (others n labels labels) x (others n labels xs) e
            ∙ still n m labels xs d (omega (arith, l))
            ∙ sym (other_step true m a labels x xs e)
      ]
]

only_none : (t m : ℕ) (labels : List ℕ) → Only t m labels []
only_none t m [] = tt
only_none t m (l ∷ labels) = tt

others_only : (t m n : ℕ) (labels : List ℕ) (rows : List Row) → Only t m labels rows → Only t m (others n labels labels) (others n labels rows)
others_only t m n [] rows o = tt
others_only t m n (l ∷ labels) [] o = only_none t m (others n (l ∷ labels) (l ∷ labels))
others_only t m n (l ∷ labels) (row ∷ rows) o = elim (cases_eq l n) [
  | inl e ↦
      subst (λ (q : List ℕ). Only t m q (others n (l ∷ labels) (row ∷ rows))) (sym (here_step false n l labels l labels e))
      (subst (Only t m (others n labels labels)) (sym (here_step false n l labels row rows e)) (others_only t m n labels rows o.1))
  | inr d ↦
      subst (λ (q : List ℕ). Only t m q (others n (l ∷ labels) (row ∷ rows))) (sym (other_step false n l labels l labels d))
      (subst (Only t m (l ∷ others n labels labels)) (sym (other_step false n l labels row rows d)) (o.0, others_only t m n labels rows o.1))
]

same_count : {X Y : Type 0} (n : ℕ) (labels : List ℕ) (xs : List X) (ys : List Y) → length xs ≡ length labels → length ys ≡ length labels → length (others n labels xs) ≡ length (others n labels ys)
same_count n [] xs ys h k = refl
same_count n (l ∷ labels) [] ys h k = absurd (omega (arith, h))
same_count n (l ∷ labels) (x ∷ xs) [] h k = absurd (omega (arith, k))
same_count n (l ∷ labels) (x ∷ xs) (y ∷ ys) h k = elim (cases_eq l n) [
  | inl e ↦ ap length (here_step false n l labels x xs e) ∙ same_count n labels xs ys (omega (arith, h)) (omega (arith, k)) ∙ sym (ap length (here_step false n l labels y ys e))
  | inr d ↦ ap length (other_step false n l labels x xs d) ∙ ap suc (same_count n labels xs ys (omega (arith, h)) (omega (arith, k))) ∙ sym (ap length (other_step false n l labels y ys d))
]

-- a track of another label gates none of these
gates_none : (t m n : ℕ) (labels : List ℕ) (rows : List Row) → m ≢ n → Only t m labels rows → GatesNone t (labelled n labels rows)
gates_none t m n [] rows d o = tt
gates_none t m n (l ∷ labels) [] d o = tt
gates_none t m n (l ∷ labels) (row ∷ rows) d o = elim (cases_eq l n) [
  | inl e ↦ subst (GatesNone t) (sym (here_step true n l labels row rows e)) (elim o.0 [ inl a ↦ a | inr a ↦ absurd (d (sym a ∙ e)) ], gates_none t m n labels rows d o.1)
  | inr e ↦ subst (GatesNone t) (sym (other_step true n l labels row rows e)) (gates_none t m n labels rows d o.1)
]

gates_none_others : (t n : ℕ) (labels : List ℕ) (rows : List Row) → Only t n labels rows → GatesNone t (others n labels rows)
gates_none_others t n [] rows o = tt
gates_none_others t n (l ∷ labels) [] o = tt
gates_none_others t n (l ∷ labels) (row ∷ rows) o = elim (cases_eq l n) [
  | inl e ↦ subst (GatesNone t) (sym (here_step false n l labels row rows e)) (gates_none_others t n labels rows o.1)
  | inr d ↦ subst (GatesNone t) (sym (other_step false n l labels row rows d)) (elim o.0 [ inl a ↦ a | inr a ↦ absurd (d a) ], gates_none_others t n labels rows o.1)
]

no_labels : (labels : List ℕ) (rows : List Row) (xs : List (Option ℕ)) → Below 0 labels → length rows ≡ length labels → length xs ≡ length labels → IsLeast rows xs
no_labels [] [] [] b h k = nothing_least
no_labels [] [] (x ∷ xs) b h k = absurd (omega (arith, k))
no_labels [] (row ∷ rows) xs b h k = absurd (omega (arith, h))
no_labels (l ∷ labels) rows xs b h k = absurd (omega (arith, b.0))

-- by labels: one after the other is taken out
by_labels : (n : ℕ) (labels : List ℕ) (rows : List Row) (xs : List (Option ℕ)) → Below n labels → length rows ≡ length labels → length xs ≡ length labels
    → ((t : ℕ) → (m : ℕ) × Only t m labels rows) → ((m : ℕ) → m < n → IsLeast (labelled m labels rows) (labelled m labels xs)) → IsLeast rows xs
by_labels zero labels rows xs b h k o f = no_labels labels rows xs b h k
by_labels (suc n) labels rows xs b h k o f =
    let e : suc n ≡ n + 1 = omega arith in
    let b' : Below n (others n labels labels) = others_below n labels (subst (λ (q : ℕ). Below q labels) e b) in
    two_sets (is_label n labels) rows xs (omega (arith, length-map labels (λ (l : ℕ). eqb l n), h)) (k ∙ sym h)
    (λ t. elim (cases_eq (o t).0 n) [
      | inl q ↦ inr (gates_none_others t n labels rows (subst (λ (m : ℕ). Only t m labels rows) q (o t).1))
      | inr d ↦ inl (gates_none t (o t).0 n labels rows d (o t).1)
    ])
    (f n (omega arith))
    (by_labels n (others n labels labels) (others n labels rows) (others n labels xs) b' (same_count n labels rows labels h refl) (same_count n labels xs labels k refl)
    (λ t. ((o t).0, others_only t (o t).0 n labels rows (o t).1))
    (λ m l.
    let d : m ≢ n = λ q. omega (arith, q, l) in
    subst (λ (q : List Row). IsLeast q (labelled m (others n labels labels) (others n labels xs))) (sym (still n m labels rows d h))
    (subst (IsLeast (labelled m labels rows)) (sym (still n m labels xs d k)) (f m (omega (arith, l))))))

-- From lists of plots to labels.
record Labels (n : ℕ) (P : ℕ → ℕ → Type 0) : Type 0 where
  pub labels : List ℕ
  pub count : length labels ≡ n
  pub each : (p : ℕ) → p < n → P p (get_or labels p 0)

each_label : (n : ℕ) (P : ℕ → ℕ → Type 0) (i : ℕ) (labels : List ℕ) → P 0 i → ((p : ℕ) → p < n → P (suc p) (get_or labels p 0)) → (p : ℕ) → p < suc n → P p (get_or (i ∷ labels) p 0)
each_label n P i labels a f zero h = a
each_label n P i labels a f (suc p) h = f p (omega (arith, h))

labels_of : (n : ℕ) (P : ℕ → ℕ → Type 0) → ((p : ℕ) → p < n → (i : ℕ) × P p i) → Labels n P
labels_of zero P f = record { labels = []; count = refl; each = λ p h. absurd (omega (arith, h)) }
labels_of (suc n) P f =
    let r : Labels n (λ p. P (suc p)) = labels_of n (λ p. P (suc p)) (λ p h. f (suc p) (omega (arith, h))) in
    record { labels = (f 0 (omega arith)).0 ∷ r.labels; count = ap suc r.count; each = each_label n P (f 0 (omega arith)).0 r.labels (f 0 (omega arith)).1 r.each }

below_from : (n : ℕ) (labels : List ℕ) → ((p : ℕ) → p < length labels → get_or labels p 0 < n) → Below n labels
below_from n [] f = tt
below_from n (l ∷ labels) f = (f 0 (omega arith), below_from n labels (λ p h. f (suc p) (omega (arith, h))))

gate_or : (x : Option ℕ) → (x ≡ None) ⊎ IsSome x
gate_or None = inl refl
gate_or (Some c) = inr refl

only_from : (t m : ℕ) (labels : List ℕ) (rows : List Row) → ((p : ℕ) → p < length rows → IsSome (row_at rows p t) → get_or labels p 0 ≡ m) → Only t m labels rows
only_from t m [] rows f = tt
only_from t m (l ∷ labels) [] f = tt
only_from t m (l ∷ labels) (row ∷ rows) f = (elim (gate_or (row t)) [ inl a ↦ inl a | inr a ↦ inr (f 0 (omega arith) a) ], only_from t m labels rows (λ p h. f (suc p) (omega (arith, h))))

only_of : (t : ℕ) (labels : List ℕ) (rows : List Row) → ((p q : ℕ) → p < length rows → q < length rows → IsSome (row_at rows p t) → IsSome (row_at rows q t) → get_or labels p 0 ≡ get_or labels q 0) → (m : ℕ) × Only t m labels rows
only_of t [] rows f = (0, tt)
only_of t (l ∷ labels) [] f = (0, tt)
only_of t (l ∷ labels) (row ∷ rows) f = elim (gate_or (row t)) [
  | inl a ↦
      let r : (m : ℕ) × Only t m labels rows = only_of t labels rows (λ p q h k. f (suc p) (suc q) (omega (arith, h)) (omega (arith, k))) in
      (r.0, (inl a, r.1))
  | inr a ↦ (l, (inr refl, only_from t l labels rows (λ p h b. f (suc p) 0 (omega (arith, h)) (omega arith) b a)))
]

-- these are the places where the label i stands, in order
record Picks (i : ℕ) (labels ps : List ℕ) : Type 0 where
  pub rising : IsStrictlyIncreasing ps
  pub sound : (k : ℕ) → k < length ps → (get_or ps k 0 < length labels) × (get_or labels (get_or ps k 0) 0 ≡ i)
  pub complete : (p : ℕ) → p < length labels → get_or labels p 0 ≡ i → (k : ℕ) × (k < length ps) × (get_or ps k 0 ≡ p)

-- those of them after the first place
record PicksAfter (i l : ℕ) (labels ps : List ℕ) : Type 0 where
  pub rising : IsStrictlyIncreasing ps
  pub after : (k : ℕ) → k < length ps → 0 < get_or ps k 0
  pub sound : (k : ℕ) → k < length ps → (get_or ps k 0 < suc (length labels)) × (get_or (l ∷ labels) (get_or ps k 0) 0 ≡ i)
  pub complete : (p : ℕ) → p < length labels → get_or labels p 0 ≡ i → (k : ℕ) × (k < length ps) × (get_or ps k 0 ≡ suc p)

abbrev lower : ℕ → ℕ
lower p = p - 1

lower_at : (ps : List ℕ) (k : ℕ) → k < length ps → get_or (map lower ps) k 0 ≡ get_or ps k 0 - 1
lower_at ps k h = get_or-map lower ps k 0 0 h

lower_length : (ps : List ℕ) → length (map lower ps) ≡ length ps
lower_length ps = length-map ps lower

picks_lower : {i l : ℕ} {labels ps : List ℕ} → PicksAfter i l labels ps → Picks i labels (map lower ps)
picks_lower {i} {l} {labels} {ps} b =
    let n : length (map lower ps) ≡ length ps = lower_length ps in
    record {
      rising = λ k h.
          let h' : k + 1 < length ps = omega (arith, n, h) in
          omega (arith, lower_at ps k (omega (arith, h')), lower_at ps (k + 1) h', b.rising k h', b.after k (omega (arith, h')));
      sound = λ k h.
          let h' : k < length ps = omega (arith, n, h) in
          let e : get_or ps k 0 ≡ suc (get_or (map lower ps) k 0) = omega (arith, lower_at ps k h', b.after k h') in
          (omega (arith, e, (b.sound k h').0), sym (ap (λ (p : ℕ). get_or (l ∷ labels) p 0) e) ∙ (b.sound k h').1);
      complete = λ p h e.
          let r : (k : ℕ) × (k < length ps) × (get_or ps k 0 ≡ suc p) = b.complete p h e in
          (r.0, omega (arith, n, r.1), omega (arith, lower_at ps r.0 r.1, r.2));
    }

lower_map : {X : Type 0} (d x : X) (xs : List X) (ps : List ℕ) → ((k : ℕ) → k < length ps → 0 < get_or ps k 0) → map (λ p. get_or (x ∷ xs) p d) ps ≡ map (λ p. get_or xs p d) (map lower ps)
lower_map d x xs [] h = refl
lower_map d x xs (zero ∷ ps) h = absurd (omega (arith, h 0 (omega arith)))
lower_map d x xs (suc p ∷ ps) h =
    let e : p ≡ suc p - 1 = omega arith in
    let t = lower_map d x xs ps (λ k l. h (suc k) (omega (arith, l))) in
    λ i. get_or xs (e i) d ∷ t i

not_front : (ps : List ℕ) (p k : ℕ) → k < suc (length ps) → get_or (zero ∷ ps) k 0 ≡ suc p → (k : ℕ) × (k < length ps) × (get_or ps k 0 ≡ suc p)
not_front ps p zero h e = absurd (omega (arith, e))
not_front ps p (suc k) h e = (k, omega (arith, h), e)

rest_rises : (x : ℕ) (xs : List ℕ) → IsStrictlyIncreasing (x ∷ xs) → IsStrictlyIncreasing xs
rest_rises x xs r k h =
    let e : suc k + 1 ≡ suc (k + 1) = omega arith in
    subst (λ (o : ℕ). get_or xs k 0 < get_or (x ∷ xs) o 0) e (r (suc k) (omega (arith, h)))

-- the places after the first, where the label i stands in front
after_first : {i l : ℕ} {labels ps : List ℕ} → Picks i (l ∷ labels) (zero ∷ ps) → PicksAfter i l labels ps
after_first {i} {l} {labels} {ps} b = record {
  rising = rest_rises zero ps b.rising;
  after = λ k h. rise_on (zero ∷ ps) b.rising 0 (suc k) (omega arith) (omega (arith, h));
  sound = λ k h. b.sound (suc k) (omega (arith, h));
  complete = λ p h e.
      let r : (k : ℕ) × (k < suc (length ps)) × (get_or (zero ∷ ps) k 0 ≡ suc p) = b.complete (suc p) (omega (arith, h)) e in
      not_front ps p r.0 r.1 r.2;
}

-- and where it doesn't
after_other : {i l : ℕ} {labels ps : List ℕ} → Picks i (l ∷ labels) ps → l ≢ i → PicksAfter i l labels ps
after_other {i} {l} {labels} {ps} b f = record {
  rising = b.rising;
  after = λ k h. elim (cases_eq (get_or ps k 0) 0) [
    | inl z ↦ absurd (f (ap (λ (p : ℕ). get_or (l ∷ labels) p 0) (sym z) ∙ (b.sound k h).1))
    | inr z ↦ omega (arith, z)
  ];
  sound = b.sound;
  complete = λ p h e. b.complete (suc p) (omega (arith, h)) e;
}

late : (p : ℕ) (ps : List ℕ) → IsStrictlyIncreasing (suc p ∷ ps) → (k : ℕ) → k < length (suc p ∷ ps) → get_or (suc p ∷ ps) k 0 ≡ 0 → ⊥
late p ps r zero h e = omega (arith, e)
late p ps r (suc k) h e = omega (arith, e, rise_on (suc p ∷ ps) r 0 (suc k) (omega arith) h)

front_at : {X : Type 0} (d x : X) (i a : ℕ) (labels : List ℕ) (xs : List X) → ((qs : List ℕ) → Picks i labels qs → labelled i labels xs ≡ at_plots d xs qs) → (ps : List ℕ) → Picks i (a ∷ labels) ps → a ≡ i → x ∷ labelled i labels xs ≡ at_plots d (x ∷ xs) ps
front_at d x i a labels xs f [] b e = absurd (omega (arith, (b.complete 0 (omega arith) e).1))
front_at {X} d x i a labels xs f (zero ∷ ps) b e =
    let r : PicksAfter i a labels ps = after_first b in
    ap (λ (o : List X). x ∷ o) (f (map lower ps) (picks_lower r) ∙ sym (lower_map d x xs ps r.after))
front_at d x i a labels xs f (suc p ∷ ps) b e =
    let r : (k : ℕ) × (k < length (suc p ∷ ps)) × (get_or (suc p ∷ ps) k 0 ≡ 0) = b.complete 0 (omega arith) e in
    absurd (late p ps b.rising r.0 r.1 r.2)

picked_at : {X : Type 0} (d : X) (i : ℕ) (labels : List ℕ) (xs : List X) (ps : List ℕ) → length xs ≡ length labels → Picks i labels ps → labelled i labels xs ≡ at_plots d xs ps
picked_at d i [] xs [] l b = refl
picked_at d i [] xs (p ∷ ps) l b = absurd (omega (arith, (b.sound 0 (omega arith)).0))
picked_at d i (a ∷ labels) [] ps l b = absurd (omega (arith, l))
picked_at {X} d i (a ∷ labels) (x ∷ xs) ps l b = elim (cases_eq a i) [
  | inl e ↦ here_step true i a labels x xs e ∙ front_at d x i a labels xs (λ qs q. picked_at d i labels xs qs (omega (arith, l)) q) ps b e
  | inr f ↦
      let r : PicksAfter i a labels ps = after_other b f in
      other_step true i a labels x xs f ∙ picked_at d i labels xs (map lower ps) (omega (arith, l)) (picks_lower r) ∙ sym (lower_map d x xs ps r.after)
]

-- a list that contains, by place
place_in : (ps : List ℕ) (p : ℕ) → Contains ps p → (k : ℕ) × (k < length ps) × (get_or ps k 0 ≡ p)
place_in ps p c = (c.0, c.1, get_or_default ps c.0 0 p c.1 ∙ c.2)

at_place : (ps : List ℕ) (k : ℕ) → k < length ps → Contains ps (get_or ps k 0)
at_place ps k h = Contains-get_or ps k 0 h

-- labels by which the parts are picked, each of which has tracks of its own
record PartLabels (rows : List Row) (parts : List (List ℕ)) : Type 0 where
  pub labels : List ℕ
  pub count : length rows ≡ length labels
  pub below : Below (length parts) labels
  pub only : (t : ℕ) → (m : ℕ) × Only t m labels rows
  pub picks : (i : ℕ) → Picks i labels (part_at parts i)

part_labels : (rows : List Row) (parts : List (List ℕ)) → AreParts rows parts → PartLabels rows parts
part_labels rows parts a =
    let b : Labels (length rows) (λ p i. (i < length parts) × Contains (part_at parts i) p) = labels_of (length rows) (λ p i. (i < length parts) × Contains (part_at parts i) p) (λ p h. let w : (i : ℕ) × (i < length parts) × Contains (part_at parts i) p = a.whole p h in (w.0, (w.1, w.2))) in
    let n : length rows ≡ length b.labels = sym b.count in
    record {
      labels = b.labels;
      count = n;
      below = below_from (length parts) b.labels (λ p h. (b.each p (omega (arith, h, n))).0);
      only = λ t. only_of t b.labels rows (λ p q h k g j. a.apart (get_or b.labels p 0) (get_or b.labels q 0) p q t (b.each p h).1 (b.each q k).1 g j);
      picks = λ i. record {
        rising = a.rising i;
        sound = λ k h.
            let p : get_or (part_at parts i) k 0 < length rows = a.inside i (get_or (part_at parts i) k 0) (at_place (part_at parts i) k h) in
            (omega (arith, p, n), a.once (get_or b.labels (get_or (part_at parts i) k 0) 0) i (get_or (part_at parts i) k 0) (b.each (get_or (part_at parts i) k 0) p).1 (at_place (part_at parts i) k h));
        complete = λ p h e. place_in (part_at parts i) p (subst (λ (j : ℕ). Contains (part_at parts j) p) e (b.each p (omega (arith, h, n))).1);
      };
    }

pub many_parts : (rows : List Row) (xs : List (Option ℕ)) (parts : List (List ℕ)) → length xs ≡ length rows → AreParts rows parts
    → ((i : ℕ) → i < length parts → IsLeast (at_plots no_row rows (part_at parts i)) (at_plots None xs (part_at parts i))) → IsLeast rows xs
many_parts rows xs parts l a f =
    let b : PartLabels rows parts = part_labels rows parts a in
    by_labels (length parts) b.labels rows xs b.below b.count (l ∙ b.count) b.only
    (λ i h.
    subst (λ (o : List Row). IsLeast o (labelled i b.labels xs)) (sym (picked_at no_row i b.labels rows (part_at parts i) b.count (b.picks i)))
    (subst (IsLeast (at_plots no_row rows (part_at parts i))) (sym (picked_at None i b.labels xs (part_at parts i) (l ∙ b.count) (b.picks i))) (f i h)))

-- the least pairing of the whole, as it falls to a part
pub least_of_part : (rows : List Row) (xs : List (Option ℕ)) (parts : List (List ℕ)) → AreParts rows parts → IsLeast rows xs → (i : ℕ) → IsLeast (at_plots no_row rows (part_at parts i)) (at_plots None xs (part_at parts i))
least_of_part rows xs parts a h i =
    let b : PartLabels rows parts = part_labels rows parts a in
    let l : length xs ≡ length rows = gate_count rows xs h.pairing.gates in
    subst (λ (o : List Row). IsLeast o (at_plots None xs (part_at parts i))) (picked_at no_row i b.labels rows (part_at parts i) b.count (b.picks i))
    (subst (IsLeast (labelled i b.labels rows)) (picked_at None i b.labels xs (part_at parts i) (l ∙ b.count) (b.picks i))
    (least_of_set (is_label i b.labels) rows xs (length-map b.labels (λ (m : ℕ). eqb m i) ∙ sym b.count) (λ t. apart_at b i t (b.only t)) h))
  where
    apart_at : (b : PartLabels rows parts) (i t : ℕ) → (m : ℕ) × Only t m b.labels rows → GatesNone t (labelled i b.labels rows) ⊎ GatesNone t (others i b.labels rows)
    apart_at b i t o = elim (cases_eq o.0 i) [
      | inl q ↦ inr (gates_none_others t i b.labels rows (subst (λ (m : ℕ). Only t m b.labels rows) q o.1))
      | inr d ↦ inl (gates_none t o.0 i b.labels rows d o.1)
    ]
