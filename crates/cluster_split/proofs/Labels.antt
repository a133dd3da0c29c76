-- How labels go on when a way is made shorter, and when two sets become one.
use Rattle.std.proofs.Common.{◌≡◌, ◌≢◌, ℕ, ◌+◌, ◌-◌, ◌<◌, ◌≤◌, List, length, get_or, set, arith, refl, sym, ◌∙◌, ap, subst, inl, inr, min, max, cond, get_or-set_same, get_or-set_other, length-set, eqb}
use Rattle.std.proofs.lemmas.Bool.{cases_eq, cases_lt, cond_both, eqb-true, eqb-false}
use Rattle.std.proofs.lemmas.List.{get_or_default}
use Rattle.std.proofs.lemmas.List.Elements.{Contains-get_or, All-contains}
use Rattle.std.specs.List.{Contains, All}
use Rattle.std.specs.List.Sorted.{IsNonDecreasingBy}
use Rattle.cluster_split.specs.Walks.{AreConnected, ShareTrack, plot_at, track_at}
use Rattle.cluster_split.specs.Leasts.{Falls, IsLabelled, merged, HasLabels, AreLeasts}
use Rattle.cluster_split.proofs.Walking.{itself, joined, back, step, same_along}

-- what holds of each number after a write
pub after_set : (P : ℕ → ℕ → Type 0) (xs : List ℕ) (i v : ℕ) → i < length xs → P i v → ((p : ℕ) → p < length xs → p ≢ i → P p (get_or xs p 0)) → (p : ℕ) → p < length (set xs i v) → P p (get_or (set xs i v) p 0)
after_set P xs i v lt here else' p in' =
    elim (cases_eq p i) [
      | inl e ↦ subst (λ q. P q (get_or (set xs i v) q 0)) (sym e) (subst (P i) (sym (get_or-set_same xs i v 0 lt)) here)
      | inr ne ↦ subst (P p) (sym (get_or-set_other xs i p v 0 ne)) (else' p (let e = length-set xs i v in omega (arith, e, in')) ne)
    ]

pub falls_set : (xs : List ℕ) (i v : ℕ) → Falls xs → i < length xs → v ≤ i → Falls (set xs i v)
falls_set xs i v falls lt le = after_set (λ p x. x ≤ p) xs i v lt le (λ p h ne. falls p h)

-- the way from i skips a plot
pub skipped : (xs : List ℕ) (label : ℕ → ℕ) (i : ℕ) → Falls xs → i < length xs → IsLabelled xs label → IsLabelled (set xs i (get_or xs (get_or xs i 0) 0)) label
skipped xs label i falls lt h =
    let down = falls i lt in
    let next : get_or xs i 0 < length xs = omega (arith, down, lt) in
    let twice = falls (get_or xs i 0) next in
    record {
      kept = after_set (λ p x. label x ≡ label p) xs i _ lt (h.kept (get_or xs i 0) next ∙ h.kept i lt) (λ p q ne. h.kept p q);
      ends = after_set (λ p x. x ≡ p → label p ≡ p) xs i _ lt (λ e. h.ends i lt (omega (arith, down, twice, e))) (λ p q ne. h.ends p q);
    }

-- cases of a merged label
pub merged_cases : (P : ℕ → Type 0) (a b : ℕ) (label : ℕ → ℕ) (p : ℕ) → (label p ≡ max a b → P (min a b)) → (label p ≢ max a b → P (label p)) → P (merged a b label p)
merged_cases P a b label p h k = cond_both (eqb (label p) (max a b)) (min a b) (label p) P (λ e. h (eqb-true _ _ e)) (λ e. k (eqb-false _ _ e))

pub merged_same : (a b : ℕ) (label : ℕ → ℕ) (p q : ℕ) → label p ≡ label q → merged a b label p ≡ merged a b label q
merged_same a b label p q e = ap (λ x. cond (eqb x (max a b)) (min a b) x) e

fixed_max : (f : ℕ → ℕ) (a b : ℕ) → f a ≡ a → f b ≡ b → f (max a b) ≡ max a b
fixed_max f a b g h =
    elim (cases_lt a b) [
      | inl lt ↦ let e : max a b ≡ b = omega arith in subst (λ x. f x ≡ x) (sym e) h
      | inr ge ↦ let e : max a b ≡ a = omega arith in subst (λ x. f x ≡ x) (sym e) g
    ]

fixed_min : (f : ℕ → ℕ) (a b : ℕ) → f a ≡ a → f b ≡ b → f (min a b) ≡ min a b
fixed_min f a b g h =
    elim (cases_lt a b) [
      | inl lt ↦ let e : min a b ≡ a = omega arith in subst (λ x. f x ≡ x) (sym e) g
      | inr ge ↦ let e : min a b ≡ b = omega arith in subst (λ x. f x ≡ x) (sym e) h
    ]

-- the ends a and b are put one below the other
pub put_below : (xs : List ℕ) (label : ℕ → ℕ) (a b : ℕ) → a < length xs → b < length xs → label a ≡ a → label b ≡ b → IsLabelled xs label → IsLabelled (set xs (max a b) (min a b)) (merged a b label)
put_below xs label a b la lb ea eb h =
    let lt : max a b < length xs = omega arith in
    let top = fixed_max label a b ea eb in
    let low = fixed_min label a b ea eb in
    record {
      kept = after_set (λ p x. merged a b label x ≡ merged a b label p) xs (max a b) (min a b) lt
          (merged_cases (λ x. x ≡ merged a b label (max a b)) a b label (min a b)
          (λ e. merged_cases (λ y. min a b ≡ y) a b label (max a b) (λ _. refl) (λ ne. absurd (ne top)))
          (λ ne. merged_cases (λ y. label (min a b) ≡ y) a b label (max a b) (λ _. low) (λ ne'. absurd (ne' top))))
          (λ p q ne. merged_same a b label (get_or xs p 0) p (h.kept p q));
      ends = after_set (λ p x. x ≡ p → merged a b label p ≡ p) xs (max a b) (min a b) lt
          (λ e. merged_cases (λ y. y ≡ max a b) a b label (max a b) (λ _. e) (λ ne. top))
          (λ p q ne e. merged_cases (λ y. y ≡ p) a b label p (λ k. absurd (ne (sym (h.ends p q e) ∙ k))) (λ _. h.ends p q e));
    }

either_way : (R : ℕ → ℕ → Type 0) (a b : ℕ) → R a b → R b a → R (max a b) (min a b)
either_way R a b h k =
    elim (cases_lt a b) [
      | inl lt ↦ let e : max a b ≡ b = omega arith in let f : min a b ≡ a = omega arith in subst (λ x. R x (min a b)) (sym e) (subst (R b) (sym f) k)
      | inr ge ↦ let e : max a b ≡ a = omega arith in let f : min a b ≡ b = omega arith in subst (λ x. R x (min a b)) (sym e) (subst (R a) (sym f) h)
    ]

merged_first : (a b : ℕ) (label : ℕ → ℕ) (p : ℕ) → label p ≡ a → merged a b label p ≡ min a b
merged_first a b label p e = merged_cases (λ x. x ≡ min a b) a b label p (λ _. refl) (λ ne. omega (arith, e, ne))

merged_second : (a b : ℕ) (label : ℕ → ℕ) (p : ℕ) → label p ≡ b → merged a b label p ≡ min a b
merged_second a b label p e = merged_cases (λ x. x ≡ min a b) a b label p (λ _. refl) (λ ne. omega (arith, e, ne))

-- the edge at n joins those of its track before it
joined_more : (edges : List (ℕ × ℕ)) (n : ℕ) (label : ℕ → ℕ)
    → ((i j : ℕ) → i < n → j < n → track_at edges i ≡ track_at edges j → label (plot_at edges i) ≡ label (plot_at edges j))
    → ((i : ℕ) → i < n → track_at edges i ≡ track_at edges n → label (plot_at edges i) ≡ label (plot_at edges n))
    → (i j : ℕ) → i < n + 1 → j < n + 1 → track_at edges i ≡ track_at edges j → label (plot_at edges i) ≡ label (plot_at edges j)
joined_more edges n label h k i j li lj e =
    elim (cases_lt i n) [
      | inl lt ↦ elim (cases_lt j n) [
        | inl lt' ↦ h i j lt lt' e
        | inr ge' ↦ let is : j ≡ n = omega arith in subst (λ m. label (plot_at edges i) ≡ label (plot_at edges m)) (sym is) (k i lt (subst (λ m. track_at edges i ≡ track_at edges m) is e))
      ]
      | inr ge ↦ let at : i ≡ n = omega arith in subst (λ m. label (plot_at edges m) ≡ label (plot_at edges j)) (sym at) (
          elim (cases_lt j n) [
            | inl lt' ↦ sym (k j lt' (sym (subst (λ m. track_at edges m ≡ track_at edges j) at e)))
            | inr ge' ↦ let is : j ≡ n = omega arith in subst (λ m. label (plot_at edges n) ≡ label (plot_at edges m)) (sym is) refl
          ])
    ]

-- the edge at n has the track of the one before it, and their plots were joined
pub one_more_joined : (edges : List (ℕ × ℕ)) (n : ℕ) (before after : List ℕ) → 0 < n → n < length edges → track_at edges (n - 1) ≡ track_at edges n
    → ((label : ℕ → ℕ) → IsLabelled before label → IsLabelled after (merged (label (plot_at edges (n - 1))) (label (plot_at edges n)) label))
    → HasLabels edges n before → HasLabels edges (n + 1) after
one_more_joined edges n before after some lt same to h =
    let first = plot_at edges (n - 1) in
    let second = plot_at edges n in
    let a = h.label first in
    let b = h.label second in
    let share : ShareTrack edges first second = record {
      track = track_at edges n;
      one = subst (λ t. Contains edges (first, t)) same (Contains-get_or edges (n - 1) (0, 0) (omega arith));
      other = Contains-get_or edges n (0, 0) lt;
    } in
    let link : AreConnected edges a b = joined (back (h.connected first)) (joined (step share) (h.connected second)) in
    let down : AreConnected edges (max a b) (min a b) = either_way (AreConnected edges) a b link (back link) in
    record {
      label = merged a b h.label;
      labelled = to h.label h.labelled;
      below = λ p. merged_cases (λ x. x ≤ p) a b h.label p (λ e. omega (arith, h.below p, e)) (λ _. h.below p);
      connected = λ p. merged_cases (AreConnected edges p) a b h.label p (λ e. joined (subst (AreConnected edges p) e (h.connected p)) down) (λ _. h.connected p);
      joined = joined_more edges n (merged a b h.label)
          (λ i j li lj e. merged_same a b h.label _ _ (h.joined i j li lj e))
          (λ i li e. merged_same a b h.label _ _ (h.joined i (n - 1) li (omega arith) (e ∙ sym same)) ∙ merged_first a b h.label first refl ∙ sym (merged_second a b h.label second refl));
    }

-- the edge at n has another track than the one before it
pub one_more_apart : (edges : List (ℕ × ℕ)) (n : ℕ) (lower : List ℕ) → 0 < n → n < length edges → IsNonDecreasingBy (λ e. e.1) edges → track_at edges (n - 1) ≢ track_at edges n → HasLabels edges n lower → HasLabels edges (n + 1) lower
one_more_apart edges n lower some lt sorted ne h = record {
  label = h.label;
  labelled = h.labelled;
  below = h.below;
  connected = h.connected;
  joined = joined_more edges n h.label h.joined (λ i li e. absurd (omega (arith, ne, e, sorted i (n - 1) (0, 0) (omega arith) (omega arith), sorted (n - 1) n (0, 0) (omega arith) lt)));
}

pub first_edge : (edges : List (ℕ × ℕ)) (lower : List ℕ) → HasLabels edges 0 lower → HasLabels edges 1 lower
first_edge edges lower h = record {
  label = h.label;
  labelled = h.labelled;
  below = h.below;
  connected = h.connected;
  joined = joined_more edges 0 h.label h.joined (λ i li e. absurd (omega (arith, li)));
}

pub fewer_edges : (edges : List (ℕ × ℕ)) (m n : ℕ) (lower : List ℕ) → m ≤ n → HasLabels edges n lower → HasLabels edges m lower
fewer_edges edges m n lower le h = record {
  label = h.label;
  labelled = h.labelled;
  below = h.below;
  connected = h.connected;
  joined = λ i j li lj. h.joined i j (omega arith) (omega arith);
}

-- at first each plot is its own label
pub own_labels : (edges : List (ℕ × ℕ)) (lower : List ℕ) → ((p : ℕ) → p < length lower → get_or lower p 0 ≡ p) → HasLabels edges 0 lower
own_labels edges lower same = record {
  label = λ p. p;
  labelled = record { kept = same; ends = λ p h e. refl };
  below = λ p. omega arith;
  connected = itself edges;
  joined = λ i j li lj e. absurd (omega (arith, li));
}

-- the same where the ends are the labels of two plots, and the greater and the lesser are told by name
pub ends_joined : (xs : List ℕ) (label : ℕ → ℕ) (p q a b m n : ℕ) → a < length xs → b < length xs → a ≡ label p → b ≡ label q → label a ≡ a → label b ≡ b → m ≡ max a b → n ≡ min a b → IsLabelled xs label
    → IsLabelled (set xs m n) (merged (label p) (label q) label)
ends_joined xs label p q a b m n la lb ea eb fa fb em en h =
    subst (λ x. IsLabelled (set xs m n) (merged x (label q) label)) ea
    (subst (λ x. IsLabelled (set xs m n) (merged a x label)) eb
    (subst (λ x. IsLabelled (set xs x n) (merged a b label)) (sym em)
    (subst (λ x. IsLabelled (set xs (max a b) x) (merged a b label)) (sym en) (put_below xs label a b la lb fa fb h))))

-- a plot that stands below one that is settled is settled
flat_at : (xs : List ℕ) (label : ℕ → ℕ) (i : ℕ) → Falls xs → IsLabelled xs label → i < length xs → ((p : ℕ) → p < i → get_or xs p 0 ≡ label p) → get_or xs (get_or xs i 0) 0 ≡ label i
flat_at xs label i falls h lt flat =
    elim (cases_eq (get_or xs i 0) i) [
      | inl e ↦ subst (λ q. get_or xs q 0 ≡ label i) (sym e) (e ∙ sym (h.ends i lt e))
      | inr ne ↦ flat (get_or xs i 0) (omega (arith, falls i lt, ne)) ∙ h.kept i lt
    ]

-- one more plot is settled
pub flat_more : (xs : List ℕ) (label : ℕ → ℕ) (i : ℕ) → Falls xs → IsLabelled xs label → i < length xs → ((p : ℕ) → p < i → get_or xs p 0 ≡ label p)
    → (p : ℕ) → p < i + 1 → get_or (set xs i (get_or xs (get_or xs i 0) 0)) p 0 ≡ label p
flat_more xs label i falls h lt flat p in' =
    elim (cases_eq p i) [
      | inl e ↦ subst (λ q. get_or (set xs i (get_or xs (get_or xs i 0) 0)) q 0 ≡ label q) (sym e) (get_or-set_same xs i _ 0 lt ∙ flat_at xs label i falls h lt flat)
      | inr ne ↦ get_or-set_other xs i p _ 0 ne ∙ flat p (omega (arith, ne, in'))
    ]

pub twice_down : (xs : List ℕ) (i : ℕ) → Falls xs → i < length xs → get_or xs (get_or xs i 0) 0 ≤ i
twice_down xs i falls lt = let down = falls i lt in omega (arith, down, falls (get_or xs i 0) (omega (arith, down, lt)))

-- where an edge stands
pub edge_place : (edges : List (ℕ × ℕ)) (p track : ℕ) → Contains edges (p, track) → (i : ℕ) × (i < length edges) × (plot_at edges i ≡ p) × (track_at edges i ≡ track)
edge_place edges p track h =
    let e : get_or edges h.0 (0, 0) ≡ (p, track) = get_or_default edges h.0 (0, 0) (p, track) h.1 ∙ h.2 in
    (h.0, h.1, (λ i. (e i).0), (λ i. (e i).1))

-- what the sets of all edges are, when each plot has its label below it
pub leasts_of_labels : (edges : List (ℕ × ℕ)) (xs : List ℕ) (n : ℕ) → n ≡ length xs → All (λ e. e.0 < n) edges → (h : HasLabels edges (length edges) xs) → (ys : List ℕ) → length ys ≡ n → ((p : ℕ) → p < length ys → get_or ys p 0 ≡ h.label p) → AreLeasts n edges ys
leasts_of_labels edges xs n long in' h ys same flat =
    let below : (p : ℕ) → p < n → get_or ys p 0 ≤ p = λ p lt. omega (arith, flat p (omega (arith, same, lt)), h.below p) in
    let joined' : (p q track : ℕ) → Contains edges (p, track) → Contains edges (q, track) → get_or ys p 0 ≡ get_or ys q 0 = λ p q track c d.
    let one = edge_place edges p track c in
    let other = edge_place edges q track d in
    let p-in : p < n = All-contains (λ e. e.0 < n) edges (p, track) in' c in
    let q-in : q < n = All-contains (λ e. e.0 < n) edges (q, track) in' d in
    flat p (omega (arith, same, p-in))
    ∙ sym (ap h.label one.2) ∙ h.joined one.0 other.0 one.1 other.1 (one.3 ∙ sym other.3) ∙ ap h.label other.2
    ∙ sym (flat q (omega (arith, same, q-in))) in
    let connected' : (p : ℕ) → p < n → AreConnected edges p (get_or ys p 0) = λ p lt. subst (AreConnected edges p) (sym (flat p (omega (arith, same, lt)))) (h.connected p) in
    record {
      long = same;
      below = below;
      connected = connected';
      joined = joined';
      settled = λ p lt. sym (same_along (λ q. get_or ys q 0) (λ a b s. joined' a b s.track s.one s.other) (connected' p lt));
    }
