-- Indices of two tables in the one that they make, and pairings put together.
use Rattle.std.proofs.Common.{◌≡◌, ◌≢◌, ◌∙◌, ap, sym, refl, ℕ, zero, suc, ◌+◌, ◌<◌, List, [], ◌∷◌, length, map, Bool, true, false, Option, None, IsSome, arith, subst, inl, inr}
use Rattle.std.specs.Prelude.{◌⊎◌}
use Rattle.std.specs.List.{AllByRecursion}
use Rattle.std.specs.List.Sorted.{IsStrictlyIncreasing}
use Rattle.std.proofs.lemmas.List.{length-map}
use Rattle.slot_step.specs.Interleavings.{Interleaved}
use Rattle.slot_step.specs.Interleavings.Interleaved.{neither, first, second}
use Rattle.slot_step.proofs.Interleavings.{swapped}
use Rattle.assignment_dual.specs.Pairings.{IsLeast, part, GatesNone, Apart}
use Rattle.assignment_dual.specs.Renumbering.{number_at, IsRenumbered, renumbered}
use Rattle.assignment_dual.specs.Rests.{row_at}
use Rattle.assignment_dual.proofs.Renumbering.{other_numbers}
use Rattle.assignment_dual.specs.Least.{GateBelow}
use Rattle.assignment_dual.proofs.Existing.{least_pairing_is}
use Rattle.slot_step.specs.Batches.{Tracking, row, rows, entries, least, GateNone}

module _ {X : Type 0} where
  -- the indices of the first list in both
  unfoldable pub lefts : (us vs ws : List X) → Interleaved us vs ws → List ℕ
  lefts _ _ _ neither = []
  lefts _ _ _ (first x us vs ws m) = 0 ∷ map suc (lefts us vs ws m)
  lefts _ _ _ (second y us vs ws m) = map suc (lefts us vs ws m)

  unfoldable pub rights : (us vs ws : List X) → Interleaved us vs ws → List ℕ
  rights _ _ _ neither = []
  rights _ _ _ (first x us vs ws m) = map suc (rights us vs ws m)
  rights _ _ _ (second y us vs ws m) = 0 ∷ map suc (rights us vs ws m)

  pub rights_back : (us vs ws : List X) (m : Interleaved us vs ws) → rights us vs ws m ≡ lefts vs us ws (swapped us vs ws m)
  unfolding rights lefts swapped
  rights_back _ _ _ neither = refl
  rights_back _ _ _ (first x us vs ws m) = ap (map suc) (rights_back us vs ws m)
  rights_back _ _ _ (second y us vs ws m) = ap (λ (l : List ℕ). 0 ∷ map suc l) (rights_back us vs ws m)

  pub lefts_length : (us vs ws : List X) (m : Interleaved us vs ws) → length (lefts us vs ws m) ≡ length us
  unfolding lefts
  lefts_length _ _ _ neither = refl
  lefts_length _ _ _ (first x us vs ws m) = omega (arith, length-map (lefts us vs ws m) suc, lefts_length us vs ws m)
  lefts_length _ _ _ (second y us vs ws m) = length-map (lefts us vs ws m) suc ∙ lefts_length us vs ws m

-- each index is below the later ones
abbrev pub Rise : List ℕ → Type 0
Rise l = (i j : ℕ) → i < j → j < length l → number_at l i < number_at l j

pub number_suc : (l : List ℕ) (i : ℕ) → i < length l → number_at (map suc l) i ≡ suc (number_at l i)
number_suc [] i h = absurd (omega arith)
number_suc (n ∷ l) zero h = refl
number_suc (n ∷ l) (suc i) h = number_suc l i (omega arith)

rise_suc : (l : List ℕ) → Rise l → Rise (map suc l)
rise_suc l h i j lt k =
    let n : j < length l = omega (arith, length-map l suc, k) in
    omega (arith, number_suc l i (omega arith), number_suc l j n, h i j lt n)

rise_zero : (l : List ℕ) → Rise l → Rise (0 ∷ map suc l)
rise_zero l h i zero lt k = absurd (omega (arith, lt))
rise_zero l h zero (suc j) lt k = omega (arith, number_suc l j (omega (arith, k, length-map l suc)))
rise_zero l h (suc i) (suc j) lt k = rise_suc l h i j (omega (arith, lt)) (omega (arith, k))

module _ {X : Type 0} where
  pub lefts_rise : (us vs ws : List X) (m : Interleaved us vs ws) → Rise (lefts us vs ws m)
  unfolding lefts
  lefts_rise _ _ _ neither = λ i j lt k. absurd (omega (arith, k))
  lefts_rise _ _ _ (first x us vs ws m) = rise_zero (lefts us vs ws m) (lefts_rise us vs ws m)
  lefts_rise _ _ _ (second y us vs ws m) = rise_suc (lefts us vs ws m) (lefts_rise us vs ws m)

  pub lefts_increase : (us vs ws : List X) (m : Interleaved us vs ws) → IsStrictlyIncreasing (lefts us vs ws m)
  lefts_increase us vs ws m k h = lefts_rise us vs ws m k (k + 1) (omega arith) h

  -- an index is of one of the two
  pub lefts_rights : (us vs ws : List X) (m : Interleaved us vs ws) (i j : ℕ) → i < length us → j < length vs → number_at (lefts us vs ws m) i ≢ number_at (rights us vs ws m) j
  unfolding lefts rights
  lefts_rights _ _ _ neither i j h k e = absurd (omega (arith, h))
  lefts_rights _ _ _ (first x us vs ws m) zero j h k e = absurd (omega (arith, e, number_suc (rights us vs ws m) j (omega (arith, k, rights_length us vs ws m))))
    where
      rights_length : (us vs ws : List X) (m : Interleaved us vs ws) → length (rights us vs ws m) ≡ length vs
      rights_length us vs ws m = ap length (rights_back us vs ws m) ∙ lefts_length vs us ws (swapped us vs ws m)
  lefts_rights _ _ _ (first x us vs ws m) (suc i) j h k e =
      lefts_rights us vs ws m i j (omega (arith, h)) k (let a = number_suc (lefts us vs ws m) i (omega (arith, h, lefts_length us vs ws m)) in let b = number_suc (rights us vs ws m) j (omega (arith, k, ap length (rights_back us vs ws m), lefts_length vs us ws (swapped us vs ws m))) in omega (arith, e))
  lefts_rights _ _ _ (second y us vs ws m) i zero h k e = absurd (omega (arith, e, number_suc (lefts us vs ws m) i (omega (arith, h, lefts_length us vs ws m))))
  lefts_rights _ _ _ (second y us vs ws m) i (suc j) h k e =
      lefts_rights us vs ws m i j h (omega (arith, k)) (let a = number_suc (lefts us vs ws m) i (omega (arith, h, lefts_length us vs ws m)) in let b = number_suc (rights us vs ws m) j (omega (arith, k, ap length (rights_back us vs ws m), lefts_length vs us ws (swapped us vs ws m))) in omega (arith, e))

module _ {T P : Type 0} (gate : T → P → Option ℕ) where
  pub row_within : (ts : List T) (p : P) (i : ℕ) → IsSome (row gate ts p i) → i < length ts
  row_within [] p i h = cc
  row_within (t ∷ ts) p zero h = omega arith
  row_within (t ∷ ts) p (suc i) h = omega (arith, row_within ts p i h)

  row_same : (us vs ws : List T) (m : Interleaved us vs ws) (p : P) (i : ℕ) → i < length us → row gate ws p (number_at (lefts us vs ws m) i) ≡ row gate us p i
  unfolding lefts
  row_same _ _ _ neither p i h = absurd (omega (arith, h))
  row_same _ _ _ (first x us vs ws m) p zero h = refl
  row_same _ _ _ (first x us vs ws m) p (suc i) h = ap (row gate (x ∷ ws) p) (number_suc (lefts us vs ws m) i (omega (arith, h, lefts_length us vs ws m))) ∙ row_same us vs ws m p i (omega (arith, h))
  row_same _ _ _ (second y us vs ws m) p i h = ap (row gate (y ∷ ws) p) (number_suc (lefts us vs ws m) i (omega (arith, h, lefts_length us vs ws m))) ∙ row_same us vs ws m p i h

  row_named : (us vs ws : List T) (m : Interleaved us vs ws) (p : P) → AllByRecursion (λ t. gate t p ≡ None) vs → (i : ℕ) → IsSome (row gate ws p i) → (k : ℕ) × (k < length (lefts us vs ws m)) × (number_at (lefts us vs ws m) k ≡ i)
  unfolding lefts
  row_named _ _ _ neither p h i s = absurd (let n = row_within [] p i s in omega arith)
  row_named _ _ _ (first x us vs ws m) p h zero s = (0, omega arith, refl)
  row_named _ _ _ (first x us vs ws m) p h (suc i) s =
      let r : (k : ℕ) × (k < length (lefts us vs ws m)) × (number_at (lefts us vs ws m) k ≡ i) = row_named us vs ws m p h i s in
      (suc r.0, omega (arith, r.1, length-map (lefts us vs ws m) suc), number_suc (lefts us vs ws m) r.0 r.1 ∙ ap suc r.2)
  row_named _ _ _ (second y us vs ws m) p h zero s = absurd (let e = subst IsSome h.0 s in cc)
  row_named _ _ _ (second y us vs ws m) p h (suc i) s =
      let r : (k : ℕ) × (k < length (lefts us vs ws m)) × (number_at (lefts us vs ws m) k ≡ i) = row_named us vs ws m p h.1 i s in
      (r.0, omega (arith, r.1, length-map (lefts us vs ws m) suc), number_suc (lefts us vs ws m) r.0 r.1 ∙ ap suc r.2)

  -- those of the second table gate none of the first one's plots
  column : (ts : List T) (ps : List P) (p : P) → GateNone gate ts (p ∷ ps) → AllByRecursion (λ t. gate t p ≡ None) ts × GateNone gate ts ps
  column [] ps p h = (tt, tt)
  column (t ∷ ts) ps p h = let r : AllByRecursion (λ t. gate t p ≡ None) ts × GateNone gate ts ps = column ts ps p h.1 in ((h.0.0, r.0), (h.0.1, r.1))

  pub rows_length : (ts : List T) (ps : List P) → length (rows gate ts ps) ≡ length ps
  rows_length ts ps = length-map ps (row gate ts)

  each_renumbered : (us vs ws : List T) (m : Interleaved us vs ws) (ps : List P) → GateNone gate vs ps → (plot : ℕ) → plot < length (rows gate us ps) → IsRenumbered (lefts us vs ws m) (row_at (rows gate us ps) plot) (row_at (rows gate ws ps) plot)
  each_renumbered us vs ws m [] h plot lt = absurd (omega (arith, lt))
  each_renumbered us vs ws m (p ∷ ps) h zero lt = record {
    within = λ i s. omega (arith, row_within us p i s, lefts_length us vs ws m);
    same = λ i k. row_same us vs ws m p i (omega (arith, k, lefts_length us vs ws m));
    named = λ i s. row_named us vs ws m p (column vs ps p h).0 i s;
  }
  each_renumbered us vs ws m (p ∷ ps) h (suc plot) lt = each_renumbered us vs ws m ps (column vs ps p h).1 plot (omega (arith, lt))

  pub least_in_both : (us vs ws : List T) (m : Interleaved us vs ws) (ps : List P) (xs : List (Option ℕ)) → GateNone gate vs ps → IsLeast (rows gate us ps) xs → IsLeast (rows gate ws ps) (renumbered (lefts us vs ws m) xs)
  least_in_both us vs ws m ps xs h l =
      other_numbers (lefts us vs ws m) (rows gate us ps) (rows gate ws ps) xs (lefts_increase us vs ws m) (record { count = rows_length ws ps ∙ sym (rows_length us ps); each = each_renumbered us vs ws m ps h }) l

  gates_none : (ts : List T) (ps : List P) (i : ℕ) → AllByRecursion (λ p. row gate ts p i ≡ None) ps → GatesNone i (rows gate ts ps)
  gates_none ts [] i h = tt
  gates_none ts (p ∷ ps) i h = (h.0, gates_none ts ps i h.1)

  all_none : (ps : List P) (i : ℕ) → AllByRecursion (λ p. row gate [] p i ≡ None) ps
  all_none [] i = tt
  all_none (p ∷ ps) i = (refl, all_none ps i)

  gates_at : (us vs ws : List T) (m : Interleaved us vs ws) (ps qs : List P) (i : ℕ) → GateNone gate us qs → GateNone gate vs ps → AllByRecursion (λ p. row gate ws p i ≡ None) ps ⊎ AllByRecursion (λ q. row gate ws q i ≡ None) qs
  gates_at _ _ _ neither ps qs i h k = inl (all_none ps i)
  gates_at _ _ _ (first x us vs ws m) ps qs zero h k = inr h.0
  gates_at _ _ _ (first x us vs ws m) ps qs (suc i) h k = gates_at us vs ws m ps qs i h.1 k
  gates_at _ _ _ (second y us vs ws m) ps qs zero h k = inl k.0
  gates_at _ _ _ (second y us vs ws m) ps qs (suc i) h k = gates_at us vs ws m ps qs i h k.1

  pub rows_apart : (us vs ws : List T) (m : Interleaved us vs ws) (ps qs : List P) → GateNone gate us qs → GateNone gate vs ps → Apart (rows gate ws ps) (rows gate ws qs)
  rows_apart us vs ws m ps qs h k i = elim (gates_at us vs ws m ps qs i h k) [ inl a ↦ inl (gates_none ws ps i a) | inr b ↦ inr (gates_none ws qs i b) ]

-- which plots are of the first list
pub sides : {P : Type 0} (ps qs os : List P) → Interleaved ps qs os → List Bool
sides _ _ _ neither = []
sides _ _ _ (first p ps qs os m) = true ∷ sides ps qs os m
sides _ _ _ (second q ps qs os m) = false ∷ sides ps qs os m

pub sides_length : {P : Type 0} (ps qs os : List P) (m : Interleaved ps qs os) → length (sides ps qs os m) ≡ length os
unfolding sides
sides_length _ _ _ neither = refl
sides_length _ _ _ (first p ps qs os m) = ap suc (sides_length ps qs os m)
sides_length _ _ _ (second q ps qs os m) = ap suc (sides_length ps qs os m)

pub part_true : {P E : Type 0} (f : P → E) (ps qs os : List P) (m : Interleaved ps qs os) → part true (sides ps qs os m) (map f os) ≡ map f ps
unfolding sides
part_true f _ _ _ neither = refl
part_true {E = E} f _ _ _ (first p ps qs os m) = ap (λ (l : List E). f p ∷ l) (part_true f ps qs os m)
part_true f _ _ _ (second q ps qs os m) = part_true f ps qs os m

pub part_false : {P E : Type 0} (f : P → E) (ps qs os : List P) (m : Interleaved ps qs os) → part false (sides ps qs os m) (map f os) ≡ map f qs
unfolding sides
part_false f _ _ _ neither = refl
part_false f _ _ _ (first p ps qs os m) = part_false f ps qs os m
part_false {E = E} f _ _ _ (second q ps qs os m) = ap (λ (l : List E). f q ∷ l) (part_false f ps qs os m)

-- two lists of entries in the order of their plots
pub woven : {P E : Type 0} (ps qs os : List P) → Interleaved ps qs os → List E → List E → List E
woven _ _ _ neither xs ys = []
woven _ _ _ (first p ps qs os m) [] ys = []
woven _ _ _ (first p ps qs os m) (a ∷ xs) ys = a ∷ woven ps qs os m xs ys
woven _ _ _ (second q ps qs os m) xs [] = []
woven _ _ _ (second q ps qs os m) xs (b ∷ ys) = b ∷ woven ps qs os m xs ys

-- all of one pairing put together
pub record AreWoven {P : Type 0} (ps qs os : List P) (m : Interleaved ps qs os) (xs ys : List (Option ℕ)) : Type 0 where
  pub count : length (woven ps qs os m xs ys) ≡ length os
  pub one : part true (sides ps qs os m) (woven ps qs os m xs ys) ≡ xs
  pub other : part false (sides ps qs os m) (woven ps qs os m xs ys) ≡ ys
  pub mix : Interleaved (entries ps xs) (entries qs ys) (entries os (woven ps qs os m xs ys))

pub weave : {P : Type 0} (ps qs os : List P) (m : Interleaved ps qs os) (xs ys : List (Option ℕ)) → length xs ≡ length ps → length ys ≡ length qs → AreWoven ps qs os m xs ys
unfolding sides woven
weave _ _ _ neither [] [] h k = record { count = refl; one = refl; other = refl; mix = neither }
weave _ _ _ neither (a ∷ xs) ys h k = absurd (omega (arith, h))
weave _ _ _ neither [] (b ∷ ys) h k = absurd (omega (arith, k))
weave _ _ _ (first p ps qs os m) [] ys h k = absurd (omega (arith, h))
weave _ _ _ (first p ps qs os m) (a ∷ xs) ys h k =
    let r : AreWoven ps qs os m xs ys = weave ps qs os m xs ys (omega (arith, h)) k in
    record { count = ap suc r.count; one = ap (λ (l : List (Option ℕ)). a ∷ l) r.one; other = r.other; mix = first (p, a) _ _ _ r.mix }
weave _ _ _ (second q ps qs os m) xs [] h k = absurd (omega (arith, k))
weave _ _ _ (second q ps qs os m) xs (b ∷ ys) h k =
    let r : AreWoven ps qs os m xs ys = weave ps qs os m xs ys h (omega (arith, k)) in
    record { count = ap suc r.count; one = r.one; other = ap (λ (l : List (Option ℕ)). b ∷ l) r.other; mix = second (q, b) _ _ _ r.mix }

-- only the tracks of the table gate
rows_below : {T P : Type 0} (gate : T → P → Option ℕ) (ts : List T) (ps : List P) → GateBelow (length ts) (rows gate ts ps)
rows_below gate ts [] zero t l g = absurd (omega (arith, l))
rows_below gate ts [] (suc i) t l g = absurd (omega (arith, l))
rows_below gate ts (p ∷ ps) zero t l g = row_within gate ts p t g
rows_below gate ts (p ∷ ps) (suc i) t l g = rows_below gate ts ps i t (omega (arith, l)) g

pub least_is : {T P : Type 0} (k : Tracking T P) (ts : List T) (ps : List P) → IsLeast (rows k.gate ts ps) (least k ts ps)
least_is k ts ps = least_pairing_is (length ts) (rows k.gate ts ps) (rows_below k.gate ts ps)
