-- A batch, and the table_at of a slot, in two parts.
use Rattle.std.proofs.Common.{◌≡◌, ◌≢◌, ◌∙◌, ap, sym, refl, ℕ, zero, suc, ◌<◌, List, [], ◌∷◌, ◌++◌, append-nil, length, Bool, true, false, cond, eqb, Option, Some, None, arith, subst, inl, inr}
use Rattle.std.proofs.lemmas.List.{length-map}
use Rattle.std.proofs.lemmas.Bool.{eqb-true, cond_both, eq-eqb, cases_eq, cases_lt}
use Rattle.slot_step.specs.Interleavings.{Interleaved}
use Rattle.slot_step.specs.Interleavings.Interleaved.{neither, first, second}
use Rattle.slot_step.proofs.Interleavings.{swapped, both_filter, both_append}
use Rattle.assignment_dual.specs.Pairings.{Row, AllGate, IsLeast, part, Apart}
use Rattle.assignment_dual.specs.Renumbering.{number_at, renumbered}
use Rattle.assignment_dual.proofs.Sets.{two_sets}
use Rattle.assignment_dual.proofs.Unique.{gate_count, one_least}
use Rattle.slot_step.specs.Batches.{Tracking, row, rows, entries, least, paired_plot, with_plot, updated_tracks, begun_tracks, batch_step, of_radar, table_at, GateNone}
use Rattle.slot_step.proofs.Weaving.{lefts, rights, rights_back, lefts_length, Rise, lefts_rise, number_suc, lefts_rights, row_within, rows_length, least_in_both, rows_apart, sides, sides_length, part_true, part_false, woven, AreWoven, weave, least_is}

-- each track that is named has a place below n
abbrev pub Below : ℕ → List (Option ℕ) → Type 0
Below n [] = Unit {0}
Below n (None ∷ xs) = Below n xs
Below n (Some j ∷ xs) = (j < n) × Below n xs

abbrev pub Unnamed : {P : Type 0} → ℕ → List (P × Option ℕ) → Type 0
Unnamed i [] = Unit {0}
Unnamed i ((p, None) ∷ es) = Unnamed i es
Unnamed i ((p, Some j) ∷ es) = (j ≢ i) × Unnamed i es

pub eqb_not : (i j : ℕ) → i ≢ j → eqb i j ≡ false
eqb_not i j n = cond_both (eqb i j) true false (λ b. eqb i j ≡ b → eqb i j ≡ false) (λ t q. absurd (n (eqb-true i j t))) (λ t q. t) (is_cond (eqb i j))
  where
    is_cond : (b : Bool) → b ≡ cond b true false
    is_cond true = refl
    is_cond false = refl

plot_other : {P : Type 0} (i : ℕ) (us vs ws : List (P × Option ℕ)) → Interleaved us vs ws → Unnamed i vs → paired_plot ws i ≡ paired_plot us i
plot_other i _ _ _ neither h = refl
plot_other i _ _ _ (first (p, None) us vs ws m) h = plot_other i us vs ws m h
plot_other i _ _ _ (first (p, Some j) us vs ws m) h = ap (cond (eqb j i) (Some p)) (plot_other i us vs ws m h)
plot_other i _ _ _ (second (p, None) us vs ws m) h = plot_other i us vs ws m h
plot_other i _ _ _ (second (p, Some j) us vs ws m) h = ap (λ b. cond b (Some p) (paired_plot ws i)) (eqb_not j i h.0) ∙ plot_other i us vs ws m h.1

same_test : (l : List ℕ) → Rise l → (i j : ℕ) → i < length l → j < length l → eqb (number_at l j) (number_at l i) ≡ eqb j i
same_test l r i j h k = elim (cases_eq j i) [
  | inl e ↦ eq-eqb _ _ (ap (number_at l) e) ∙ sym (eq-eqb j i e)
  | inr n ↦ elim (cases_lt j i) [
    | inl lt ↦ let d = r j i lt h in eqb_not _ _ (λ e. omega (arith, e, d)) ∙ sym (eqb_not j i n)
    | inr le ↦ let d = r i j (omega (arith, n, le)) k in eqb_not _ _ (λ e. omega (arith, e, d)) ∙ sym (eqb_not j i n)
  ]
]

plot_renumbered : {P : Type 0} (l : List ℕ) → Rise l → (ps : List P) (xs : List (Option ℕ)) (i : ℕ) → i < length l → Below (length l) xs → paired_plot (entries ps (renumbered l xs)) (number_at l i) ≡ paired_plot (entries ps xs) i
plot_renumbered l r [] xs i h b = refl
plot_renumbered l r (p ∷ ps) [] i h b = refl
plot_renumbered l r (p ∷ ps) (None ∷ xs) i h b = plot_renumbered l r ps xs i h b
plot_renumbered {P} l r (p ∷ ps) (Some j ∷ xs) i h b = λ k. cond (same_test l r i j h b.0 k) (Some p) (plot_renumbered l r ps xs i h b.1 k)

unnamed_other : {P : Type 0} (l : List ℕ) (n i : ℕ) (ps : List P) (xs : List (Option ℕ)) → ((j : ℕ) → j < n → number_at l j ≢ i) → Below n xs → Unnamed i (entries ps (renumbered l xs))
unnamed_other l n i [] xs f b = tt
unnamed_other l n i (p ∷ ps) [] f b = tt
unnamed_other l n i (p ∷ ps) (None ∷ xs) f b = unnamed_other l n i ps xs f b
unnamed_other l n i (p ∷ ps) (Some j ∷ xs) f b = (f j b.0, unnamed_other l n i ps xs f b.1)

begun_mix : {T P : Type 0} (begin : P → T) (us vs ws : List (P × Option ℕ)) → Interleaved us vs ws → Interleaved (begun_tracks begin us) (begun_tracks begin vs) (begun_tracks begin ws)
begun_mix begin _ _ _ neither = neither
begun_mix begin _ _ _ (first (p, None) us vs ws m) = first (begin p) _ _ _ (begun_mix begin us vs ws m)
begun_mix begin _ _ _ (first (p, Some j) us vs ws m) = begun_mix begin us vs ws m
begun_mix begin _ _ _ (second (p, None) us vs ws m) = second (begin p) _ _ _ (begun_mix begin us vs ws m)
begun_mix begin _ _ _ (second (p, Some j) us vs ws m) = begun_mix begin us vs ws m

begun_renumbered : {T P : Type 0} (begin : P → T) (l : List ℕ) (ps : List P) (xs : List (Option ℕ)) → begun_tracks begin (entries ps (renumbered l xs)) ≡ begun_tracks begin (entries ps xs)
begun_renumbered begin l [] xs = refl
begun_renumbered begin l (p ∷ ps) [] = refl
begun_renumbered {T} begin l (p ∷ ps) (None ∷ xs) = ap (λ (ts : List T). begin p ∷ ts) (begun_renumbered begin l ps xs)
begun_renumbered begin l (p ∷ ps) (Some j ∷ xs) = begun_renumbered begin l ps xs

updated_mix : {T P : Type 0} (update : T → P → T) (us vs ws : List T) (m : Interleaved us vs ws) (f g h : ℕ → Option P)
    → ((i : ℕ) → i < length us → h (number_at (lefts us vs ws m) i) ≡ f i) → ((i : ℕ) → i < length vs → h (number_at (rights us vs ws m) i) ≡ g i)
    → Interleaved (updated_tracks update f us) (updated_tracks update g vs) (updated_tracks update h ws)
unfolding lefts rights
updated_mix update _ _ _ neither f g h a b = neither
updated_mix {T} update _ _ _ (first x us vs ws m) f g h a b =
    let tail : Interleaved (updated_tracks update (λ i. f (suc i)) us) (updated_tracks update g vs) (updated_tracks update (λ i. h (suc i)) ws) =
    updated_mix update us vs ws m (λ i. f (suc i)) g (λ i. h (suc i))
    (λ i k. ap h (sym (number_suc (lefts us vs ws m) i (omega (arith, k, lefts_length us vs ws m)))) ∙ a (suc i) (omega (arith, k)))
    (λ i k. ap h (sym (number_suc (rights us vs ws m) i (omega (arith, k, ap length (rights_back us vs ws m), lefts_length vs us ws (swapped us vs ws m))))) ∙ b i k) in
    subst (λ (t : T). Interleaved (updated_tracks update f (x ∷ us)) (updated_tracks update g vs) (t ∷ updated_tracks update (λ i. h (suc i)) ws)) (ap (with_plot update x) (sym (a 0 (omega arith)))) (first (with_plot update x (f 0)) _ _ _ tail)
updated_mix {T} update _ _ _ (second y us vs ws m) f g h a b =
    let tail : Interleaved (updated_tracks update f us) (updated_tracks update (λ i. g (suc i)) vs) (updated_tracks update (λ i. h (suc i)) ws) =
    updated_mix update us vs ws m f (λ i. g (suc i)) (λ i. h (suc i))
    (λ i k. ap h (sym (number_suc (lefts us vs ws m) i (omega (arith, k, lefts_length us vs ws m)))) ∙ a i k)
    (λ i k. ap h (sym (number_suc (rights us vs ws m) i (omega (arith, k, ap length (rights_back us vs ws m), lefts_length vs us ws (swapped us vs ws m))))) ∙ b (suc i) (omega (arith, k))) in
    subst (λ (t : T). Interleaved (updated_tracks update f us) (updated_tracks update g (y ∷ vs)) (t ∷ updated_tracks update (λ i. h (suc i)) ws)) (ap (with_plot update y) (sym (b 0 (omega arith)))) (second (with_plot update y (g 0)) _ _ _ tail)

module _ {T P : Type 0} (k : Tracking T P) where
  pub least_length : (ts : List T) (ps : List P) → length (least k ts ps) ≡ length ps
  least_length ts ps = gate_count (rows k.gate ts ps) (least k ts ps) (least_is k ts ps).pairing.gates ∙ rows_length k.gate ts ps

  below_all : (ts : List T) (ps : List P) (xs : List (Option ℕ)) → AllGate (rows k.gate ts ps) xs → Below (length ts) xs
  below_all ts [] [] h = tt
  below_all ts [] (x ∷ xs) h = absurd h
  below_all ts (p ∷ ps) [] h = tt
  below_all ts (p ∷ ps) (None ∷ xs) h = below_all ts ps xs h.1
  below_all ts (p ∷ ps) (Some j ∷ xs) h = (row_within k.gate ts p j h.0, below_all ts ps xs h.1)

  pub below : (ts : List T) (ps : List P) → Below (length ts) (least k ts ps)
  below ts ps = below_all ts ps (least k ts ps) (least_is k ts ps).pairing.gates

  -- both tables' pairings, in the places of the whole
  unfoldable pub pairing_of_both : (us vs ws : List T) → Interleaved us vs ws → (ps qs os : List P) → Interleaved ps qs os → List (Option ℕ)
  pairing_of_both us vs ws m ps qs os n = woven ps qs os n (renumbered (lefts us vs ws m) (least k us ps)) (renumbered (rights us vs ws m) (least k vs qs))

  pub wove : (us vs ws : List T) (m : Interleaved us vs ws) (ps qs os : List P) (n : Interleaved ps qs os) → AreWoven ps qs os n (renumbered (lefts us vs ws m) (least k us ps)) (renumbered (rights us vs ws m) (least k vs qs))
  wove us vs ws m ps qs os n = weave ps qs os n _ _ (length-map (least k us ps) _ ∙ least_length us ps) (length-map (least k vs qs) _ ∙ least_length vs qs)

  pub least_of_both : (us vs ws : List T) (m : Interleaved us vs ws) (ps qs os : List P) (n : Interleaved ps qs os) → GateNone k.gate us qs → GateNone k.gate vs ps → least k ws os ≡ pairing_of_both us vs ws m ps qs os n
  unfolding pairing_of_both
  least_of_both us vs ws m ps qs os n hu hv =
      let xs = renumbered (lefts us vs ws m) (least k us ps) in
      let ys = renumbered (rights us vs ws m) (least k vs qs) in
      let zs = woven ps qs os n xs ys in
      let w : AreWoven ps qs os n xs ys = wove us vs ws m ps qs os n in
      let a : IsLeast (rows k.gate ws ps) xs = least_in_both k.gate us vs ws m ps (least k us ps) hv (least_is k us ps) in
      let b : IsLeast (rows k.gate ws qs) ys = subst (λ l. IsLeast (rows k.gate ws qs) (renumbered l (least k vs qs))) (sym (rights_back us vs ws m)) (least_in_both k.gate vs us ws (swapped us vs ws m) qs (least k vs qs) hu (least_is k vs qs)) in
      let s = sides ps qs os n in
      let t : part true s (rows k.gate ws os) ≡ rows k.gate ws ps = part_true (row k.gate ws) ps qs os n in
      let f : part false s (rows k.gate ws os) ≡ rows k.gate ws qs = part_false (row k.gate ws) ps qs os n in
      one_least (rows k.gate ws os) (least k ws os) zs (least_is k ws os)
      (two_sets s (rows k.gate ws os) zs (sides_length ps qs os n ∙ sym (rows_length k.gate ws os)) (w.count ∙ sym (rows_length k.gate ws os))
      (subst (λ (r : List Row). Apart r (part false s (rows k.gate ws os))) (sym t) (subst (λ (r : List Row). Apart (rows k.gate ws ps) r) (sym f) (rows_apart k.gate us vs ws m ps qs hu hv)))
      (subst (λ (r : List Row). IsLeast r (part true s zs)) (sym t) (subst (λ (x : List (Option ℕ)). IsLeast (rows k.gate ws ps) x) (sym w.one) a))
      (subst (λ (r : List Row). IsLeast r (part false s zs)) (sym f) (subst (λ (x : List (Option ℕ)). IsLeast (rows k.gate ws qs) x) (sym w.other) b)))

  rights_length : (us vs ws : List T) (m : Interleaved us vs ws) → length (rights us vs ws m) ≡ length vs
  rights_length us vs ws m = ap length (rights_back us vs ws m) ∙ lefts_length vs us ws (swapped us vs ws m)

  rights_rise : (us vs ws : List T) (m : Interleaved us vs ws) → Rise (rights us vs ws m)
  rights_rise us vs ws m = subst Rise (sym (rights_back us vs ws m)) (lefts_rise vs us ws (swapped us vs ws m))

  -- the batch of both is the two table_at put together
  pub batch_mix : (us vs ws : List T) → Interleaved us vs ws → (ps qs os : List P) → Interleaved ps qs os → GateNone k.gate us qs → GateNone k.gate vs ps → Interleaved (batch_step k us ps) (batch_step k vs qs) (batch_step k ws os)
  unfolding batch_step pairing_of_both
  batch_mix us vs ws m ps qs os n hu hv =
      let xs = renumbered (lefts us vs ws m) (least k us ps) in
      let ys = renumbered (rights us vs ws m) (least k vs qs) in
      let zs = woven ps qs os n xs ys in
      let w : AreWoven ps qs os n xs ys = wove us vs ws m ps qs os n in
      let n_left : length (lefts us vs ws m) ≡ length us = lefts_length us vs ws m in
      let n_right : length (rights us vs ws m) ≡ length vs = rights_length us vs ws m in
      let old : Interleaved (updated_tracks k.update (paired_plot (entries ps (least k us ps))) us) (updated_tracks k.update (paired_plot (entries qs (least k vs qs))) vs) (updated_tracks k.update (paired_plot (entries os zs)) ws) =
      updated_mix k.update us vs ws m _ _ _
      (λ i h. plot_other (number_at (lefts us vs ws m) i) _ _ _ w.mix (unnamed_other (rights us vs ws m) (length vs) _ qs (least k vs qs) (λ j l e. lefts_rights us vs ws m i j h l (sym e)) (below vs qs))
      ∙ plot_renumbered (lefts us vs ws m) (lefts_rise us vs ws m) ps (least k us ps) i (omega (arith, h, n_left)) (subst (λ c. Below c (least k us ps)) (sym n_left) (below us ps)))
      (λ i h. plot_other (number_at (rights us vs ws m) i) _ _ _ (swapped _ _ _ w.mix) (unnamed_other (lefts us vs ws m) (length us) _ ps (least k us ps) (λ j l e. lefts_rights us vs ws m j i l h e) (below us ps))
      ∙ plot_renumbered (rights us vs ws m) (rights_rise us vs ws m) qs (least k vs qs) i (omega (arith, h, n_right)) (subst (λ c. Below c (least k vs qs)) (sym n_right) (below vs qs))) in
      let new : Interleaved (begun_tracks k.begin (entries ps (least k us ps))) (begun_tracks k.begin (entries qs (least k vs qs))) (begun_tracks k.begin (entries os zs)) =
      subst (λ (l : List T). Interleaved l (begun_tracks k.begin (entries qs (least k vs qs))) (begun_tracks k.begin (entries os zs))) (begun_renumbered k.begin (lefts us vs ws m) ps (least k us ps))
      (subst (λ (l : List T). Interleaved (begun_tracks k.begin (entries ps xs)) l (begun_tracks k.begin (entries os zs))) (begun_renumbered k.begin (rights us vs ws m) qs (least k vs qs)) (begun_mix k.begin _ _ _ w.mix)) in
      subst (λ (l : List (Option ℕ)). Interleaved (batch_step k us ps) (batch_step k vs qs) (updated_tracks k.update (paired_plot (entries os l)) ws ++ begun_tracks k.begin (entries os l))) (sym (least_of_both us vs ws m ps qs os n hu hv)) (both_append _ _ _ _ _ _ old new)

  pub tables_mix : (radar : P → ℕ) (us vs ws : List T) → Interleaved us vs ws → (ps qs os : List P) → Interleaved ps qs os
      → ((r : ℕ) → GateNone k.gate (table_at k radar us ps r) (of_radar radar r qs)) → ((r : ℕ) → GateNone k.gate (table_at k radar vs qs r) (of_radar radar r ps))
      → (r : ℕ) → Interleaved (table_at k radar us ps r) (table_at k radar vs qs r) (table_at k radar ws os r)
  unfolding table_at
  tables_mix radar us vs ws m ps qs os n hu hv zero = m
  tables_mix radar us vs ws m ps qs os n hu hv (suc r) =
      batch_mix _ _ _ (tables_mix radar us vs ws m ps qs os n hu hv r) _ _ _ (both_filter (λ p. eqb (radar p) r) ps qs os n) (hu r) (hv r)

  updated_by_none : (ts : List T) → updated_tracks k.update (λ i. None) ts ≡ ts
  updated_by_none [] = refl
  updated_by_none (t ∷ ts) = ap (λ (us : List T). t ∷ us) (updated_by_none ts)

  pub batch_of_none : (ts : List T) → batch_step k ts [] ≡ ts
  unfolding batch_step
  batch_of_none ts = append-nil (updated_tracks k.update (λ i. None) ts) ∙ updated_by_none ts
