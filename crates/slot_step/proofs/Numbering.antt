-- A run reads no numbers, and keeps those that there are.
use Rattle.std.proofs.Common.{◌≡◌, ◌∙◌, ap, sym, refl, ℕ, zero, suc, ◌<◌, List, [], ◌∷◌, ◌++◌, map, Bool, true, false, cond, Option, Some, None, arith}
use Rattle.std.specs.Prelude.{filter}
use Rattle.std.specs.List.{AllByRecursion}
use Rattle.std.specs.List.Sorted.{IsStrictlySortedBy}
use Rattle.std.specs.Ordering.{is_eq, ordering_reverse}
use Rattle.std.specs.declared.cmp.Ordering.{Ordering}
use Rattle.std.specs.declared.cmp.Ordering.TheVariants.{Less, Equal, Greater}
use Rattle.std.proofs.lemmas.List.{map-append, length-map}
use Rattle.assignment_dual.specs.Least.{least_pairing}
use Rattle.slot_step.specs.Batches.{Tracking, row, rows, entries, least, paired_plot, with_plot, updated_tracks, begun_tracks, batch_step, of_radar, table_at}
use Rattle.slot_step.specs.Slots.{Ordered, OrderLaws, AreInSlot, IsBefore, by_birth, plot_radar, plot_slot, unexpired, radar_limit, run}
use Rattle.slot_step.specs.Numbers.{Numbering, NumberLaws, number_of, renumbered_from, numbered, slot_step, without_numbers}
use Rattle.slot_step.proofs.Interleavings.{all_append, all_filter}

itself : (o : Ordering) → o ≡ ordering_reverse o → o ≡ Equal
itself Less e = cc
itself Equal e = refl
itself Greater e = cc

module _ {T P K : Type 0} (k : Tracking T P) (o : Ordered T P K) (l : OrderLaws k o) (m : Numbering T) (w : NumberLaws k o m) where
  abbrev bare : T → T
  bare t = m.with_number None t

  bare_begin : (p : P) → bare (k.begin p) ≡ k.begin p
  bare_begin p = ap (λ x. m.with_number x (k.begin p)) (sym (w.begin p)) ∙ w.own (k.begin p)

  row_bare : (ts : List T) (p : P) (i : ℕ) → row k.gate (map bare ts) p i ≡ row k.gate ts p i
  row_bare [] p i = refl
  row_bare (t ∷ ts) p zero = w.gate None t p
  row_bare (t ∷ ts) p (suc i) = row_bare ts p i

  rows_bare : (ts : List T) (ps : List P) → rows k.gate (map bare ts) ps ≡ rows k.gate ts ps
  rows_bare ts [] = refl
  rows_bare ts (p ∷ ps) = λ j. (λ i. row_bare ts p i j) ∷ rows_bare ts ps j

  pub least_bare : (ts : List T) (ps : List P) → least k (map bare ts) ps ≡ least k ts ps
  least_bare ts ps = λ j. least_pairing (length-map ts bare j) (rows_bare ts ps j)

  with_bare : (t : T) (p : Option P) → with_plot k.update (bare t) p ≡ bare (with_plot k.update t p)
  with_bare t None = refl
  with_bare t (Some p) = w.update None t p

  updated_bare : (f : ℕ → Option P) (ts : List T) → updated_tracks k.update f (map bare ts) ≡ map bare (updated_tracks k.update f ts)
  updated_bare f [] = refl
  updated_bare f (t ∷ ts) = λ j. with_bare t (f 0) j ∷ updated_bare (λ i. f (suc i)) ts j

  begun_bare : (es : List (P × Option ℕ)) → begun_tracks k.begin es ≡ map bare (begun_tracks k.begin es)
  begun_bare [] = refl
  begun_bare ((p, None) ∷ es) = λ j. sym (bare_begin p) j ∷ begun_bare es j
  begun_bare ((p, Some i) ∷ es) = begun_bare es

  batch_bare : (ts : List T) (ps : List P) → batch_step k (map bare ts) ps ≡ map bare (batch_step k ts ps)
  unfolding batch_step
  batch_bare ts ps =
      ap (λ (xs : List (Option ℕ)). updated_tracks k.update (paired_plot (entries ps xs)) (map bare ts) ++ begun_tracks k.begin (entries ps xs)) (least_bare ts ps)
      ∙ (λ j. updated_bare (paired_plot (entries ps (least k ts ps))) ts j ++ begun_bare (entries ps (least k ts ps)) j)
      ∙ sym (map-append bare (updated_tracks k.update (paired_plot (entries ps (least k ts ps))) ts) (begun_tracks k.begin (entries ps (least k ts ps))))

  pub tables_bare : (ts : List T) (ps : List P) (r : ℕ) → table_at k (plot_radar o) (map bare ts) ps r ≡ map bare (table_at k (plot_radar o) ts ps r)
  unfolding table_at
  tables_bare ts ps zero = refl
  tables_bare ts ps (suc r) = ap (λ (us : List T). batch_step k us (of_radar (plot_radar o) r ps)) (tables_bare ts ps r) ∙ batch_bare (table_at k (plot_radar o) ts ps r) (of_radar (plot_radar o) r ps)

  pub kept_bare : (n : ℕ) (ts : List T) → unexpired o n (map bare ts) ≡ map bare (unexpired o n ts)
  kept_bare n [] = refl
  kept_bare n (t ∷ ts) = ap (λ (c : Bool). cond c (bare t ∷ filter (o.kept n) (map bare ts)) (filter (o.kept n) (map bare ts))) (w.kept None n t) ∙ go (o.kept n t) (kept_bare n ts)
    where
      go : (c : Bool) → filter (o.kept n) (map bare ts) ≡ map bare (filter (o.kept n) ts) → cond c (bare t ∷ filter (o.kept n) (map bare ts)) (filter (o.kept n) (map bare ts)) ≡ map bare (cond c (t ∷ filter (o.kept n) ts) (filter (o.kept n) ts))
      go true q = ap (λ (us : List T). bare t ∷ us) q
      go false q = q

  pub run_bare : (ts : List T) (n : ℕ) (ps : List P) → run k o (without_numbers m ts) n ps ≡ without_numbers m (run k o ts n ps)
  unfolding run
  run_bare ts n ps = ap (λ (us : List T). table_at k (plot_radar o) us ps radar_limit) (kept_bare n ts) ∙ tables_bare (unexpired o n ts) ps radar_limit

  pub run_unread : (s t : List T) (n : ℕ) (ps : List P) → without_numbers m s ≡ without_numbers m t → without_numbers m (run k o s n ps) ≡ without_numbers m (run k o t n ps)
  run_unread s t n ps e = sym (run_bare s n ps) ∙ ap (λ (us : List T). run k o us n ps) e ∙ run_bare t n ps

  bare_renumbered : (s ts : List T) → without_numbers m (renumbered_from o m s ts) ≡ without_numbers m ts
  bare_renumbered s [] = refl
  bare_renumbered s (t ∷ ts) = λ j. w.again (number_of o m s (o.birth t)) None t j ∷ bare_renumbered s ts j

  pub numbers_hidden : (s ts : List T) → without_numbers m (numbered o m s ts) ≡ without_numbers m ts
  numbers_hidden s ts = w.assigned (renumbered_from o m s ts) ∙ bare_renumbered s ts

  renumbered_bare : (s ts : List T) → renumbered_from o m s (without_numbers m ts) ≡ renumbered_from o m s ts
  renumbered_bare s [] = refl
  renumbered_bare s (t ∷ ts) = λ j. (ap (λ b. m.with_number (number_of o m s b) (bare t)) (w.birth None t) ∙ w.again None (number_of o m s (o.birth t)) t) j ∷ renumbered_bare s ts j

  pub numbers_anew : (s t u : List T) → without_numbers m t ≡ without_numbers m u → numbered o m s t ≡ numbered o m s u
  numbers_anew s t u e = ap m.assigned (sym (renumbered_bare s t) ∙ ap (renumbered_from o m s) e ∙ renumbered_bare s u)

  -- the number of a track is that of the track of its birth in the table s
  abbrev HasItsNumber : List T → T → Type 0
  HasItsNumber s t = number_of o m s (o.birth t) ≡ m.number t

  skipped : (u : T) (us : List T) (b : K) → o.cmp (o.birth u) b ≡ Less → number_of o m (u ∷ us) b ≡ number_of o m us b
  skipped u us b e = ap (λ c. cond (is_eq c) (m.number u) (number_of o m us b)) e

  all_skipped : (u : T) (us ts : List T) → AllByRecursion (λ t. by_birth o u t ≡ Less) ts → AllByRecursion (HasItsNumber us) ts → AllByRecursion (HasItsNumber (u ∷ us)) ts
  all_skipped u us [] h g = tt
  all_skipped u us (t ∷ ts) h g = (skipped u us (o.birth t) h.0 ∙ g.0, all_skipped u us ts h.1 g.1)

  own_numbers : (ts : List T) (n : ℕ) → IsBefore o ts n → AllByRecursion (HasItsNumber ts) ts
  unfolding IsStrictlySortedBy
  own_numbers [] n b = tt
  own_numbers (t ∷ ts) n b = (
    ap (λ c. cond (is_eq c) (m.number t) (number_of o m ts (o.birth t))) (itself (o.cmp (o.birth t) (o.birth t)) (l.total.antisymm (o.birth t) (o.birth t))),
    all_skipped t ts ts b.table.0 (own_numbers ts n (record { table = b.table.1; births = b.births.1 })),
  )

  none_of_slot : (s : List T) (n : ℕ) (b : K) → AllByRecursion (λ t. o.slot (o.birth t) < n) s → o.slot b ≡ n → number_of o m s b ≡ None
  none_of_slot [] n b h e = refl
  none_of_slot (t ∷ s) n b h e = skipped t s b (l.by_slot (o.birth t) b (omega (arith, h.0, e))) ∙ none_of_slot s n b h.1 e

  with_keeps : (s : List T) (t : T) (p : Option P) → HasItsNumber s t → HasItsNumber s (with_plot k.update t p)
  with_keeps s t None h = h
  with_keeps s t (Some p) h = ap (number_of o m s) (l.birth_stays t p) ∙ h ∙ sym (w.update_keeps t p)

  updated_keeps : (s : List T) (f : ℕ → Option P) (ts : List T) → AllByRecursion (HasItsNumber s) ts → AllByRecursion (HasItsNumber s) (updated_tracks k.update f ts)
  updated_keeps s f [] h = tt
  updated_keeps s f (t ∷ ts) h = (with_keeps s t (f 0) h.0, updated_keeps s (λ i. f (suc i)) ts h.1)

  begun_keeps : (s : List T) (n : ℕ) (ps : List P) (xs : List (Option ℕ)) → AllByRecursion (λ t. o.slot (o.birth t) < n) s → AreInSlot o n ps → AllByRecursion (HasItsNumber s) (begun_tracks k.begin (entries ps xs))
  begun_keeps s n [] xs b h = tt
  begun_keeps s n (p ∷ ps) [] b h = tt
  begun_keeps s n (p ∷ ps) (None ∷ xs) b h = (ap (number_of o m s) (l.birth_is_key p) ∙ none_of_slot s n (o.key p) b h.0 ∙ sym (w.begin p), begun_keeps s n ps xs b h.1)
  begun_keeps s n (p ∷ ps) (Some j ∷ xs) b h = begun_keeps s n ps xs b h.1

  tables_keep : (s : List T) (n : ℕ) (ps : List P) → IsBefore o s n → AreInSlot o n ps → (r : ℕ) → AllByRecursion (HasItsNumber s) (table_at k (plot_radar o) (unexpired o n s) ps r)
  unfolding table_at batch_step
  tables_keep s n ps b h zero = all_filter (HasItsNumber s) (o.kept n) s (own_numbers s n b)
  tables_keep s n ps b h (suc r) =
      all_append (HasItsNumber s) _ _ (updated_keeps s _ _ (tables_keep s n ps b h r)) (begun_keeps s n (of_radar (plot_radar o) r ps) _ b.births (all_filter (λ p. plot_slot o p ≡ n) _ ps h))

  unchanged : (s ts : List T) → AllByRecursion (HasItsNumber s) ts → renumbered_from o m s ts ≡ ts
  unchanged s [] h = refl
  unchanged s (t ∷ ts) h = λ j. (ap (λ x. m.with_number x t) h.0 ∙ w.own t) j ∷ unchanged s ts h.1 j

  pub numbers_stay : (s : List T) (n : ℕ) (ps : List P) → IsBefore o s n → AreInSlot o n ps → slot_step k o m s n ps ≡ m.assigned (run k o s n ps)
  unfolding run
  numbers_stay s n ps b h = ap m.assigned (unchanged s (run k o s n ps) (tables_keep s n ps b h radar_limit))
