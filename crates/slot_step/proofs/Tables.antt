-- Tables before and after a slot, and two parts of one.
use Rattle.std.proofs.Common.{◌≡◌, ◌≢◌, ◌∙◌, ap, sym, refl, ℕ, zero, suc, ◌+◌, ◌<◌, ◌≤◌, List, [], ◌∷◌, ◌++◌, Bool, true, false, cond, eqb, Option, Some, None, IsSome, arith, subst, inl, inr}
use Rattle.std.specs.Prelude.{◌⊎◌, filter, Contains}
use Rattle.std.specs.List.{AllByRecursion}
use Rattle.std.specs.Cmp.{IsTotalOrder}
use Rattle.std.specs.List.Sorted.{IsStrictlySortedBy}
use Rattle.std.specs.Ordering.{ordering_reverse}
use Rattle.std.specs.declared.cmp.Ordering.TheVariants.{Less, Greater}
use Rattle.std.proofs.lemmas.Bool.{eqb-true}
use Rattle.std.proofs.lemmas.Cmp.{on_total}
use Rattle.std.proofs.lemmas.List.Kept.{IsStrictlySortedBy-filter}
use Rattle.slot_step.specs.Interleavings.{Interleaved, KeysDiffer}
use Rattle.slot_step.specs.Batches.{Tracking, entries, least, paired_plot, with_plot, updated_tracks, begun_tracks, batch_step, of_radar, table_at, GateNone}
use Rattle.slot_step.specs.Slots.{Ordered, OrderLaws, IsTable, ArePlots, AreInSlot, IsBefore, IsGated, by_key, by_birth, plot_radar, plot_slot, unexpired, batch_table, radar_limit, run}
use Rattle.slot_step.specs.Parts.{merged, AreBeside, Reaches, DontCross, AreTwoParts}
use Rattle.slot_step.proofs.Interleavings.{swapped, two_first, both_filter, all_of_first, all_of_both, all_of, all_weaker, all_append, all_filter, all_contains, in_one, in_filter, filter_passes, first_rises, each_before, one_interleaving}
use Rattle.slot_step.proofs.Merging.{merged_is}
use Rattle.slot_step.proofs.Batching.{tables_mix, batch_of_none}

not_some : {P : Type 0} (x : Option P) → (IsSome x → ⊥) → x ≡ None
not_some None n = refl
not_some (Some p) n = absurd (n refl)

module _ {T P K : Type 0} (k : Tracking T P) (o : Ordered T P K) (l : OrderLaws k o) where
  births_total : IsTotalOrder (by_birth o)
  births_total = on_total o.birth l.total

  irreflexive : (a : K) → o.cmp a a ≡ Less → ⊥
  irreflexive a e = let c : Less ≡ Greater = sym e ∙ l.total.antisymm a a ∙ ap ordering_reverse e in cc

  pub keys_differ : (a b : K) → o.cmp a b ≡ Less → (a ≢ b) × (b ≢ a)
  keys_differ a b e = (λ q. irreflexive b (subst (λ x. o.cmp x b ≡ Less) q e), λ q. irreflexive b (subst (λ x. o.cmp x b ≡ Less) (sym q) e))

  pub plots_differ : (xs ys zs : List P) → Interleaved xs ys zs → ArePlots o zs → KeysDiffer o.key xs ys
  plots_differ xs ys zs m h = each_before (by_key o) (λ x y. o.key x ≢ o.key y) (λ x y e. keys_differ (o.key x) (o.key y) e) xs ys zs m h

  pub merged_of : (ts us : List T) → AreBeside o ts us → Interleaved ts us (merged o ts us) × IsTable o (merged o ts us)
  merged_of ts us b = merged_is (by_birth o) births_total ts us b.one b.other (λ t u c d e. b.births t u c d (l.exact (o.birth t) (o.birth u) e))

  -- what is put together of two tables, and rises, is the two merged
  pub is_merged : (ts us ws : List T) → AreBeside o ts us → Interleaved ts us ws → IsTable o ws → ws ≡ merged o ts us
  is_merged ts us ws b m r =
      let g : Interleaved ts us (merged o ts us) × IsTable o (merged o ts us) = merged_of ts us b in
      one_interleaving (by_birth o) births_total ts us ws (merged o ts us) m g.0 r g.1

  pub beside_back : (ts us : List T) → AreBeside o ts us → AreBeside o us ts
  beside_back ts us b = record { one = b.other; other = b.one; births = λ x y c d e. b.births y x d c (sym e) }

  pub merged_back : (ts us : List T) → AreBeside o ts us → merged o ts us ≡ merged o us ts
  merged_back ts us b = let m : Interleaved ts us (merged o ts us) × IsTable o (merged o ts us) = merged_of ts us b in is_merged us ts (merged o ts us) (beside_back ts us b) (swapped _ _ _ m.0) m.1

  pub beside_merged : (s t r : List T) → AreBeside o s t → AreBeside o s r → AreBeside o t r → AreBeside o (merged o s t) r
  beside_merged s t r a b c =
      let m : Interleaved s t (merged o s t) × IsTable o (merged o s t) = merged_of s t a in
      record { one = m.1; other = b.other; births = λ x y d e. elim (in_one x s t (merged o s t) m.0 d) [ inl u ↦ b.births x y u e | inr u ↦ c.births x y u e ] }

  pub merged_rest : (s t r : List T) → AreBeside o s t → AreBeside o s r → AreBeside o t r → merged o (merged o s t) r ≡ merged o s (merged o t r)
  merged_rest s t r a b c =
      let m : Interleaved s t (merged o s t) × IsTable o (merged o s t) = merged_of s t a in
      let st : AreBeside o (merged o s t) r = beside_merged s t r a b c in
      let n : Interleaved (merged o s t) r (merged o (merged o s t) r) × IsTable o (merged o (merged o s t) r) = merged_of (merged o s t) r st in
      let w : (ws : List T) × Interleaved r t ws × Interleaved ws s (merged o (merged o s t) r) = two_first r (merged o s t) t s (merged o (merged o s t) r) (swapped _ _ _ n.0) (swapped _ _ _ m.0) in
      let tr : w.0 ≡ merged o t r = is_merged t r w.0 c (swapped _ _ _ w.1) (first_rises (by_birth o) w.0 s _ w.2 n.1) in
      is_merged s (merged o t r) (merged o (merged o s t) r) (beside_back (merged o t r) s (beside_merged t r s c (beside_back s t a) (beside_back s r b)))
      (swapped _ _ _ (subst (λ (ws : List T). Interleaved ws s (merged o (merged o s t) r)) tr w.2)) n.1

  pub stays_before : (s : List T) (a b : ℕ) → a ≤ b → IsBefore o s a → IsBefore o s b
  stays_before s a b h g = record { table = g.table; births = all_weaker (λ t. o.slot (o.birth t) < a) (λ t. o.slot (o.birth t) < b) s (λ t lt. omega (arith, lt, h)) g.births }

  pub merged_before : (s t : List T) (n : ℕ) → AreBeside o s t → IsBefore o s n → IsBefore o t n → IsBefore o (merged o s t) n
  merged_before s t n b h g =
      let m : Interleaved s t (merged o s t) × IsTable o (merged o s t) = merged_of s t b in
      record { table = m.1; births = all_of_both (λ x. o.slot (o.birth x) < n) s t (merged o s t) m.0 h.births g.births }

  -- born before the batch of radar r in slot n
  abbrev pub Earlier : ℕ → ℕ → T → Type 0
  Earlier n r t = (o.slot (o.birth t) < n) ⊎ ((o.slot (o.birth t) ≡ n) × (o.radar (o.birth t) < r))

  pub record IsAtBatch (ts : List T) (n r : ℕ) : Type 0 where
    pub table : IsTable o ts
    pub births : AllByRecursion (Earlier n r) ts

  with_birth : (t : T) (p : Option P) → o.birth (with_plot k.update t p) ≡ o.birth t
  with_birth t None = refl
  with_birth t (Some p) = l.birth_stays t p

  updated_all : (Q : K → Type 0) (f : ℕ → Option P) (ts : List T) → AllByRecursion (λ t. Q (o.birth t)) ts → AllByRecursion (λ t. Q (o.birth t)) (updated_tracks k.update f ts)
  updated_all Q f [] h = tt
  updated_all Q f (t ∷ ts) h = (subst Q (sym (with_birth t (f 0))) h.0, updated_all Q (λ i. f (suc i)) ts h.1)

  updated_later : (a b : T) (f : ℕ → Option P) (ts : List T) → o.birth b ≡ o.birth a → AllByRecursion (λ t. by_birth o a t ≡ Less) ts → AllByRecursion (λ t. by_birth o b t ≡ Less) (updated_tracks k.update f ts)
  updated_later a b f [] e h = tt
  updated_later a b f (t ∷ ts) e h = ((λ i. o.cmp (e i) (with_birth t (f 0) i)) ∙ h.0, updated_later a b (λ i. f (suc i)) ts e h.1)

  updated_table : (f : ℕ → Option P) (ts : List T) → IsTable o ts → IsTable o (updated_tracks k.update f ts)
  unfolding IsStrictlySortedBy
  updated_table f [] h = tt
  updated_table f (t ∷ ts) h = (updated_later t (with_plot k.update t (f 0)) (λ i. f (suc i)) ts (with_birth t (f 0)) h.0, updated_table (λ i. f (suc i)) ts h.1)

  begun_all : (Q : K → Type 0) (ps : List P) (xs : List (Option ℕ)) → AllByRecursion (λ p. Q (o.key p)) ps → AllByRecursion (λ t. Q (o.birth t)) (begun_tracks k.begin (entries ps xs))
  begun_all Q [] xs h = tt
  begun_all Q (p ∷ ps) [] h = tt
  begun_all Q (p ∷ ps) (None ∷ xs) h = (subst Q (sym (l.birth_is_key p)) h.0, begun_all Q ps xs h.1)
  begun_all Q (p ∷ ps) (Some j ∷ xs) h = begun_all Q ps xs h.1

  begun_later : (p : P) (ps : List P) (xs : List (Option ℕ)) → AllByRecursion (λ q. by_key o p q ≡ Less) ps → AllByRecursion (λ t. by_birth o (k.begin p) t ≡ Less) (begun_tracks k.begin (entries ps xs))
  begun_later p [] xs h = tt
  begun_later p (q ∷ ps) [] h = tt
  begun_later p (q ∷ ps) (None ∷ xs) h = ((λ i. o.cmp (l.birth_is_key p i) (l.birth_is_key q i)) ∙ h.0, begun_later p ps xs h.1)
  begun_later p (q ∷ ps) (Some j ∷ xs) h = begun_later p ps xs h.1

  begun_table : (ps : List P) (xs : List (Option ℕ)) → ArePlots o ps → IsTable o (begun_tracks k.begin (entries ps xs))
  unfolding IsStrictlySortedBy
  begun_table [] xs h = tt
  begun_table (p ∷ ps) [] h = tt
  begun_table (p ∷ ps) (None ∷ xs) h = (begun_later p ps xs h.0, begun_table ps xs h.1)
  begun_table (p ∷ ps) (Some j ∷ xs) h = begun_table ps xs h.1

  append_table : (ts us : List T) → IsTable o ts → IsTable o us → AllByRecursion (λ t. AllByRecursion (λ u. by_birth o t u ≡ Less) us) ts → IsTable o (ts ++ us)
  unfolding IsStrictlySortedBy
  append_table [] us h g c = g
  append_table (t ∷ ts) us h g c = (all_append (λ u. by_birth o t u ≡ Less) ts us h.0 c.0, append_table ts us h.1 g c.1)

  earlier_than : (n r : ℕ) (t u : T) → Earlier n r t → (o.slot (o.birth u) ≡ n) × (o.radar (o.birth u) ≡ r) → by_birth o t u ≡ Less
  earlier_than n r t u (inl h) g = l.by_slot _ _ (omega (arith, h, g.0))
  earlier_than n r t u (inr h) g = l.by_radar _ _ (omega (arith, h.0, g.0)) (omega (arith, h.1, g.1))

  abbrev OfBatch : ℕ → ℕ → K → Type 0
  OfBatch n r a = (o.slot a ≡ n) × (o.radar a ≡ r)

  batch_at : (ts : List T) (ps : List P) (n r : ℕ) → IsAtBatch ts n r → ArePlots o ps → AllByRecursion (λ p. OfBatch n r (o.key p)) ps → IsAtBatch (batch_step k ts ps) n (r + 1)
  unfolding batch_step
  batch_at ts ps n r a up h =
      let xs = least k ts ps in
      let f = paired_plot (entries ps xs) in
      let old : AllByRecursion (Earlier n r) (updated_tracks k.update f ts) = updated_all (λ b. (o.slot b < n) ⊎ ((o.slot b ≡ n) × (o.radar b < r))) f ts a.births in
      let new : AllByRecursion (λ t. OfBatch n r (o.birth t)) (begun_tracks k.begin (entries ps xs)) = begun_all (OfBatch n r) ps xs h in
      record {
        table = append_table _ _ (updated_table f ts a.table) (begun_table ps xs up) (all_weaker (Earlier n r) (λ t. AllByRecursion (λ u. by_birth o t u ≡ Less) (begun_tracks k.begin (entries ps xs))) _
            (λ t e. all_weaker (λ u. OfBatch n r (o.birth u)) (λ u. by_birth o t u ≡ Less) _ (λ u g. earlier_than n r t u e g) new) old);
        births = all_append (Earlier n (r + 1)) _ _ (all_weaker (Earlier n r) (Earlier n (r + 1)) _ (λ t e. elim e [ inl u ↦ inl u | inr u ↦ inr (u.0, omega (arith, u.1)) ]) old)
            (all_weaker (λ t. OfBatch n r (o.birth t)) (Earlier n (r + 1)) _ (λ t g. inr (g.0, omega (arith, g.1))) new);
      }

  pub tables_at : (ts : List T) (ps : List P) (n : ℕ) → IsAtBatch ts n 0 → AreInSlot o n ps → ArePlots o ps → (r : ℕ) → IsAtBatch (table_at k (plot_radar o) ts ps r) n r
  unfolding table_at
  tables_at ts ps n a h up zero = a
  tables_at ts ps n a h up (suc r) =
      let b : IsAtBatch (table_at k (plot_radar o) ts ps r) n r = tables_at ts ps n a h up r in
      let e : r + 1 ≡ suc r = omega arith in
      subst (IsAtBatch (batch_step k (table_at k (plot_radar o) ts ps r) (of_radar (plot_radar o) r ps)) n) e
      (batch_at _ (of_radar (plot_radar o) r ps) n r b (IsStrictlySortedBy-filter (by_key o) (λ p. eqb (plot_radar o p) r) ps up)
      (all_of (λ p. OfBatch n r (o.key p)) (of_radar (plot_radar o) r ps) (λ p c.
      (all_contains (λ p. plot_slot o p ≡ n) p ps h (in_filter (λ p. eqb (plot_radar o p) r) p ps c), eqb-true _ _ (filter_passes (λ p. eqb (plot_radar o p) r) p ps c)))))

  pub start_at : (ts : List T) (n : ℕ) → IsBefore o ts n → IsAtBatch (unexpired o n ts) n 0
  start_at ts n b = record {
    table = IsStrictlySortedBy-filter (by_birth o) (o.kept n) ts b.table;
    births = all_weaker (λ t. o.slot (o.birth t) < n) (Earlier n 0) _ (λ t h. inl h) (all_filter (λ t. o.slot (o.birth t) < n) (o.kept n) ts b.births);
  }

  pub batch_tables_are : (ts : List T) (n : ℕ) (ps : List P) → AreInSlot o n ps → ArePlots o ps → IsBefore o ts n → (r : ℕ) → IsTable o (batch_table k o ts n ps r)
  batch_tables_are ts n ps h up b r = (tables_at (unexpired o n ts) ps n (start_at ts n b) h up r).table

  pub run_before : (ts : List T) (n : ℕ) (ps : List P) → AreInSlot o n ps → ArePlots o ps → IsBefore o ts n → IsBefore o (run k o ts n ps) (n + 1)
  unfolding run
  run_before ts n ps h up b =
      let a : IsAtBatch (batch_table k o ts n ps radar_limit) n radar_limit = tables_at (unexpired o n ts) ps n (start_at ts n b) h up radar_limit in
      record { table = a.table; births = all_weaker (Earlier n radar_limit) (λ t. o.slot (o.birth t) < n + 1) _ (λ t e. elim e [ inl u ↦ omega (arith, u) | inr u ↦ omega (arith, u.0) ]) a.births }

  tables_all : (Q : K → Type 0) (ts : List T) (ps : List P) → AllByRecursion (λ t. Q (o.birth t)) ts → AllByRecursion (λ p. Q (o.key p)) ps → (r : ℕ) → AllByRecursion (λ t. Q (o.birth t)) (table_at k (plot_radar o) ts ps r)
  unfolding table_at batch_step
  tables_all Q ts ps h g zero = h
  tables_all Q ts ps h g (suc r) =
      all_append (λ t. Q (o.birth t)) _ _ (updated_all Q _ _ (tables_all Q ts ps h g r)) (begun_all Q (of_radar (plot_radar o) r ps) _ (all_filter (λ p. Q (o.key p)) (λ p. eqb (plot_radar o p) r) ps g))

  -- a birth after a slot is one from before or a plot's key
  abbrev pub IsKnown : List T → List P → K → Type 0
  IsKnown ts ps b = ((t : T) × Contains ts t × (o.birth t ≡ b)) ⊎ ((p : P) × Contains ps p × (o.key p ≡ b))

  pub births_known : (ts : List T) (n : ℕ) (ps : List P) → AllByRecursion (λ t. IsKnown ts ps (o.birth t)) (run k o ts n ps)
  unfolding run
  births_known ts n ps =
      tables_all (IsKnown ts ps) (unexpired o n ts) ps (all_of (λ t. IsKnown ts ps (o.birth t)) (unexpired o n ts) (λ t c. inl (t, in_filter (o.kept n) t ts c, refl)))
      (all_of (λ p. IsKnown ts ps (o.key p)) ps (λ p c. inr (p, c, refl))) radar_limit

  pub beside_run : (s t : List T) (n : ℕ) (xs ys : List P) → AreBeside o s t → IsBefore o s n → IsBefore o t n → AreInSlot o n xs → AreInSlot o n ys → ArePlots o xs → ArePlots o ys → KeysDiffer o.key xs ys
      → AreBeside o (run k o s n xs) (run k o t n ys)
  beside_run s t n xs ys b hs ht ix iy rx ry d = record {
    one = (run_before s n xs ix rx hs).table;
    other = (run_before t n ys iy ry ht).table;
    births = λ u v c e q. go u v q (all_contains (λ t. IsKnown s xs (o.birth t)) u (run k o s n xs) (births_known s n xs) c) (all_contains (λ u. IsKnown t ys (o.birth u)) v (run k o t n ys) (births_known t n ys) e);
  }
    where
      go : (u v : T) → o.birth u ≡ o.birth v → IsKnown s xs (o.birth u) → IsKnown t ys (o.birth v) → ⊥
      go u v q (inl (a, c, e)) (inl (b', d', f)) = b.births a b' c d' (e ∙ q ∙ sym f)
      go u v q (inl (a, c, e)) (inr (p, d', f)) = let lt = all_contains (λ x. o.slot (o.birth x) < n) a s hs.births c in let is = all_contains (λ p. plot_slot o p ≡ n) p ys iy d' in let same = ap o.slot (e ∙ q ∙ sym f) in omega arith
      go u v q (inr (p, c, e)) (inl (a, d', f)) = let lt = all_contains (λ x. o.slot (o.birth x) < n) a t ht.births d' in let is = all_contains (λ p. plot_slot o p ≡ n) p xs ix c in let same = ap o.slot (e ∙ q ∙ sym f) in omega arith
      go u v q (inr (p, c, e)) (inr (p', d', f)) = d p p' c d' (e ∙ q ∙ sym f)

  pub none_gated : (s : List T) (n : ℕ) (xs ys : List P) → (Reaches k o n s xs ys → ⊥) → (r : ℕ) → GateNone k.gate (batch_table k o s n xs r) (of_radar (plot_radar o) r ys)
  none_gated s n xs ys f r =
      all_of (λ t. AllByRecursion (λ p. k.gate t p ≡ None) (of_radar (plot_radar o) r ys)) (batch_table k o s n xs r) (λ t c.
      all_of (λ p. k.gate t p ≡ None) (of_radar (plot_radar o) r ys) (λ p d.
      not_some (k.gate t p) (λ some. f (
        p,
        in_filter (λ q. eqb (plot_radar o q) r) p ys d,
        (t, subst (λ i. Contains (batch_table k o s n xs i) t) (sym (eqb-true _ _ (filter_passes (λ q. eqb (plot_radar o q) r) p ys d))) c, some),
      ))))

  pub in_two : (s t : List T) (n : ℕ) (xs ys zs : List P) → AreTwoParts o n s t xs ys zs → DontCross k o n s t xs ys → (r : ℕ)
      → Interleaved (batch_table k o s n xs r) (batch_table k o t n ys r) (batch_table k o (merged o s t) n zs r)
  in_two s t n xs ys zs i a r =
      tables_mix k (plot_radar o) _ _ _ (both_filter (o.kept n) s t (merged o s t) (merged_of s t i.beside).0) xs ys zs i.plots (none_gated s n xs ys a.there) (none_gated t n ys xs a.back) r

  pub gated_merged : (s t : List T) (n : ℕ) (xs ys zs : List P) (x : P) → AreTwoParts o n s t xs ys zs → DontCross k o n s t xs ys → IsGated k o (merged o s t) n zs x → IsGated k o s n xs x ⊎ IsGated k o t n ys x
  gated_merged s t n xs ys zs x i a g = elim (in_one g.0 _ _ _ (in_two s t n xs ys zs i a (plot_radar o x)) g.1) [ inl c ↦ inl (g.0, c, g.2) | inr c ↦ inr (g.0, c, g.2) ]

  pub beside_two : (s t : List T) (n : ℕ) (xs ys zs : List P) → AreTwoParts o n s t xs ys zs → AreBeside o (run k o s n xs) (run k o t n ys)
  beside_two s t n xs ys zs i =
      beside_run s t n xs ys i.beside i.one i.other (all_of_first (λ p. plot_slot o p ≡ n) xs ys zs i.plots i.of_slot) (all_of_first (λ p. plot_slot o p ≡ n) ys xs zs (swapped _ _ _ i.plots) i.of_slot)
      (first_rises (by_key o) xs ys zs i.plots i.rising) (first_rises (by_key o) ys xs zs (swapped _ _ _ i.plots) i.rising) (plots_differ xs ys zs i.plots i.rising)

  pub run_merged : (s t : List T) (n : ℕ) (xs ys zs : List P) → AreTwoParts o n s t xs ys zs → DontCross k o n s t xs ys → run k o (merged o s t) n zs ≡ merged o (run k o s n xs) (run k o t n ys)
  unfolding run
  run_merged s t n xs ys zs i a =
      is_merged (run k o s n xs) (run k o t n ys) (run k o (merged o s t) n zs) (beside_two s t n xs ys zs i)
      (in_two s t n xs ys zs i a radar_limit)
      (run_before (merged o s t) n zs i.of_slot i.rising (merged_before s t n i.beside i.one i.other)).table

  tables_of_none : (ts : List T) (r : ℕ) → table_at k (plot_radar o) ts [] r ≡ ts
  unfolding table_at
  tables_of_none ts zero = refl
  tables_of_none ts (suc r) = batch_of_none k (table_at k (plot_radar o) ts [] r) ∙ tables_of_none ts r

  pub run_of_none : (ts : List T) (n : ℕ) → run k o ts n [] ≡ unexpired o n ts
  unfolding run
  run_of_none ts n = tables_of_none (unexpired o n ts) radar_limit

  pub expired_twice : (ts : List T) (a b : ℕ) → a ≤ b → unexpired o b (unexpired o a ts) ≡ unexpired o b ts
  expired_twice [] a b h = refl
  expired_twice (t ∷ ts) a b h =
      go (o.kept a t) (o.kept b t) refl (l.kept_before t a b h) refl (expired_twice ts a b h)
    where
      go : (x y : Bool) → o.kept b t ≡ y → (o.kept b t ≡ true → o.kept a t ≡ true) → o.kept a t ≡ x → filter (o.kept b) (filter (o.kept a) ts) ≡ filter (o.kept b) ts
          → filter (o.kept b) (cond x (t ∷ filter (o.kept a) ts) (filter (o.kept a) ts)) ≡ cond y (t ∷ filter (o.kept b) ts) (filter (o.kept b) ts)
      go true y q f e r = ap (λ c. cond c (t ∷ filter (o.kept b) (filter (o.kept a) ts)) (filter (o.kept b) (filter (o.kept a) ts))) q ∙ ap (λ (us : List T). cond y (t ∷ us) us) r
      go false true q f e r = absurd (let g = f q in cc)
      go false false q f e r = r

  pub rested : (ts : List T) (a b : ℕ) → a ≤ b → unexpired o b (run k o ts a []) ≡ unexpired o b ts
  rested ts a b h = ap (unexpired o b) (run_of_none ts a) ∙ expired_twice ts a b h

  pub run_rested : (s : List T) (a b : ℕ) (xs : List P) → a ≤ b → run k o (run k o s a []) b xs ≡ run k o s b xs
  unfolding run
  run_rested s a b xs h = ap (λ ts. table_at k (plot_radar o) ts xs radar_limit) (rested s a b h)

  pub gated_rested : (s : List T) (a b : ℕ) (xs : List P) (x : P) → a ≤ b → IsGated k o (run k o s a []) b xs x → IsGated k o s b xs x
  gated_rested s a b xs x h g = (g.0, subst (λ ts. Contains (table_at k (plot_radar o) ts xs (plot_radar o x)) g.0) (rested s a b h) g.1, g.2)
