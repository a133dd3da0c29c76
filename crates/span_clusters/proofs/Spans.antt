-- The own runs of all parts, merged, are the fold of the whole.
use Rattle.std.proofs.Common.{◌≡◌, ◌∙◌, ap, sym, refl, ℕ, zero, suc, ◌+◌, ◌<◌, List, [], ◌∷◌, length, map, eqb, arith, subst, inl, inr}
use Rattle.std.specs.Prelude.{fold}
use Rattle.std.specs.List.{AllByRecursion}
use Rattle.std.proofs.lemmas.Bool.{eqb-true, cond_both}
use Rattle.late_window.specs.Folding.{Rises, at_slot, before, after}
use Rattle.span_clusters.specs.Interleavings.{AllInterleaved, EachPair, KeysDiffer, IsJoin}
use Rattle.span_clusters.specs.Parts.{IsFilled, Part, DontCross, IsSplitting, starts, all_items, states_after, OutsBegin, AreOutsAt}
use Rattle.span_clusters.proofs.Interleavings.{both_filter, both_length, at_in_slot, rises_filter, all_keys_differ, all_filtered, each_rises, in_filter}
use Rattle.span_clusters.proofs.Separating.{Separating, SeparatingLaws}
use Rattle.span_clusters.proofs.Resting.{empty_or, rested_step, rested_before, rested_filled, whole_rests_nowhere, IsPartOf, at_rises, rested_stays, reads}
use Rattle.span_clusters.proofs.OneSlot.{all_weaker, all_unmap, pairs_unmap, Beside, ApartIn, AreInSlot, steps, next_all, OutsIn, out_all}

pub before_filled : {I : Type 0} (slot : I → ℕ) (P : ℕ → Type 0) (zs : List I) → AllByRecursion (λ z. P (slot z)) zs → (n : ℕ) → IsFilled slot n zs → P n
before_filled slot P [] h n f = absurd (omega arith)
before_filled slot P (z ∷ zs) h n f =
    cond_both (eqb (slot z) n) (z ∷ at_slot slot n zs) (at_slot slot n zs) (λ l. 0 < length l → P n) (λ e g. subst P (eqb-true _ _ e) h.0) (λ e g. before_filled slot P zs h.1 n g) f

each_filled : {I : Type 0} (slot : I → ℕ) (xss : List (List I)) (zs : List I) → AllInterleaved xss zs → AllByRecursion (λ xs. (n : ℕ) → IsFilled slot n xs → IsFilled slot n zs) xss
each_filled slot [] zs m = tt
each_filled {I} slot (xs ∷ xss) zs m =
    let sum : (n : ℕ) → length (at_slot slot n xs) + length (at_slot slot n m.0) ≡ length (at_slot slot n zs) = λ n. both_length _ _ _ (both_filter (λ x. eqb (slot x) n) xs m.0 zs m.1) in (
      λ n f. omega (arith, sum n),
      all_weaker (λ (ys : List I). (n : ℕ) → IsFilled slot n ys → IsFilled slot n m.0) (λ (ys : List I). (n : ℕ) → IsFilled slot n ys → IsFilled slot n zs) xss (λ ys g n f. omega (arith, sum n, g n f)) (each_filled slot xss m.0 m.2),
    )

module _ {S I K O : Type 0} (F : Separating S I K O) (L : SeparatingLaws F) (zs : List I) where
  abbrev pub brought : ℕ → Part S I → S
  brought n q = rested_before F.next F.slot q.start q.items zs n

  abbrev pub stepped_on : ℕ → Part S I → S
  stepped_on n q = F.next (brought n q) n (at_slot F.slot n q.items)

  abbrev pub at_part : ℕ → Part S I → Part S I
  at_part n q = record { number = q.number; start = brought n q; items = at_slot F.slot n q.items }

  pub record AreParts (qs : List (Part S I)) : Type 0 where
    pub items : AllInterleaved (all_items qs) zs
    pub rising : Rises F.cmp F.key zs
    pub keys : EachPair (λ q r. KeysDiffer F.key q.items r.items) qs
    pub each : AllByRecursion (λ q. IsPartOf F L q.start q.items zs) qs
    pub clear : EachPair (DontCross F.next F.slot F.gates) qs

  each_in : (qs : List (Part S I)) → AllByRecursion (λ q. Rises F.cmp F.key q.items) qs → AllByRecursion (λ q. (n : ℕ) → IsFilled F.slot n q.items → IsFilled F.slot n zs) qs
      → AllByRecursion (λ q. AllByRecursion (λ z. F.is_before q.start (F.slot z)) zs) qs → AllByRecursion (λ q. IsPartOf F L q.start q.items zs) qs
  each_in [] a b c = tt
  each_in (q ∷ qs) a b c = (record { rises = a.0; filled = b.0; start = before_filled F.slot (F.is_before q.start) zs c.0 }, each_in qs a.1 b.1 c.1)

  pub parts_of : (s : S) (p : Part S I) (ps : List (Part S I)) → Rises F.cmp F.key zs → IsSplitting F.slot F.is_before F.is_beside F.merged s zs (p ∷ ps) → EachPair (DontCross F.next F.slot F.gates) (p ∷ ps) → AreParts (p ∷ ps)
  parts_of s p ps r i c = record {
    items = i.items;
    rising = r;
    keys = pairs_unmap (KeysDiffer F.key) (λ (q : Part S I). q.items) (p ∷ ps) (all_keys_differ F.cmp F.key (all_items (p ∷ ps)) zs i.items r);
    each = each_in (p ∷ ps) (all_unmap (Rises F.cmp F.key) (λ (q : Part S I). q.items) (p ∷ ps) (each_rises F.cmp F.key (all_items (p ∷ ps)) zs i.items r))
        (all_unmap (λ (xs : List I). (n : ℕ) → IsFilled F.slot n xs → IsFilled F.slot n zs) (λ (q : Part S I). q.items) (p ∷ ps) (each_filled F.slot (all_items (p ∷ ps)) zs i.items)) i.before;
    clear = c;
  }

  items_at : (n : ℕ) (qs : List (Part S I)) → map (at_slot F.slot n) (all_items qs) ≡ all_items (map (at_part n) qs)
  items_at n [] = refl
  items_at n (q ∷ qs) = ap (λ (l : List (List I)). at_slot F.slot n q.items ∷ l) (items_at n qs)

  starts_at : (n : ℕ) (qs : List (Part S I)) → starts (map (at_part n) qs) ≡ map (brought n) qs
  starts_at n [] = refl
  starts_at n (q ∷ qs) = ap (λ (l : List S). brought n q ∷ l) (starts_at n qs)

  steps_at : (n : ℕ) (qs : List (Part S I)) → steps F L n (map (at_part n) qs) ≡ map (stepped_on n) qs
  steps_at n [] = refl
  steps_at n (q ∷ qs) = ap (λ (l : List S). stepped_on n q ∷ l) (steps_at n qs)

  beside_at_one : (n : ℕ) (q : Part S I) (rs : List (Part S I)) → AllByRecursion (F.is_beside (brought n q)) (map (brought n) rs) → AllByRecursion (Beside F L (at_part n q)) (map (at_part n) rs)
  beside_at_one n q [] h = tt
  beside_at_one n q (r ∷ rs) h = (h.0, beside_at_one n q rs h.1)

  beside_at : (n : ℕ) (qs : List (Part S I)) → EachPair F.is_beside (map (brought n) qs) → EachPair (Beside F L) (map (at_part n) qs)
  beside_at n [] h = tt
  beside_at n (q ∷ qs) h = (beside_at_one n q qs h.0, beside_at n qs h.1)

  before_at : (n : ℕ) (qs : List (Part S I)) → IsFilled F.slot n zs → AllByRecursion (λ q. IsPartOf F L q.start q.items zs) qs → AllByRecursion (λ r. F.is_before r.start n) (map (at_part n) qs)
  before_at n [] f h = tt
  before_at n (q ∷ qs) f h = (rested_stays F L q.start q.items zs h.0 n n (omega arith) f, before_at n qs f h.1)

  apart_at_one : (n : ℕ) (q : Part S I) (rs : List (Part S I)) → IsPartOf F L q.start q.items zs → AllByRecursion (λ r. IsPartOf F L r.start r.items zs) rs → AllByRecursion (DontCross F.next F.slot F.gates q) rs
      → AllByRecursion (ApartIn F L n (at_part n q)) (map (at_part n) rs)
  apart_at_one n q [] i h k = tt
  apart_at_one n q (r ∷ rs) i h k = (
    record {
      there = λ g. k.0 (inl (n, (g.0, g.1, (reads F L q.start q.items zs i n n (omega arith)).gates _ _ g.2)));
      back = λ g. k.0 (inr (n, (g.0, g.1, (reads F L r.start r.items zs h.0 n n (omega arith)).gates _ _ g.2)));
    },
    apart_at_one n q rs i h.1 k.1,
  )

  apart_at : (n : ℕ) (qs : List (Part S I)) → AllByRecursion (λ r. IsPartOf F L r.start r.items zs) qs → EachPair (DontCross F.next F.slot F.gates) qs → EachPair (ApartIn F L n) (map (at_part n) qs)
  apart_at n [] h k = tt
  apart_at n (q ∷ qs) h k = (apart_at_one n q qs h.0 h.1 k.0, apart_at n qs h.1 k.1)

  in_slot : (n : ℕ) (qs : List (Part S I)) → IsFilled F.slot n zs → AreParts qs → EachPair F.is_beside (map (brought n) qs) → AreInSlot F L n (map (at_part n) qs) (at_slot F.slot n zs)
  in_slot n qs f a b = record {
    items = subst (λ (l : List (List I)). AllInterleaved l (at_slot F.slot n zs)) (items_at n qs) (all_filtered (λ x. eqb (F.slot x) n) (all_items qs) zs a.items);
    of_slot = at_in_slot F.slot n zs;
    rising = rises_filter F.cmp F.key (λ x. eqb (F.slot x) n) zs a.rising;
    beside = beside_at n qs b;
    before = before_at n qs f a.each;
    apart = apart_at n qs a.each a.clear;
  }

  keys_at : (n : ℕ) (q r : Part S I) → KeysDiffer F.key q.items r.items → KeysDiffer F.key (at_slot F.slot n q.items) (at_slot F.slot n r.items)
  keys_at n q r h x y c d = h x y (in_filter (λ z. eqb (F.slot z) n) x q.items c) (in_filter (λ z. eqb (F.slot z) n) y r.items d)

  beside_step_one : (n : ℕ) (q : Part S I) (rs : List (Part S I)) → IsFilled F.slot n zs → IsPartOf F L q.start q.items zs → AllByRecursion (λ r. IsPartOf F L r.start r.items zs) rs
      → AllByRecursion (λ r. KeysDiffer F.key q.items r.items) rs → AllByRecursion (F.is_beside (brought n q)) (map (brought n) rs) → AllByRecursion (F.is_beside (stepped_on n q)) (map (stepped_on n) rs)
  beside_step_one n q [] f i h k b = tt
  beside_step_one n q (r ∷ rs) f i h k b = (
    L.beside_next (brought n q) (brought n r) n (at_slot F.slot n q.items) (at_slot F.slot n r.items) b.0
        (rested_stays F L q.start q.items zs i n n (omega arith) f) (rested_stays F L r.start r.items zs h.0 n n (omega arith) f) (at_in_slot F.slot n q.items) (at_in_slot F.slot n r.items)
        (at_rises F L q.start q.items zs n i) (at_rises F L r.start r.items zs n h.0) (keys_at n q r k.0),
    beside_step_one n q rs f i h.1 k.1 b.1,
  )

  beside_step : (n : ℕ) (qs : List (Part S I)) → IsFilled F.slot n zs → AllByRecursion (λ r. IsPartOf F L r.start r.items zs) qs → EachPair (λ q r. KeysDiffer F.key q.items r.items) qs
      → EachPair F.is_beside (map (brought n) qs) → EachPair F.is_beside (map (stepped_on n) qs)
  beside_step n [] f h k b = tt
  beside_step n (q ∷ qs) f h k b = (beside_step_one n q qs f h.0 h.1 k.0 b.0, beside_step n qs f h.1 k.1 b.1)

  brought_zero : (qs : List (Part S I)) → map (brought zero) qs ≡ starts qs
  unfolding rested_before
  brought_zero [] = refl
  brought_zero (q ∷ qs) = ap (λ (l : List S). q.start ∷ l) (brought_zero qs)

  pairs_map : (qs : List (Part S I)) → EachPair (λ q r. F.is_beside q.start r.start) qs → EachPair F.is_beside (starts qs)
  pairs_map [] h = tt
  pairs_map (q ∷ qs) h = (all_starts q qs h.0, pairs_map qs h.1)
    where
      all_starts : (q : Part S I) (rs : List (Part S I)) → AllByRecursion (λ r. F.is_beside q.start r.start) rs → AllByRecursion (F.is_beside q.start) (starts rs)
      all_starts q [] h = tt
      all_starts q (r ∷ rs) h = (h.0, all_starts q rs h.1)

  brought_full : (n : ℕ) (q : Part S I) → IsFilled F.slot n zs → brought (suc n) q ≡ stepped_on n q
  unfolding rested_before
  brought_full n q f = rested_filled F.next (brought n q) n (at_slot F.slot n q.items) (at_slot F.slot n zs) f

  brought_none : (n : ℕ) (q : Part S I) → at_slot F.slot n zs ≡ [] → brought (suc n) q ≡ brought n q
  unfolding rested_before
  brought_none n q e = ap (rested_step F.next (brought n q) n (at_slot F.slot n q.items)) e

  all_full : (n : ℕ) (qs : List (Part S I)) → IsFilled F.slot n zs → map (brought (suc n)) qs ≡ map (stepped_on n) qs
  all_full n [] f = refl
  all_full n (q ∷ qs) f = λ i. brought_full n q f i ∷ all_full n qs f i

  all_none : (n : ℕ) (qs : List (Part S I)) → at_slot F.slot n zs ≡ [] → map (brought (suc n)) qs ≡ map (brought n) qs
  all_none n [] e = refl
  all_none n (q ∷ qs) e = λ i. brought_none n q e i ∷ all_none n qs e i

  abbrev whole : S → Part S I
  whole s = record { number = 0; start = s; items = zs }

  pub record AreBrought (s : S) (p : Part S I) (ps : List (Part S I)) (n : ℕ) : Type 0 where
    pub state : rested_before F.next F.slot s zs zs n ≡ fold F.merged (brought n p) (map (brought n) ps)
    pub beside : EachPair F.is_beside (map (brought n) (p ∷ ps))

  step_all : (s : S) (p : Part S I) (ps : List (Part S I)) (n : ℕ) → IsFilled F.slot n zs → AreParts (p ∷ ps) → AreBrought s p ps n
      → F.next (rested_before F.next F.slot s zs zs n) n (at_slot F.slot n zs) ≡ fold F.merged (stepped_on n p) (map (stepped_on n) ps)
  step_all s p ps n f a b =
      ap (λ t. F.next t n (at_slot F.slot n zs)) (b.state ∙ ap (fold F.merged (brought n p)) (sym (starts_at n ps)))
      ∙ next_all F L n (at_part n p) (map (at_part n) ps) (at_slot F.slot n zs) (in_slot n (p ∷ ps) f a b.beside)
      ∙ ap (fold F.merged (stepped_on n p)) (steps_at n ps)

  pub bring : (s : S) (p : Part S I) (ps : List (Part S I)) → fold F.merged p.start (starts ps) ≡ s → EachPair (λ q r. F.is_beside q.start r.start) (p ∷ ps) → AreParts (p ∷ ps) → (n : ℕ) → AreBrought s p ps n
  unfolding rested_before
  bring s p ps e d a zero = record {
    state = sym e ∙ ap (fold F.merged p.start) (sym (brought_zero ps));
    beside = subst (EachPair F.is_beside) (sym (brought_zero (p ∷ ps))) (pairs_map (p ∷ ps) d);
  }
  bring s p ps e d a (suc n) =
      let b : AreBrought s p ps n = bring s p ps e d a n in
      elim (empty_or (at_slot F.slot n zs)) [
        | inl q ↦ record {
          state = brought_none n (whole s) q ∙ b.state ∙ sym (λ i. fold F.merged (brought_none n p q i) (all_none n ps q i));
          beside = subst (EachPair F.is_beside) (sym (all_none n (p ∷ ps) q)) b.beside;
        }
        | inr f ↦ record {
          state = brought_full n (whole s) f ∙ step_all s p ps n f a b ∙ sym (λ i. fold F.merged (brought_full n p f i) (all_full n ps f i));
          beside = subst (EachPair F.is_beside) (sym (all_full n (p ∷ ps) f)) (beside_step n (p ∷ ps) f a.each a.keys b.beside);
        }
      ]

  after_one : (n : ℕ) (q : Part S I) → IsPartOf F L q.start q.items zs → stepped_on n q ≡ after F.next F.slot q.start q.items n
  unfolding after
  after_one n q i = (reads F L q.start q.items zs i n n (omega arith)).next (at_slot F.slot n q.items)

  after_all : (n : ℕ) (qs : List (Part S I)) → AllByRecursion (λ r. IsPartOf F L r.start r.items zs) qs → map (stepped_on n) qs ≡ map (λ q. after F.next F.slot q.start q.items n) qs
  after_all n [] h = refl
  after_all n (q ∷ qs) h = λ i. after_one n q h.0 i ∷ after_all n qs h.1 i

  -- after each filled slot the whole is the parts merged
  pub merged_runs : (s : S) (p : Part S I) (ps : List (Part S I)) → Rises F.cmp F.key zs → IsSplitting F.slot F.is_before F.is_beside F.merged s zs (p ∷ ps) → EachPair (DontCross F.next F.slot F.gates) (p ∷ ps)
      → (n : ℕ) → IsFilled F.slot n zs → IsJoin F.merged (states_after F.next F.slot (p ∷ ps) n) (after F.next F.slot s zs n)
  unfolding after
  merged_runs s p ps r i c n f =
      let a : AreParts (p ∷ ps) = parts_of s p ps r i c in
      ap (λ t. F.next t n (at_slot F.slot n zs)) (whole_rests_nowhere F.next F.slot s zs n) ∙ step_all s p ps n f a (bring s p ps (sym i.state) i.beside a n)
      ∙ (λ j. fold F.merged (after_one n p a.each.0 j) (after_all n ps a.each.1 j))

  outs_at : (n : ℕ) (qs : List (Part S I)) (os : List O) → AllByRecursion (λ r. IsPartOf F L r.start r.items zs) qs → AreOutsAt F.next F.slot F.is_out n qs os → OutsIn F L n (map (at_part n) qs) os
  outs_at n [] os h k = k
  outs_at n (q ∷ qs) os h k = first_weaker (F.is_out (before F.next F.slot q.start q.items n) n (at_slot F.slot n q.items)) (F.is_out (brought n q) n (at_slot F.slot n q.items))
      (AreOutsAt F.next F.slot F.is_out n qs) (OutsIn F L n (map (at_part n) qs)) (at_slot F.slot n q.items) os
      (λ o g. (reads F L q.start q.items zs h.0 n n (omega arith)).out (at_slot F.slot n q.items) o g) (λ l g. outs_at n qs l h.1 g) k
    where
      first_weaker : (P P' : O → Type 0) (Q Q' : List O → Type 0) (xs : List I) (os : List O) → ((o : O) → P o → P' o) → ((l : List O) → Q l → Q' l) → OutsBegin P Q xs os → OutsBegin P' Q' xs os
      first_weaker P P' Q Q' [] os f g h = g os h
      first_weaker P P' Q Q' (x ∷ xs) [] f g h = h
      first_weaker P P' Q Q' (x ∷ xs) (o ∷ os) f g h = (f o h.0, g os h.1)

  pub merged_outs : (s : S) (p : Part S I) (ps : List (Part S I)) → Rises F.cmp F.key zs → IsSplitting F.slot F.is_before F.is_beside F.merged s zs (p ∷ ps) → EachPair (DontCross F.next F.slot F.gates) (p ∷ ps)
      → (n : ℕ) → IsFilled F.slot n zs → (os : List O) (o : O) → AreOutsAt F.next F.slot F.is_out n (p ∷ ps) os → IsJoin F.both os o → F.is_out (before F.next F.slot s zs n) n (at_slot F.slot n zs) o
  merged_outs s p ps r i c n f os o h k =
      let a : AreParts (p ∷ ps) = parts_of s p ps r i c in
      let b : AreBrought s p ps n = bring s p ps (sym i.state) i.beside a n in
      subst (λ t. F.is_out t n (at_slot F.slot n zs) o) (sym (whole_rests_nowhere F.next F.slot s zs n ∙ b.state ∙ ap (fold F.merged (brought n p)) (sym (starts_at n ps))))
      (out_all F L n (at_part n p) (map (at_part n) ps) (at_slot F.slot n zs) os o (in_slot n (p ∷ ps) f a b.beside) (outs_at n (p ∷ ps) os a.each h) k)

  -- the same of any list of parts; of none nothing is a splitting
  pub all_states : (s : S) (parts : List (Part S I)) → Rises F.cmp F.key zs → IsSplitting F.slot F.is_before F.is_beside F.merged s zs parts → EachPair (DontCross F.next F.slot F.gates) parts
      → (n : ℕ) → IsFilled F.slot n zs → IsJoin F.merged (states_after F.next F.slot parts n) (after F.next F.slot s zs n)
  all_states s [] r i c n f = absurd i.state
  all_states s (p ∷ ps) r i c n f = merged_runs s p ps r i c n f

  pub all_outs : (s : S) (parts : List (Part S I)) → Rises F.cmp F.key zs → IsSplitting F.slot F.is_before F.is_beside F.merged s zs parts → EachPair (DontCross F.next F.slot F.gates) parts
      → (n : ℕ) → IsFilled F.slot n zs → (os : List O) (o : O) → AreOutsAt F.next F.slot F.is_out n parts os → IsJoin F.both os o → F.is_out (before F.next F.slot s zs n) n (at_slot F.slot n zs) o
  all_outs s [] r i c n f os o h k = absurd i.state
  all_outs s (p ∷ ps) r i c n f os o h k = merged_outs s p ps r i c n f os o h k
