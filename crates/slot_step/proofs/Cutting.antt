-- Plots of a slot are cut into batches.
use Rattle.std.proofs.Common.{◌≡◌, ◌∙◌, ap, sym, refl, ℕ, zero, suc, ◌+◌, ◌-◌, ◌<◌, ◌≤◌, append_assoc, append-nil, length-append, length-drop, List, [], ◌∷◌, ◌++◌, length, get_or, map, take, drop, true, false, leb, arith, subst, inl, inr}
use Rattle.std.specs.Prelude.{Contains}
use Rattle.std.specs.List.{AllByRecursion}
use Rattle.std.specs.List.Sorted.{IsStrictlySortedBy, IsStrictlyIncreasing, IsPartitionPoint, IsPartitionedBy}
use Rattle.std.specs.declared.cmp.Ordering.TheVariants.{Less, Greater}
use Rattle.std.specs.Ordering.{ordering_reverse}
use Rattle.trk_base.specs.KeyOrder.{key_cmp_total}
use Rattle.std.proofs.lemmas.Bool.{leb-true, le-leb, cases_lt}
use Rattle.std.proofs.lemmas.List.{take-append-drop}
use Rattle.std.proofs.lemmas.List.Elements.{Contains-get_or, recursion_from_All, Contains-append_left}
use Rattle.trk_base.specs.declared.keys.Key.{Key}
use Rattle.trk_base.specs.Keys.{key_cmp}
use Rattle.plot_geometry.specs.Plots.{PlanePlot}
use Rattle.slot_step.specs.OneBatch.{Batch, IsBatch}
use Rattle.slot_step.specs.Calls.{AreBatches, GoesOn, IsFirstBatch, plots_of}
use Rattle.slot_step.proofs.Batched.{by_radar, none_sorted}
use Rattle.slot_step.proofs.Interleavings.{all_append, all_contains, all_weaker, contains_first, contains_later}
use Rattle.std.proofs.lemmas.Cmp.{on_total}
use Rattle.std.proofs.lemmas.Map.Keys.{sorted_from_all_adjacent}
use Rattle.slot_step.proofs.Components.{get_at, rest_rises, sorted_at}
use Rattle.slot_step.proofs.Paired.{map_one}
use Rattle.slot_step.proofs.Passing.{halves}
use Rattle.std.proofs.Math.Seq.{drop-append_seam}
use Rattle.slot_step.proofs.ComponentEdges.{all_take, all_two}

abbrev pub Rise : List PlanePlot → Type 0
Rise ps = IsStrictlySortedBy (λ p q. key_cmp p.key q.key) ps

abbrev pub OfSlot : ℕ → List PlanePlot → Type 0
OfSlot n ps = AllByRecursion (λ p. p.key.slot ≡ n) ps

both_less : (a b : Key) → key_cmp a b ≡ Less → key_cmp b a ≡ Less → ⊥
both_less a b h g = let e : Less ≡ Greater = sym g ∙ key_cmp_total.antisymm b a ∙ ap ordering_reverse h in cc

-- a later plot isn't of a lower radar
not_lower : (p q : PlanePlot) → p.key.slot ≡ q.key.slot → key_cmp p.key q.key ≡ Less → p.key.radar ≤ q.key.radar
not_lower p q e lt = elim (cases_lt q.key.radar p.key.radar) [
  | inl low ↦ absurd (both_less p.key q.key lt (by_radar q p (sym e) low))
  | inr le ↦ le
]

pub radars_from : (n : ℕ) (p : PlanePlot) (ps : List PlanePlot) → Rise (p ∷ ps) → OfSlot n (p ∷ ps) → AllByRecursion (λ q. p.key.radar ≤ q.key.radar) (p ∷ ps)
unfolding IsStrictlySortedBy
radars_from n p ps h s = (omega arith, all_two (λ q. key_cmp p.key q.key ≡ Less) (λ q. q.key.slot ≡ n) (λ q. p.key.radar ≤ q.key.radar) ps (λ q lt e. not_lower p q (s.0 ∙ sym e) lt) h.0 s.1)

tail : (p : PlanePlot) (ps : List PlanePlot) → Rise (p ∷ ps) → Rise ps
unfolding IsStrictlySortedBy
tail p ps h = h.1

pub rise_take : (k : ℕ) (ps : List PlanePlot) → Rise ps → Rise (take k ps)
unfolding IsStrictlySortedBy
rise_take zero ps h = tt
rise_take (suc k) [] h = tt
rise_take (suc k) (p ∷ ps) h = (all_take (λ q. key_cmp p.key q.key ≡ Less) k ps h.0, rise_take k ps h.1)

pub rise_drop : (k : ℕ) (ps : List PlanePlot) → Rise ps → Rise (drop k ps)
rise_drop zero ps h = h
rise_drop (suc k) [] h = h
rise_drop (suc k) (p ∷ ps) h = rise_drop k ps (tail p ps h)

pub all_drop : {X : Type 0} (Q : X → Type 0) (k : ℕ) (xs : List X) → AllByRecursion Q xs → AllByRecursion Q (drop k xs)
all_drop Q zero xs h = h
all_drop Q (suc k) [] h = h
all_drop Q (suc k) (x ∷ xs) h = all_drop Q k xs h.1

-- none of a lower radar comes after one of a higher
pub radars_parted : (n r : ℕ) (ps : List PlanePlot) → Rise ps → OfSlot n ps → IsPartitionedBy (λ p. leb p.key.radar r) ps
radars_parted n r ps h s i j d le lt e = le-leb (get_or ps i d).key.radar r (omega (arith, rises n ps h s i j d le lt, leb-true (get_or ps j d).key.radar r e))
  where
    rises : (n : ℕ) (ps : List PlanePlot) → Rise ps → OfSlot n ps → (i j : ℕ) (d : PlanePlot) → i ≤ j → j < length ps → (get_or ps i d).key.radar ≤ (get_or ps j d).key.radar
    rises n [] h s i j d le lt = absurd (omega (arith, lt))
    rises n (p ∷ ps) h s zero zero d le lt = omega arith
    rises n (p ∷ ps) h s zero (suc j) d le lt = all_contains (λ q. p.key.radar ≤ q.key.radar) (get_or ps j d) (p ∷ ps) (radars_from n p ps h s) (contains_later p (get_or ps j d) ps (Contains-get_or ps j d (omega (arith, lt))))
    rises n (p ∷ ps) h s (suc i) zero d le lt = absurd (omega (arith, le))
    rises n (p ∷ ps) h s (suc i) (suc j) d le lt = rises n ps (tail p ps h) s.1 i j d (omega (arith, le)) (omega (arith, lt))

above : (a b : ℕ) → leb a b ≡ false → b < a
above a b f = elim (cases_lt b a) [ inl lt ↦ lt | inr le ↦ absurd (let e : true ≡ false = sym (le-leb a b le) ∙ f in cc) ]

some_taken : (k r : ℕ) (p : PlanePlot) (ps : List PlanePlot) → p.key.radar ≡ r → AllByRecursion (λ q. leb q.key.radar r ≡ false) (drop k (p ∷ ps)) → 0 < length (take k (p ∷ ps))
some_taken zero r p ps e h = let lt : r < p.key.radar = above p.key.radar r h.0 in absurd (omega (arith, e, lt))
some_taken (suc k) r p ps e h = omega arith

-- the plots of the first radar
pub first_is : (n : ℕ) (ps : List PlanePlot) (r k : ℕ) (d : PlanePlot) → 0 < length ps → Rise ps → OfSlot n ps → r ≡ (get_or ps 0 d).key.radar → r < 256 → k ≤ length ps
    → IsPartitionPoint (λ p. leb p.key.radar r ≡ true) (λ p. leb p.key.radar r ≡ false) ps k → IsBatch (record { radar = r; plots = take k ps })
first_is n [] r k d some h s e o le pt = absurd (omega (arith, some))
first_is n (p ∷ ps) r k d some h s e o le pt =
    let two : AllByRecursion (λ (q : PlanePlot). leb q.key.radar r ≡ true) (take k (p ∷ ps)) × AllByRecursion (λ (q : PlanePlot). leb q.key.radar r ≡ false) (drop k (p ∷ ps)) = halves (λ q. leb q.key.radar r) k (p ∷ ps) le pt.0 pt.1 in
    record {
      octet = o;
      some = some_taken k r p ps (sym e) two.1;
      rising = rise_take k (p ∷ ps) h;
      of_radar = all_two (λ (q : PlanePlot). leb q.key.radar r ≡ true) (λ (q : PlanePlot). p.key.radar ≤ q.key.radar) (λ (q : PlanePlot). q.key.radar ≡ r) (take k (p ∷ ps)) (λ q a b. omega (arith, leb-true q.key.radar r a, b, e)) two.0
          (all_take (λ (q : PlanePlot). p.key.radar ≤ q.key.radar) k (p ∷ ps) (radars_from n p ps h s));
      slot = n;
      of_slot = all_take (λ (q : PlanePlot). q.key.slot ≡ n) k (p ∷ ps) s;
    }

pub first_batch_is : (ps : List PlanePlot) (r k : ℕ) → k ≤ length ps → IsPartitionPoint (λ p. leb p.key.radar r ≡ true) (λ p. leb p.key.radar r ≡ false) ps k → IsBatch (record { radar = r; plots = take k ps }) → IsFirstBatch ps (record { radar = r; plots = take k ps })
first_batch_is ps r k le pt b =
    let two : AllByRecursion (λ (q : PlanePlot). leb q.key.radar r ≡ true) (take k ps) × AllByRecursion (λ (q : PlanePlot). leb q.key.radar r ≡ false) (drop k ps) = halves (λ q. leb q.key.radar r) k ps le pt.0 pt.1 in
    record {
      batch = b;
      others = drop k ps;
      all = sym (take-append-drop k ps);
      above = all_weaker (λ (q : PlanePlot). leb q.key.radar r ≡ false) (λ (q : PlanePlot). r < q.key.radar) (drop k ps) (λ q f. above q.key.radar r f) two.1;
    }

-- the batches of the first plots
pub record AreCut (ps : List PlanePlot) (bs : List Batch) (from : ℕ) : Type 0 where
  pub inside : from ≤ length ps
  pub all : plots_of bs ++ drop from ps ≡ ps
  pub batches : (n : ℕ) → OfSlot n ps → AreBatches n bs
  pub above : AllByRecursion (λ b. AllByRecursion (λ p. b.radar < p.key.radar) (drop from ps)) bs

pub none_cut : (ps : List PlanePlot) → AreCut ps [] 0
none_cut ps = record { inside = omega arith; all = refl; batches = λ n s. record { each = tt; of_slot = tt; rising = λ k lt. absurd (omega (arith, lt)) }; above = tt }

plots_append : (bs cs : List Batch) → plots_of (bs ++ cs) ≡ plots_of bs ++ plots_of cs
plots_append [] cs = refl
plots_append (b ∷ bs) cs = ap (λ (ps : List PlanePlot). b.plots ++ ps) (plots_append bs cs) ∙ sym (append_assoc b.plots (plots_of bs) (plots_of cs))

push_rises : (ns : List ℕ) (n : ℕ) → IsStrictlyIncreasing ns → AllByRecursion (λ m. m < n) ns → IsStrictlyIncreasing (ns ++ n ∷ [])
push_rises [] n up h k lt = absurd (omega (arith, lt))
push_rises (m ∷ []) n up h zero lt = h.0
push_rises (m ∷ []) n up h (suc k) lt = absurd (omega (arith, lt))
push_rises (m ∷ l ∷ ns) n up h zero lt = up 0 (omega arith)
push_rises (m ∷ l ∷ ns) n up h (suc k) lt =
    let e : suc (k + 1) ≡ suc k + 1 = omega arith in
    subst (λ j. get_or ((l ∷ ns) ++ n ∷ []) k 0 < get_or (m ∷ (l ∷ ns) ++ n ∷ []) j 0) e (push_rises (l ∷ ns) n (rest_rises m (l ∷ ns) up) h.1 k (omega (arith, lt)))

all_radars : (Q : ℕ → Type 0) (bs : List Batch) → AllByRecursion (λ c. Q c.radar) bs → AllByRecursion Q (map (λ c. c.radar) bs)
all_radars Q [] h = tt
all_radars Q (b ∷ bs) h = (h.0, all_radars Q bs h.1)

radars_push : (bs : List Batch) (b : Batch) → IsStrictlyIncreasing (map (λ c. c.radar) bs) → AllByRecursion (λ c. c.radar < b.radar) bs → IsStrictlyIncreasing (map (λ c. c.radar) (bs ++ b ∷ []))
radars_push bs b up h = subst IsStrictlyIncreasing (sym (map_one (λ (c : Batch). c.radar) bs b)) (push_rises (map (λ c. c.radar) bs) b.radar up (all_radars (λ r. r < b.radar) bs h))

drop_none : (X : Type 0) (k : ℕ) → drop {A = X} k [] ≡ []
drop_none X zero = refl
drop_none X (suc k) = refl

drop_sum : {X : Type 0} (n m : ℕ) (xs : List X) → drop (n + m) xs ≡ drop m (drop n xs)
drop_sum zero m xs = let e : 0 + m ≡ m = omega arith in ap (λ k. drop k xs) e
drop_sum {X} (suc n) m [] = drop_none X (suc n + m) ∙ sym (drop_none X m)
drop_sum (suc n) m (x ∷ xs) = let e : suc n + m ≡ suc (n + m) = omega arith in ap (λ k. drop k (x ∷ xs)) e ∙ drop_sum n m xs

drop_front : {X : Type 0} (n : ℕ) (xs front rest : List X) → drop n xs ≡ front ++ rest → drop (n + length front) xs ≡ rest
drop_front {X} n xs front rest e = drop_sum n (length front) xs ∙ ap (drop (length front)) e ∙ drop-append_seam front rest

first_plot : (ps qs : List PlanePlot) → 0 < length ps → (p : PlanePlot) × Contains ps p
first_plot [] qs lt = absurd (omega (arith, lt))
first_plot (p ∷ ps) qs lt = (p, contains_first p p ps refl)

pub cut_more : (ps : List PlanePlot) (bs : List Batch) (from : ℕ) (b : Batch) → AreCut ps bs from → IsFirstBatch (drop from ps) b → AreCut ps (bs ++ b ∷ []) (from + length b.plots)
cut_more ps bs from b c f =
    let rest : drop (from + length b.plots) ps ≡ f.others = drop_front from ps b.plots f.others f.all in
    record {
      inside = omega (arith, ap length f.all, length-append b.plots f.others, length-drop from ps, c.inside);
      all = ap (λ (qs : List PlanePlot). plots_of (bs ++ b ∷ []) ++ qs) rest ∙ ap (λ (qs : List PlanePlot). qs ++ f.others) (plots_append bs (b ∷ []) ∙ ap (λ (qs : List PlanePlot). plots_of bs ++ qs) (append-nil b.plots))
          ∙ append_assoc (plots_of bs) b.plots f.others ∙ ap (λ (qs : List PlanePlot). plots_of bs ++ qs) (sym f.all) ∙ c.all;
      batches = λ n s.
          let own : OfSlot n b.plots = all_front (λ p. p.key.slot ≡ n) b.plots f.others (subst (OfSlot n) f.all (all_drop (λ p. p.key.slot ≡ n) from ps s)) in
          let p : (p : PlanePlot) × Contains b.plots p = first_plot b.plots [] f.batch.some in
          record {
            each = all_append IsBatch bs (b ∷ []) (c.batches n s).each (f.batch, tt);
            of_slot = all_append (λ d. OfSlot n d.plots) bs (b ∷ []) (c.batches n s).of_slot (own, tt);
            rising = radars_push bs b (c.batches n s).rising (all_weaker (λ d. AllByRecursion (λ q. d.radar < q.key.radar) (drop from ps)) (λ d. d.radar < b.radar) bs
                (λ d h. omega (
                  arith,
                  all_contains (λ q. d.radar < q.key.radar) p.0 (drop from ps) h (subst (λ (qs : List PlanePlot). Contains qs p.0) (sym f.all) (Contains-append_left b.plots f.others p.0 p.1)),
                  all_contains (λ q. q.key.radar ≡ b.radar) p.0 b.plots f.batch.of_radar p.1,
                )) c.above);
          };
      above = all_append (λ d. AllByRecursion (λ q. d.radar < q.key.radar) (drop (from + length b.plots) ps)) bs (b ∷ [])
          (all_weaker (λ d. AllByRecursion (λ q. d.radar < q.key.radar) (drop from ps)) (λ d. AllByRecursion (λ q. d.radar < q.key.radar) (drop (from + length b.plots) ps)) bs
          (λ d h. subst (AllByRecursion (λ (q : PlanePlot). d.radar < q.key.radar)) (sym rest) (all_back (λ (q : PlanePlot). d.radar < q.key.radar) b.plots f.others (subst (AllByRecursion (λ (q : PlanePlot). d.radar < q.key.radar)) f.all h))) c.above)
          (subst (AllByRecursion (λ (q : PlanePlot). b.radar < q.key.radar)) (sym rest) f.above, tt);
    }
  where
    all_front : {X : Type 0} (Q : X → Type 0) (xs ys : List X) → AllByRecursion Q (xs ++ ys) → AllByRecursion Q xs
    all_front Q [] ys h = tt
    all_front Q (x ∷ xs) ys h = (h.0, all_front Q xs ys h.1)

    all_back : {X : Type 0} (Q : X → Type 0) (xs ys : List X) → AllByRecursion Q (xs ++ ys) → AllByRecursion Q ys
    all_back Q [] ys h = h
    all_back Q (x ∷ xs) ys h = all_back Q xs ys h.1

-- each plot goes on from the one before it
each_goes_on : (n : ℕ) (ps : List PlanePlot) → Rise ps → OfSlot n ps → (i : ℕ) → i < length ps → GoesOn n ps i
each_goes_on n ps h s i lt = record {
  slot = λ d. all_contains (λ p. p.key.slot ≡ n) (get_or ps i d) ps s (Contains-get_or ps i d lt);
  above = λ d pos. sorted_at (λ p q. key_cmp p.key q.key) ps h (i - 1) i (get_or ps (i - 1) d) (get_or ps i d) (omega (arith, pos)) (get_at d ps (i - 1) (omega (arith, lt, pos))) (get_at d ps i lt);
}

pub one_stops : (n : ℕ) (ps : List PlanePlot) (i : ℕ) → i < length ps → (GoesOn n ps i → ⊥) → Rise ps × OfSlot n ps → ⊥
one_stops n ps i lt f h = f (each_goes_on n ps h.0 h.1 i lt)

pub all_go_on : (n : ℕ) (ps : List PlanePlot) → ((i : ℕ) → i < length ps → GoesOn n ps i) → Rise ps × OfSlot n ps
all_go_on n [] f = (none_sorted, tt)
all_go_on n (p ∷ ps) f = (
  sorted_from_all_adjacent (on_total (λ (q : PlanePlot). q.key) key_cmp_total) (p ∷ ps) p (λ k lt.
      let e : k + 1 - 1 ≡ k = omega arith in
      subst (λ j. key_cmp (get_or (p ∷ ps) j p).key (get_or (p ∷ ps) (k + 1) p).key ≡ Less) e ((f (k + 1) lt).above p (omega arith))),
  recursion_from_All (λ q. q.key.slot ≡ n) (p ∷ ps) (λ k d lt. (f k lt).slot d),
)
