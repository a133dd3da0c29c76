-- The batches of a slot, one after the other in rising radar.
use Rattle.std.proofs.Common.{◌≡◌, ◌≢◌, ◌∙◌, ap, sym, refl, ℕ, zero, suc, ◌<◌, List, [], ◌∷◌, ◌++◌, map, true, false, eqb, arith, subst, inl, inr}
use Rattle.std.specs.Prelude.{Contains}
use Rattle.std.specs.List.{AllByRecursion}
use Rattle.std.specs.List.Sorted.{IsStrictlySortedBy}
use Rattle.std.specs.declared.cmp.Ordering.TheVariants.{Less}
use Rattle.std.proofs.lemmas.Bool.{eq-eqb}
use Rattle.std.proofs.lemmas.List.{append-nil}
use Rattle.std.proofs.lemmas.List.Elements.{filter-append, Contains-append_cases, Contains-append_left, Contains-append_right}
use Rattle.trk_base.specs.Keys.{key_cmp}
use Rattle.plot_geometry.specs.Plots.{PlanePlot}
use Rattle.slot_step.specs.OneBatch.{Batch, IsBatch}
use Rattle.slot_step.specs.Calls.{AreBatches, plots_of}
use Rattle.slot_step.specs.Batches.{of_radar}
use Rattle.slot_step.specs.Slots.{radar_limit}
use Rattle.slot_step.specs.Certificates.{IsAt}
use Rattle.slot_step.proofs.Interleavings.{all_of, all_append, all_contains, all_weaker, contains_first, contains_later, contains_none}
use Rattle.slot_step.proofs.Batching.{eqb_not}
use Rattle.slot_step.proofs.Certifying.{at_contains}
use Rattle.cluster_split.proofs.Classes.{mapped}
use Rattle.slot_step.proofs.Components.{rest_rises, later}
use Rattle.slot_step.proofs.Passing.{all_pass, none_pass}
use Rattle.slot_step.proofs.Slotted.{InSlot}
use Rattle.slot_step.proofs.Tracker.{tracks_ordered}

abbrev pub radar_of : PlanePlot → ℕ
radar_of p = p.key.radar

-- what holds of each batch's plots holds of all
plots_all : (Q : PlanePlot → Type 0) (bs : List Batch) → AllByRecursion (λ b. AllByRecursion Q b.plots) bs → AllByRecursion Q (plots_of bs)
plots_all Q [] h = tt
plots_all Q (b ∷ bs) h = all_append Q b.plots (plots_of bs) h.0 (plots_all Q bs h.1)

pub plots_in_slot : (n : ℕ) (bs : List Batch) → AreBatches n bs → AllByRecursion (InSlot n) (plots_of bs)
plots_in_slot n bs h = plots_all (InSlot n) bs h.of_slot

pub radars_limited : (n : ℕ) (bs : List Batch) → AreBatches n bs → AllByRecursion (λ p. radar_of p < radar_limit) (plots_of bs)
radars_limited n bs h = plots_all (λ p. radar_of p < radar_limit) bs (all_weaker IsBatch (λ b. AllByRecursion (λ p. radar_of p < radar_limit) b.plots) bs
    (λ b k. all_weaker (λ p. radar_of p ≡ b.radar) (λ p. radar_of p < radar_limit) b.plots (λ p e. omega (arith, e, k.octet)) k.of_radar) h.each)

-- batches without the first of them
rest_batches : (n : ℕ) (b : Batch) (bs : List Batch) → AreBatches n (b ∷ bs) → AreBatches n bs
rest_batches n b bs h = record { each = h.each.1; of_slot = h.of_slot.1; rising = rest_rises b.radar (map (λ c. c.radar) bs) h.rising }

radar_later : (n : ℕ) (b c : Batch) (bs : List Batch) → AreBatches n (b ∷ bs) → Contains bs c → b.radar < c.radar
radar_later n b c bs h k = later b.radar (map (λ d. d.radar) bs) h.rising c.radar (mapped (λ d. d.radar) bs c k)

pub in_plots : (bs : List Batch) (p : PlanePlot) → Contains (plots_of bs) p → (b : Batch) × Contains bs b × Contains b.plots p
in_plots [] p c = contains_none p c
in_plots (b ∷ bs) p c = elim (Contains-append_cases b.plots (plots_of bs) p c) [
  | inl d ↦ (b, contains_first b b bs refl, d)
  | inr d ↦ let r : (a : Batch) × Contains bs a × Contains a.plots p = in_plots bs p d in (r.0, contains_later b r.0 bs r.1, r.2)
]

pub plots_have : (bs : List Batch) (i : ℕ) (b : Batch) (p : PlanePlot) → IsAt bs i b → Contains b.plots p → Contains (plots_of bs) p
plots_have [] i b p a c = absurd a
plots_have (d ∷ bs) zero b p a c = Contains-append_left d.plots (plots_of bs) p (subst (λ (e : Batch). Contains e.plots p) (sym a) c)
plots_have (d ∷ bs) (suc i) b p a c = Contains-append_right d.plots (plots_of bs) p (plots_have bs i b p a c)

-- of one slot, a plot of a lower radar comes first
pub by_radar : (p q : PlanePlot) → p.key.slot ≡ q.key.slot → p.key.radar < q.key.radar → key_cmp p.key q.key ≡ Less
by_radar p q e lt = (tracks_ordered (record { hits = 1; keep_tentative = 1; keep_confirmed = 1; hits_range = (omega arith, omega arith); keep_tentative_range = (omega arith, omega arith); keep_confirmed_range = (omega arith, omega arith) })).by_radar p.key q.key e lt

-- plots of several batches rise
plots_append : (ps qs : List PlanePlot) → IsStrictlySortedBy (λ p q. key_cmp p.key q.key) ps → IsStrictlySortedBy (λ p q. key_cmp p.key q.key) qs → AllByRecursion (λ p. AllByRecursion (λ q. key_cmp p.key q.key ≡ Less) qs) ps
    → IsStrictlySortedBy (λ p q. key_cmp p.key q.key) (ps ++ qs)
unfolding IsStrictlySortedBy
plots_append [] qs h g c = g
plots_append (p ∷ ps) qs h g c = (all_append (λ q. key_cmp p.key q.key ≡ Less) ps qs h.0 c.0, plots_append ps qs h.1 g c.1)

pub none_sorted : IsStrictlySortedBy (λ (p : PlanePlot) q. key_cmp p.key q.key) []
unfolding IsStrictlySortedBy
none_sorted = tt

pub plots_rise : (n : ℕ) (bs : List Batch) → AreBatches n bs → IsStrictlySortedBy (λ p q. key_cmp p.key q.key) (plots_of bs)
plots_rise n [] h = none_sorted
plots_rise n (b ∷ bs) h =
    let rest : AreBatches n bs = rest_batches n b bs h in
    plots_append b.plots (plots_of bs) h.each.0.rising (plots_rise n bs rest) (all_of (λ p. AllByRecursion (λ q. key_cmp p.key q.key ≡ Less) (plots_of bs)) b.plots (λ p c.
    all_of (λ q. key_cmp p.key q.key ≡ Less) (plots_of bs) (λ q d.
    let v : (a : Batch) × Contains bs a × Contains a.plots q = in_plots bs q d in
    let one : p.key.radar ≡ b.radar = all_contains (λ r. r.key.radar ≡ b.radar) p b.plots h.each.0.of_radar c in
    let other : q.key.radar ≡ v.0.radar = all_contains (λ r. r.key.radar ≡ v.0.radar) q v.0.plots (all_contains IsBatch v.0 bs h.each.1 v.1).of_radar v.2 in
    let here : p.key.slot ≡ n = all_contains (InSlot n) p b.plots h.of_slot.0 c in
    let there : q.key.slot ≡ n = all_contains (InSlot n) q (plots_of bs) (plots_in_slot n bs rest) d in
    (by_radar p q (here ∙ sym there) (omega (arith, one, other, radar_later n b v.0 bs h v.1))))))

-- the plots of one radar are those of its batch
filter_batch : (b : Batch) (r : ℕ) → IsBatch b → b.radar ≡ r → of_radar radar_of r b.plots ≡ b.plots
filter_batch b r h e = all_pass (λ p. eqb (radar_of p) r) b.plots (all_weaker (λ p. radar_of p ≡ b.radar) (λ p. eqb (radar_of p) r ≡ true) b.plots (λ p q. eq-eqb (radar_of p) r (q ∙ e)) h.of_radar)

filter_other : (b : Batch) (r : ℕ) → IsBatch b → b.radar ≢ r → of_radar radar_of r b.plots ≡ []
filter_other b r h n = none_pass (λ p. eqb (radar_of p) r) b.plots (all_weaker (λ p. radar_of p ≡ b.radar) (λ p. eqb (radar_of p) r ≡ false) b.plots (λ p q. eqb_not (radar_of p) r (λ e. n (sym q ∙ e))) h.of_radar)

pub no_plots : (bs : List Batch) (r : ℕ) → AllByRecursion IsBatch bs → ((b : Batch) → Contains bs b → b.radar ≢ r) → of_radar radar_of r (plots_of bs) ≡ []
no_plots [] r h n = refl
no_plots (b ∷ bs) r h n =
    filter-append (λ p. eqb (radar_of p) r) b.plots (plots_of bs) ∙ ap (λ (ps : List PlanePlot). ps ++ of_radar radar_of r (plots_of bs)) (filter_other b r h.0 (n b (contains_first b b bs refl)))
    ∙ no_plots bs r h.1 (λ c k. n c (contains_later b c bs k))

pub own_plots : (n : ℕ) (bs : List Batch) (i : ℕ) (b : Batch) → AreBatches n bs → IsAt bs i b → of_radar radar_of b.radar (plots_of bs) ≡ b.plots
own_plots n [] i b h a = absurd a
own_plots n (c ∷ bs) zero b h a =
    filter-append (λ p. eqb (radar_of p) b.radar) c.plots (plots_of bs)
    ∙ ap (λ (ps : List PlanePlot). ps ++ of_radar radar_of b.radar (plots_of bs)) (filter_batch c b.radar h.each.0 (ap (λ (d : Batch). d.radar) a))
    ∙ ap (λ (ps : List PlanePlot). c.plots ++ ps) (no_plots bs b.radar h.each.1 (λ d k e. omega (arith, e, ap (λ (f : Batch). f.radar) a, radar_later n c d bs h k)))
    ∙ append-nil c.plots ∙ ap (λ (d : Batch). d.plots) a
own_plots n (c ∷ bs) (suc i) b h a =
    filter-append (λ p. eqb (radar_of p) b.radar) c.plots (plots_of bs)
    ∙ ap (λ (ps : List PlanePlot). ps ++ of_radar radar_of b.radar (plots_of bs)) (filter_other c b.radar h.each.0 (λ e. omega (arith, e, radar_later n c b bs h (at_contains bs i b a))))
    ∙ own_plots n bs i b (rest_batches n c bs h) a

pub radars_apart : (n : ℕ) (bs : List Batch) → AreBatches n bs → (i j : ℕ) (b c : Batch) → IsAt bs i b → IsAt bs j c → i < j → b.radar < c.radar
radars_apart n [] h i j b c a d lt = absurd a
radars_apart n (e ∷ bs) h i zero b c a d lt = absurd (omega (arith, lt))
radars_apart n (e ∷ bs) h zero (suc j) b c a d lt = subst (λ (f : Batch). f.radar < c.radar) a (radar_later n e c bs h (at_contains bs j c d))
radars_apart n (e ∷ bs) h (suc i) (suc j) b c a d lt = radars_apart n bs (rest_batches n e bs h) i j b c a d (omega (arith, lt))
