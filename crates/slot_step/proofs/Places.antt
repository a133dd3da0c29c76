-- Plots by their places to the east.
use Rattle.std.proofs.Common.{◌≡◌, ◌≢◌, ◌∙◌, ap, sym, refl, ℕ, ◌+◌, ◌<◌, ◌≤◌, ℤ, ◌≤ℤ◌, ◌<ℤ◌, Bool, true, false, cond, eqb, List, [], ◌∷◌, ◌++◌, length, get_or, take, drop, arith, subst, inl, inr}
use Rattle.std.specs.Prelude.{◌⊎◌, T, not, min, max, Contains}
use Rattle.std.specs.Fn.{Called, ComputesKey}
use Rattle.std.specs.List.{AllByRecursion}
use Rattle.std.specs.List.Sorted.{IsPermutation, IsSortedByKey, IsPartitionedBy, IsPartitionPoint}
use Rattle.std.specs.Cmp.{int_ranks, int_cmp_total}
use Rattle.std.specs.Ordering.{is_lt, int_cmp, MatchOrdering}
use Rattle.std.specs.declared.cmp.Ordering.{Ordering}
use Rattle.std.specs.declared.cmp.Ordering.TheVariants.{Less, Equal, Greater}
use Rattle.std.proofs.lemmas.Bool.{cases_eq, cases_lt, eq-eqb, ne_eqb}
use Rattle.std.proofs.lemmas.Fn.{always_returns_same}
use Rattle.std.proofs.lemmas.Int.{ints}
use Rattle.std.proofs.lemmas.List.{take-append-drop, get_or-drop, length-drop}
use Rattle.std.proofs.lemmas.List.Elements.{Contains-push, Contains-push_cases, Contains-append_left}
use Rattle.std.proofs.lemmas.List.Sorted.{Contains-permutation, IsPermutation-sym, sum_by-IsPermutation, ranks_by, sorted_far}
use Rattle.std.proofs.lemmas.List.Sums.{sum_by-cons, sum_by_push}
use denote.Ref.{Bor}
use denote.Param.Members.{Mut}
use lib.Signed.{lt_z, le_z, lt_z_yes, le_z_yes, lt_z_no}
use Rattle.plot_geometry.specs.Plots.{PlanePlot}
use Rattle.slot_step.specs.Certificates.{IsAt}
use Rattle.slot_step.specs.Gates.{times_placed}
use Rattle.slot_step.specs.PlotPlaces.{IsPlace, RiseEast, ArePlaces, AreBetween, AreTimes}
use Rattle.slot_step.proofs.Certifying.{at_contains}
use Rattle.slot_step.proofs.Components.{get_at}
use Rattle.slot_step.proofs.Interleavings.{contains_first, contains_later, contains_none}
use Rattle.slot_step.proofs.Passing.{halves}
use Rattle.slot_step.proofs.Problems.{one_at}

-- ---- the places so far

-- the first n plots have their places
pub record ArePlacesUpTo (ps : List PlanePlot) (n : ℕ) (places : List (ℤ × ℕ)) : Type 0 where
  pub at : (i : ℕ) (p : PlanePlot) → IsAt ps i p → i < n → Contains places (p.x, i)
  pub of : (e : ℤ × ℕ) → Contains places e → IsPlace ps e
  pub below : (e : ℤ × ℕ) → Contains places e → e.1 < n
  pub once : (i : ℕ) → times_placed i places ≤ 1

none_placed : (i : ℕ) (places : List (ℤ × ℕ)) → ((e : ℤ × ℕ) → Contains places e → e.1 ≢ i) → times_placed i places ≡ 0
none_placed i [] f = refl
none_placed i (e ∷ es) f =
    let test : ℤ × ℕ → ℕ = λ d. cond (eqb d.1 i) 1 0 in
    let here : test e ≡ 0 = ap (λ b. cond b 1 0) (ne_eqb e.1 i (f e (contains_first e e es refl))) in
    omega (arith, sum_by-cons test e es, here, none_placed i es (λ d c. f d (contains_later e d es c)))

pub no_places : (ps : List PlanePlot) → ArePlacesUpTo ps 0 []
no_places ps = record { at = λ i p a lt. absurd (omega (arith, lt)); of = λ e c. contains_none e c; below = λ e c. contains_none e c; once = λ i. omega arith }

pub one_place : (ps : List PlanePlot) (n : ℕ) (places : List (ℤ × ℕ)) (q : PlanePlot) → ArePlacesUpTo ps n places → IsAt ps n q → ArePlacesUpTo ps (n + 1) (places ++ (q.x, n) ∷ [])
one_place ps n places q h a = record {
  at = λ i p b lt. elim (cases_eq i n) [
    | inl e ↦ subst (λ (y : ℤ × ℕ). Contains (places ++ (q.x, n) ∷ []) y) (λ k. ((one_at ps n q p a (subst (λ m. IsAt ps m p) e b) k).x, sym e k)) (Contains-push places (q.x, n))
    | inr apart ↦ Contains-append_left places ((q.x, n) ∷ []) (p.x, i) (h.at i p b (omega (arith, lt, apart)))
  ];
  of = λ e c. elim (Contains-push_cases places (q.x, n) e c) [
    | inl d ↦ h.of e d
    | inr is ↦ record { plot = q; plot_at = subst (λ m. IsAt ps m q) (ap (λ (y : ℤ × ℕ). y.1) is) a; x_is = ap (λ (y : ℤ × ℕ). y.0) is }
  ];
  below = λ e c. elim (Contains-push_cases places (q.x, n) e c) [
    | inl d ↦ omega (arith, h.below e d)
    | inr is ↦ omega (arith, ap (λ (y : ℤ × ℕ). y.1) is)
  ];
  once = λ i.
      let test : ℤ × ℕ → ℕ = λ d. cond (eqb d.1 i) 1 0 in
      let more : times_placed i (places ++ (q.x, n) ∷ []) ≡ times_placed i places + test (q.x, n) = sum_by_push test places (q.x, n) in
      elim (cases_eq n i) [
        | inl e ↦
            let one : test (q.x, n) ≡ 1 = ap (λ b. cond b 1 0) (eq-eqb n i e) in
            let none : times_placed i places ≡ 0 = none_placed i places (λ d c s. omega (arith, h.below d c, s, e)) in
            omega (arith, more, one, none)
        | inr apart ↦ let one : test (q.x, n) ≡ 0 = ap (λ b. cond b 1 0) (ne_eqb n i apart) in omega (arith, more, one, h.once i)
      ];
}

-- ---- in order

pub all_places : (ps : List PlanePlot) (n : ℕ) (found places : List (ℤ × ℕ)) → ArePlacesUpTo ps n found → ((i : ℕ) (p : PlanePlot) → IsAt ps i p → i < n) → IsPermutation found places → RiseEast places → ArePlaces ps places
all_places ps n found places h end moves up = record {
  rising = up;
  at = λ i p a. Contains-permutation found places (p.x, i) moves (h.at i p a (end i p a));
  of = λ e c. h.of e (Contains-permutation places found e (IsPermutation-sym found places moves) c);
  once = λ i. omega (arith, h.once i, sum_by-IsPermutation (λ (d : ℤ × ℕ). cond (eqb d.1 i) 1 0) found places moves);
}

-- ---- between two lines

is_so : (t : Bool) → T t → t ≡ true
is_so true h = refl
is_so false h = absurd h

is_below : (a b : ℤ) → lt_z a b ≡ true → a <ℤ b
is_below a b e = lt_z_yes (subst T (sym e) tt)

is_within : (a b : ℤ) → le_z a b ≡ true → a ≤ℤ b
is_within a b e = le_z_yes (subst T (sym e) tt)

is_above : (a b : ℤ) → le_z a b ≡ false → b <ℤ a
is_above a b e = by (lt_z b a) refl
  where
    by : (t : Bool) → lt_z b a ≡ t → b <ℤ a
    by true h = is_below b a h
    by false h = let k : a ≤ℤ b = lt_z_no (subst (λ t. T (not t)) (sym h) tt) in absurd (subst T e k.le)

not_less : (a b : ℤ) → is_lt (int_cmp a b) ≡ false → b ≤ℤ a
not_less a b = by (int_cmp a b) (int_ranks a b)
  where
    by : (o : Ordering) → MatchOrdering o (a <ℤ b) (a ≡ b) (b <ℤ a) → is_lt o ≡ false → b ≤ℤ a
    by Less h e = absurd (cc)
    by Equal h e = omega (arith, ints, h)
    by Greater h e = omega (arith, ints, h)

rise_east : (places : List (ℤ × ℕ)) → IsSortedByKey (λ (e : ℤ × ℕ). e.0) int_cmp places → RiseEast places
rise_east places up i j d le lt = not_less (get_or places j d).0 (get_or places i d).0 (sorted_far (λ (x y : ℤ × ℕ). is_lt (int_cmp x.0 y.0)) (ranks_by int_cmp_total (λ (e : ℤ × ℕ). e.0)) places up i j d le lt)

-- as the sort's clause has it, where each call gives the place
pub east_from_sort : {F : Type 0} {g : Mut F (Bor (ℤ × ℕ) × Unit {0}) ℤ} {f : F} (places : List (ℤ × ℕ))
    → ((key : ℤ × ℕ → ℤ) → ComputesKey g key f → IsSortedByKey key int_cmp places)
    → ((a : Bor (ℤ × ℕ) × Unit {0}) (r : ℤ) (f' : F) → Called g f a r f' → (r ≡ a.0.now.0) × (f' ≡ f)) → RiseEast places
east_from_sort {g = g} {f = f} places up h = rise_east places (up (λ e. e.0) (always_returns_same g (λ a r. r ≡ a.0.now.0) f h))

module _ (places : List (ℤ × ℕ)) (up : RiseEast places) where
  pub parted_west : (west : ℤ) → IsPartitionedBy (λ (e : ℤ × ℕ). lt_z e.0 west) places
  parted_west west i j d le lt e =
      let h : (get_or places i d).0 <ℤ west = omega (arith, ints, up i j d le lt, is_below (get_or places j d).0 west e) in
      is_so (lt_z (get_or places i d).0 west) h.lt

  pub parted_east : (east : ℤ) → IsPartitionedBy (λ (e : ℤ × ℕ). le_z e.0 east) places
  parted_east east i j d le lt e =
      let h : (get_or places i d).0 ≤ℤ east = omega (arith, ints, up i j d le lt, is_within (get_or places j d).0 east e) in
      is_so (le_z (get_or places i d).0 east) h.le

  pub rest_rises : (rest : List (ℤ × ℕ)) (from : ℕ) → rest ≡ drop from places → RiseEast rest
  rest_rises rest from r = subst RiseEast (sym r) (λ i j d le lt.
      subst (λ (y : (ℤ × ℕ) × (ℤ × ℕ)). y.0.0 ≤ℤ y.1.0) (λ m. (sym (get_or-drop from places i d) m, sym (get_or-drop from places j d) m))
      (up (from + i) (from + j) d (omega (arith, le)) (omega (arith, lt, length-drop from places))))

  pub between_is : (rest : List (ℤ × ℕ)) (west east : ℤ) (from count : ℕ) → rest ≡ drop from places → from ≤ length places → count ≤ length rest
      → IsPartitionPoint (λ (e : ℤ × ℕ). lt_z e.0 west ≡ true) (λ (e : ℤ × ℕ). lt_z e.0 west ≡ false) places from
      → IsPartitionPoint (λ (e : ℤ × ℕ). le_z e.0 east ≡ true) (λ (e : ℤ × ℕ). le_z e.0 east ≡ false) rest count → AreBetween west east places (take count rest)
  between_is rest west east from count r le few first second = record {
    before = take from places;
    after = drop count rest;
    all = sym (take-append-drop from places) ∙ ap (λ (es : List (ℤ × ℕ)). take from places ++ es) (sym r ∙ sym (take-append-drop count rest));
    west_of = westward (take from places) (halves (λ e. lt_z e.0 west) from places le first.0 first.1).0;
    east_of = eastward (drop count rest) (halves (λ e. le_z e.0 east) count rest few second.0 second.1).1;
  }
    where
      westward : (es : List (ℤ × ℕ)) → AllByRecursion (λ e. lt_z e.0 west ≡ true) es → AllByRecursion (λ e. e.0 <ℤ west) es
      westward [] h = tt
      westward (e ∷ es) h = (is_below e.0 west h.0, westward es h.1)

      eastward : (es : List (ℤ × ℕ)) → AllByRecursion (λ e. le_z e.0 east ≡ false) es → AllByRecursion (λ e. east <ℤ e.0) es
      eastward [] h = tt
      eastward (e ∷ es) h = (is_above e.0 east h.0, eastward es h.1)

-- ---- the plots' times

-- the times lie around those of the first n plots
pub record AreTimesUpTo (ps : List PlanePlot) (n : ℕ) (times : ℕ × ℕ) : Type 0 where
  pub earliest : (p : PlanePlot) × Contains ps p × (p.key.time ≡ times.0)
  pub latest : (p : PlanePlot) × Contains ps p × (p.key.time ≡ times.1)
  pub each : (i : ℕ) (p : PlanePlot) → IsAt ps i p → i < n → (times.0 ≤ p.key.time) × (p.key.time ≤ times.1)

pub first_times : (ps : List PlanePlot) (p : PlanePlot) (t : ℕ) → IsAt ps 0 p → p.key.time ≡ t → AreTimesUpTo ps 0 (t, t)
first_times ps p t a e = record { earliest = (p, at_contains ps 0 p a, e); latest = (p, at_contains ps 0 p a, e); each = λ i q b lt. absurd (omega (arith, lt)) }

either : (ps : List PlanePlot) (m a t : ℕ) → (m ≡ a) ⊎ (m ≡ t) → (p : PlanePlot) × Contains ps p × (p.key.time ≡ a) → (p : PlanePlot) × Contains ps p × (p.key.time ≡ t) → (p : PlanePlot) × Contains ps p × (p.key.time ≡ m)
either ps m a t (inl e) x y = (x.0, x.1, x.2 ∙ sym e)
either ps m a t (inr e) x y = (y.0, y.1, y.2 ∙ sym e)

pub more_times : (ps : List PlanePlot) (n : ℕ) (p : PlanePlot) (a b t low high : ℕ) → AreTimesUpTo ps n (a, b) → IsAt ps n p → p.key.time ≡ t → low ≡ min a t → high ≡ max b t → AreTimesUpTo ps (n + 1) (low, high)
more_times ps n p a b t low high h at e l u =
    let own : (q : PlanePlot) × Contains ps q × (q.key.time ≡ t) = (p, at_contains ps n p at, e) in
    record {
      earliest = either ps low a t (elim (cases_lt a t) [ inl x ↦ inl (omega (arith, x, l)) | inr x ↦ inr (omega (arith, x, l)) ]) h.earliest own;
      latest = either ps high b t (elim (cases_lt t b) [ inl x ↦ inl (omega (arith, x, u)) | inr x ↦ inr (omega (arith, x, u)) ]) h.latest own;
      each = λ i q c lt. elim (cases_eq i n) [
        | inl s ↦ let same : q.key.time ≡ t = ap (λ (r : PlanePlot). r.key.time) (one_at ps n q p (subst (λ m. IsAt ps m q) s c) at) ∙ e in (omega (arith, same, l), omega (arith, same, u))
        | inr apart ↦ let w : (a ≤ q.key.time) × (q.key.time ≤ b) = h.each i q c (omega (arith, lt, apart)) in (omega (arith, w.0, l), omega (arith, w.1, u))
      ];
    }

pub all_times : (ps : List PlanePlot) (n a b : ℕ) → AreTimesUpTo ps n (a, b) → ((i : ℕ) (p : PlanePlot) → IsAt ps i p → i < n) → AreTimes ps (a, b)
all_times ps n a b h end = record {
  earliest = h.earliest;
  latest = h.latest;
  each = λ i d lt. h.each i (get_or ps i d) (get_at d ps i lt) (end i (get_or ps i d) (get_at d ps i lt));
}
