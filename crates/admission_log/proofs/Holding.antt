-- The biases that hold for a slot are those of the last change, by the events of the log.
use Rattle.std.proofs.Common.{◌≡◌, ◌∙◌, ap, sym, subst, refl, ℕ, zero, suc, ◌+◌, ◌<◌, ◌≤◌, false, List, [], ◌∷◌, ◌++◌, map, Some, ◌⊎◌, inl, inr, arith}
use Rattle.std.specs.Prelude.{slice_get, filter, fold, nat_le, ◌==◌}
use Rattle.std.specs.List.{flat_map, enumerate_from, reduce}
use Rattle.std.specs.Ordering.{is_lt, nat_cmp, ord_max, ordering_then, MatchOrdering}
use Rattle.std.specs.declared.cmp.Ordering.{Ordering}
use Rattle.std.specs.declared.cmp.Ordering.TheVariants.{Less, Equal, Greater}
use Rattle.std.proofs.lemmas.Cmp.{ranked}
use Rattle.std.proofs.lemmas.Bool.{and_parts, and_from, eqb-true, eq-eqb, leb-true, le-leb}
use Rattle.std.proofs.lemmas.Option.{none-some, same_Some}
use Rattle.plot_geometry.specs.declared.biases.Bias as biases
use Rattle.admission_log.specs.declared.events.Admitted.{Admitted}
use Rattle.admission_log.specs.declared.events.Event.{Event}
use Rattle.admission_log.specs.declared.events.Event.TheVariants as events
use Rattle.admission_log.specs.declared.entries.Entry.{Entry}
use Rattle.admission_log.specs.declared.entries.Entry.TheVariants.{Bias, Plot}
use Rattle.admission_log.specs.Histories.{History}
use Rattle.admission_log.specs.Entries.{plot_entry, entries_in, entries_of}
use Rattle.admission_log.specs.EntryOrder.{entry_cmp}
use Rattle.admission_log.specs.Biases.{is_change, bias_or, bias_at, IsChange, IsLastChange, HoldsAt}
use Rattle.admission_log.proofs.Greatest.{Has, has_right, has_either, has_filtered, passes_filtered, greatest_is}

-- ---- changes as entries and as events

no_bias : (slot place radar : ℕ) (bias : biases.Bias) (admitted : List Admitted) → Has (Bias slot place radar bias) (map plot_entry admitted) → ⊥
no_bias slot place radar bias [] h = h
no_bias slot place radar bias (a ∷ more) (inl h) = absurd (cc)
no_bias slot place radar bias (a ∷ more) (inr h) = no_bias slot place radar bias more h

-- a change at an index is an entry
entered : (radar slot : ℕ) (bias : biases.Bias) (k : ℕ) (es : List Event) (i : ℕ) → slice_get es i ≡ Some (events.Bias radar slot bias) → Has (Bias slot (k + i) radar bias) (flat_map (λ at. entries_in at.0 at.1) (enumerate_from k es))
entered radar slot bias k [] i h = absurd (none-some _ h)
entered radar slot bias k (e ∷ es) zero h =
    let rest = flat_map (λ at. entries_in at.0 at.1) (enumerate_from (k + 1) es) in
    let none : k + 0 ≡ k = omega arith in
    subst (λ x. Has (Bias slot (k + 0) radar bias) (entries_in k x ++ rest)) (sym (same_Some e (events.Bias radar slot bias) h)) (inl (ap (λ n. Bias slot n radar bias) none))
entered radar slot bias k (e ∷ es) (suc i) h =
    let more : k + 1 + i ≡ k + suc i = omega arith in
    has_right _ (entries_in k e) _ (subst (λ n. Has (Bias slot n radar bias) (flat_map (λ at. entries_in at.0 at.1) (enumerate_from (k + 1) es))) more (entered radar slot bias (k + 1) es i h))

-- an entry that is a change is the event at its index
record IsEntered (radar slot place : ℕ) (bias : biases.Bias) (k : ℕ) (es : List Event) : Type 0 where
  pub index : ℕ
  pub place_is : place ≡ k + index
  pub event : slice_get es index ≡ Some (events.Bias radar slot bias)

in_first : (radar slot place : ℕ) (bias : biases.Bias) (k : ℕ) (e : Event) (es : List Event) → Has (Bias slot place radar bias) (entries_in k e) → IsEntered radar slot place bias k (e ∷ es)
in_first radar slot place bias k (events.Deliver feed admitted told other) es h = absurd (no_bias slot place radar bias admitted h)
in_first radar slot place bias k (events.Tick time) es h = absurd h
in_first radar slot place bias k (events.Publish number cut) es h = absurd h
in_first radar slot place bias k (events.Bias radar' slot' bias') es (inl h) =
    let places : place ≡ k = cc in
    record { index = 0; place_is = omega (arith, places); event = cc }
in_first radar slot place bias k (events.Bias radar' slot' bias') es (inr h) = absurd h

found : (radar slot place : ℕ) (bias : biases.Bias) (k : ℕ) (es : List Event) → Has (Bias slot place radar bias) (flat_map (λ at. entries_in at.0 at.1) (enumerate_from k es)) → IsEntered radar slot place bias k es
found radar slot place bias k [] h = absurd h
found radar slot place bias k (e ∷ es) h = elim (has_either _ (entries_in k e) (flat_map (λ at. entries_in at.0 at.1) (enumerate_from (k + 1) es)) h) [
  | inl first ↦ in_first radar slot place bias k e es first
  | inr more ↦ (let rest = found radar slot place bias (k + 1) es more in record { index = suc rest.index; place_is = omega (arith, rest.place_is); event = rest.event })
]

-- ---- the test

abbrev Passing : History → ℕ → ℕ → List Entry
Passing log radar n = filter (is_change radar n) (entries_of log)

change_passes : (log : History) (radar n i slot : ℕ) (bias : biases.Bias) → IsChange log radar n i slot bias → Has (Bias slot i radar bias) (Passing log radar n)
change_passes log radar n i slot bias h =
    let none : 0 + i ≡ i = omega arith in
    has_filtered (is_change radar n) (Bias slot i radar bias) (entries_of log) (subst (λ k. Has (Bias slot k radar bias) (entries_of log)) none (entered radar slot bias 0 log.events i h.event))
    (and_from _ _ (eq-eqb radar radar refl) (le-leb slot n h.holds))

record IsPassing (log : History) (radar n : ℕ) (e : Entry) : Type 0 where
  pub slot : ℕ
  pub index : ℕ
  pub bias : biases.Bias
  pub entry_is : e ≡ Bias slot index radar bias
  pub change : IsChange log radar n index slot bias

passing_change : (log : History) (radar n : ℕ) (e : Entry) → Has e (Passing log radar n) → IsPassing log radar n e
passing_change log radar n (Bias slot place changed bias) h =
    let passes = passes_filtered (is_change radar n) (Bias slot place changed bias) (entries_of log) h in
    let tested = and_parts (changed == radar) (nat_le slot n) passes.1 in
    let same : changed ≡ radar = eqb-true changed radar tested.0 in
    let at = found changed slot place bias 0 log.events passes.0 in
    let place_is : place ≡ at.index = omega (arith, at.place_is) in
    record {
      slot = slot;
      index = place;
      bias = bias;
      entry_is = ap (λ r. Bias slot place r bias) same;
      change = record { event = ap (slice_get log.events) place_is ∙ at.event ∙ ap (λ r. Some (events.Bias r slot bias)) same; holds = leb-true slot n tested.1 };
    }
passing_change log radar n (Plot key raw) h =
    let passes = passes_filtered (is_change radar n) (Plot key raw) (entries_of log) h in
    absurd (cc)

-- ---- which of two is the later

not_less : (o rest : Ordering) (P Q R : Type 0) → MatchOrdering o P Q R → is_lt (ordering_then o rest) ≡ false → R ⊎ (Q × (is_lt rest ≡ false))
not_less Less rest P Q R m h = absurd (cc)
not_less Equal rest P Q R m h = inr (m, h)
not_less Greater rest P Q R m h = inl m

no_later : (s i s' i' r : ℕ) (b b' : biases.Bias) → is_lt (entry_cmp (Bias s i r b) (Bias s' i' r b')) ≡ false → (s' < s) ⊎ ((s' ≡ s) × (i' ≤ i))
no_later s i s' i' r b b' h = elim (not_less (nat_cmp s s') _ (s < s') (s ≡ s') (s' < s) (ranked s s' (nat_cmp s s') refl) h) [
  | inl later ↦ inl later
  | inr tied ↦ elim (not_less (nat_cmp i i') _ (i < i') (i ≡ i') (i' < i) (ranked i i' (nat_cmp i i') refl) tied.1) [
    | inl after ↦ inr (sym tied.0, omega (arith, after))
    | inr same ↦ inr (sym tied.0, omega (arith, same.0))
  ]
]

-- ---- the law

holds_by : (log : History) (own : biases.Bias) (radar n : ℕ) (es : List Entry) → Passing log radar n ≡ es → HoldsAt log own radar n (bias_or own (reduce (ord_max entry_cmp) es))
holds_by log own radar n [] e = inr ((λ i s b h. subst (Has (Bias s i radar b)) e (change_passes log radar n i s b h)), refl)
holds_by log own radar n (x ∷ xs) e =
    let r = fold (ord_max entry_cmp) x xs in
    let greatest = greatest_is x xs in
    let of = passing_change log radar n r (subst (Has r) (sym e) greatest.one) in
    let bias_is : of.bias ≡ bias_or own (Some r) = sym (ap (λ y. bias_or own (Some y)) of.entry_is) in
    subst (HoldsAt log own radar n) bias_is (inl (record {
      index = of.index;
      slot = of.slot;
      is_change = of.change;
      last = λ i s b h. no_later of.slot of.index s i radar of.bias b (subst (λ y. is_lt (entry_cmp y (Bias s i radar b)) ≡ false) of.entry_is (greatest.least (Bias s i radar b) (subst (Has (Bias s i radar b)) e (change_passes log radar n i s b h))));
    }))

pub holds_at : (log : History) (own : biases.Bias) (radar n : ℕ) → HoldsAt log own radar n (bias_at log own radar n)
holds_at log own radar n = holds_by log own radar n (Passing log radar n) refl

same_change : (log : History) (radar n : ℕ) (a b : biases.Bias) → IsLastChange log radar n a → IsLastChange log radar n b → a ≡ b
same_change log radar n a b h k =
    let one = h.last k.index k.slot b k.is_change in
    let other = k.last h.index h.slot a h.is_change in
    let index : h.index ≡ k.index = omega (arith, one, other) in
    let events_same : Some (events.Bias radar h.slot a) ≡ Some (events.Bias radar k.slot b) = sym h.is_change.event ∙ ap (slice_get log.events) index ∙ k.is_change.event in
    cc

pub one_holds : (log : History) (own : biases.Bias) (radar n : ℕ) (a b : biases.Bias) → HoldsAt log own radar n a → HoldsAt log own radar n b → a ≡ b
one_holds log own radar n a b (inl h) (inl k) = same_change log radar n a b h k
one_holds log own radar n a b (inl h) (inr k) = absurd (k.0 h.index h.slot a h.is_change)
one_holds log own radar n a b (inr h) (inl k) = absurd (h.0 k.index k.slot b k.is_change)
one_holds log own radar n a b (inr h) (inr k) = h.1 ∙ sym k.1
