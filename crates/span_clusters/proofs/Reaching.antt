-- What the walk over two runs has gone over.
use Rattle.std.proofs.Common.{◌≡◌, ◌∙◌, ap, sym, refl, ℕ, ◌+◌, ◌<◌, ◌≤◌, List, [], ◌∷◌, ◌++◌, length, length-append, take, drop, eqb, arith, subst, inl, inr}
use Rattle.std.specs.Prelude.{◌⊎◌, Contains}
use Rattle.std.specs.List.{AllByRecursion}
use Rattle.std.specs.declared.cmp.Ordering.{Ordering}
use Rattle.std.proofs.lemmas.Bool.{cases_eq}
use Rattle.std.proofs.lemmas.List.Elements.{filter-append}
use Rattle.late_window.specs.Folding.{Rises, BeforeFirst, at_slot, before, group_count}
use Rattle.late_window.proofs.Groups.{SlotsRise, BeginsWith, low_all, none_at, rest_above, before_low, at_begins_with, at_others, group_some, weaker}
use Rattle.span_clusters.specs.Parts.{IsFilled, Reaches, ReachesItems}
use Rattle.span_clusters.specs.Runs.{IsLeftOf}
use Rattle.span_clusters.proofs.Separating.{Separating, SeparatingLaws}
use Rattle.span_clusters.proofs.Resting.{before_stays}
use Rattle.span_clusters.proofs.Spans.{before_filled}

module _ {S I O K : Type 0} (slot : I → ℕ) (next : S → ℕ → List I → S) (is_out : S → ℕ → List I → O → Type 0) (cmp : I → I → Ordering) (key : I → K) (s : S) (xs : List I) where
  pub further : (n m : ℕ) (t u : S) (ys zs : List I) (left later : List S) → n ≤ m → IsLeftOf next slot cmp key s xs n t ys left → IsLeftOf next slot cmp key t ys m u zs later → IsLeftOf next slot cmp key s xs m u zs later
  further n m t u ys zs left later le a b = record {
    same = λ i h. b.same i h ∙ a.same i (omega (arith, le, h));
    items = λ i h. b.items i h ∙ a.items i (omega (arith, le, h));
    run = b.run;
    rising = b.rising;
  }

  pub state_here : (n : ℕ) (u : S) (zs : List I) (left : List S) → IsLeftOf next slot cmp key s xs n u zs left → AllByRecursion (λ z. n ≤ slot z) zs → u ≡ before next slot s xs n
  state_here n u zs left a h = sym (before_low slot next is_out u n zs h) ∙ a.same n (omega arith)

  pub items_here : (n : ℕ) (u : S) (zs : List I) (left : List S) → IsLeftOf next slot cmp key s xs n u zs left → SlotsRise slot zs → AllByRecursion (λ z. n ≤ slot z) zs → take (group_count slot n zs) zs ≡ at_slot slot n xs
  items_here n u zs left a r h = sym (at_begins_with slot n zs r h) ∙ a.items n (omega arith)

pub first_above : {I : Type 0} (slot : I → ℕ) (n m : ℕ) (xs : List I) → AllByRecursion (λ x. n ≤ slot x) xs → BeginsWith slot m xs → n ≤ m
first_above slot n m [] h f = absurd f
first_above slot n m (x ∷ xs) h f = omega (arith, h.0, f)

pub not_below : {I : Type 0} (slot : I → ℕ) (xs : List I) → AllByRecursion (λ x. 0 ≤ slot x) xs
not_below slot [] = tt
not_below slot (x ∷ xs) = (omega arith, not_below slot xs)

-- of each slot the items are still to come, or they are over and none of them is reached
pub record IsLeft {S I : Type 0} (slot : I → ℕ) (next : S → ℕ → List I → S) (gates : S → ℕ → List I → I → Type 0) (s : S) (own all rest : List I) : Type 0 where
  pub at : (m : ℕ) → (at_slot slot m rest ≡ at_slot slot m all) ⊎ ((at_slot slot m rest ≡ []) × (Reaches gates (before next slot s own m) m (at_slot slot m own) (at_slot slot m all) → ⊥))

module _ {S I : Type 0} (slot : I → ℕ) (next : S → ℕ → List I → S) (gates : S → ℕ → List I → I → Type 0) (s : S) (own all : List I) where
  pub all_left : IsLeft slot next gates s own all all
  all_left = record { at = λ m. inl refl }

  reaches_none : (t : S) (m : ℕ) (xs ys : List I) → ys ≡ [] → Reaches gates t m xs ys → ⊥
  reaches_none t m xs ys e r = let c : Contains [] r.0 = subst (λ (l : List I). Contains l r.0) e r.1 in omega (arith, c.1)

  pub none_left_over : IsLeft slot next gates s own all [] → ReachesItems next slot gates s own all → ⊥
  none_left_over l c = elim (l.at c.0) [ inl e ↦ reaches_none _ c.0 _ _ (sym e) c.1 | inr f ↦ f.1 c.1 ]

  -- the front's slot is still to come
  pub front_is : (n : ℕ) (rest : List I) → SlotsRise slot rest → BeginsWith slot n rest → IsLeft slot next gates s own all rest → take (group_count slot n rest) rest ≡ at_slot slot n all
  front_is n rest r f l = elim (l.at n) [
    | inl e ↦ sym (at_begins_with slot n rest r (low_all slot n rest r f)) ∙ e
    | inr g ↦ absurd (let k : 0 < length (take (group_count slot n rest) rest) = group_some slot n rest f in let q : length (take (group_count slot n rest) rest) ≡ 0 = ap length (sym (at_begins_with slot n rest r (low_all slot n rest r f)) ∙ g.0) in omega arith)
  ]

  pub step_left : (n : ℕ) (rest : List I) → SlotsRise slot rest → BeginsWith slot n rest → IsLeft slot next gates s own all rest → (Reaches gates (before next slot s own n) n (at_slot slot n own) (at_slot slot n all) → ⊥) → IsLeft slot next gates s own all (drop (group_count slot n rest) rest)
  step_left n rest r f l over = record {
    at = λ m. elim (cases_eq n m) [
      | inl e ↦ inr (subst (λ i. at_slot slot i (drop (group_count slot n rest) rest) ≡ []) e (none_at slot n _ (rest_above slot n rest r (low_all slot n rest r f))), subst (λ i. Reaches gates (before next slot s own i) i (at_slot slot i own) (at_slot slot i all) → ⊥) e over)
      | inr d ↦ elim (l.at m) [ inl e ↦ inl (at_others slot n m rest d ∙ e) | inr g ↦ inr (at_others slot n m rest d ∙ g.0, g.1) ]
    ];
  }

-- a start that is before all items of both parts is, after its own run, before each slot of the other
module _ {S I K O : Type 0} (F : Separating S I K O) (L : SeparatingLaws F) where
  all_before : (s : S) (xs : List I) → SlotsRise F.slot xs → BeforeFirst F.is_before F.slot s xs → AllByRecursion (λ x. F.is_before s (F.slot x)) xs
  all_before s [] r b = tt
  all_before s (x ∷ xs) r b = (b, weaker (λ y. F.slot x ≤ F.slot y) (λ y. F.is_before s (F.slot y)) xs (λ y le. L.stays_before s (F.slot x) (F.slot y) le b) r.0)

  filled_one : (n : ℕ) (xs ys : List I) → IsFilled F.slot n xs → IsFilled F.slot n (xs ++ ys)
  filled_one n xs ys f = let e : length (at_slot F.slot n (xs ++ ys)) ≡ length (at_slot F.slot n xs) + length (at_slot F.slot n ys) = ap length (filter-append (λ x. eqb (F.slot x) n) xs ys) ∙ length-append _ _ in omega arith

  filled_other : (n : ℕ) (xs ys : List I) → IsFilled F.slot n ys → IsFilled F.slot n (xs ++ ys)
  filled_other n xs ys f = let e : length (at_slot F.slot n (xs ++ ys)) ≡ length (at_slot F.slot n xs) + length (at_slot F.slot n ys) = ap length (filter-append (λ x. eqb (F.slot x) n) xs ys) ∙ length-append _ _ in omega arith

  append_all : (P : I → Type 0) (xs ys : List I) → AllByRecursion P xs → AllByRecursion P ys → AllByRecursion P (xs ++ ys)
  append_all P [] ys h g = g
  append_all P (x ∷ xs) ys h g = (h.0, append_all P xs ys h.1 g)

  pub before_other : (s : S) (xs ys : List I) (n : ℕ) → Rises F.cmp F.key xs → SlotsRise F.slot xs → BeforeFirst F.is_before F.slot s xs → AllByRecursion (λ y. F.is_before s (F.slot y)) ys → IsFilled F.slot n ys
      → F.is_before (before F.next F.slot s xs n) n
  before_other s xs ys n r rise b h f =
      before_stays F L s xs (xs ++ ys)
      (record { rises = r; filled = λ m g. filled_one m xs ys g; start = λ m g. before_filled F.slot (F.is_before s) (xs ++ ys) (append_all (λ x. F.is_before s (F.slot x)) xs ys (all_before s xs rise b) h) m g })
      n n (omega arith) (filled_other n xs ys f)

pub same_reach : {S I : Type 0} (gates : S → ℕ → List I → I → Type 0) (n : ℕ) (s s' : S) (xs xs' ys ys' : List I) → s ≡ s' → xs ≡ xs' → ys ≡ ys' → Reaches gates s n xs ys → Reaches gates s' n xs' ys'
same_reach gates n s s' xs xs' ys ys' a b c r = subst (λ u. Reaches gates u n xs' ys') a (subst (λ u. Reaches gates s n u ys') b (subst (λ u. Reaches gates s n xs u) c r))
