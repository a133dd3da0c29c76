-- The items of all parts put together, and some of them taken out again.
use Rattle.std.proofs.Common.{◌≡◌, ◌∙◌, ap, sym, refl, ◌<◌, List, [], ◌∷◌, ◌++◌, length, drop, get_or, arith, subst, inl, inr}
use Rattle.std.specs.Prelude.{◌⊎◌}
use Rattle.std.specs.List.{AllByRecursion}
use Rattle.std.specs.Cmp.{IsTotalOrder}
use Rattle.std.specs.Ordering.{ordering_reverse}
use Rattle.std.specs.declared.cmp.Ordering.{Ordering}
use Rattle.std.specs.declared.cmp.Ordering.TheVariants.{Less, Greater}
use Rattle.late_window.specs.Folding.{ComesBefore, Rises}
use Rattle.span_clusters.specs.Interleavings.{Interleaved, AllInterleaved, IsWithin, IsBelowFirst, EachPair, KeysDiffer}
use Rattle.span_clusters.specs.Interleavings.Interleaved.{first, second}
use Rattle.span_clusters.specs.Parts.{Part, all_items}
use Rattle.span_clusters.proofs.Interleavings.{swapped, alone, none_of_none, last_two_first, none_behind, in_one, in_both, all_contains, contains_first}
use Rattle.span_clusters.proofs.PickedItems.{cut_first}

module _ {S I K : Type 0} (cmp : I → I → Ordering) (key : I → K) where
  -- all are the items of the parts before the rest
  pub record IsGathered (parts : List (Part S I)) (all : List I) (rest : List (Part S I)) : Type 0 where
    pub whole : (zs : List I) → AllInterleaved (all ∷ all_items rest) zs → AllInterleaved (all_items parts) zs
    pub rising : Rises cmp key all
    pub apart : AllByRecursion (λ q. KeysDiffer key all q.items) rest
    pub differ : EachPair (λ p q. KeysDiffer key p.items q.items) rest

  none_apart : (parts : List (Part S I)) → AllByRecursion (λ q. KeysDiffer key [] q.items) parts
  none_apart [] = tt
  none_apart (p ∷ parts) = (λ x y c d. absurd (omega (arith, c.1)), none_apart parts)

  pub gathered_none : (parts : List (Part S I)) → EachPair (λ p q. KeysDiffer key p.items q.items) parts → IsGathered parts [] parts
  gathered_none parts d = record {
    whole = λ zs m. subst (AllInterleaved (all_items parts)) (alone m.0 [] zs (swapped [] m.0 zs m.1) refl) m.2;
    rising = tt;
    apart = none_apart parts;
    differ = d;
  }

  apart_both : (p : Part S I) (all m : List I) (rest : List (Part S I)) → Interleaved all p.items m → AllByRecursion (λ q. KeysDiffer key all q.items) rest → AllByRecursion (λ q. KeysDiffer key p.items q.items) rest → AllByRecursion (λ q. KeysDiffer key m q.items) rest
  apart_both p all m [] i h k = tt
  apart_both p all m (q ∷ rest) i h k = (
    λ x y c d. elim (in_one x all p.items m i c) [ inl a ↦ h.0 x y a d | inr b ↦ k.0 x y b d ],
    apart_both p all m rest i h.1 k.1,
  )

  gathered_cons : (parts : List (Part S I)) (all m : List I) (p : Part S I) (rest : List (Part S I)) → Interleaved all p.items m → Rises cmp key m → IsGathered parts all (p ∷ rest) → IsGathered parts m rest
  gathered_cons parts all m p rest i up g = record {
    whole = λ zs k. (let t : (os : List I) × Interleaved p.items k.0 os × Interleaved all os zs = last_two_first all p.items m k.0 zs i k.1 in g.whole zs (t.0, t.2, (k.0, t.1, k.2)));
    rising = up;
    apart = apart_both p all m rest i g.apart.1 g.differ.0;
    differ = g.differ.1;
  }

  pub gathered_one : (parts : List (Part S I)) (all m : List I) (p : Part S I) (rest : List (Part S I)) → 0 < length rest → p ≡ get_or rest 0 p → Interleaved all p.items m → Rises cmp key m → IsGathered parts all rest → IsGathered parts m (drop 1 rest)
  gathered_one parts all m p rest l e i up g = gathered_cons parts all m p (drop 1 rest) i up (subst (IsGathered parts all) (cut_first rest p l e) g)

  pub next_apart : (parts : List (Part S I)) (all : List I) (p : Part S I) (rest : List (Part S I)) → 0 < length rest → p ≡ get_or rest 0 p → IsGathered parts all rest → KeysDiffer key all p.items
  next_apart parts all p rest l e g = (subst (AllByRecursion (λ (q : Part S I). KeysDiffer key all q.items)) (cut_first rest p l e) g.apart).0

  pub gathered_all : (parts : List (Part S I)) (all : List I) (rest : List (Part S I)) → length rest ≡ 0 → IsGathered parts all rest → AllInterleaved (all_items parts) all
  gathered_all parts all [] e g = g.whole all ([], none_behind all, refl)
  gathered_all parts all (p ∷ rest) e g = absurd (omega (arith, e))

module _ {I K : Type 0} (cmp : I → I → Ordering) (key : I → K) where
  -- what is left of all, and of the own ones among them; the others so far aren't own
  pub record IsTakenOut (own all others left mine : List I) : Type 0 where
    pub rest : List I
    pub within : Interleaved mine rest left
    pub goes_on : (r : List I) → Interleaved mine r left → Interleaved own (others ++ r) all
    pub rising : Rises cmp key left

  pub taken_none : (own all : List I) → IsWithin own all → Rises cmp key all → IsTakenOut own all [] all own
  taken_none own all w up = record { rest = w.0; within = w.1; goes_on = λ r m. m; rising = up }

  unpack : (xs ys : List I) (z : I) (zs : List I) → Interleaved xs ys (z ∷ zs) → ((us : List I) × (xs ≡ z ∷ us) × Interleaved us ys zs) ⊎ ((us : List I) × (ys ≡ z ∷ us) × Interleaved xs us zs)
  unpack _ _ _ _ (first x xs ys zs m) = inl (xs, refl, m)
  unpack _ _ _ _ (second y xs ys zs m) = inr (ys, refl, m)

  joined_again : (xs : List I) (x : I) (r : List I) → (xs ++ x ∷ []) ++ r ≡ xs ++ x ∷ r
  joined_again [] x r = refl
  joined_again (y ∷ xs) x r = ap (λ (l : List I). y ∷ l) (joined_again xs x r)

  not_below : IsTotalOrder cmp → (x : I) → cmp x x ≡ Less → ⊥
  not_below t x e = let c : Less ≡ Greater = sym e ∙ t.antisymm x x ∙ ap ordering_reverse e in cc

  left_cons : (own all others l mine : List I) (x : I) → ((us : List I) → mine ≡ x ∷ us → ⊥) → IsTakenOut own all others (x ∷ l) mine → IsTakenOut own all (others ++ x ∷ []) l mine
  left_cons own all others l mine x n t = elim (unpack mine t.rest x l t.within) [
    | inl a ↦ absurd (n a.0 a.1)
    | inr b ↦ record {
      rest = b.0;
      within = b.2;
      goes_on = λ r m. subst (λ (ys : List I). Interleaved own ys all) (sym (joined_again others x r)) (t.goes_on (x ∷ r) (second x mine r l m));
      rising = t.rising.1;
    }
  ]

  -- an item that is below the first own one, or after the last, is another's
  pub left_there : IsTotalOrder cmp → (own all others left mine : List I) (x : I) → 0 < length left → x ≡ get_or left 0 x → IsBelowFirst cmp x mine → IsTakenOut own all others left mine → IsTakenOut own all (others ++ x ∷ []) (drop 1 left) mine
  left_there o own all others left mine x l e below t = left_cons own all others (drop 1 left) mine x
      (λ us f. not_below o x (subst (IsBelowFirst cmp x) f below))
      (subst (λ (ys : List I). IsTakenOut own all others ys mine) (cut_first left x l e) t)

  taken_cons : IsTotalOrder cmp → (own all others l ms : List I) (x y : I) → (cmp x y ≡ Less → ⊥) → IsTakenOut own all others (x ∷ l) (y ∷ ms) → IsTakenOut own all others l ms
  taken_cons o own all others l ms x y n t = elim (unpack (y ∷ ms) t.rest x l t.within) [
    | inl a ↦ (
        let same : ms ≡ a.0 = ap (drop 1) a.1 in
        let head : y ≡ x = ap (λ (ys : List I). get_or ys 0 y) a.1 in
        record {
          rest = t.rest;
          within = subst (λ (us : List I). Interleaved us t.rest l) (sym same) a.2;
          goes_on = λ r m. t.goes_on r (subst (λ z. Interleaved (z ∷ ms) r (x ∷ l)) (sym head) (first x ms r l m));
          rising = t.rising.1;
        }
        )
    | inr b ↦ absurd (n (all_contains (ComesBefore cmp key x) y l t.rising.0 (in_both y (y ∷ ms) b.0 l b.2 (contains_first y y ms refl))).order)
  ]

  pub taken_one : IsTotalOrder cmp → (own all others left mine : List I) (x : I) → 0 < length left → x ≡ get_or left 0 x → (IsBelowFirst cmp x mine → ⊥) → IsTakenOut own all others left mine → IsTakenOut own all others (drop 1 left) (drop 1 mine)
  taken_one o own all others left [] x l e n t = absurd (n tt)
  taken_one o own all others left (y ∷ ms) x l e n t = taken_cons o own all others (drop 1 left) ms x y n (subst (λ (ys : List I). IsTakenOut own all others ys (y ∷ ms)) (cut_first left x l e) t)

  ends : (xs : List I) → xs ++ [] ≡ xs
  ends [] = refl
  ends (x ∷ xs) = ap (λ (l : List I). x ∷ l) (ends xs)

  pub taken_all : (own all others left mine : List I) → length left ≡ 0 → IsTakenOut own all others left mine → Interleaved own others all
  taken_all own all others [] mine e t =
      let none : t.rest ≡ [] = none_of_none t.rest mine [] (swapped mine t.rest [] t.within) refl in
      subst (λ (ys : List I). Interleaved own ys all) (ap (λ (ys : List I). others ++ ys) none ∙ ends others) (t.goes_on t.rest t.within)
  taken_all own all others (x ∷ left) mine e t = absurd (omega (arith, e))
