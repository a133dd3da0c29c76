-- Two rising lists merged are their one interleaving that rises.
use Rattle.std.proofs.Common.{◌≡◌, ◌∙◌, ap, sym, refl, List, [], ◌∷◌, true, false, cond, subst}
use Rattle.std.specs.Prelude.{Contains}
use Rattle.std.specs.List.{AllByRecursion}
use Rattle.std.specs.Cmp.{IsTotalOrder}
use Rattle.std.specs.List.Sorted.{IsStrictlySortedBy}
use Rattle.std.specs.Ordering.{is_lt, ordering_reverse}
use Rattle.std.specs.declared.cmp.Ordering.{Ordering}
use Rattle.std.specs.declared.cmp.Ordering.TheVariants.{Less, Equal, Greater}
use Rattle.std.proofs.lemmas.Bool.{cond_both}
use Rattle.slot_step.specs.Interleavings.{Interleaved}
use Rattle.slot_step.specs.Interleavings.Interleaved.{neither, first, second}
use Rattle.slot_step.specs.Parts.{put_in, merged_by}
use Rattle.slot_step.proofs.Interleavings.{swapped, all_second, all_of, all_weaker, all_of_both, all_of_first, contains_first, contains_later, one_interleaving}

is_less : (o : Ordering) → is_lt o ≡ true → o ≡ Less
is_less Less e = refl
is_less Equal e = cc
is_less Greater e = cc

turned : (o : Ordering) → is_lt o ≡ false → (o ≡ Equal → ⊥) → ordering_reverse o ≡ Less
turned Less e n = cc
turned Equal e n = absurd (n refl)
turned Greater e n = refl

module _ {X : Type 0} (cmp : X → X → Ordering) (t : IsTotalOrder cmp) where
  all_after : (x y : X) (zs : List X) → cmp x y ≡ Less → AllByRecursion (λ z. cmp y z ≡ Less) zs → AllByRecursion (λ z. cmp x z ≡ Less) zs
  all_after x y zs e h = all_weaker (λ z. cmp y z ≡ Less) (λ z. cmp x z ≡ Less) zs (λ z g. t.trans x y z e g) h

  -- what comes before all of the first list is put in as one of it
  put_in_first : (x : X) (us vs ws : List X) → Interleaved us vs ws → IsStrictlySortedBy cmp ws → AllByRecursion (λ u. cmp x u ≡ Less) us → AllByRecursion (λ v. cmp x v ≡ Equal → ⊥) vs
      → Interleaved (x ∷ us) vs (put_in cmp x ws) × IsStrictlySortedBy cmp (put_in cmp x ws)
  unfolding IsStrictlySortedBy
  put_in_first x _ _ _ neither r h d = (first x _ _ _ neither, (tt, tt))
  put_in_first x _ _ _ (first y us vs ws m) r h d =
      let e : is_lt (cmp x y) ≡ true = ap is_lt h.0 in
      subst (λ b. Interleaved (x ∷ y ∷ us) vs (cond b (x ∷ y ∷ ws) (y ∷ put_in cmp x ws)) × IsStrictlySortedBy cmp (cond b (x ∷ y ∷ ws) (y ∷ put_in cmp x ws))) (sym e)
      (first x _ _ _ (first y _ _ _ m), ((h.0, all_after x y ws h.0 r.0), r))
  put_in_first x _ _ _ (second y us vs ws m) r h d =
      cond_both (is_lt (cmp x y)) (x ∷ y ∷ ws) (y ∷ put_in cmp x ws) (λ c. Interleaved (x ∷ us) (y ∷ vs) c × IsStrictlySortedBy cmp c)
      (λ e. let b : cmp x y ≡ Less = is_less (cmp x y) e in (first x _ _ _ (second y _ _ _ m), ((b, all_after x y ws b r.0), r)))
      (λ e.
      let p : Interleaved (x ∷ us) vs (put_in cmp x ws) × IsStrictlySortedBy cmp (put_in cmp x ws) = put_in_first x us vs ws m r.1 h d.1 in
      let b : cmp y x ≡ Less = t.antisymm y x ∙ turned (cmp x y) e d.0 in
      (second y _ _ _ p.0, (all_of_both (λ z. cmp y z ≡ Less) (x ∷ us) vs (put_in cmp x ws) p.0 (b, all_of_first (λ z. cmp y z ≡ Less) us vs ws m r.0) (all_of_first (λ z. cmp y z ≡ Less) vs us ws (swapped _ _ _ m) r.0), p.1)))

  pub merged_is : (xs ys : List X) → IsStrictlySortedBy cmp xs → IsStrictlySortedBy cmp ys → ((x y : X) → Contains xs x → Contains ys y → cmp x y ≡ Equal → ⊥)
      → Interleaved xs ys (merged_by cmp xs ys) × IsStrictlySortedBy cmp (merged_by cmp xs ys)
  unfolding merged_by IsStrictlySortedBy
  merged_is [] ys r q d = (all_second ys, q)
  merged_is (x ∷ xs) ys r q d =
      let m : Interleaved xs ys (merged_by cmp xs ys) × IsStrictlySortedBy cmp (merged_by cmp xs ys) = merged_is xs ys r.1 q (λ z y c e. d z y (contains_later x z xs c) e) in
      put_in_first x xs ys (merged_by cmp xs ys) m.0 m.1 r.0 (all_of (λ y. cmp x y ≡ Equal → ⊥) ys (λ y c. d x y (contains_first x x xs refl) c))

  pub merged_only : (xs ys zs : List X) → IsStrictlySortedBy cmp xs → IsStrictlySortedBy cmp ys → ((x y : X) → Contains xs x → Contains ys y → cmp x y ≡ Equal → ⊥)
      → Interleaved xs ys zs → IsStrictlySortedBy cmp zs → zs ≡ merged_by cmp xs ys
  merged_only xs ys zs r q d m h =
      let g : Interleaved xs ys (merged_by cmp xs ys) × IsStrictlySortedBy cmp (merged_by cmp xs ys) = merged_is xs ys r q d in
      one_interleaving cmp t xs ys zs (merged_by cmp xs ys) m g.0 h g.1
