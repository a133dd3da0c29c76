-- Items that rise, seen by each pair of neighbours, for tests.
use Rattle.std.proofs.Common.{◌≡◌, ◌∙◌, ap, sym, subst, ◌<◌, ◌≤◌, take, List, [], ◌∷◌, length, drop, get_or, arith}
use Rattle.std.specs.List.{AllByRecursion}
use Rattle.std.specs.Cmp.{IsTotalOrder}
use Rattle.std.specs.Ordering.{ordering_reverse}
use Rattle.std.specs.declared.cmp.Ordering.{Ordering}
use Rattle.std.specs.declared.cmp.Ordering.TheVariants.{Less, Equal, Greater}
use Rattle.late_window.specs.Folding.{Rises, ComesBefore}

module _ {I : Type 0} (cmp : I → I → Ordering) (total : IsTotalOrder cmp) where
  itself : (x : I) → cmp x x ≡ Less → ⊥
  itself x e = turned (cmp x x) (total.antisymm x x) e
    where
      turned : (o : Ordering) → o ≡ ordering_reverse o → o ≡ Less → ⊥
      turned Less h k = cc
      turned Equal h k = cc
      turned Greater h k = cc

  before_all : (x y : I) (ys : List I) → cmp x y ≡ Less → AllByRecursion (ComesBefore cmp (λ z. z) y) ys → AllByRecursion (ComesBefore cmp (λ z. z) x) ys
  before_all x y [] lt h = tt
  before_all x y (z ∷ ys) lt h =
      let less : cmp x z ≡ Less = total.trans x y z lt h.0.order in
      (record { order = less; keys = λ e. itself z (subst (λ w. cmp w z ≡ Less) e less) }, before_all x y ys lt h.1)

  pub rises_one : (x y : I) (ys : List I) → cmp x y ≡ Less → Rises cmp (λ z. z) (y ∷ ys) → Rises cmp (λ z. z) (x ∷ y ∷ ys)
  rises_one x y ys lt h = ((record { order = lt; keys = λ e. itself y (subst (λ w. cmp w y ≡ Less) e lt) }, before_all x y ys lt h.0), h)

  pub short_rises : (xs : List I) → length xs < 2 → Rises cmp (λ z. z) xs
  short_rises [] l = tt
  short_rises (x ∷ []) l = (tt, tt)
  short_rises (x ∷ y ∷ xs) l = absurd (omega (arith, l))

  pub rises_cut : (x y : I) (xs ys zs : List I) → 2 ≤ length xs → ys ≡ take 1 xs → zs ≡ drop 1 xs → x ≡ get_or ys 0 x → y ≡ get_or zs 0 y → cmp x y ≡ Less → Rises cmp (λ z. z) zs → Rises cmp (λ z. z) xs
  rises_cut x y [] ys zs l a b e f lt h = absurd (omega (arith, l))
  rises_cut x y (u ∷ []) ys zs l a b e f lt h = absurd (omega (arith, l))
  rises_cut x y (u ∷ v ∷ xs) ys zs l a b e f lt h =
      let one : x ≡ u = e ∙ ap (λ k. get_or k 0 x) a in
      let other : y ≡ v = f ∙ ap (λ k. get_or k 0 y) b in
      rises_one u v xs ((λ i. cmp (sym one i) (sym other i)) ∙ lt) (subst (Rises cmp (λ z. z)) b h)
