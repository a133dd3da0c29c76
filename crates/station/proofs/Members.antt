-- Elements of lists that are put together.
use Rattle.std.proofs.Common.{ap, refl, zero, suc, List, [], ◌∷◌, ◌++◌, map, arith}
use Rattle.std.specs.List.{Any, AllByRecursion}

module _ {A : Type 0} (P : A → Type 0) where
  pub any_first : (x : A) (xs : List A) → P x → Any P (x ∷ xs)
  any_first x xs h = (0, x, omega arith, refl, h)

  pub any_later : (x : A) (xs : List A) → Any P xs → Any P (x ∷ xs)
  any_later x xs (k, y, lt, e, h) = (suc k, y, omega (arith, lt), e, h)

  pub any_left : (xs ys : List A) → Any P xs → Any P (xs ++ ys)
  any_left [] ys (k, y, lt, e, h) = absurd (omega (arith, lt))
  any_left (x ∷ xs) ys (zero, y, lt, e, h) = (0, y, omega arith, e, h)
  any_left (x ∷ xs) ys (suc k, y, lt, e, h) = any_later x (xs ++ ys) (any_left xs ys (k, y, omega (arith, lt), e, h))

  pub any_right : (xs ys : List A) → Any P ys → Any P (xs ++ ys)
  any_right [] ys a = a
  any_right (x ∷ xs) ys a = any_later x (xs ++ ys) (any_right xs ys a)

module _ {A B : Type 0} (f : A → B) where
  pub any_map : (P : B → Type 0) (xs : List A) → Any (λ x. P (f x)) xs → Any P (map f xs)
  any_map P [] (k, y, lt, e, h) = absurd (omega (arith, lt))
  any_map P (x ∷ xs) (zero, y, lt, e, h) = (0, f y, omega arith, ap f e, h)
  any_map P (x ∷ xs) (suc k, y, lt, e, h) = any_later P (f x) (map f xs) (any_map P xs (k, y, omega (arith, lt), e, h))

  pub each_unmapped : (P : B → Type 0) (xs : List A) → AllByRecursion P (map f xs) → AllByRecursion (λ x. P (f x)) xs
  each_unmapped P [] h = tt
  each_unmapped P (x ∷ xs) h = (h.0, each_unmapped P xs h.1)
