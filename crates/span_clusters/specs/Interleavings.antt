-- Lists put together, each in its own order.
use Rattle.std.specs.Prelude.{◌≡◌, ◌≢◌, List, [], ◌∷◌, Contains, fold}
use Rattle.std.specs.List.{AllByRecursion}
use Rattle.std.specs.declared.cmp.Ordering.{Ordering}
use Rattle.std.specs.declared.cmp.Ordering.TheVariants.{Less}

-- zs is xs and ys, interleaved
pub data Interleaved {X : Type 0} : List X → List X → List X → Type 0 where
  neither : Interleaved [] [] []
  first : (x : X) (xs ys zs : List X) → Interleaved xs ys zs → Interleaved (x ∷ xs) ys (x ∷ zs)
  second : (y : X) (xs ys zs : List X) → Interleaved xs ys zs → Interleaved xs (y ∷ ys) (y ∷ zs)

-- zs is all of these lists, interleaved
abbrev pub AllInterleaved : {X : Type 0} → List (List X) → List X → Type 0
AllInterleaved [] zs = zs ≡ []
AllInterleaved {X} (xs ∷ xss) zs = (rest : List X) × Interleaved xs rest zs × AllInterleaved xss rest

-- some of zs, in their order
abbrev pub IsWithin : {X : Type 0} → List X → List X → Type 0
IsWithin {X} xs zs = (rest : List X) × Interleaved xs rest zs

-- x is below the first of the list, where there is one
abbrev pub IsBelowFirst : {X : Type 0} → (X → X → Ordering) → X → List X → Type 0
IsBelowFirst cmp x [] = Unit {0}
IsBelowFirst cmp x (y ∷ ys) = cmp x y ≡ Less

-- no key stands in both
abbrev pub KeysDiffer : {X K : Type 0} → (X → K) → List X → List X → Type 0
KeysDiffer {X} key xs ys = (x y : X) → Contains xs x → Contains ys y → key x ≢ key y

-- it holds of each and each later one
abbrev pub EachPair : {X : Type 0} → (X → X → Type 0) → List X → Type 0
EachPair R [] = Unit {0}
EachPair R (x ∷ xs) = AllByRecursion (R x) xs × EachPair R xs

-- y is these joined, one after the other; there is at least one
abbrev pub IsJoin : {X : Type 0} → (X → X → X) → List X → X → Type 0
IsJoin op [] y = ⊥
IsJoin op (x ∷ xs) y = y ≡ fold op x xs
