-- What is read by index of a list, and sums of prices.
use Rattle.std.proofs.Common.{◌≡◌, ℕ, ◌+◌, List, [], ◌∷◌, get_or, take, length, ◌∙◌, ap, sym, subst, arith, ℤ, pos, ◌+ℤ◌, ◌<◌}
use Rattle.std.specs.List.{All, AllWithin}
use Rattle.std.proofs.lemmas.List.Elements.{AllWithin-more}
use Rattle.std.proofs.lemmas.Grind.{fold-append}
use Rattle.std.proofs.lemmas.List.{take_more}
use Rattle.assignment_dual.specs.Problems.{Edge, total, price_at}

-- one price more
pub total_more : (xs : List ℤ) (i : ℕ) → i < length xs → total (take (i + 1) xs) ≡ total (take i xs) +ℤ price_at xs i
total_more xs i lt = ap total (take_more xs i (pos 0) lt) ∙ fold-append ◌+ℤ◌ (pos 0) (take i xs) (price_at xs i ∷ [])

pub inside : {end long : ℕ} (i : ℕ) → i < end → end ≡ long → i < long
inside i lt e = omega (arith, lt, e)

pub read_all : {X : Type 0} (P : X → Type 0) (xs : List X) (i : ℕ) (x : X) → i < length xs → ((d : X) → x ≡ get_or xs i d) → All P xs → P x
read_all P xs i x lt e all = subst P (sym (e x)) (all i x lt)

pub read_within : {X : Type 0} (P : X → Type 0) (xs : List X) (i : ℕ) (x : X) → ((d : X) → x ≡ get_or xs i d) → AllWithin P xs 0 i → P x → AllWithin P xs 0 (i + 1)
read_within P xs i x e h p = AllWithin-more P xs 0 i h (λ d. subst P (e d) p)

-- an edge whose prices were read
pub priced : (P : ℤ → Type 0) (us vs : List ℤ) (e : Edge) (u v : ℤ) → ((d : ℤ) → u ≡ get_or us e.0 d) → ((d : ℤ) → v ≡ get_or vs e.1 d) → P (u +ℤ v) → P (price_at us e.0 +ℤ price_at vs e.1)
priced P us vs e u v a b h = subst P (λ j. a (pos 0) j +ℤ b (pos 0) j) h

pub back_priced : (P : ℤ → Type 0) (us vs : List ℤ) (e : Edge) (u v : ℤ) → ((d : ℤ) → u ≡ get_or us e.0 d) → ((d : ℤ) → v ≡ get_or vs e.1 d) → P (price_at us e.0 +ℤ price_at vs e.1) → P (u +ℤ v)
back_priced P us vs e u v a b h = subst P (sym (λ j. a (pos 0) j +ℤ b (pos 0) j)) h

pub sum_more : (xs : List ℤ) (i : ℕ) (sum x : ℤ) → i < length xs → ((d : ℤ) → x ≡ get_or xs i d) → sum ≡ total (take i xs) → sum +ℤ x ≡ total (take (i + 1) xs)
sum_more xs i sum x lt e h = (λ j. h j +ℤ e (pos 0) j) ∙ sym (total_more xs i lt)
