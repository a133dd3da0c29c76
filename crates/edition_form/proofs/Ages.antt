-- Who was detected has an age.
use Rattle.std.proofs.Common.{◌≡◌, refl, ℕ, true, Option, Some, None}
use Rattle.std.specs.Prelude.{◌||◌, is_some}
use Rattle.std.specs.Option.{option_map}

pub some_mapped : {A B : Type 0} (f : A → B) (o : Option A) → is_some (option_map f o) ≡ is_some o
some_mapped f None = refl
some_mapped f (Some a) = refl

pub has_age : (f : ℕ → ℕ) (a b c x y z : Option ℕ) → x ≡ option_map f a → y ≡ option_map f b → z ≡ option_map f c → (is_some a || is_some b || is_some c) ≡ true → (is_some x || is_some y || is_some z) ≡ true
has_age f a b c x y z p q r h = rw (p, q, r, some_mapped f a, some_mapped f b, some_mapped f c) h
