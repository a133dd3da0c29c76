-- Which places are the same, and which are among others.
use Rattle.std.proofs.Common.{◌≡◌, ◌⊎◌, inl, inr, refl, subst, Bool, true, false, List, [], ◌∷◌}
use Rattle.std.specs.Prelude.{IsTrue, IsFalse, ◌||◌, ◌&&◌}
use Rattle.io_traits.specs.Touching.{is_in, same_place}
use Rattle.io_traits.specs.declared.host.Place.{Place}
use Rattle.io_traits.specs.declared.host.Place.TheVariants as places

pub same_self : (p : Place) → same_place p p ≡ true
same_self places.Settings = refl
same_self places.Input = refl
same_self places.Output = refl
same_self places.Prices = refl
same_self places.Screen = refl

pub same_or_not : (p q : Place) → (p ≡ q) ⊎ (same_place p q ≡ false)
same_or_not places.Settings places.Settings = inl refl
same_or_not places.Settings places.Input = inr refl
same_or_not places.Settings places.Output = inr refl
same_or_not places.Settings places.Prices = inr refl
same_or_not places.Settings places.Screen = inr refl
same_or_not places.Input places.Settings = inr refl
same_or_not places.Input places.Input = inl refl
same_or_not places.Input places.Output = inr refl
same_or_not places.Input places.Prices = inr refl
same_or_not places.Input places.Screen = inr refl
same_or_not places.Output places.Settings = inr refl
same_or_not places.Output places.Input = inr refl
same_or_not places.Output places.Output = inl refl
same_or_not places.Output places.Prices = inr refl
same_or_not places.Output places.Screen = inr refl
same_or_not places.Prices places.Settings = inr refl
same_or_not places.Prices places.Input = inr refl
same_or_not places.Prices places.Output = inr refl
same_or_not places.Prices places.Prices = inl refl
same_or_not places.Prices places.Screen = inr refl
same_or_not places.Screen places.Settings = inr refl
same_or_not places.Screen places.Input = inr refl
same_or_not places.Screen places.Output = inr refl
same_or_not places.Screen places.Prices = inr refl
same_or_not places.Screen places.Screen = inl refl

pub or_false : (b c : Bool) → (b || c) ≡ false → (b ≡ false) × (c ≡ false)
or_false false c e = (refl, e)
or_false true c e = absurd cc

and_true : (b c : Bool) → (b && c) ≡ true → (b ≡ true) × (c ≡ true)
and_true true c e = (refl, e)
and_true false c e = absurd cc

never : (b : Bool) → b ≡ true → b ≡ false → ⊥
never true e f = cc
never false e f = cc

-- a place outside of a list isn't one of its places
pub outside : (ps : List Place) (p q : Place) → IsTrue (is_in ps p) → IsFalse (is_in ps q) → IsFalse (is_in (p ∷ []) q)
outside ps p q inside out = elim (same_or_not q p) [
  | inl e ↦ absurd (never (is_in ps p) inside (subst (λ (x : Place). IsFalse (is_in ps x)) e out))
  | inr apart ↦ one_more q p apart
] where
  one_more : (q p : Place) → same_place q p ≡ false → IsFalse (is_in (p ∷ []) q)
  one_more q p apart = rw apart refl

-- outside of a longer list
pub outside_more : (p q : Place) (ps : List Place) → IsFalse (is_in (p ∷ ps) q) → IsFalse (is_in ps q)
outside_more p q ps out = (or_false (same_place q p) (is_in ps q) out).1

pub inside_more : (p q : Place) (ps : List Place) → IsTrue (is_in ps q) → IsTrue (is_in (p ∷ ps) q)
inside_more p q ps inside = in_either (same_place q p) (is_in ps q) inside where
  in_either : (b c : Bool) → c ≡ true → (b || c) ≡ true
  in_either true c e = refl
  in_either false c e = e

pub inside_first : (p : Place) (ps : List Place) → IsTrue (is_in (p ∷ ps) p)
inside_first p ps = rw (same_self p) refl

-- all of these are among those
abbrev pub all_in : List Place → List Place → Bool
all_in [] qs = true
all_in (p ∷ ps) qs = is_in qs p && all_in ps qs

-- what is outside of those is outside of these
pub outside_all : (ps qs : List Place) (r : Place) → IsTrue (all_in ps qs) → IsFalse (is_in qs r) → IsFalse (is_in ps r)
outside_all [] qs r all out = refl
outside_all (p ∷ ps) qs r all out =
    let both = and_true (is_in qs p) (all_in ps qs) all in
    neither (same_place r p) (is_in ps r) (or_false (same_place r p) false (outside qs p r both.0 out)).0 (outside_all ps qs r both.1 out)
  where
    neither : (b c : Bool) → b ≡ false → c ≡ false → (b || c) ≡ false
    neither false c e f = f
    neither true c e f = absurd cc
