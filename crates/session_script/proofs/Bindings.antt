-- Which places bindings name, and which of them are bound.
use Rattle.std.proofs.Common.{◌≡◌, ◌⊎◌, inl, inr, refl, sym, subst, ℕ, List, [], ◌∷◌, ◌++◌, Bool, true, false}
use Rattle.std.specs.Prelude.{Option, Some, None, IsTrue, IsFalse, ◌||◌, ⊤, option_map}
use Rattle.io_traits.specs.Host.{HostState, IsBoundFor}
use Rattle.io_traits.specs.Touching.{is_in, same_place}
use Rattle.io_traits.specs.declared.host.Place.{Place}
use Rattle.io_traits.specs.declared.host.Way.{Way}
use Rattle.io_traits.specs.declared.host.Way.TheVariants as ways
use Rattle.io_traits.proofs.Places.{or_false, same_or_not}
use Rattle.session_script.specs.Ends.{AllBound, places_of, read_in, written_in}
use Rattle.session_script.specs.Scripts.{Binding}
use Rattle.session_script.specs.Steps.{IsFresh}

neither : (b c : Bool) → b ≡ false → c ≡ false → (b || c) ≡ false
neither false c e f = f
neither true c e f = absurd cc

or_front : (b c d : Bool) → (c ≡ true → d ≡ true) → (b || c) ≡ true → (b || d) ≡ true
or_front true c d f e = refl
or_front false c d f e = f e

or_back : (b c : Bool) → c ≡ true → (b || c) ≡ true
or_back true c e = refl
or_back false c e = e

pub decided : (b : Bool) → (b ≡ true) ⊎ (b ≡ false)
decided true = inl refl
decided false = inr refl

-- ---- lists of bindings, one after the other

pub out_places : (made bound : List Binding) (p : Place) → IsFalse (is_in (places_of (made ++ bound)) p) → IsFalse (is_in (places_of made) p) × IsFalse (is_in (places_of bound) p)
out_places [] bound p out = (refl, out)
out_places ((q, way, name) ∷ rest) bound p out =
    let both = or_false (same_place p q) (is_in (places_of (rest ++ bound)) p) out in
    let more = out_places rest bound p both.1 in
    (neither (same_place p q) (is_in (places_of rest) p) both.0 more.0, more.1)

pub out_read : (made bound : List Binding) (p : Place) → IsFalse (is_in (read_in (made ++ bound)) p) → IsFalse (is_in (read_in made) p) × IsFalse (is_in (read_in bound) p)
out_read [] bound p out = (refl, out)
out_read ((q, ways.Read, name) ∷ rest) bound p out =
    let both = or_false (same_place p q) (is_in (read_in (rest ++ bound)) p) out in
    let more = out_read rest bound p both.1 in
    (neither (same_place p q) (is_in (read_in rest) p) both.0 more.0, more.1)
out_read ((q, ways.Write, name) ∷ rest) bound p out = out_read rest bound p out

pub out_written : (made bound : List Binding) (p : Place) → IsFalse (is_in (written_in (made ++ bound)) p) → IsFalse (is_in (written_in made) p) × IsFalse (is_in (written_in bound) p)
out_written [] bound p out = (refl, out)
out_written ((q, ways.Read, name) ∷ rest) bound p out = out_written rest bound p out
out_written ((q, ways.Write, name) ∷ rest) bound p out =
    let both = or_false (same_place p q) (is_in (written_in (rest ++ bound)) p) out in
    let more = out_written rest bound p both.1 in
    (neither (same_place p q) (is_in (written_in rest) p) both.0 more.0, more.1)

pub inside_front : (made bound : List Binding) (p : Place) → IsTrue (is_in (written_in made) p) → IsTrue (is_in (written_in (made ++ bound)) p)
inside_front [] bound p inside = absurd cc
inside_front ((q, ways.Read, name) ∷ rest) bound p inside = inside_front rest bound p inside
inside_front ((q, ways.Write, name) ∷ rest) bound p inside = or_front (same_place p q) (is_in (written_in rest) p) (is_in (written_in (rest ++ bound)) p) (inside_front rest bound p) inside

pub inside_back : (made bound : List Binding) (p : Place) → IsTrue (is_in (written_in bound) p) → IsTrue (is_in (written_in (made ++ bound)) p)
inside_back [] bound p inside = inside
inside_back ((q, ways.Read, name) ∷ rest) bound p inside = inside_back rest bound p inside
inside_back ((q, ways.Write, name) ∷ rest) bound p inside = or_back (same_place p q) (is_in (written_in (rest ++ bound)) p) (inside_back rest bound p inside)

-- what isn't bound is neither read nor written
pub reads_among : (bound : List Binding) (p : Place) → IsFalse (is_in (places_of bound) p) → IsFalse (is_in (read_in bound) p)
reads_among [] p out = refl
reads_among ((q, ways.Read, name) ∷ rest) p out =
    let both = or_false (same_place p q) (is_in (places_of rest) p) out in
    neither (same_place p q) (is_in (read_in rest) p) both.0 (reads_among rest p both.1)
reads_among ((q, ways.Write, name) ∷ rest) p out = reads_among rest p (or_false (same_place p q) (is_in (places_of rest) p) out).1

pub writes_among : (bound : List Binding) (p : Place) → IsFalse (is_in (places_of bound) p) → IsFalse (is_in (written_in bound) p)
writes_among [] p out = refl
writes_among ((q, ways.Write, name) ∷ rest) p out =
    let both = or_false (same_place p q) (is_in (places_of rest) p) out in
    neither (same_place p q) (is_in (written_in rest) p) both.0 (writes_among rest p both.1)
writes_among ((q, ways.Read, name) ∷ rest) p out = writes_among rest p (or_false (same_place p q) (is_in (places_of rest) p) out).1

-- ---- which of them are bound

-- none of these is bound yet
abbrev pub AllFresh : List Binding → HostState → Type 0
AllFresh [] host = ⊤
AllFresh ((place, way, name) ∷ rest) host = IsFresh place host × AllFresh rest host

never : (b : Option (Way × List ℕ)) (x : Way × List ℕ) → b ≡ None → b ≡ Some x → ⊥
never None x e f = cc
never (Some y) x e f = cc

-- a place that is bound isn't among those that are not
pub apart_fresh : (bound : List Binding) (p : Place) (binding : Way × List ℕ) (host : HostState) → AllFresh bound host → host.bound p ≡ Some binding → IsFalse (is_in (places_of bound) p)
apart_fresh [] p binding host fresh is = refl
apart_fresh ((q, way, name) ∷ rest) p binding host fresh is = elim (same_or_not p q) [
  | inl e ↦ absurd (never (host.bound p) binding (subst (λ (x : Place). host.bound x ≡ None) (sym e) fresh.0.unbound) is)
  | inr apart ↦ neither (same_place p q) (is_in (places_of rest) p) apart (apart_fresh rest p binding host fresh.1 is)
]

-- and the other way round
pub apart_bound : (made : List Binding) (p : Place) (host : HostState) → AllBound made host → host.bound p ≡ None → IsFalse (is_in (places_of made) p)
apart_bound [] p host all is = refl
apart_bound ((q, way, name) ∷ rest) p host all is = elim (same_or_not p q) [
  | inl e ↦ absurd (never (host.bound p) (way, name) is (subst (λ (x : Place). host.bound x ≡ Some (way, name)) (sym e) all.0))
  | inr apart ↦ neither (same_place p q) (is_in (places_of rest) p) apart (apart_bound rest p host all.1 is)
]

read_only : (b : Option (Way × List ℕ)) (name : List ℕ) → b ≡ Some (ways.Read, name) → option_map (λ binding. binding.0) b ≡ Some ways.Write → ⊥
read_only None name e f = cc
read_only (Some x) name e f = (let same : x.0 ≡ ways.Read = cc in let other : x.0 ≡ ways.Write = cc in let clash = sym same in absurd (ways_differ x.0 same other))
  where
    ways_differ : (w : Way) → w ≡ ways.Read → w ≡ ways.Write → ⊥
    ways_differ ways.Read e f = cc
    ways_differ ways.Write e f = cc

-- a place that is open, and that these bindings don't open, isn't one of them
pub apart_open : (made : List Binding) (p : Place) (host : HostState) → AllBound made host → IsFalse (is_in (written_in made) p) → IsBoundFor ways.Write host p → IsFalse (is_in (places_of made) p)
apart_open [] p host all out is = refl
apart_open ((q, ways.Read, name) ∷ rest) p host all out is = elim (same_or_not p q) [
  | inl e ↦ absurd (read_only (host.bound p) name (subst (λ (x : Place). host.bound x ≡ Some (ways.Read, name)) (sym e) all.0) is)
  | inr apart ↦ neither (same_place p q) (is_in (places_of rest) p) apart (apart_open rest p host all.1 out is)
]
apart_open ((q, ways.Write, name) ∷ rest) p host all out is =
    let both = or_false (same_place p q) (is_in (written_in rest) p) out in
    neither (same_place p q) (is_in (places_of rest) p) both.0 (apart_open rest p host all.1 both.1 is)

pub fresh_join : (made bound : List Binding) (host : HostState) → AllFresh made host → AllFresh bound host → AllFresh (made ++ bound) host
fresh_join [] bound host h k = k
fresh_join ((q, way, name) ∷ rest) bound host h k = (h.0, fresh_join rest bound host h.1 k)

pub bound_join : (made bound : List Binding) (host : HostState) → AllBound made host → AllBound bound host → AllBound (made ++ bound) host
bound_join [] bound host h k = k
bound_join ((q, way, name) ∷ rest) bound host h k = (h.0, bound_join rest bound host h.1 k)
