-- What a place held that was read.
use Rattle.std.proofs.Common.{◌≡◌, ◌≤◌, ◌∙◌, inl, inr, ap, refl, sym, arith, ℕ, ◌+◌, List, [], ◌∷◌, ◌++◌, length, append-nil}
use Rattle.std.specs.Prelude.{Option, Some, None}
use Rattle.std.specs.Io.KnownBytes.{Consumes}
use Rattle.std.proofs.lemmas.List.{take_all, take-append-le}
use Rattle.std.proofs.lemmas.Bool.{cases_lt}
use Rattle.io_traits.specs.Host.{HostState, IsEmpty}
use Rattle.io_traits.specs.Places.{WasRead, place_limit}
use Rattle.io_traits.specs.declared.host.Place.{Place}
use Rattle.io_traits.specs.declared.host.Way.TheVariants as ways
use Rattle.session_script.specs.Ends.{MayHold}
use Rattle.session_script.specs.Scripts.{read_of}
use Rattle.session_script.specs.Steps.{PlaceOpened, PlaceRead, PlaceWritten}
use Rattle.session_script.proofs.Bindings.{apart_bound}

-- ---- what a place held

-- what was left at first and isn't bound is left still
abbrev pub Unread : HostState → HostState → Type 0
Unread first old = (p : Place) → old.bound p ≡ None → old.left p ≡ first.left p

pub record Held (first : HostState) (place : Place) (octets : List ℕ) : Type 0 where
  pub all : List ℕ
  pub may : MayHold first place all
  pub read : octets ≡ read_of all

pub held : (first old mid : HostState) (place : Place) (octets : List ℕ) → old.left place ≡ first.left place → WasRead place octets old mid → Held first place octets
held first old mid place octets same read = told (old.left place) (mid.left place) refl read.taken read.whole where
  cut : (ys : List ℕ) → (length octets ≤ place_limit → ys ≡ []) → octets ≡ read_of (octets ++ ys)
  cut ys whole = elim (cases_lt place_limit (length octets)) [
    | inl long ↦ sym (take-append-le (place_limit + 1) octets ys (omega (arith, long)) ∙ take_all (place_limit + 1) octets (omega (arith, read.within)))
    | inr short ↦ sym (ap (λ t. read_of (octets ++ t)) (whole (omega (arith, short))) ∙ ap read_of (append-nil octets) ∙ take_all (place_limit + 1) octets (omega (arith, read.within)))
  ]

  some_same : (xs ys : List ℕ) → Some xs ≡ Some ys → xs ≡ ys
  some_same xs ys e = cc

  told : (a b : Option (List ℕ)) → old.left place ≡ a → Consumes a b octets → (length octets ≤ place_limit → IsEmpty b) → Held first place octets
  told None b e taken whole = record { all = octets; may = λ t has. absurd (let no = sym (same ∙ has) ∙ e in cc); read = sym (take_all (place_limit + 1) octets (omega (arith, read.within))) }
  told (Some xs) None e taken whole = absurd taken
  told (Some xs) (Some ys) e taken whole = record {
    all = xs;
    may = λ t has. some_same xs t (sym e ∙ same ∙ has);
    read = cut ys whole ∙ ap read_of (sym taken);
  }

-- some octets that the place may hold
pub some_held : (first : HostState) (place : Place) → (all : List ℕ) × MayHold first place all
some_held first place = of_left (first.left place) refl where
  of_left : (a : Option (List ℕ)) → first.left place ≡ a → (all : List ℕ) × MayHold first place all
  of_left None e = ([], λ t has. absurd (let no = sym has ∙ e in cc))
  of_left (Some xs) e = (xs, λ t has. (let same = sym e ∙ has in cc))

pub unread_read : (place : Place) (name octets : List ℕ) (first old mid : HostState) → Unread first old → PlaceRead place name octets old mid → Unread first mid
unread_read place name octets first old mid u h p unbound =
    let out = apart_bound ((place, ways.Read, name) ∷ []) p mid (h.bound, tt) unbound in
    h.touches.left p out ∙ u p (sym (h.touches.bindings p out) ∙ unbound)

pub unread_opened : (place : Place) (name : List ℕ) (first old mid : HostState) → Unread first old → PlaceOpened place name old mid → Unread first mid
unread_opened place name first old mid u h p unbound =
    let out = apart_bound ((place, ways.Write, name) ∷ []) p mid (h.bound, tt) unbound in
    h.touches.left p refl ∙ u p (sym (h.touches.bindings p out) ∙ unbound)

pub unread_written : (place : Place) (octets : List ℕ) (first old mid : HostState) → Unread first old → PlaceWritten place octets old mid → Unread first mid
unread_written place octets first old mid u h p unbound = h.touches.left p refl ∙ u p (sym (h.touches.bindings p refl) ∙ unbound)
