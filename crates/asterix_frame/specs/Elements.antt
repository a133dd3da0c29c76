-- A field of presence bits, and after it the elements that it names, in order: the items of a
-- record, or the subfields of a compound item.
use Rattle.std.specs.Prelude.{◌≡◌, ℕ, Bool, List, ◌++◌, map}
use Rattle.std.specs.List.{flat_map, AllByRecursion}
use Rattle.asterix_frame.specs.Presence.{IsField, present}

-- the element of a number
pub record Element : Type 0 where
  pub number : ℕ
  pub octets : List ℕ

abbrev pub numbers : List Element → List ℕ
numbers elements = map (λ p. p.number) elements

abbrev pub octets_of : List Element → List ℕ
octets_of elements = flat_map (λ p. p.octets) elements

-- Octets that begin with a whole field, and after it have whole elements for the first of its
-- numbers. `left` are the numbers that follow, and `rest` the octets.
pub record BeginsElements (known : ℕ → Bool) (IsElement : ℕ → List ℕ → Type 0) (octets field : List ℕ) (elements : List Element) (left rest : List ℕ) : Type 0 where
  pub is_field : IsField known field
  pub in_order : present field ≡ numbers elements ++ left
  pub are_elements : AllByRecursion (λ p. IsElement p.number p.octets) elements
  pub whole : octets ≡ field ++ (octets_of elements ++ rest)
