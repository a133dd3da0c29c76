-- What a host tells of its places, and what its calls do to the octets of one.
use Rattle.std.specs.Prelude.{◌≡◌, ◌≤◌, ℕ, List, [], length, take, Option, Some, option_map, Result, MatchResult}
use Rattle.std.specs.Io.KnownBytes.{Appends, Consumes, IsAtEnd}
use Rattle.io_traits.specs.declared.host.Place.{Place}
use Rattle.io_traits.specs.declared.host.Way.{Way}

-- what a host tells of its places: octets where it knows them, else None
pub record HostState : Type 0 where
  pub faults : Place → ℕ
  pub bound : Place → Option (Way × List ℕ)
  pub left : Place → Option (List ℕ)
  pub got : Place → Option (List ℕ)

-- the place is bound, to some name, for this way
abbrev pub IsBoundFor : Way → HostState → Place → Type 0
IsBoundFor way s place = option_map (λ binding. binding.0) (s.bound place) ≡ Some way

-- no octets, where they are told
abbrev pub IsEmpty : Option (List ℕ) → Type 0
IsEmpty octets = IsAtEnd octets

-- The first n octets of the piece are a prefix of what was left, and were taken away; none exactly at the end.
pub record TakesPrefix (n : ℕ) (piece : List ℕ) (left left' : Option (List ℕ)) : Type 0 where
  pub within : n ≤ length piece
  pub prefix : Consumes left left' (take n piece)
  pub end : n ≡ 0 → IsEmpty left'
  pub only_end : left ≡ Some [] → n ≡ 0

-- The first n octets of the piece, which are some, were appended.
pub record AppendsPrefix (n : ℕ) (piece : List ℕ) (got got' : Option (List ℕ)) : Type 0 where
  pub some : 1 ≤ n
  pub within : n ≤ length piece
  pub prefix : Appends got got' (take n piece)

-- a read took the prefix that it gave, and a failed one nothing
abbrev pub Reads : {E : Type 0} → Result ℕ E → List ℕ → Option (List ℕ) → Option (List ℕ) → Type 0
Reads result piece left left' =
    MatchResult result (λ n. TakesPrefix n piece left left') (λ _. left' ≡ left)

-- a write appended the prefix that it told, and a failed one nothing
abbrev pub Writes : {E : Type 0} → Result ℕ E → List ℕ → Option (List ℕ) → Option (List ℕ) → Type 0
Writes result piece got got' =
    MatchResult result (λ n. AppendsPrefix n piece got got') (λ _. got' ≡ got)
