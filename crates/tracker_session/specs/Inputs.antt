-- What is read of an input.
use Rattle.std.specs.Prelude.{◌<◌, ◌≤◌, ℕ, nat_eq, Bool, List, [], ◌∷◌, length, take, Option}
use Rattle.std.specs.List.{starts_with}
use Rattle.io_traits.specs.Places.{place_limit}
use Rattle.recording.specs.declared.header.Header.{Header}
use Rattle.recording.specs.Items.{Item}
use Rattle.recording.specs.Readings.{IsReading, IsReadingOfPrefix}

-- The header, the start, the items and the first fault of an input. Of a longer one they are those of its prefix up to the limit, which is no whole input.
pub record IsInput (octets : List ℕ) (header : Option Header) (start : ℕ) (items : List Item) (fault : Option ℕ) : Type 0 where
  pub whole : length octets ≤ place_limit → IsReading octets header start items fault
  pub prefix : place_limit < length octets → IsReadingOfPrefix (take place_limit octets) header start items fault

-- It begins with `MRT2` in ASCII, so it can have changes of biases, and the line of its counts tells them.
abbrev pub tells_biases : List ℕ → Bool
tells_biases octets = starts_with nat_eq octets (77 ∷ 82 ∷ 84 ∷ 50 ∷ [])

pub record HasInput (octets : List ℕ) : Type 0 where
  pub header : Option Header
  pub start : ℕ
  pub items : List Item
  pub fault : Option ℕ
  pub reading : IsInput octets header start items fault
