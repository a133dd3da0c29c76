-- Which places a run touched.
use Rattle.std.specs.Prelude.{◌≡◌, ◌≤◌, ◌==◌, ℕ, Bool, List, IsFalse}
use Rattle.std.specs.List.{list_any}
use Rattle.io_traits.specs.Host.{HostState}
use Rattle.io_traits.specs.declared.host.Place.{Place}
use Rattle.io_traits.specs.declared.host.Place.TheVariants.{Settings, Input, Output, Prices, Screen}

abbrev pub number_of : Place → ℕ
number_of Settings = 0
number_of Input = 1
number_of Output = 2
number_of Prices = 3
number_of Screen = 4

abbrev pub same_place : Place → Place → Bool
same_place p q = number_of p == number_of q

-- the place is among these
abbrev pub is_in : List Place → Place → Bool
is_in places p = list_any (same_place p) places

-- Of all places only these were bound, only these read and only these written. No other failed, and no count fell.
pub record Touches (bound read written : List Place) (old new : HostState) : Type 0 where
  pub bindings : (p : Place) → IsFalse (is_in bound p) → new.bound p ≡ old.bound p
  pub left : (p : Place) → IsFalse (is_in read p) → new.left p ≡ old.left p
  pub got : (p : Place) → IsFalse (is_in written p) → new.got p ≡ old.got p
  pub faults : (p : Place) → IsFalse (is_in bound p) → IsFalse (is_in read p) → IsFalse (is_in written p) → new.faults p ≡ old.faults p
  pub later : (p : Place) → old.faults p ≤ new.faults p
