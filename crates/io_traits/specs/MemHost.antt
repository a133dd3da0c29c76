-- What a host in memory stands for.
use Rattle.std.specs.Prelude.{◌≡◌, ◌<◌, ℕ, ◌+◌, ◌-◌, ◌^◌, ◌==◌, min, Bool, true, if◌then◌else◌, not, ◌&&◌, List, [], ◌∷◌, fold, length, vec_len, Option, Some, None, option_map, string_bytes, Vec}
use Rattle.std.specs.List.{list_any}
use Rattle.std.specs.declared.alloc.Global.{Global}
use Rattle.io_traits.specs.Host.{HostState}
use Rattle.io_traits.specs.Touching.{is_in, same_place}
use Rattle.io_traits.specs.Store.{store_left, store_got}
use Rattle.io_traits.specs.declared.host.Place.{Place}
use Rattle.io_traits.specs.declared.host.Place.TheVariants.{Settings, Input, Output, Prices, Screen}
use Rattle.io_traits.specs.declared.host.Way.{Way}
use Rattle.io_traits.specs.declared.mem_host.store.Store.{Store}
use Rattle.io_traits.specs.declared.mem_host.file.File.{File}
use Rattle.io_traits.specs.declared.mem_host.MemHost.{MemHost}

abbrev pub file_bound : File → Option (Way × List ℕ)
file_bound f = option_map (λ binding. (binding.0, string_bytes binding.1)) f.bound

abbrev pub store_of : MemHost → Place → Store
store_of m Settings = m.settings.store
store_of m Input = m.input.store
store_of m Output = m.output.store
store_of m Prices = m.prices.store
store_of m Screen = m.screen

abbrev pub bound_of : MemHost → Place → Option (Way × List ℕ)
bound_of m Settings = file_bound m.settings
bound_of m Input = file_bound m.input
bound_of m Output = file_bound m.output
bound_of m Prices = file_bound m.prices
bound_of m Screen = None

abbrev pub left_of : MemHost → Place → List ℕ
left_of m p = store_left (store_of m p)

abbrev pub got_of : MemHost → Place → List ℕ
got_of m p = store_got (store_of m p)

-- what a host in memory tells: everything
abbrev pub state_of : MemHost → HostState
state_of m = record {
  faults = λ p. (store_of m p).faults;
  bound = λ p. bound_of m p;
  left = λ p. Some (left_of m p);
  got = λ p. Some (got_of m p);
}

-- how many octets the place is to get in all
abbrev pub size_of : MemHost → Place → ℕ
size_of m p = vec_len (store_of m p).got

-- the next call is one of those that are to fail
abbrev pub fails_next : MemHost → Bool
fails_next m = list_any (λ call. call == m.calls) m.fails.items

-- no call is to fail
abbrev pub NeverFails : MemHost → Type 0
NeverFails m = m.fails.items ≡ []

-- there is room for an octet more
abbrev pub HasRoom : MemHost → Place → Type 0
HasRoom m p = length (got_of m p) < size_of m p

-- The call was counted. Which calls are to fail, and how much each place is to get in all, stays.
pub record CountsCall (old new : MemHost) : Type 0 where
  pub calls : new.calls ≡ min (old.calls + 1) (2 ^ 64 - 1)
  pub fails : new.fails.items ≡ old.fails.items
  pub size : (p : Place) → size_of new p ≡ size_of old p

-- no place stands twice
abbrev pub names_once : List Place → Bool
names_once [] = true
names_once (p ∷ places) = not (is_in places p) && names_once places

-- what a list holds for a place, and where it doesn't name the place, nothing
abbrev pub value_for : {V W : Type 0} → (V → W) → W → List (Place × V) → Place → W
value_for f nothing entries p =
    fold (λ found entry. if same_place entry.0 p then f entry.1 else found) nothing entries

abbrev pub octets_for : List (Place × Vec ℕ Global) → Place → List ℕ
octets_for entries p = value_for (λ octets. octets.items) [] entries p

abbrev pub room_for : List (Place × ℕ) → Place → ℕ
room_for entries p = value_for (λ room. room) 0 entries p

-- A host at its making: nothing has failed, is bound or was got, and no call was made.
pub record IsNew (m : MemHost) (octets : List (Place × Vec ℕ Global)) (room : List (Place × ℕ)) (calls_that_fail : List ℕ) : Type 0 where
  pub faults : (p : Place) → (state_of m).faults p ≡ 0
  pub bound : (p : Place) → (state_of m).bound p ≡ None
  pub left : (p : Place) → (state_of m).left p ≡ Some (octets_for octets p)
  pub got : (p : Place) → (state_of m).got p ≡ Some []
  pub size : (p : Place) → size_of m p ≡ room_for room p
  pub fails : m.fails.items ≡ calls_that_fail
  pub calls : m.calls ≡ 0
