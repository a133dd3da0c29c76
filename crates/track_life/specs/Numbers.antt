-- Track numbers (I062/040): which number each track of a table has once numbers were given.
use Rattle.std.specs.Prelude.{ℕ, ◌+◌, ◌-◌, ◌≤◌, ◌%◌, ◌==◌, Bool, not, ◌&&◌, if◌then◌else◌, List, [], ◌∷◌, ◌++◌, Option, None, is_none}
use Rattle.std.specs.Option.{option_or, option_to_list}
use Rattle.std.specs.List.{filter_map, find, list_any, range_with_len}
use Rattle.track_life.specs.Tracks.{TrackState}

-- a track with this number, or without one
abbrev pub with_number : Option ℕ → TrackState → TrackState
with_number x t = record {
  birth = t.birth;
  aim = t.aim;
  level = t.level;
  psr = t.psr;
  ssr = t.ssr;
  mds = t.mds;
  radar = t.radar;
  mono = t.mono;
  spi = t.spi;
  plots = t.plots;
  confirmed = t.confirmed;
  number = x;
}

-- a track number
abbrev pub IsNumber : ℕ → Type 0
IsNumber n = (1 ≤ n) × (n ≤ 65535)

-- the numbers that tracks hold
abbrev pub held : List TrackState → List ℕ
held ts = filter_map (λ t. t.number) ts

-- whether a number is one of these
abbrev pub is_among : List ℕ → ℕ → Bool
is_among numbers n = list_any (λ m. m == n) numbers

-- the order in which numbers are tried for a track whose first plot has this arrival: from one more than the arrival modulo 65,535 up to
-- 65,535, and then on from 1. So each number from 1 to 65,535 stands in it once
unfoldable pub tried : ℕ → List ℕ
tried arrival = range_with_len (1 + arrival % 65535) (65535 - arrival % 65535) ++ range_with_len 1 (arrival % 65535)

-- the first of them that isn't held; none where all 65,535 are
abbrev pub first_free : List ℕ → ℕ → Option ℕ
first_free numbers arrival = find (λ n. not (is_among numbers n)) (tried arrival)

-- a confirmed track without a number waits for one
abbrev pub is_waiting : TrackState → Bool
is_waiting t = t.confirmed && is_none t.number

-- the number that a track is given, where these are held
abbrev pub new_number : List ℕ → TrackState → Option ℕ
new_number numbers t = if is_waiting t then first_free numbers t.birth.arrival else None

-- tracks after numbers were given, one after the other: each keeps its own, and what one is given is held for those after it
abbrev pub given : List ℕ → List TrackState → List TrackState
given numbers [] = []
given numbers (t ∷ ts) = with_number (option_or t.number (new_number numbers t)) t ∷ given (option_to_list (new_number numbers t) ++ numbers) ts

-- a table after numbers were given, in birth order: none of the numbers that its tracks hold is given
unfoldable pub assigned : List TrackState → List TrackState
assigned ts = given (held ts) ts
