-- The keys of the settings, as the manual for a site lists them. The program's own table is proved to be this one.
use Rattle.std.specs.Prelude.{ℕ, ℤ, pos, neg_ℤ, List, [], ◌∷◌, codes}

-- what holds where a key is left out: nothing, since it is required, or its default
pub data Otherwise : Type 0 where
  required : Otherwise
  default : ℤ → Otherwise

-- a key, whose value is an integer
pub record Key : Type 0 where
  pub number : ℕ
  pub name : List ℕ
  pub least : ℤ
  pub greatest : ℤ
  pub otherwise : Otherwise

-- key number so and so, its name, its least and its greatest value, and what holds otherwise
abbrev pub key : ℕ → List ℕ → ℤ → ℤ → Otherwise → Key
key number name least greatest otherwise = record { number = number; name = name; least = least; greatest = greatest; otherwise = otherwise }

-- a number below zero
abbrev pub minus : ℕ → ℤ
minus size = neg_ℤ (pos size)

-- the keys of the table `system`
abbrev pub system_keys : List Key
system_keys =
    key 1 (codes "sac") (pos 0) (pos 255) required
    ∷ key 2 (codes "sic") (pos 0) (pos 255) required
    ∷ key 3 (codes "service") (pos 0) (pos 255) required
    ∷ key 4 (codes "window") (pos 2) (pos 120) (default (pos 32))
    ∷ key 5 (codes "hits") (pos 1) (pos 8) (default (pos 3))
    ∷ key 6 (codes "keep_tentative") (pos 1) (pos 60) (default (pos 15))
    ∷ key 7 (codes "keep_confirmed") (pos 1) (pos 60) (default (pos 30))
    ∷ []

-- the keys of each table of the array `radar`
abbrev pub radar_keys : List Key
radar_keys =
    key 8 (codes "sac") (pos 0) (pos 255) required
    ∷ key 9 (codes "sic") (pos 0) (pos 255) required
    ∷ key 10 (codes "x") (minus 1000000) (pos 1000000) required
    ∷ key 11 (codes "y") (minus 1000000) (pos 1000000) required
    ∷ key 12 (codes "height") (minus 500) (pos 9000) (default (pos 0))
    ∷ key 13 (codes "north") (pos 0) (pos 65535) (default (pos 0))
    ∷ key 14 (codes "range_gain") (minus 10000) (pos 10000) (default (pos 0))
    ∷ key 15 (codes "range_bias") (minus 1000) (pos 1000) (default (pos 0))
    ∷ key 16 (codes "azimuth_bias") (minus 1000) (pos 1000) (default (pos 0))
    ∷ key 17 (codes "time_bias") (minus 1280) (pos 1280) (default (pos 0))
    ∷ key 18 (codes "range_sigma") (pos 10) (pos 1000) required
    ∷ key 19 (codes "azimuth_sigma") (pos 1) (pos 200) required
    ∷ []
