-- In which direction a point lies, in 360/65,536 degrees clockwise from north.
use Rattle.std.specs.Prelude.{◌≡◌, ℕ, zero, suc, ◌+◌, ◌^◌, Bool, ◌&&◌, if◌then◌else◌, List, length, get_or, Option, Some, None, ℤ, pos, ◌-ℤ◌, ◌*ℤ◌, int_lt, int_le}
use Rattle.std.specs.Ordering.{int_eq}
use Rattle.plot_geometry.specs.Turns.{rotated}

-- the quarter turn from which on the point lies, for any point but the origin
abbrev pub quarter : ℤ → ℤ → ℕ
quarter x y =
    if int_le (pos 0) x && int_lt (pos 0) y then 0
    else if int_lt (pos 0) x && int_le y (pos 0) then 16384
    else if int_le x (pos 0) && int_lt y (pos 0) then 32768
    else 49152

-- the point lies in the direction (a, b), or on from it clockwise by less than a half turn: the cross product x b - y a isn't negative
abbrev pub lies_on : ℤ × ℤ → ℤ → ℤ → Bool
lies_on d x y = int_le (pos 0) (x *ℤ d.1 -ℤ y *ℤ d.0)

-- a direction, as a point 2 ^ 20 from the origin
abbrev pub direction : ℕ → ℤ × ℤ
direction angle = rotated angle (pos (2 ^ 20))

-- the angle so far, with k binary digits still to find: each is set where the point lies on from there
unfoldable pub bearing_from : ℕ → ℕ → ℤ → ℤ → ℕ
bearing_from zero angle x y = angle
bearing_from (suc k) angle x y = bearing_from k (if lies_on (direction (angle + 2 ^ k)) x y then angle + 2 ^ k else angle) x y

-- the angle of a point, by its 14 binary digits from the quarter turn on; 0 for the origin
unfoldable pub bearing : ℤ → ℤ → ℕ
bearing x y = if int_eq x (pos 0) && int_eq y (pos 0) then 0 else bearing_from 14 (quarter x y) x y

-- What the program keeps: the directions that are made already, by their angles.
pub record AreDirections (made : List (Option (ℤ × ℤ))) : Type 0 where
  pub count : length made ≡ 65536
  pub right : (angle : ℕ) (d : ℤ × ℤ) → get_or made angle None ≡ Some d → d ≡ direction angle
