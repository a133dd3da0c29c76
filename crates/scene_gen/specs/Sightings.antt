-- What a radar measures of an aircraft. Times are in 1/128 s since the scene's start.
use Rattle.std.specs.Prelude.{ℕ, ◌+◌, ◌*◌, ◌%◌, Bool, ◌==◌, nat_le, if◌then◌else◌, Option, Some, None, ℤ, pos, ◌+ℤ◌, ◌-ℤ◌, ◌*ℤ◌, unsigned_abs, slice_index}
use Rattle.trk_base.specs.Numbers.{round, isqrt}
use Rattle.plot_geometry.specs.Turns.{norm}
use Rattle.scene_gen.specs.declared.fleet.Aircraft.{Aircraft}
use Rattle.scene_gen.specs.declared.radars.SceneRadar.{SceneRadar}
use Rattle.scene_gen.specs.Bearings.{bearing}

-- Each turn the radar sees the aircraft once: at the aircraft's phase, and a period later again and again.
abbrev pub sees : SceneRadar → ℕ → Aircraft → Bool
sees r time a = time % r.period == slice_index a.phases r.feed

-- a coordinate in 1/64 m, of one at the start and a velocity in 1/1024 m/s, as it is from a place in m
unfoldable pub coordinate : ℤ → ℤ → ℤ → ℕ → ℤ
coordinate from velocity place time = from +ℤ round (velocity *ℤ pos time) (pos 2048) -ℤ pos 64 *ℤ place

-- a level in 1/4 FL, which are 487.68/64 m, as a height in 1/64 m
abbrev pub height : ℕ → ℕ
height level = unsigned_abs (round (pos (48768 * level)) (pos 100))

-- the slant range in 1/64 m, of the point over the ground and the height
abbrev pub slant : ℤ → ℤ → ℕ → ℕ
slant x y high = let flat = isqrt (norm x y) in isqrt (flat * flat + high * high)

-- RHO: the slant range in 1/256 NM, which are 463/64 m
unfoldable pub range : ℤ → ℤ → ℕ → ℕ
range x y level = unsigned_abs (round (pos (slant x y (height level))) (pos 463))

-- RHO and THETA, where RHO has 16 bits
abbrev pub measured : ℤ → ℤ → ℕ → Option (ℕ × ℕ)
measured x y level = if nat_le (range x y level) 65535 then Some (range x y level, bearing x y) else None

-- what the radar measures of the aircraft at a time
abbrev pub sighting : SceneRadar → ℕ → Aircraft → Option (ℕ × ℕ)
sighting r time a = measured (coordinate a.x a.vx r.x time) (coordinate a.y a.vy r.y time) a.level
