-- The aircraft of a scene.
use Rattle.std.specs.Prelude.{ℕ, ◌+◌, ◌*◌, List, [], ◌∷◌, map, pos, ◌-ℤ◌, ◌*ℤ◌}
use Rattle.std.specs.List.{range_with_len}
use Rattle.rand_pcg.specs.Lcg.{Lcg}
use Rattle.scene_gen.specs.declared.fleet.Aircraft.{Aircraft}
use Rattle.scene_gen.specs.Draws.{after, drawn}

-- An aircraft by nine words: where it is at the start, within 150 km of the corner on each axis, in 1/64 m; its velocity, at most 200 m/s on each axis, in 1/1024 m/s; its code; its level from FL 50 on, in 1/4 FL; and for each radar when the antenna first points at it. Aircraft number i has the address i + 1.
unfoldable pub aircraft_of : Lcg → ℕ → Aircraft
aircraft_of g number = record {
  x = pos 64 *ℤ (pos (drawn 300001 g) -ℤ pos 150000);
  y = pos 64 *ℤ (pos (drawn 300001 (after 1 g)) -ℤ pos 150000);
  vx = pos 1024 *ℤ (pos (drawn 401 (after 2 g)) -ℤ pos 200);
  vy = pos 1024 *ℤ (pos (drawn 401 (after 3 g)) -ℤ pos 200);
  code = drawn 4096 (after 4 g);
  level = 4 * (50 + drawn 350 (after 5 g));
  address = number + 1;
  phases = drawn 512 (after 6 g) ∷ drawn 640 (after 7 g) ∷ drawn 1280 (after 8 g) ∷ [];
}

-- so many aircraft, each by the nine words after those of the aircraft before it
unfoldable pub fleet_from : Lcg → ℕ → List Aircraft
fleet_from g count = map (λ i. aircraft_of (after (9 * i) g) i) (range_with_len 0 count)
