-- The radars of every scene, by their feeds.
use Rattle.std.specs.Prelude.{ℕ, List, [], ◌∷◌, pos}
use Rattle.scene_gen.specs.declared.radars.SceneRadar.{SceneRadar}

-- three radars: on a corner, 80 km to the east of it, and 90 km to the north; their antennas turn in 4, 5 and 10 s
abbrev pub radars : List SceneRadar
radars =
    record { feed = 0; sic = 1; x = pos 0; y = pos 0; period = 512 }
    ∷ record { feed = 1; sic = 2; x = pos 80000; y = pos 0; period = 640 }
    ∷ record { feed = 2; sic = 3; x = pos 0; y = pos 90000; period = 1280 }
    ∷ []

-- the system area code of all of them
abbrev pub sac : ℕ
sac = 1
