-- The settings under which a scene is replayed, by the numbers of their keys.
use Rattle.std.specs.Prelude.{◌≡◌, ℤ, pos, List, [], ◌∷◌, map}
use Rattle.admission_log.specs.declared.settings.Settings.{Settings}
use Rattle.scene_gen.specs.declared.radars.SceneRadar.{SceneRadar}
use Rattle.scene_gen.specs.Radars.{radars, sac}
use Rattle.settings_text.specs.Numbers.{radar_numbers, system_numbers}

-- keys 1 to 7: sac, sic and service of the tracker, the window in slots, the hits that confirm a track, and the seconds that it is kept for
abbrev pub scene_system : List ℤ
scene_system = pos 1 ∷ pos 99 ∷ pos 1 ∷ pos 32 ∷ pos 3 ∷ pos 15 ∷ pos 30 ∷ []

-- keys 8 to 19 of a scene's radar: its codes and its place; no height, no turned north and no bias; a deviation of 50 m and of 12/65,536 of a turn
abbrev pub scene_radar : SceneRadar → List ℤ
scene_radar r = pos sac ∷ pos r.sic ∷ r.x ∷ r.y ∷ pos 0 ∷ pos 0 ∷ pos 0 ∷ pos 0 ∷ pos 0 ∷ pos 0 ∷ pos 50 ∷ pos 12 ∷ []

pub record AreSceneSettings (settings : Settings) : Type 0 where
  pub system : system_numbers settings ≡ scene_system
  pub radars_are : map radar_numbers settings.radars ≡ map scene_radar radars
