use Rattle.std.proofs.Common.{◌≡◌, map, take}
use Rattle.scene_gen.specs.Radars.{radars}
use Rattle.settings_text.specs.Numbers.{radar_numbers}
use Rattle.tracker_session.specs.SceneSettings.{scene_radar}
use Rattle.tracker_session.proofs.scene_settings.scene_radars.Given as goal

-- those so far
abbrev pub invariant-loop-radar : goal.invariant-loop-radar
invariant-loop-radar l = map radar_numbers l.all.items ≡ map scene_radar (take l.radar-index radars)
