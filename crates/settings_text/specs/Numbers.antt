-- The settings as the numbers of their keys, in the order of the keys.
use Rattle.std.specs.Prelude.{ℤ, pos, List, [], ◌∷◌}
use Rattle.plot_geometry.specs.declared.radars.RadarSettings.{RadarSettings}
use Rattle.admission_log.specs.declared.settings.Settings.{Settings}

-- keys 1 to 7
abbrev pub system_numbers : Settings → List ℤ
system_numbers s = pos s.sac ∷ pos s.sic ∷ pos s.service ∷ pos s.window ∷ pos s.life.hits ∷ pos s.life.keep_tentative ∷ pos s.life.keep_confirmed ∷ []

-- keys 8 to 19
abbrev pub radar_numbers : RadarSettings → List ℤ
radar_numbers r = pos r.sac ∷ pos r.sic ∷ r.x ∷ r.y ∷ r.height ∷ pos r.north ∷ r.range_gain ∷ r.range_bias ∷ r.azimuth_bias ∷ r.time_bias ∷ pos r.range_sigma ∷ pos r.azimuth_sigma ∷ []
