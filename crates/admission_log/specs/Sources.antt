-- Which radar a source names, that is a SAC and a SIC.
use Rattle.std.specs.Prelude.{◌≡◌, ℕ, ◌&&◌, ◌==◌, List, AllPairs, Option, position}
use Rattle.plot_geometry.specs.declared.radars.RadarSettings.{RadarSettings}

-- the radar has this SAC and this SIC
abbrev pub HasSource : ℕ → ℕ → RadarSettings → Type 0
HasSource sac sic radar = (radar.sac ≡ sac) × (radar.sic ≡ sic)

-- the place of the radar that has them
unfoldable pub radar_of : List RadarSettings → ℕ → ℕ → Option ℕ
radar_of radars sac sic = position (λ radar. radar.sac == sac && radar.sic == sic) radars

-- no two radars have the same SAC and SIC
abbrev pub HaveOwnSources : List RadarSettings → Type 0
HaveOwnSources radars = AllPairs (λ one other. ¬ HasSource one.sac one.sic other) radars
