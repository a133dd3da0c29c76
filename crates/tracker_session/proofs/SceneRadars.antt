-- The radars of a scene as settings.
use Rattle.std.proofs.Common.{◌≡◌, ◌∙◌, ap, sym, ℕ, zero, suc, ◌+◌, ◌<◌, ◌≤◌, ℤ, pos, List, [], ◌∷◌, ◌++◌, length, map, take, get_or, arith}
use Rattle.std.specs.Prelude.{slice_index_or, unsigned_abs}
use Rattle.std.proofs.lemmas.List.{length-map, map-append, take_more}
use Rattle.plot_geometry.specs.declared.radars.RadarSettings.{RadarSettings}
use Rattle.admission_log.specs.Sources.{HaveOwnSources}
use Rattle.scene_gen.specs.declared.radars.SceneRadar.{SceneRadar}
use Rattle.scene_gen.specs.Radars.{radars}
use Rattle.settings_text.specs.Numbers.{radar_numbers}
use Rattle.tracker_session.specs.SceneSettings.{scene_radar}

-- what stands for a radar past the end of the list
abbrev pub no_radar : SceneRadar
no_radar = record { feed = 0; sic = 0; x = pos 0; y = pos 0; period = 0 }

-- each stands within the ranges of the settings
pub near : (i : ℕ) → i < 3 → (unsigned_abs (get_or radars i no_radar).x ≤ 1000000) × (unsigned_abs (get_or radars i no_radar).y ≤ 1000000)
near zero lt = (omega arith, omega arith)
near (suc zero) lt = (omega arith, omega arith)
near (suc (suc zero)) lt = (omega arith, omega arith)
near (suc (suc (suc i))) lt = absurd (omega (arith, lt))

pub radars_more : (all : List RadarSettings) (one : RadarSettings) (i : ℕ) → i < 3 → map radar_numbers all ≡ map scene_radar (take i radars) → radar_numbers one ≡ scene_radar (get_or radars i no_radar) → map radar_numbers (all ++ one ∷ []) ≡ map scene_radar (take (i + 1) radars)
radars_more all one i lt so_far e =
    map-append radar_numbers all (one ∷ []) ∙ (λ j. so_far j ++ e j ∷ []) ∙ sym (map-append scene_radar (take i radars) (get_or radars i no_radar ∷ []))
    ∙ ap (map scene_radar) (sym (take_more radars i no_radar lt))

pub three : (rs : List RadarSettings) → map radar_numbers rs ≡ map scene_radar radars → length rs ≡ 3
three rs e = sym (length-map rs radar_numbers) ∙ ap length e

-- the second number of an entry
abbrev second_number : ℕ → List (List ℤ) → ℕ
second_number i numbers = unsigned_abs (get_or (get_or numbers i []) 1 (pos 0))

sic_at : (rs : List RadarSettings) → map radar_numbers rs ≡ map scene_radar radars → (i : ℕ) (d : RadarSettings) → i < 3 → (slice_index_or rs i d).sic ≡ i + 1
sic_at [] e i d lt = absurd (omega (arith, three [] e))
sic_at (a ∷ []) e i d lt = absurd (omega (arith, three (a ∷ []) e))
sic_at (a ∷ b ∷ []) e i d lt = absurd (omega (arith, three (a ∷ b ∷ []) e))
sic_at (a ∷ b ∷ c ∷ []) e zero d lt = ap (second_number 0) e
sic_at (a ∷ b ∷ c ∷ []) e (suc zero) d lt = ap (second_number 1) e
sic_at (a ∷ b ∷ c ∷ []) e (suc (suc zero)) d lt = ap (second_number 2) e
sic_at (a ∷ b ∷ c ∷ []) e (suc (suc (suc i))) d lt = absurd (omega (arith, lt))
sic_at (a ∷ b ∷ c ∷ f ∷ more) e i d lt = absurd (omega (arith, three (a ∷ b ∷ c ∷ f ∷ more) e))

-- no two have one source
pub own_sources : (rs : List RadarSettings) → map radar_numbers rs ≡ map scene_radar radars → HaveOwnSources rs
own_sources rs e i j d lt within =
    let first = sic_at rs e i d (omega (arith, lt, within, three rs e)) in
    let second = sic_at rs e j d (omega (arith, within, three rs e)) in
    λ same. omega (arith, lt, first, second, same.1)
