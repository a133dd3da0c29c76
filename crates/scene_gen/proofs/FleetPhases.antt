-- Each aircraft's phases lie within the radars' turns.
use Rattle.std.proofs.Common.{ℕ, ◌*◌, ◌<◌, [], ◌∷◌, sym, subst, arith, pos}
use Rattle.std.specs.Prelude.{slice_index}
use Rattle.std.specs.List.{All}
use Rattle.std.proofs.lemmas.List.Elements.{All-cons, All-nil}
use Rattle.std.proofs.lemmas.List.FromFn.{get_or-map-range_with_len, length-map-range_with_len}
use Rattle.std.proofs.lemmas.Nat.{mod_below}
use Rattle.rand_pcg.specs.Lcg.{Lcg}
use Rattle.rand_pcg.specs.Pcg.{pcg32}
use Rattle.scene_gen.specs.declared.fleet.Aircraft.{Aircraft}
use Rattle.scene_gen.specs.declared.radars.SceneRadar.{SceneRadar}
use Rattle.scene_gen.specs.Draws.{after, drawn}
use Rattle.scene_gen.specs.Fleets.{aircraft_of, fleet_from}
use Rattle.scene_gen.specs.Radars.{radars}
use Rattle.scene_gen.specs.Sweeps.{HavePhases}

of_fleet : (r : SceneRadar) → ((h : Lcg) (i : ℕ) → slice_index (aircraft_of h i).phases r.feed < r.period) → (g : Lcg) (count : ℕ) → HavePhases r (fleet_from g count)
unfolding fleet_from
of_fleet r each g count k d lt =
    let f : ℕ → Aircraft = λ i. aircraft_of (after (9 * i) g) i in
    let within : k < count = omega (arith, lt, length-map-range_with_len f 0 count) in
    subst (λ (a : Aircraft). slice_index a.phases r.feed < r.period) (sym (get_or-map-range_with_len f 0 count k k d within (omega arith))) (each (after (9 * k) g) k)

first : (h : Lcg) (i : ℕ) → slice_index (aircraft_of h i).phases 0 < 512
unfolding aircraft_of drawn
first h i = mod_below (pcg32 (after 6 h)).0 512 (omega arith)

second : (h : Lcg) (i : ℕ) → slice_index (aircraft_of h i).phases 1 < 640
unfolding aircraft_of drawn
second h i = mod_below (pcg32 (after 7 h)).0 640 (omega arith)

third : (h : Lcg) (i : ℕ) → slice_index (aircraft_of h i).phases 2 < 1280
unfolding aircraft_of drawn
third h i = mod_below (pcg32 (after 8 h)).0 1280 (omega arith)

pub have_phases : (g : Lcg) (count : ℕ) → All (λ r. HavePhases r (fleet_from g count)) radars
have_phases g count =
    let P : SceneRadar → Type 0 = λ r. HavePhases r (fleet_from g count) in
    let one : SceneRadar = record { feed = 0; sic = 1; x = pos 0; y = pos 0; period = 512 } in
    let two : SceneRadar = record { feed = 1; sic = 2; x = pos 80000; y = pos 0; period = 640 } in
    let three : SceneRadar = record { feed = 2; sic = 3; x = pos 0; y = pos 90000; period = 1280 } in
    All-cons P one (two ∷ three ∷ []) (of_fleet one first g count) (All-cons P two (three ∷ []) (of_fleet two second g count) (All-cons P three [] (of_fleet three third g count) (All-nil P)))
