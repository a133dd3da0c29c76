-- The sweeps see what the radars see, and what is seen gets on its way.
use Rattle.std.proofs.Common.{◌≡◌, ◌∙◌, ap, sym, subst, refl, ℕ, ◌+◌, ◌*◌, ◌%◌, ◌<◌, List, [], ◌∷◌, ◌++◌, map}
use Rattle.std.specs.Prelude.{filter, filter_map}
use Rattle.std.specs.List.{AllByRecursion, flat_map}
use Rattle.std.proofs.lemmas.List.Elements.{recursion_from_All}
use Rattle.std.proofs.lemmas.Nat.{mod_below}
use Rattle.rand_pcg.specs.Lcg.{Lcg}
use Rattle.recording.specs.Items.{Item}
use Rattle.scene_gen.specs.declared.fleet.Aircraft.{Aircraft}
use Rattle.scene_gen.specs.declared.radars.SceneRadar.{SceneRadar}
use Rattle.scene_gen.specs.declared.sweeps.Sweep.{Sweep}
use Rattle.scene_gen.specs.Datagrams.{plot}
use Rattle.scene_gen.specs.Delays.{Plot, Sent, after_delays, delayed}
use Rattle.scene_gen.specs.OnWay.{AreOnWay}
use Rattle.scene_gen.specs.Scenes.{plots_of, seen_at}
use Rattle.scene_gen.specs.Sightings.{sees}
use Rattle.scene_gen.specs.Skies.{seen_before}
use Rattle.scene_gen.specs.Sweeps.{AreSweeps, HasByPhase, IsWhole, seen_by}
use Rattle.scene_gen.proofs.Delaying.{after_delays-append, delayed-append}
use Rattle.scene_gen.proofs.Moments.{seen, seen_next, seen_none}

abbrev of_radar : List Aircraft → ℕ → SceneRadar → List Item
of_radar aircraft time r = filter_map (plot r time) (filter (sees r time) aircraft)

by_radar : (aircraft : List Aircraft) (time : ℕ) (sweeps : List Sweep) → AllByRecursion IsWhole sweeps → AllByRecursion (HasByPhase aircraft) sweeps → flat_map (seen_by time) sweeps ≡ flat_map (of_radar aircraft time) (map (λ (s : Sweep). s.radar) sweeps)
by_radar aircraft time [] whole has = refl
by_radar aircraft time (s ∷ ss) whole has =
    let one : seen_by time s ≡ of_radar aircraft time s.radar = ap (filter_map (plot s.radar time)) (has.0 (time % s.radar.period) (mod_below time s.radar.period whole.0.turns)) in
    λ i. one i ++ by_radar aircraft time ss whole.1 has.1 i

pub swept : (aircraft : List Aircraft) (time : ℕ) (sweeps : List Sweep) → AreSweeps aircraft sweeps → flat_map (seen_by time) sweeps ≡ seen_at aircraft time
swept aircraft time sweeps are =
    by_radar aircraft time sweeps (recursion_from_All IsWhole sweeps are.whole) (recursion_from_All (HasByPhase aircraft) sweeps are.by_phase) ∙ ap (flat_map (of_radar aircraft time)) are.radars_are

-- the generator and what is on its way, of one moment more
pub drawn_next : (aircraft : List Aircraft) (g : Lcg) (seconds late time : ℕ) (items : List Item) {h new : Lcg} → time < 128 * seconds → items ≡ seen_at aircraft time → h ≡ after_delays late g (seen_before aircraft seconds time) → new ≡ after_delays late h (plots_of time items) → new ≡ after_delays late g (seen_before aircraft seconds (time + 1))
drawn_next aircraft g seconds late time items {h} {new} within are drawn more =
    more ∙ (λ i. after_delays late (drawn i) (plots_of time (are i))) ∙ sym (after_delays-append late g (seen_before aircraft seconds time) (seen aircraft time))
    ∙ ap (after_delays late g) (sym (seen_next aircraft seconds time within))

pub sent_next : (aircraft : List Aircraft) (g : Lcg) (seconds late time : ℕ) (items : List Item) {h : Lcg} {b : List (List (List ℕ))} → time < 128 * seconds → items ≡ seen_at aircraft time → h ≡ after_delays late g (seen_before aircraft seconds time) → AreOnWay (delayed late g (seen_before aircraft seconds time) ++ delayed late h (plots_of time items)) time b → AreOnWay (delayed late g (seen_before aircraft seconds (time + 1))) time b
sent_next aircraft g seconds late time items {h} {b} within are drawn on =
    let before : List Plot = seen_before aircraft seconds time in
    let all : delayed late g before ++ delayed late h (plots_of time items) ≡ delayed late g (seen_before aircraft seconds (time + 1)) =
    (λ i. delayed late g before ++ delayed late (drawn i) (plots_of time (are i))) ∙ sym (delayed-append late g before (seen aircraft time)) ∙ ap (delayed late g) (sym (seen_next aircraft seconds time within)) in
    subst (λ (l : List Sent). AreOnWay l time b) all on

-- at the start nothing is drawn, and nothing on its way
pub nothing_drawn : (aircraft : List Aircraft) (g : Lcg) (seconds late : ℕ) → g ≡ after_delays late g (seen_before aircraft seconds 0)
unfolding after_delays
nothing_drawn aircraft g seconds late = sym (ap (after_delays late g) (seen_none aircraft seconds))

pub nothing_sent : (aircraft : List Aircraft) (g : Lcg) (seconds late : ℕ) → [] ≡ delayed late g (seen_before aircraft seconds 0)
unfolding delayed
nothing_sent aircraft g seconds late = sym (ap (delayed late g) (seen_none aircraft seconds))
