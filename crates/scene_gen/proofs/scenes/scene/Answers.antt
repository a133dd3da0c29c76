use Rattle.std.proofs.Common.{◌≡◌, ◌∙◌, ap, sym, subst, ℕ, ◌+◌, ◌*◌, List, ◌++◌, arith}
use Rattle.std.specs.List.{All, flat_map, range_with_len}
use Rattle.rand_pcg.specs.Lcg.{Lcg}
use Rattle.recording.specs.declared.header.Header.TheVariants.{First}
use Rattle.recording.specs.Items.{item_octets}
use Rattle.recording.specs.Readings.{header_octets}
use Rattle.scene_gen.specs.declared.fleet.Aircraft.{Aircraft}
use Rattle.scene_gen.specs.Datagrams.{start}
use Rattle.scene_gen.specs.Delays.{delayed}
use Rattle.scene_gen.specs.Draws.{after, generator_of}
use Rattle.scene_gen.specs.Fleets.{fleet_from}
use Rattle.scene_gen.specs.Radars.{radars}
use Rattle.scene_gen.specs.Scenes.{come_at, coming, items_at, scene}
use Rattle.scene_gen.specs.Skies.{IsSky, seen_before}
use Rattle.scene_gen.specs.Sweeps.{HavePhases}
use Rattle.scene_gen.proofs.FleetPhases.{have_phases}
use Rattle.scene_gen.proofs.Moments.{come_now}
use Rattle.scene_gen.proofs.Playing.{time_more}
use Rattle.scene_gen.proofs.scenes.scene.Goals as goal

pub over-requires : goal.over-requires
over-requires c =
    let same = c.deref.ensures.value ∙ c.in_ok-fleet.ensures.fleet ∙ ap (λ (g : Lcg). fleet_from g c.args.aircraft) c.generator_of-generator.ensures in
    subst (λ (l : List Aircraft). All (λ r. HavePhases r l) radars) (sym same) (have_phases (generator_of c.args.seed) c.args.aircraft)

pub loop-time-init : goal.loop-time-init
loop-time-init c =
    let same = c.deref.ensures.value ∙ c.in_ok-fleet.ensures.fleet ∙ ap (λ (g : Lcg). fleet_from g c.args.aircraft) c.generator_of-generator.ensures in
    let drawn = c.in_ok-fleet.ensures.after ∙ ap (after (9 * c.args.aircraft)) c.generator_of-generator.ensures in
    record {
      ready = c.in_ok-sky.ensures.ready;
      sky = subst (λ (l : List Aircraft). IsSky l (after (9 * c.args.aircraft) (generator_of c.args.seed)) c.args.seconds c.args.late 0 0 c.in_ok-sky.sky) same
          (subst (λ (g : Lcg). IsSky c.deref.result.now g c.args.seconds c.args.late 0 0 c.in_ok-sky.sky) drawn c.in_ok-sky.ensures.start);
      octets = c.in_ok-extend_from_slice.ensures.items ∙ (λ i. c.in_ok-octets.ensures.items i ++ c.write_start.ensures i);
    }

pub loop-time-preserved : goal.loop-time-preserved
loop-time-preserved c =
    let inv = c.loop-time.invariant in
    let time = c.loop-time.time in
    let fleet = fleet_from (generator_of c.args.seed) c.args.aircraft in
    let g = after (9 * c.args.aircraft) (generator_of c.args.seed) in
    let seen = c.in_ok-see.ensures.seen fleet g c.args.seconds c.args.late inv.sky in
    record {
      ready = c.in_ok-put_plots.ensures.ready;
      sky = c.in_ok-put_plots.ensures.left fleet g c.args.seconds c.args.late seen;
      octets = time_more (coming c.args.seed c.args.aircraft c.args.seconds c.args.late) c.args.seconds time (header_octets First start)
          (come_at (delayed c.args.late g (seen_before fleet c.args.seconds (time + 1))) time) inv.octets c.in_ok-put_north_markers.ensures
          (c.in_ok-put_plots.ensures.come fleet g c.args.seconds c.args.late seen) (sym (come_now fleet c.args.seconds c.args.late time g)) c.in_ok-put_tick.ensures;
    }

pub returns : goal.returns
unfolding scene
returns c =
    let end : c.loop-time.time ≡ 128 * (c.args.seconds + 10) + 1 = omega (arith, c.from.ensures) in
    c.loop-time.invariant.octets ∙ ap (λ (n : ℕ). header_octets First start ++ flat_map item_octets (flat_map (items_at (coming c.args.seed c.args.aircraft c.args.seconds c.args.late) c.args.seconds) (range_with_len 0 n))) end
