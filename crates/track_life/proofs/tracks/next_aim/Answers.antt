use Rattle.std.proofs.Common.{◌∙◌, ap, arith, subst, sym, ◌<◌, ◌^◌}
use Rattle.std.specs.Int.{w32, w64}
use Rattle.std.proofs.lemmas.Int.{to_z-of_z, fits_signed_from_abs}
use Rattle.trk_base.specs.Ranges.{IsAddress, IsCode}
use Rattle.fixed_imm.specs.Aims.{AimState}
use Rattle.fixed_imm.specs.Filter.{moved, measured}
use Rattle.track_life.proofs.Mixed.{mixed_after, after_mixed}
use Rattle.track_life.proofs.Told.{either}
use Rattle.track_life.proofs.tracks.next_aim.Goals as goal

pub invariant_of-result : goal.invariant_of-result
invariant_of-result c = record {
  address = subst IsAddress (sym c.or.ensures) (either (λ a. a < 2 ^ 24) c.plot.inside.address c.mixed.inside.address c.plot.invariant.address c.mixed.invariant.address);
  code = subst IsCode (sym c.or-2.ensures) (either (λ a. a < 4096) c.plot.inside.code c.mixed.inside.code c.plot.invariant.code c.mixed.invariant.code);
}

pub returns : goal.returns
returns c a is =
    let p = c.plot.inside in
    let m = c.mixed.inside in
    let d = to_z-of_z w32 c.time_step-d.result (record { sfits = c.time_step-d.type_inv }) ∙ c.time_step-d.ensures in
    let x = to_z-of_z w64 p.x (fits_signed_from_abs w64 p.x (omega (arith, c.plot.invariant.x))) in
    let y = to_z-of_z w64 p.y (fits_signed_from_abs w64 p.y (omega (arith, c.plot.invariant.y))) in
    let east = c.update.ensures.value ∙ (λ j. measured (moved m.x (d j)) (x j) p.rx) in
    let north = c.update-2.ensures.value ∙ (λ j. measured (moved m.y (d j)) (y j) p.ry) in
    (λ j. record { x = east j; y = north j; time = p.key.time; address = c.or.ensures j; code = c.or-2.ensures j })
    ∙ (λ j. mixed_after (c.mixed.view_is j) (c.plot.view_is j)) ∙ ap (λ (b : AimState). mixed_after b c.args.plot.now) is ∙ after_mixed a c.args.plot.now
