use Rattle.std.proofs.Common.{◌∙◌, ap, arith}
use Rattle.std.specs.Int.{w64}
use Rattle.std.proofs.lemmas.Int.{to_z-of_z, fits_signed_from_abs}
use Rattle.fixed_imm.specs.Filter.{started}
use Rattle.track_life.specs.Tracks.{first_aim}
use Rattle.track_life.proofs.tracks.first_aim.Goals as goal

pub returns : goal.returns
returns c =
    let p = c.plot.inside in
    let x = to_z-of_z w64 p.x (fits_signed_from_abs w64 p.x (omega (arith, c.plot.invariant.x))) in
    let y = to_z-of_z w64 p.y (fits_signed_from_abs w64 p.y (omega (arith, c.plot.invariant.y))) in
    let east = c.start.ensures.value ∙ (λ j. started (x j) p.rx) in
    let north = c.start-2.ensures.value ∙ (λ j. started (y j) p.ry) in
    (λ j. record { x = east j; y = north j; time = p.key.time; address = p.address; code = p.code }) ∙ ap first_aim c.plot.view_is
