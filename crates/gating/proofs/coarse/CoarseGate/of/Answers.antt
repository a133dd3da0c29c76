use Rattle.std.specs.Int.{w32}
use Rattle.std.proofs.lemmas.Int.{to_z-of_z}
use Rattle.fixed_imm.specs.Aims.{AimState}
use Rattle.gating.proofs.Rectangles.{around_seen, low_edge, high_edge}
use Rattle.gating.proofs.coarse.CoarseGate.of.Goals as goal

pub returns : goal.returns
returns c =
    let a : AimState = record { x = c.aim.inside.x; y = c.aim.inside.y; time = c.aim.inside.time; address = c.aim.inside.address; code = c.aim.inside.code } in
    let x = c.extent-west.ensures in
    let y = c.extent-south.ensures in
    around_seen a _ c.args.span _ c.extent-west.result c.extent-south.result _ x.extent y.extent (to_z-of_z w32 c.args.span c.ranges.span) c.aim.view_is
    (λ j. record { west = low_edge c.extent-west.result.0 x.least j; east = high_edge c.extent-west.result.1 x.greatest j; south = low_edge c.extent-south.result.0 y.least j; north = high_edge c.extent-south.result.1 y.greatest j })
