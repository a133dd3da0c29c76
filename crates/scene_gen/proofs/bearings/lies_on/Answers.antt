use Rattle.std.proofs.Common.{rules, ap, lit<, ◌^◌, pos}
use Rattle.std.specs.Prelude.{FitsSigned, int_le}
use Rattle.std.specs.Int.{w64}
use Rattle.trk_base.proofs.Sizes.{fits, is_sub, minus, times}
use Rattle.plot_geometry.proofs.Terms.{given64}
use Rattle.scene_gen.proofs.Wide.{wide64}
use Rattle.scene_gen.proofs.bearings.lies_on.Goals as goal

pub overflow_sub-result : goal.overflow_sub-result
overflow_sub-result c =
    let east : FitsSigned w64 c.args.direction.0 = search rules in
    let north : FitsSigned w64 c.args.direction.1 = search rules in
    fits (is_sub (times (given64 {x = c.args.point.0} (2 ^ 54) c.from.ensures c.requires.x tt tt) (wide64 c.args.direction.1 c.from-2.ensures north) tt) (times (given64 {x = c.args.point.1} (2 ^ 54) c.from-3.ensures c.requires.y tt tt) (wide64 c.args.direction.0 c.from-4.ensures east) tt)) (lit< tt)

pub returns : goal.returns
returns c =
    let east : FitsSigned w64 c.args.direction.0 = search rules in
    let north : FitsSigned w64 c.args.direction.1 = search rules in
    ap (int_le (pos 0)) (minus (times (given64 {x = c.args.point.0} (2 ^ 54) c.from.ensures c.requires.x tt tt) (wide64 c.args.direction.1 c.from-2.ensures north) tt) (times (given64 {x = c.args.point.1} (2 ^ 54) c.from-3.ensures c.requires.y tt tt) (wide64 c.args.direction.0 c.from-4.ensures east) tt) tt).same
