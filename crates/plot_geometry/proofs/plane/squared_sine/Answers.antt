use Rattle.std.proofs.Common.{◌∙◌, ap, lit≤, rules, ◌^◌, pos}
use Rattle.std.specs.Prelude.{unsigned_abs, FitsSigned}
use Rattle.std.specs.Int.{w128, int_max, int_min}
use Rattle.std.proofs.lemmas.Int.{to_z-of_z}
use Rattle.trk_base.proofs.Sizes.{var, times, rounded}
use Rattle.plot_geometry.specs.Plane.{squared_sine}
use Rattle.plot_geometry.proofs.Terms.{given}
use Rattle.plot_geometry.proofs.plane.squared_sine.Goals as goal

pub returns-clause-value : goal.returns-clause-value
unfolding squared_sine
returns-clause-value c =
    let square = rounded 1152921504606846976 c.round_div.ensures (times (var c.args.sine (2 ^ 41) c.requires tt) (var c.args.sine (2 ^ 41) c.requires tt) tt) tt tt in
    let whole = given (2 ^ 20) c.from.ensures (lit≤ tt) tt in
    let fits : FitsSigned w128 c.clamp.result = search rules in
    ap unsigned_abs (to_z-of_z w128 c.clamp.result fits ∙ c.clamp.ensures.value ∙ (λ i. int_max (pos 0) (int_min (square.same i) (whole.same i))))
