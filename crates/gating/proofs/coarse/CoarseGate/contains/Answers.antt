use Rattle.std.proofs.Common.{◌≡◌, ◌∙◌, arith, refl, rules}
use Rattle.std.specs.Int.{w64, cast_signed, cast_unsigned}
use Rattle.gating.proofs.Costs.{as_read}
use Rattle.gating.proofs.Rectangles.{both_in}
use Rattle.gating.proofs.coarse.CoarseGate.contains.Goals as goal

pub returns-then-is_between : goal.returns-then-is_between
returns-then-is_between c =
    let g = c.args.self.now in
    let seen = c.plot.view_is in
    let x = as_read c.plot.inside.x (omega (arith, c.plot.invariant.x)) ∙ (λ j. (seen j).x) in
    let y = as_read c.plot.inside.y (omega (arith, c.plot.invariant.y)) ∙ (λ j. (seen j).y) in
    let west : cast_signed w64 (cast_unsigned w64 g.west) ≡ g.west = search rules in
    let east : cast_signed w64 (cast_unsigned w64 g.east) ≡ g.east = search rules in
    let south : cast_signed w64 (cast_unsigned w64 g.south) ≡ g.south = search rules in
    let north : cast_signed w64 (cast_unsigned w64 g.north) ≡ g.north = search rules in
    both_in g c.args.plot.now _ west x east south y north (c.if-is_between.ensures.0 refl) c.is_between-then-is_between.ensures
