use Rattle.std.proofs.Common.{◌≡◌, ◌∙◌, ap, arith, pos, ◌+ℤ◌, ◌-ℤ◌}
use Rattle.std.specs.Prelude.{unsigned_abs}
use Rattle.std.specs.Int.{w32, cast_signed, cast_unsigned, int_rem_euclid}
use Rattle.std.proofs.lemmas.Int.{ints}
use Rattle.plot_geometry.specs.Plane.{azimuth}
use Rattle.plot_geometry.proofs.plane.azimuth.Goals as goal

pub returns : goal.returns
unfolding azimuth
returns c =
    let sum : cast_signed w32 (cast_unsigned w32 (cast_signed w32 (cast_unsigned w32 (cast_signed w32 (cast_unsigned w32 c.from.result) -ℤ cast_signed w32 (cast_unsigned w32 c.from-2.result))) +ℤ cast_signed w32 (cast_unsigned w32 c.from-3.result))) ≡ pos c.args.theta -ℤ c.args.bias +ℤ pos c.args.north = omega (arith, ints) in
    let out : cast_signed w32 (cast_unsigned w32 c.rem_euclid.result) ≡ c.rem_euclid.result = omega (arith, ints) in
    ap unsigned_abs (out ∙ c.rem_euclid.ensures.value ∙ ap (λ z. int_rem_euclid z (pos 65536)) sum)
