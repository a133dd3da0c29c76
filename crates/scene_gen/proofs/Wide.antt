-- A number of 64 bits with a sign, as one of 128.
use Rattle.std.proofs.Common.{◌≡◌, ◌∙◌, ◌^◌, lit<, ℤ, arith}
use Rattle.std.specs.Prelude.{FitsSigned}
use Rattle.std.specs.Int.{w32, w64, w128, cast_signed, cast_unsigned}
use Rattle.std.proofs.lemmas.Int.{ints, to_z-of_z}
use Rattle.trk_base.proofs.Sizes.{Is, is_cast}

-- what a call gave for it
pub wide64 : {r : ℤ} (x : ℤ) → r ≡ cast_signed w64 (cast_unsigned w64 x) → FitsSigned w64 x → Is (cast_signed w128 (cast_unsigned w128 r)) x (2 ^ 63)
wide64 x e fits = is_cast (record { same = e ∙ to_z-of_z w64 x fits; within = omega (arith, ints) }) (lit< tt)

-- the same for one of 32 bits
pub wide32 : {r : ℤ} (x : ℤ) → r ≡ cast_signed w32 (cast_unsigned w32 x) → FitsSigned w32 x → Is (cast_signed w128 (cast_unsigned w128 r)) x (2 ^ 31)
wide32 x e fits = is_cast (record { same = e ∙ to_z-of_z w32 x fits; within = omega (arith, ints) }) (lit< tt)
