use Rattle.std.proofs.Common.{◌≡◌, Bool, true, false, refl, arith}
use Rattle.std.specs.Prelude.{◌&&◌}
use Rattle.fixed_imm.proofs.aim.AimPartialEq.eq.Goals as goal

-- the fields are compared in another order than they stand
reordered : (t x y a c : Bool) → ((((t && x) && y) && a) && c) ≡ (x && (y && (t && (a && c))))
reordered true true true a c = refl
reordered false true true a c = refl
reordered true false y a c = refl
reordered false false y a c = refl
reordered true true false a c = refl
reordered false true false a c = refl

pub returns : goal.returns
returns c = grind (arith, reordered)
