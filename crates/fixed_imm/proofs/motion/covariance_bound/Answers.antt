use Rattle.std.proofs.Common.{◌≡◌, ◌∙◌, ap, ◌≤◌, ◌^◌, ◌*◌, pos, arith, rules, sym}
use Rattle.std.specs.Prelude.{FitsSigned, unsigned_abs}
use Rattle.std.specs.Int.{w64}
use Rattle.std.proofs.lemmas.Int.{ints, to_z-of_z, unsigned_abs-mul}
use Rattle.std.proofs.lemmas.Nat.{mul-le}
use Rattle.trk_base.specs.Numbers.{IsRoot, isqrt}
use Rattle.trk_base.proofs.Roots.{isqrt_root, root_le}
use Rattle.fixed_imm.proofs.motion.covariance_bound.Goals as goal

size_of : (c : goal.After-isqrt) → c.isqrt.result ≡ isqrt (unsigned_abs c.args.a * unsigned_abs c.args.b)
size_of c =
    let a_fits : FitsSigned w64 c.args.a = c.ranges.a in
    let b_fits : FitsSigned w64 c.args.b = c.ranges.b in
    c.isqrt.ensures.value ∙ (λ i. isqrt ((c.unsigned_abs.ensures.value ∙ ap unsigned_abs (to_z-of_z w64 c.args.a a_fits)) i * (c.unsigned_abs-2.ensures.value ∙ ap unsigned_abs (to_z-of_z w64 c.args.b b_fits)) i))

root_of : (c : goal.After-isqrt) → IsRoot (unsigned_abs c.args.a * unsigned_abs c.args.b) c.isqrt.result
root_of c =
    let le : unsigned_abs c.args.a * unsigned_abs c.args.b ≤ 2 ^ 46 * 2 ^ 46 = mul-le (unsigned_abs c.args.a) (unsigned_abs c.args.b) (2 ^ 46) (2 ^ 46) (omega (arith, ints, c.requires.first.from, c.requires.first.to)) (omega (arith, ints, c.requires.second.from, c.requires.second.to)) in
    rw (size_of c) (isqrt_root (unsigned_abs c.args.a * unsigned_abs c.args.b) (omega arith))

small : (c : goal.After-isqrt) → c.isqrt.result ≤ 2 ^ 46
small c =
    let le : unsigned_abs c.args.a * unsigned_abs c.args.b ≤ 2 ^ 46 * 2 ^ 46 = mul-le (unsigned_abs c.args.a) (unsigned_abs c.args.b) (2 ^ 46) (2 ^ 46) (omega (arith, ints, c.requires.first.from, c.requires.first.to)) (omega (arith, ints, c.requires.second.from, c.requires.second.to)) in
    root_le _ _ (2 ^ 46) (root_of c) le

pub overflow_cast-result : goal.overflow_cast-result
overflow_cast-result c = let s : c.isqrt.result ≤ 2 ^ 46 = small c in search rules

pub returns-clause-value : goal.returns-clause-value
returns-clause-value c =
    let s : c.isqrt.result ≤ 2 ^ 46 = small c in
    let f : FitsSigned w64 (pos c.isqrt.result) = search rules in
    to_z-of_z w64 (pos c.isqrt.result) f ∙ ap pos (size_of c ∙ ap isqrt (sym (unsigned_abs-mul c.args.a c.args.b)))

pub returns-clause-square : goal.returns-clause-square
returns-clause-square c =
    let s : c.isqrt.result ≤ 2 ^ 46 = small c in
    let f : FitsSigned w64 (pos c.isqrt.result) = search rules in
    rw (to_z-of_z w64 (pos c.isqrt.result) f) (root_of c).low
