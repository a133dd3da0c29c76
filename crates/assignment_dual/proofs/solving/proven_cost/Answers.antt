use Rattle.std.proofs.Common.{◌≡◌, ◌*◌, ℕ, arith, ap}
use Rattle.std.proofs.lemmas.Int.{ints}
use Rattle.assignment_dual.proofs.solving.proven_cost.Goals as goal

pub overflow_mul-alone : goal.overflow_mul-alone
overflow_mul-alone c =
    let m : c.from.result * c.args.tracks ≡ 4097 * c.args.tracks = ap (λ (o : ℕ). o * c.args.tracks) c.from.ensures in
    omega (arith, m, c.requires)

pub overflow_cast-result : goal.overflow_cast-result
overflow_cast-result c = omega (arith, ints, c.sum.ensures.small)

pub overflow_sub-result : goal.overflow_sub-result
overflow_sub-result c =
    let m : c.from.result * c.args.tracks ≡ 4097 * c.args.tracks = ap (λ (o : ℕ). o * c.args.tracks) c.from.ensures in
    omega (arith, ints, m, c.requires, c.sum.ensures.small)

pub returns : goal.returns
returns c =
    let m : c.from.result * c.args.tracks ≡ 4097 * c.args.tracks = ap (λ (o : ℕ). o * c.args.tracks) c.from.ensures in
    omega (arith, ints, m, c.requires, c.sum.ensures.sum, c.sum.ensures.small)
