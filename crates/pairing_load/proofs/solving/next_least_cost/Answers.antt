use Rattle.std.proofs.Common.{rules, ◌≡◌, arith, to_z, of_z, w64}
use Rattle.std.proofs.lemmas.Int.{ints, to_z-of_z}
use Rattle.pairing_load.proofs.Least.{least_small}
use Rattle.pairing_load.proofs.solving.next_least_cost.Goals as goal

pub returns-clause-range : goal.returns-clause-range
returns-clause-range c =
    let small = least_small c.args.costs c.args.size c.args.generator.now c.in_ok-problem.problem c.in_ok-solved.solved.pairing c.requires.few c.in_ok-problem.ensures.full c.in_ok-solved.ensures.least in
    let same : to_z w64 (of_z w64 c.in_ok-solved.solved.cost) ≡ c.in_ok-solved.solved.cost = to_z-of_z w64 c.in_ok-solved.solved.cost (search rules) in
    omega (arith, ints, small, same, c.in_ok-solved.ensures.cost)
