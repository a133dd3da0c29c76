use Rattle.std.proofs.Common.{◌∙◌, ◌≤◌, arith}
use Rattle.std.proofs.lemmas.Int.{ints}
use Rattle.fixed_imm.proofs.Reciprocals.{guess_below, guess_is, guess_is_less}
use Rattle.fixed_imm.proofs.dividing.Divisor.half_quotient.Goals as goal

pub overflow_sub-a : goal.overflow_sub-a
overflow_sub-a c =
    let d = c.args.self.now in
    let some : 1 ≤ d.twice = omega (arith, ints, d.low, d.doubled) in
    guess_below _ _ c.args.a d.twice c.from.ensures some (c.from-2.ensures ∙ d.reciprocal_is)

pub returns-then-a-near : goal.returns-then-a-near
returns-then-a-near c =
    let d = c.args.self.now in
    let some : 1 ≤ d.twice = omega (arith, ints, d.low, d.doubled) in
    guess_is _ _ c.args.a d.twice c.from.ensures some (c.from-2.ensures ∙ d.reciprocal_is) (omega (arith, c.if-a-near.true))

pub returns-else-a-near : goal.returns-else-a-near
returns-else-a-near c =
    let d = c.args.self.now in
    let some : 1 ≤ d.twice = omega (arith, ints, d.low, d.doubled) in
    guess_is_less _ _ c.args.a d.twice c.from.ensures (omega (arith, c.ranges.a.fits)) some (c.from-2.ensures ∙ d.reciprocal_is) (omega (arith, c.if-a-near.false))
