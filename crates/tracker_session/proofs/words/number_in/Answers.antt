use Rattle.std.proofs.Common.{sym, arith}
use Rattle.tracker_session.proofs.Numerals.{in_range, out_of_range}
use Rattle.tracker_session.proofs.words.number_in.Goals as goal
use Rattle.tracker_session.proofs.words.number_in.Goals.{else-first-number-via-then-first-number+else-number-last, else-first-number-via-else-first-number}

pub returns-then-number-last-clause-number : goal.returns-then-number-last-clause-number
returns-then-number-last-clause-number c = sym (in_range c.args.first c.args.last c.in-Some.number c.args.word.now c.in-Some.ensures.told c.in-Some.ensures.fits (omega (arith, c.if-first-number.true)) (omega (arith, c.if-number-last.true)))

pub returns-clause-number : goal.returns-clause-number
returns-clause-number c = sym (out_of_range c.args.first c.args.last c.in-Some.number c.args.word.now c.in-Some.ensures.told c.in-Some.ensures.fits (λ low high.
    elim c.else-first-number.branch [
      | else-first-number-via-then-first-number+else-number-last w ↦ omega (arith, high, w.if-number-last.false)
      | else-first-number-via-else-first-number w ↦ omega (arith, low, w.if-first-number.false)
    ]))
