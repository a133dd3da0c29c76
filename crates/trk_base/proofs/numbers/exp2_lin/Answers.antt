use Rattle.std.proofs.Common.{sym, subst, ◌≤◌}
use Rattle.trk_base.specs.Numbers.{exp2_lin}
use Rattle.trk_base.proofs.Powers.{exp2_lin_tail, exp2_lin_chord, exp2_lin_falls}
use Rattle.trk_base.proofs.numbers.exp2_lin.Goals as goal

pub returns-then-whole-ge31-clause-value : goal.returns-then-whole-ge31-clause-value
returns-then-whole-ge31-clause-value c = sym (exp2_lin_tail c.args.q c.if-whole-ge31.true)

pub returns-clause-value : goal.returns-clause-value
returns-clause-value c = sym (exp2_lin_chord c.args.q c.if-whole-ge31.false)

pub returns-clause-falls : goal.returns-clause-falls
returns-clause-falls c p le = subst (λ n. n ≤ exp2_lin p) (exp2_lin_chord c.args.q c.if-whole-ge31.false) (exp2_lin_falls p c.args.q le)
