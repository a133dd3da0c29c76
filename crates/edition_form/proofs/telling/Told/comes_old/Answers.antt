use Rattle.std.proofs.Common.{rules}
use Rattle.edition_form.proofs.Stepping.{old_comes}
use Rattle.edition_form.proofs.telling.Told.comes_old.Goals as goal

pub returns-then-self-now : goal.returns-then-self-now
returns-then-self-now c = old_comes c.args.old.now c.args.now.now c.args.self.now.old_count c.args.self.now.now_count (search rules) (search rules) (search rules)
