use Rattle.std.proofs.Common.{sym, ap, ◌∙◌}
use Rattle.std.specs.Prelude.{count_by}
use Rattle.turn_lock.specs.Steps.{stage_after}
use Rattle.turn_lock.proofs.lock_table.LockTable.leave.Goals as goal

pub commit-requires-clause-held : goal.commit-requires-clause-held
commit-requires-clause-held g c = c.requires.held.commits

pub announce-requires-clause-committed : goal.announce-requires-clause-committed
announce-requires-clause-committed g c = let h = c.requires.held in let k = h.commits in let e = c.commit.ensures.seen k.found k.value k.stage k.has in let seen = ap (λ m. m.0.seen) e in record {
  found = k.found;
  stage = ap (λ m. m.0.stage) e ∙ ap (stage_after g.V.Logged.is_publish c.args.ticket k.found) (sym seen);
  before_is = h.before_is;
  published_is = h.published_is ∙ ap (count_by g.V.Logged.is_publish) (sym seen);
}

pub pass-requires-clause-held : goal.pass-requires-clause-held
pass-requires-clause-held g c = let h = c.requires.held in let k = h.commits in let e = c.commit.ensures.seen k.found k.value k.stage k.has in let a = c.announce.ensures.said in record {
  value = k.value;
  stage = ap (λ m. m.0.stage) a;
  has = ap (λ m. m.1) a ∙ (ap (λ m. m.1) e ∙ k.has);
  seen = sym (ap (λ m. m.0.seen) a ∙ ap (λ m. m.0.seen) e);
  based = ap (λ m. m.0.base) a ∙ (ap (λ m. m.0.base) e ∙ h.based);
}
