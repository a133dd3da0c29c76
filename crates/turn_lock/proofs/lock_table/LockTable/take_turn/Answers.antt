use Rattle.std.proofs.Common.{rules, ◌≡◌, [], ◌∷◌, ap, sym, subst, ◌∙◌, Some}
use Rattle.atomic_table.specs.Table.{rest}
use Rattle.turn_lock.specs.Lists.{is_member}
use Rattle.turn_lock.specs.declared.rule.Stage.TheVariants.{Idle}
use Rattle.turn_lock.specs.Steps.{Adds, view_after}
use Rattle.turn_lock.proofs.Turning.{held}
use Rattle.turn_lock.proofs.lock_table.LockTable.take_turn.Goals as goal

pub leave-requires-clause-held : goal.leave-requires-clause-held
leave-requires-clause-held g c = let t = c.enter-ticket.ensures.taken in let x = c.slot_mut-value.result.now in let y = c.call-result.new.arg2 in
    let h = held g.V.Logged.events g.V.Logged.is_publish g.V.Logged.base c.args.seat.now.me c.enter-ticket.new.seat.me c.enter-ticket.result t.0 x t.1 t.2 c.slot_mut-value.ensures.value in
    let rooted : g.V.Logged.base y ≡ g.V.Logged.base x = c.requires.base x c.call-result.result y h.found (search rules) in
    let adds : Adds g.V.Logged.is_publish (is_member 0 c.args.seat.now.me.0.numbers) (g.V.Logged.events x) (g.V.Logged.events y) = c.requires.adds x c.call-result.result y h.found (search rules) in record {
      commits = record {
        found = g.V.Logged.events x;
        value = y;
        stage = ap (λ m. m.0.stage) h.is;
        has = ap (λ m. (0, y) ∷ rest m.1) h.is;
        adds = subst (λ m. Adds g.V.Logged.is_publish (is_member 0 m.0.numbers) (g.V.Logged.events x) (g.V.Logged.events y)) (sym h.is) adds;
        count_is = c.count-count.ensures;
      };
      based = ap (λ m. m.0.base) h.is ∙ (h.found.based ∙ ap Some (sym rooted));
      before_is = c.published-before.ensures;
      published_is = c.published-published.ensures;
    }

pub returns-clause-turn : goal.returns-clause-turn
returns-clause-turn g c = let t = c.enter-ticket.ensures.taken in let x = c.slot_mut-value.result.now in let y = c.call-result.new.arg2 in
    let h = held g.V.Logged.events g.V.Logged.is_publish g.V.Logged.base c.args.seat.now.me c.enter-ticket.new.seat.me c.enter-ticket.result t.0 x t.1 t.2 c.slot_mut-value.ensures.value in
    (x, y, h.found, search rules, c.leave.ensures.left (g.V.Logged.events x) y (ap (λ m. m.0.stage) h.is) (ap (λ m. (0, y) ∷ rest m.1) h.is) ∙ ap (λ m. (view_after m.0 (g.V.Logged.events x) (g.V.Logged.events y) Idle, [])) h.is)
