use Rattle.std.proofs.Common.{rules, ◌≡◌, ◌<◌, ◌≤◌, ap, refl, ◌∷◌, [], ◌++◌}
use Rattle.admission_log.specs.declared.events.Event.TheVariants.{Tick}
use Rattle.tracker_session.proofs.Moving.{old_on, tick_on}
use Rattle.tracker_session.proofs.taking.Run.tick.Goals as goal

pub returns-in_ok-push-in-Ok : goal.returns-in_ok-push-in-Ok
returns-in_ok-push-in-Ok c settings before keeps =
    let old = c.args.self.now in
    let later : old.log.last < c.args.time = search rules in
    let newest : c.push.new.self.items ≡ old.newest.items ++ Tick c.args.time ∷ [] = search rules in
    tick_on settings before old _ keeps c.args.time later (c.in-Ok.ensures.ok before.log keeps.log) (ap (λ n. record old.counts { editions = n }) c.more-self.ensures) newest (c.in-Ok.ensures.legal settings before.log keeps.log)

pub returns-in-Err-Old : goal.returns-in-Err-Old
returns-in-Err-Old c settings before keeps =
    let old = c.args.self.now in
    let late : c.args.time ≤ old.log.last = search rules in
    let log : c.tick.new.self ≡ old.log = search rules in
    old_on settings before old _ keeps log refl c.args.time late (ap (λ n. record old.counts { old = n }) c.more-self-in-Err-Old.ensures)
