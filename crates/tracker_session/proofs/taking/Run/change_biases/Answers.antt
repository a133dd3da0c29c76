use Rattle.std.proofs.Common.{rules, ◌≡◌, ◌<◌, ◌≤◌, ap, arith, length, refl, ◌∷◌, [], ◌++◌}
use Rattle.admission_log.specs.declared.events.Event.TheVariants.{Bias}
use Rattle.admission_log.specs.Changes.{IsOpenChange}
use Rattle.admission_log.specs.Histories.{low_at}
use Rattle.tracker_session.proofs.Moving.{change_on, refused_on}
use Rattle.tracker_session.proofs.taking.Run.change_biases.Goals as goal

pub returns-in_ok-push-in-Ok : goal.returns-in_ok-push-in-Ok
returns-in_ok-push-in-Ok c before keeps =
    let old = c.args.self.now in
    let is_open : IsOpenChange c.args.settings.now old.log.last c.args.radar c.args.slot = search rules in
    let newest : c.push.new.self.items ≡ old.newest.items ++ Bias c.args.radar c.args.slot c.args.bias ∷ [] = search rules in
    change_on c.args.settings.now before old _ keeps c.args.radar c.args.slot c.args.bias is_open (c.in-Ok.ensures.ok before.log keeps.log) (ap (λ n. record old.counts { biases = n }) c.more-self.ensures) newest (c.in-Ok.ensures.legal before.log keeps.log)

pub returns-in-Err-UnknownRadar : goal.returns-in-Err-UnknownRadar
returns-in-Err-UnknownRadar c before keeps =
    let settings = c.args.settings.now in
    let old = c.args.self.now in
    let unknown : length settings.radars ≤ c.args.radar = search rules in
    let log : c.bias.new.self ≡ old.log = search rules in
    refused_on settings before old _ keeps log refl c.args.radar c.args.slot c.args.bias (λ (is_open : IsOpenChange settings old.log.last c.args.radar c.args.slot). omega (arith, unknown, is_open.known)) (ap (λ n. record old.counts { refused = n }) c.more-self-in-Err-UnknownRadar.ensures)

pub returns-in-Err-BeforeHorizon : goal.returns-in-Err-BeforeHorizon
returns-in-Err-BeforeHorizon c before keeps =
    let settings = c.args.settings.now in
    let old = c.args.self.now in
    let late : c.args.slot < low_at settings.window old.log.last = search rules in
    let log : c.bias.new.self ≡ old.log = search rules in
    refused_on settings before old _ keeps log refl c.args.radar c.args.slot c.args.bias (λ (is_open : IsOpenChange settings old.log.last c.args.radar c.args.slot). omega (arith, late, is_open.not_late)) (ap (λ n. record old.counts { refused = n }) c.more-self-in-Err-BeforeHorizon.ensures)
