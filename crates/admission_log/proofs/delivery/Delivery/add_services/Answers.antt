use Rattle.std.proofs.Common.{◌≡◌, ◌∙◌, ap, sym, subst, [], ◌∷◌, ◌++◌, ◌+◌, map, take, get_or, None, Err}
use Rattle.std.proofs.lemmas.List.{map-append, take_more, take_all}
use Rattle.admission_log.specs.declared.events.Outcome.TheVariants as outcomes
use Rattle.admission_log.specs.Messages.{service}
use Rattle.admission_log.specs.Brought.{BringsMessages}
use Rattle.admission_log.proofs.Bringing.{messages_one, messages_more}
use Rattle.admission_log.proofs.delivery.Delivery.add_services.Goals as goal

pub loop-service-preserved : goal.loop-service-preserved
loop-service-preserved c = λ last.
    let settings = c.args.settings.now in
    let mid = c.loop-service.self in
    let new = c.add.new.self in
    let i = c.loop-service.service-index in
    let services = c.args.services.now in
    let s = get_or services i (record { source = None; kind = None; tod = None; sector = None; rotation = None }) in
    let one = messages_one settings last (service s) _ mid new (ap (λ r. Err (outcomes.Service r)) c.counted_radar-radar.ensures) c.in_ok-add.ensures in
    let grown : map service (take i services) ++ service s ∷ [] ≡ map service (take (i + 1) services) =
    sym (map-append service (take i services) (s ∷ [])) ∙ ap (map service) (sym (take_more services i _ c.loop-service-test.true)) in
    subst (λ ms. BringsMessages settings last ms c.args.self.now new) grown
    (messages_more settings last (map service (take i services)) (service s ∷ []) c.args.self.now mid new (c.loop-service.invariant last) one)

pub returns : goal.returns
returns c = λ last. subst (λ services. BringsMessages c.args.settings.now last (map service services) c.args.self.now c.loop-service.self) (take_all c.loop-service.service-index c.args.services.now c.loop-service-test.false) (c.loop-service.invariant last)
