use Rattle.std.proofs.Common.{subst}
use Rattle.admission_log.specs.Deliveries.{IsDeliveryOf}
use Rattle.admission_log.proofs.delivery.deliver.Goals as goal

pub returns-clause-delivered : goal.returns-clause-delivered
returns-clause-delivered c =
    let read = c.in_ok-messages.ensures.read in
    (read.0, read.1, subst (λ said. IsDeliveryOf c.args.settings.now c.args.last c.args.next c.args.feed said c.in_ok-event.event) read.2 c.in_ok-event.ensures.delivered)

pub returns-clause-reads : goal.returns-clause-reads
returns-clause-reads c = λ contents is.
    subst (λ said. IsDeliveryOf c.args.settings.now c.args.last c.args.next c.args.feed said c.in_ok-event.event) (c.in_ok-messages.ensures.reads contents is) c.in_ok-event.ensures.delivered

pub returns-clause-refuses : goal.returns-clause-refuses
returns-clause-refuses c = λ m fault. c.in_ok-messages.ensures.refuses m fault
