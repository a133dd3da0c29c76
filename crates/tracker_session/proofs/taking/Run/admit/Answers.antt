use Rattle.std.proofs.Common.{rules, ◌≡◌, ◌∙◌, ap, refl}
use Rattle.std.proofs.lemmas.Result.{on_ok_weaker}
use Rattle.asterix_frame.specs.Datagrams.{DatagramFault}
use Rattle.tracker_session.proofs.Moving.{delivered_on, malformed_on}
use Rattle.tracker_session.proofs.taking.Run.admit.Goals as goal

pub returns-in-Ok : goal.returns-in-Ok
returns-in-Ok c before keeps =
    let d = c.in-Ok.ensures.delivered in
    on_ok_weaker c.note_delivery.result (λ newest. delivered_on c.args.settings.now before c.args.self.now c.note_delivery.new.self keeps c.args.feed c.args.octets.now d.0 c.in-Ok.event d.1 d.2
    (c.note_delivery.ensures.log ∙ c.in-Ok.ensures.ok before.log keeps.log) c.note_delivery.ensures.counts newest (c.in-Ok.ensures.legal before.log keeps.log)) c.note_delivery.ensures.newest

pub returns-in-Err-Malformed : goal.returns-in-Err-Malformed
returns-in-Err-Malformed c before keeps =
    let m = c.in-Err-Malformed.field-0-0 in
    let fault : DatagramFault c.args.octets.now m.offset m.cause = search rules in
    let log : c.admit.new.self ≡ c.args.self.now.log = search rules in
    malformed_on c.args.settings.now before c.args.self.now _ keeps log refl c.args.feed c.args.octets.now (record { offset = m.offset; cause = m.cause; fault = fault }) (ap (λ n. record c.args.self.now.counts { malformed = n }) c.more-self.ensures)
