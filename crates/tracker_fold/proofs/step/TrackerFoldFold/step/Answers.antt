use Rattle.std.proofs.Common.{◌≡◌, ◌∙◌, ap, subst}
use Rattle.std.specs.Prelude.{IfOk}
use Rattle.tracker_fold.specs.Steps.{radars_after, planes, AreCertified}
use Rattle.tracker_fold.proofs.Moving.{next_is}
use Rattle.tracker_fold.proofs.step.TrackerFoldFold.step.Goals as goal

pub step-requires-clause-batches : goal.step-requires-clause-batches
step-requires-clause-batches c = c.in-Ok.ensures.batches c.args.slot c.requires.of_slot

pub returns-in-Ok-clause-next : goal.returns-in-Ok-clause-next
returns-in-Ok-clause-next c =
    let entries = c.args.items.now in
    let radars = c.in-Ok.ensures.radars ∙ ap (λ rs. radars_after rs entries) c.as_slice.ensures in
    let plots = c.in-Ok.ensures.plots ∙ ap (λ rs. planes (radars_after rs entries) entries) c.as_slice.ensures in
    subst (λ s. IfOk c.step.result (λ r. r.0 ≡ s)) (next_is c.args.state.now c.args.slot entries _ _ radars plots) c.step.ensures.next

pub returns-in-Ok-clause-out : goal.returns-in-Ok-clause-out
returns-in-Ok-clause-out c =
    let entries = c.args.items.now in
    let plots = c.in-Ok.ensures.plots ∙ ap (λ rs. planes (radars_after rs entries) entries) c.as_slice.ensures in
    subst (λ ps. IfOk c.step.result (λ r. AreCertified c.args.state.now c.args.slot ps r.1)) plots c.step.ensures.certs
