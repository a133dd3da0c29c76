use Rattle.std.proofs.Common.{◌≡◌, sym, subst}
use Rattle.std.proofs.lemmas.Result.{err_from_is_err_and}
use Rattle.std.specs.Global.{Vec}
use Rattle.asterix_frame.specs.declared.walk.ItemSpans.{ItemSpans}
use Rattle.asterix_frame.specs.Bodies.{IsFaultFrom, IsFaultOfBody, HaveDataRecords}
use Rattle.asterix_frame.proofs.Bodies.{SoFar, so_far_more, so_far_all, so_far_fault, same_records, same_fault, not_both}
use Rattle.asterix_frame.proofs.Refusals.{passes_malformed, passes_answer, passes_refusal}
use Rattle.asterix_frame.proofs.body.records.Goals as goal

pub returns-in_err-one-clause-malformed : goal.returns-in_err-one-clause-malformed
returns-in_err-one-clause-malformed c =
    let p = err_from_is_err_and c.from_residual.result c.from_residual.ensures.1 in
    rw (p.1, p.2) (passes_malformed ItemSpans (Vec ItemSpans) (IsFaultFrom c.args.uap c.args.block.now c.loop-from.from) c.in_err-one.field-0.0 (IsFaultOfBody c.args.uap c.args.block.now) c.in_err-one.ensures.malformed
    (λ m h. so_far_fault c.args.uap c.args.block.now c.loop-from.from c.loop-from.found.items m c.loop-from.invariant h))

pub returns-in_err-one-clause-reads : goal.returns-in_err-one-clause-reads
returns-in_err-one-clause-reads c = λ rs is.
    let p = err_from_is_err_and c.from_residual.result c.from_residual.ensures.1 in
    rw (p.1, p.2) (passes_answer ItemSpans (Vec ItemSpans) (IsFaultFrom c.args.uap c.args.block.now c.loop-from.from) c.in_err-one.field-0.0 (λ v. HaveDataRecords c.args.uap c.args.block.now.body.now 0 rs v.items) c.in_err-one.ensures.malformed
    (λ m h.
    let f = so_far_fault c.args.uap c.args.block.now c.loop-from.from c.loop-from.found.items m c.loop-from.invariant h in
    not_both c.args.uap c.args.block.now.body.now rs f.body_offset m.cause is f.fault))

pub returns-in_err-one-clause-refuses : goal.returns-in_err-one-clause-refuses
returns-in_err-one-clause-refuses c = λ m other.
    let p = err_from_is_err_and c.from_residual.result c.from_residual.ensures.1 in
    rw (p.1, p.2) (passes_refusal ItemSpans (Vec ItemSpans) (IsFaultFrom c.args.uap c.args.block.now c.loop-from.from) c.in_err-one.field-0.0 (λ x. x ≡ m) c.in_err-one.ensures.malformed
    (λ x h. same_fault c.args.uap c.args.block.now x m (so_far_fault c.args.uap c.args.block.now c.loop-from.from c.loop-from.found.items x c.loop-from.invariant h) other))

pub loop-from-preserved : goal.loop-from-preserved
loop-from-preserved c =
    let found = c.in_ok-one.ensures.found in
    subst (λ items. SoFar c.args.uap c.args.block.now.body.now c.in_ok-one.one.next items) (sym c.in_ok-push.ensures.items)
    (so_far_more c.args.uap c.args.block.now.body.now c.loop-from.from c.loop-from.found.items found.0 c.in_ok-one.one c.loop-from.invariant found.1 c.in_ok-one.ensures.advances.1 c.in_ok-one.ensures.spans)

pub returns-clause-reads : goal.returns-clause-reads
returns-clause-reads c = λ rs is.
    same_records c.args.uap c.args.block.now.body.now c.loop-from.found.items rs (so_far_all c.args.uap c.args.block.now.body.now c.loop-from.from c.loop-from.found.items c.loop-from.invariant c.loop-from-test.false) is

pub returns-clause-refuses : goal.returns-clause-refuses
returns-clause-refuses c = λ m fault.
    let all = so_far_all c.args.uap c.args.block.now.body.now c.loop-from.from c.loop-from.found.items c.loop-from.invariant c.loop-from-test.false in
    not_both c.args.uap c.args.block.now.body.now all.records fault.body_offset m.cause all.is_body fault.fault
