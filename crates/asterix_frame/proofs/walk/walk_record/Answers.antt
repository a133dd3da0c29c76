use Rattle.std.proofs.Common.{◌≡◌, subst, Err}
use Rattle.asterix_frame.specs.Tables.{table_of}
use Rattle.asterix_frame.specs.Records.{Walks}
use Rattle.asterix_frame.proofs.RecordCodes.{one_record, record_no_fault, one_walk}
use Rattle.asterix_frame.proofs.Refusals.{told_refusal}
use Rattle.asterix_frame.proofs.walk.walk_record.Goals as goal

pub returns-clause-reads : goal.returns-clause-reads
returns-clause-reads c = λ spans next other.
    let walked = subst (λ e. Walks (table_of c.args.uap) c.args.block.now.at c.args.block.now.body.now c.args.from c.in_ok-frns.field-0.frns.items e) c.in_ok-next.was c.in_ok-frns.ensures.walks in
    one_record (table_of c.args.uap) c.args.block.now.body.now c.args.from _ spans _ next walked other

pub returns-clause-refuses : goal.returns-clause-refuses
returns-clause-refuses c = λ m fault.
    let walked = subst (λ e. Walks (table_of c.args.uap) c.args.block.now.at c.args.block.now.body.now c.args.from c.in_ok-frns.field-0.frns.items e) c.in_ok-next.was c.in_ok-frns.ensures.walks in
    record_no_fault (table_of c.args.uap) c.args.block.now.body.now c.args.from _ fault.0 _ fault.1 m.cause walked fault.3

pub returns-in_err-next-clause-reads : goal.returns-in_err-next-clause-reads
returns-in_err-next-clause-reads c = λ spans next other.
    let walked = subst (λ e. Walks (table_of c.args.uap) c.args.block.now.at c.args.block.now.body.now c.args.from c.in_ok-frns.field-0.frns.items e) c.in_err-next.was c.in_ok-frns.ensures.walks in
    absurd (record_no_fault (table_of c.args.uap) c.args.block.now.body.now c.args.from spans _ next walked.0 c.in_err-next.field-0.0.cause other walked.2)

pub returns-in_err-next-clause-refuses : goal.returns-in_err-next-clause-refuses
returns-in_err-next-clause-refuses c = λ m fault.
    let walked = subst (λ e. Walks (table_of c.args.uap) c.args.block.now.at c.args.block.now.body.now c.args.from c.in_ok-frns.field-0.frns.items e) c.in_err-next.was c.in_ok-frns.ensures.walks in
    let same = one_walk (table_of c.args.uap) c.args.block.now.body.now c.args.from c.args.block.now.at _ fault.0 (Err c.in_err-next.field-0.0) (Err m) walked (fault.1, fault.2, fault.3) in
    let e = same.1 in
    let fault_is : c.in_err-next.field-0.0 ≡ m = cc in
    told_refusal c.from_residual-in_err-next.result c.in_err-next.field-0.0 (λ x. x ≡ m) c.from_residual-in_err-next.ensures.1 fault_is
