use Rattle.std.proofs.Common.{◌≡◌, sym, subst}
use Rattle.std.specs.Prelude.{All}
use Rattle.asterix_frame.specs.Bodies.{IsSpan, IsFaultFrom}
use Rattle.asterix_frame.proofs.Placed.{walk_spans}
use Rattle.asterix_frame.proofs.Bodies.{out_of_range_from, record_from, refused_from, only_record, record_or_fault, same_fault_from}
use Rattle.asterix_frame.proofs.Refusals.{told_malformed, told_refusal}
use Rattle.asterix_frame.proofs.body.first_record.Goals as goal

pub time_out_of_range-requires : goal.time_out_of_range-requires
time_out_of_range-requires c =
    let walk = c.in_ok-frns.field-0 in
    subst (λ found. All (IsSpan c.args.block.now.body.now) found) (sym c.deref.ensures.value) (walk_spans c.args.uap c.args.block.now.body.now c.args.from c.args.block.now.at walk.frns.items walk.end c.in_ok-frns.ensures.walks)

-- ---- a time out of range

pub returns-in-Some-clause-malformed : goal.returns-in-Some-clause-malformed
returns-in-Some-clause-malformed c =
    let walk = c.in_ok-frns.field-0 in
    out_of_range_from c.args.uap c.args.block.now c.args.from walk.frns.items c.deref.result.now walk.end c.in-Some.first c.in_ok-frns.ensures.walks c.deref.ensures.value c.in-Some.ensures.out_of_range

pub returns-in-Some-clause-reads : goal.returns-in-Some-clause-reads
returns-in-Some-clause-reads c = λ r rest is e.
    let walk = c.in_ok-frns.field-0 in
    let fault = out_of_range_from c.args.uap c.args.block.now c.args.from walk.frns.items c.deref.result.now walk.end c.in-Some.first c.in_ok-frns.ensures.walks c.deref.ensures.value c.in-Some.ensures.out_of_range in
    record_or_fault c.args.uap c.args.block.now c.args.from _ r rest fault is e

pub returns-in-Some-clause-refuses : goal.returns-in-Some-clause-refuses
returns-in-Some-clause-refuses c = λ m other.
    let walk = c.in_ok-frns.field-0 in
    let fault = out_of_range_from c.args.uap c.args.block.now c.args.from walk.frns.items c.deref.result.now walk.end c.in-Some.first c.in_ok-frns.ensures.walks c.deref.ensures.value c.in-Some.ensures.out_of_range in
    same_fault_from c.args.uap c.args.block.now c.args.from _ m fault other

-- ---- a record

pub returns-clause-found : goal.returns-clause-found
returns-clause-found c =
    let walk = c.in_ok-frns.field-0 in
    record_from c.args.uap c.args.block.now c.args.from _ c.deref.result.now walk.end c.in_ok-frns.ensures.walks c.in_ok-next.was c.deref.ensures.value c.in_default.ensures.early

pub returns-clause-spans : goal.returns-clause-spans
returns-clause-spans c =
    let walk = c.in_ok-frns.field-0 in
    walk_spans c.args.uap c.args.block.now.body.now c.args.from c.args.block.now.at walk.frns.items walk.end c.in_ok-frns.ensures.walks

pub returns-clause-reads : goal.returns-clause-reads
returns-clause-reads c = λ r rest is e.
    let walk = c.in_ok-frns.field-0 in
    let found = record_from c.args.uap c.args.block.now c.args.from _ c.deref.result.now walk.end c.in_ok-frns.ensures.walks c.in_ok-next.was c.deref.ensures.value c.in_default.ensures.early in
    only_record c.args.uap c.args.block.now.body.now c.args.from _ r rest found is e

pub returns-clause-refuses : goal.returns-clause-refuses
returns-clause-refuses c = λ m fault.
    let walk = c.in_ok-frns.field-0 in
    let found = record_from c.args.uap c.args.block.now c.args.from (record { frns = walk.frns; next = c.in_ok-next.next }) c.deref.result.now walk.end c.in_ok-frns.ensures.walks c.in_ok-next.was c.deref.ensures.value c.in_default.ensures.early in
    record_or_fault c.args.uap c.args.block.now c.args.from m found.0 _ fault found.1.is_record found.1.octets

-- ---- another fault

pub returns-in_err-next-clause-malformed : goal.returns-in_err-next-clause-malformed
returns-in_err-next-clause-malformed c =
    let walk = c.in_ok-frns.field-0 in
    let m = c.in_err-next.field-0.0 in
    let fault = refused_from c.args.uap c.args.block.now c.args.from walk.frns.items c.deref.result.now walk.end m c.requires c.in_ok-frns.ensures.walks c.in_err-next.was c.deref.ensures.value c.in_default.ensures.early in
    told_malformed c.from_residual-in_err-next.result m (λ m. IsFaultFrom c.args.uap c.args.block.now c.args.from m) c.from_residual-in_err-next.ensures.1 fault

pub returns-in_err-next-clause-reads : goal.returns-in_err-next-clause-reads
returns-in_err-next-clause-reads c = λ r rest is e.
    let walk = c.in_ok-frns.field-0 in
    let m = c.in_err-next.field-0.0 in
    let fault = refused_from c.args.uap c.args.block.now c.args.from walk.frns.items c.deref.result.now walk.end m c.requires c.in_ok-frns.ensures.walks c.in_err-next.was c.deref.ensures.value c.in_default.ensures.early in
    absurd (record_or_fault c.args.uap c.args.block.now c.args.from m r rest fault is e)

pub returns-in_err-next-clause-refuses : goal.returns-in_err-next-clause-refuses
returns-in_err-next-clause-refuses c = λ other_fault other.
    let walk = c.in_ok-frns.field-0 in
    let m = c.in_err-next.field-0.0 in
    let fault = refused_from c.args.uap c.args.block.now c.args.from walk.frns.items c.deref.result.now walk.end m c.requires c.in_ok-frns.ensures.walks c.in_err-next.was c.deref.ensures.value c.in_default.ensures.early in
    told_refusal c.from_residual-in_err-next.result m (λ x. x ≡ other_fault) c.from_residual-in_err-next.ensures.1 (same_fault_from c.args.uap c.args.block.now c.args.from m other_fault fault other)
