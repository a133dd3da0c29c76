use Rattle.std.proofs.Common.{◌≡◌, ◌∙◌, ap, [], ◌∷◌, ◌++◌}
use Rattle.std.proofs.lemmas.Result.{err_from_is_err_and}
use Rattle.asterix_frame.specs.Datagrams.{DatagramFault}
use Rattle.asterix_frame.proofs.Datagrams.{one_list, not_both}
use Rattle.asterix_frame.proofs.Refusals.{passes_malformed, passes_answer, passes_refusal}
use Rattle.admission_log.specs.Messages.{Said, said_by}
use Rattle.admission_log.specs.Brought.{IsFaultOfBlock}
use Rattle.admission_log.proofs.Reading.{holds_none, holds_more, is_datagram, head_fault, records_fault, same_malformed}
use Rattle.admission_log.proofs.messages.read_messages.Goals as goal

pub returns-in_err-block-clause-reads : goal.returns-in_err-block-clause-reads
returns-in_err-block-clause-reads c = λ contents is.
    let inv = c.loop-from.invariant in
    let fault = head_fault c.args.datagram.now c.loop-from.from c.loop-from.messages inv.0 c.in_err-block.field-0.0 inv.1 c.in_err-block.ensures.none in
    absurd (not_both c.args.datagram.now contents _ _ is fault)

pub returns-in_err-block-clause-refuses : goal.returns-in_err-block-clause-refuses
returns-in_err-block-clause-refuses c = λ m other.
    let inv = c.loop-from.invariant in
    let fault = head_fault c.args.datagram.now c.loop-from.from c.loop-from.messages inv.0 c.in_err-block.field-0.0 inv.1 c.in_err-block.ensures.none in
    let p = err_from_is_err_and c.from_residual.result c.from_residual.ensures.1 in
    rw (p.1, p.2) (same_malformed c.args.datagram.now c.in_err-block.field-0.0 m fault other)

pub returns-in_err-add_block-clause-malformed : goal.returns-in_err-add_block-clause-malformed
returns-in_err-add_block-clause-malformed c =
    let inv = c.loop-from.invariant in
    let p = err_from_is_err_and c.from_residual-in_err-add_block.result c.from_residual-in_err-add_block.ensures.1 in
    rw (p.1, p.2) (passes_malformed (Unit {0}) Said (IsFaultOfBlock c.in_ok-block.block) c.in_err-add_block.field-0.0 (λ m. DatagramFault c.args.datagram.now m.offset m.cause) c.in_err-add_block.ensures.malformed
    (λ m h. records_fault c.args.datagram.now c.loop-from.from c.loop-from.messages inv.0 c.in_ok-block.block m inv.1 c.in_ok-block.ensures.found h))

pub returns-in_err-add_block-clause-reads : goal.returns-in_err-add_block-clause-reads
returns-in_err-add_block-clause-reads c = λ contents is.
    let inv = c.loop-from.invariant in
    let p = err_from_is_err_and c.from_residual-in_err-add_block.result c.from_residual-in_err-add_block.ensures.1 in
    rw (p.1, p.2) (passes_answer (Unit {0}) Said (IsFaultOfBlock c.in_ok-block.block) c.in_err-add_block.field-0.0 (λ m. m ≡ said_by contents) c.in_err-add_block.ensures.malformed
    (λ m h. not_both c.args.datagram.now contents _ _ is (records_fault c.args.datagram.now c.loop-from.from c.loop-from.messages inv.0 c.in_ok-block.block m inv.1 c.in_ok-block.ensures.found h)))

pub returns-in_err-add_block-clause-refuses : goal.returns-in_err-add_block-clause-refuses
returns-in_err-add_block-clause-refuses c = λ m other.
    let inv = c.loop-from.invariant in
    let p = err_from_is_err_and c.from_residual-in_err-add_block.result c.from_residual-in_err-add_block.ensures.1 in
    rw (p.1, p.2) (passes_refusal (Unit {0}) Said (IsFaultOfBlock c.in_ok-block.block) c.in_err-add_block.field-0.0 (λ x. x ≡ m) c.in_err-add_block.ensures.malformed
    (λ x h. same_malformed c.args.datagram.now x m (records_fault c.args.datagram.now c.loop-from.from c.loop-from.messages inv.0 c.in_ok-block.block x inv.1 c.in_ok-block.ensures.found h) other))

pub loop-from-init : goal.loop-from-init
loop-from-init c = ([], holds_none c.args.datagram.now c.none-messages.result c.none-messages.ensures)

pub loop-from-preserved : goal.loop-from-preserved
loop-from-preserved c =
    let inv = c.loop-from.invariant in
    let read = c.in_ok-add_block.ensures.read in
    (inv.0 ++ read.0 ∷ [], holds_more c.args.datagram.now c.loop-from.from c.loop-from.messages c.add_block.new.self inv.0 c.in_ok-block.block read.0 inv.1 c.in_ok-block.ensures.found read.1 read.2 read.3 c.end-from.result c.end-from.ensures)

pub returns-clause-read : goal.returns-clause-read
returns-clause-read c =
    let inv = c.loop-from.invariant in
    (inv.0, is_datagram c.args.datagram.now c.loop-from.from c.loop-from.messages inv.0 inv.1 c.loop-from-test.false, inv.1.said_is)

pub returns-clause-reads : goal.returns-clause-reads
returns-clause-reads c = λ contents is.
    let inv = c.loop-from.invariant in
    let mine = is_datagram c.args.datagram.now c.loop-from.from c.loop-from.messages inv.0 inv.1 c.loop-from-test.false in
    inv.1.said_is ∙ ap said_by (one_list c.args.datagram.now inv.0 contents mine is)

pub returns-clause-refuses : goal.returns-clause-refuses
returns-clause-refuses c = λ m fault.
    let inv = c.loop-from.invariant in
    not_both c.args.datagram.now inv.0 _ _ (is_datagram c.args.datagram.now c.loop-from.from c.loop-from.messages inv.0 inv.1 c.loop-from-test.false) fault
