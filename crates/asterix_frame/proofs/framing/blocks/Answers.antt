use Rattle.std.proofs.Common.{◌≡◌, ◌∙◌, ap, sym, length, drop, ◌++◌, ◌∷◌, [], arith, length-append, append_assoc}
use Rattle.std.proofs.lemmas.List.{map-append}
use Rattle.std.proofs.lemmas.Result.{err_from_is_err_and}
use Rattle.asterix_frame.specs.Blocks.{encoded, encoding}
use Rattle.asterix_frame.specs.Offsets.{data_block, data_blocks}
use Rattle.asterix_frame.proofs.Pushed.{blocks_push, encoding_push, lie_push, fault_at, all_read}
use Rattle.asterix_frame.proofs.Readings.{one_list, one_fault, not_both}
use Rattle.asterix_frame.proofs.framing.blocks.Goals as goal

pub loop-from-preserved : goal.loop-from-preserved
loop-from-preserved c =
    let inv = c.loop-from.invariant in
    let old = c.loop-from.found.items in
    let block = c.in_ok-block.block in
    let found = c.in_ok-block.ensures.found in
    let rest = drop c.end-from.result c.args.datagram.now in
    let next : drop c.loop-from.from c.args.datagram.now ≡ encoded (data_block block) ++ rest =
    found.octets ∙ ap (λ k. encoded (data_block block) ++ drop k c.args.datagram.now) (sym c.end-from.ensures) in
    let grown : encoding (data_blocks (old ++ block ∷ [])) ≡ encoding (data_blocks old) ++ encoded (data_block block) =
    ap encoding (map-append data_block old (block ∷ [])) ∙ encoding_push (data_blocks old) (data_block block) in
    rw (c.in_ok-push.ensures.items) (record {
      good = rw map-append (blocks_push (data_blocks old) (data_block block) inv.good found.fits);
      whole = inv.whole ∙ ap (λ t. encoding (data_blocks old) ++ t) next ∙ sym (append_assoc (encoding (data_blocks old)) (encoded (data_block block)) rest) ∙ sym (ap (λ t. t ++ rest) grown);
      offset_is = omega (arith, c.end-from.ensures, found.at_is, inv.offset_is, ap length grown, length-append (encoding (data_blocks old)) (encoded (data_block block)));
      within = omega (arith, c.end-from.ensures, found.within);
      offsets = lie_push old block 0 inv.offsets (omega (arith, found.at_is, inv.offset_is));
    })

pub returns-in_err-block-clause-reads : goal.returns-in_err-block-clause-reads
returns-in_err-block-clause-reads c = λ bs good e.
    let inv = c.loop-from.invariant in
    let fault = fault_at c.args.datagram.now (data_blocks c.loop-from.found.items) c.loop-from.from _ inv.good inv.whole inv.offset_is c.in_err-block.ensures.none in
    absurd (not_both bs c.args.datagram.now _ _ good e fault)

pub returns-in_err-block-clause-refuses : goal.returns-in_err-block-clause-refuses
returns-in_err-block-clause-refuses c = λ offset cause other.
    let inv = c.loop-from.invariant in
    let fault = fault_at c.args.datagram.now (data_blocks c.loop-from.found.items) c.loop-from.from _ inv.good inv.whole inv.offset_is c.in_err-block.ensures.none in
    let p = err_from_is_err_and c.from_residual.result c.from_residual.ensures.1 in
    rw (p.1, p.2) (one_fault c.args.datagram.now _ _ offset cause fault other)

pub returns-clause-reads : goal.returns-clause-reads
returns-clause-reads c = λ bs good e.
    let inv = c.loop-from.invariant in
    let all = all_read c.args.datagram.now (data_blocks c.loop-from.found.items) c.loop-from.from c.loop-from-test.false inv.whole in
    one_list (data_blocks c.loop-from.found.items) bs inv.good good (sym all ∙ e)

pub returns-clause-refuses : goal.returns-clause-refuses
returns-clause-refuses c = λ offset cause fault.
    let inv = c.loop-from.invariant in
    let all = all_read c.args.datagram.now (data_blocks c.loop-from.found.items) c.loop-from.from c.loop-from-test.false inv.whole in
    not_both (data_blocks c.loop-from.found.items) c.args.datagram.now offset cause inv.good all fault
