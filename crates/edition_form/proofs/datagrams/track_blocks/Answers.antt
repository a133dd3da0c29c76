use Rattle.std.proofs.Common.{◌≤◌, length, rules}
use Rattle.std.proofs.lemmas.Result.{IfOk-weaker}
use Rattle.edition_form.proofs.Stepping.{packed_more, packed_all}
use Rattle.edition_form.proofs.datagrams.track_blocks.Goals as goal

pub loop-told-preserved : goal.loop-told-preserved
loop-told-preserved c =
    packed_more c.args.stamp.now c.args.old.now c.args.now.now c.loop-told.told c.next-line.result.1 c.next-line.result.0 c.loop-told.blocks.packing c.in_ok-blocks-2.blocks.packing
    c.loop-told.invariant c.next-line.ensures.told c.next-line.ensures.line c.in_ok-blocks-2.ensures

pub returns : goal.returns
returns c =
    let old_all : length c.args.old.now ≤ c.loop-told.told.old_count = search rules in
    let now_all : length c.args.now.now ≤ c.loop-told.told.now_count = search rules in
    IfOk-weaker c.finish.result _ _ (λ blocks f. packed_all c.args.stamp.now c.args.old.now c.args.now.now c.loop-told.told c.loop-told.blocks.packing blocks c.loop-told.invariant old_all now_all (f 62)) c.finish.ensures
