use Rattle.std.proofs.Common.{refl, ◌+◌, ◌<◌, ◌≤◌, length, arith}
use Rattle.std.specs.Prelude.{All, IfOk}
use Rattle.std.proofs.lemmas.Result.{IfOk-weaker}
use Rattle.std.proofs.lemmas.List.{take_rest}
use Rattle.asterix_frame.specs.Records.{has_spare, LiesIn, Walks}
use Rattle.asterix_frame.proofs.Walked.{walk_within, walk_advances}
use Rattle.asterix_frame.proofs.walk.walk_items.Goals as goal

pub returns-in-Err-Spare-clause-walks : goal.returns-in-Err-Spare-clause-walks
returns-in-Err-Spare-clause-walks c =
    (c.args.from + c.in-Err-Spare.offset, omega arith, has_spare c.in-Err-Spare.offset (rw (take_rest c.args.block.now.body.now c.args.from, c.in-Err-Spare.field-0-is, c.table-table.ensures) at c.in-Err-Spare.ensures.none) c.new-in-Err-Spare.ensures.items refl refl)

pub returns-in-Ok-clause-within : goal.returns-in-Ok-clause-within
returns-in-Ok-clause-within c =
    let body = c.args.block.now.body.now in
    IfOk-weaker c.walk_named.result (λ w. Walks c.table-table.result.now c.args.block.now.at body c.args.from w.frns.items w.end) (λ w. All (LiesIn body) w.frns.items)
    (λ w h. walk_within c.table-table.result.now c.args.block.now.at body c.args.from w.frns.items w.end h) c.walk_named.ensures

pub returns-in-Ok-clause-advances : goal.returns-in-Ok-clause-advances
returns-in-Ok-clause-advances c =
    let body = c.args.block.now.body.now in
    IfOk-weaker c.walk_named.result (λ w. Walks c.table-table.result.now c.args.block.now.at body c.args.from w.frns.items w.end) (λ w. IfOk w.end (λ next. (c.args.from < next) × (next ≤ length body)))
    (λ w h. walk_advances c.table-table.result.now c.args.block.now.at body c.args.from w.frns.items w.end h) c.walk_named.ensures
