use Rattle.std.proofs.Common.{sym, subst}
use Rattle.std.proofs.lemmas.Result.{IfOk-weaker}
use Rattle.recording.specs.Times.{HasTimes}
use Rattle.asterix_frame.specs.Offsets.{data_block}
use Rattle.asterix_frame.specs.Bodies.{HasRecords}
use Rattle.recording.proofs.BlockTimes.{times_found, times_below, times_other}
use Rattle.recording.proofs.times.times_of.Goals as goal

pub returns-in_default-clause-times : goal.returns-in_default-clause-times
returns-in_default-clause-times c =
    let other = c.in_default.ensures.other in
    subst (λ t. HasTimes (record { block = data_block c.args.block.now; times = t })) (sym c.new.ensures.items) (times_other c.args.block.now other.0 other.1 c.requires)

pub returns-in-Ok-clause-times : goal.returns-in-Ok-clause-times
returns-in-Ok-clause-times c =
    let block = c.args.block.now in
    let uap = c.in-Some.uap in
    let read = c.in-Some.ensures.read in
    let found = subst (HasRecords uap block.body.now) (sym c.deref.ensures.value) c.in-Ok.ensures.found in
    IfOk-weaker c.times_in.result _ _ (λ v e. times_found uap block c.deref.result.now v.items read.0 read.1 c.requires found e) c.times_in.ensures

pub returns-in-Ok-clause-in_day : goal.returns-in-Ok-clause-in_day
returns-in-Ok-clause-in_day c =
    let block = c.args.block.now in
    let uap = c.in-Some.uap in
    let found = subst (HasRecords uap block.body.now) (sym c.deref.ensures.value) c.in-Ok.ensures.found in
    IfOk-weaker c.times_in.result _ _ (λ v e. times_below uap block.body.now c.deref.result.now v.items found e) c.times_in.ensures
