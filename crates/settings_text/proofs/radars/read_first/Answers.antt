use Rattle.std.proofs.lemmas.Result.{err_from_is_err_and}
use Rattle.settings_text.proofs.Entries.{one_more_radar, first_value_fault}
use Rattle.settings_text.proofs.radars.read_first.Goals as goal

pub returns-in_err-read_radar-clause-err : goal.returns-in_err-read_radar-clause-err
returns-in_err-read_radar-clause-err c =
    let first = first_value_fault c.args.entries.now c.loop-radar.radars.items c.loop-radar.radar c.index-entries-radar.result c.in_err-read_radar.field-0.0 c.loop-radar-test.true c.index-entries-radar.is c.loop-radar.invariant c.in_err-read_radar.ensures.err in
    let p = err_from_is_err_and c.from_residual-in_err-read_radar.result c.from_residual-in_err-read_radar.ensures.1 in
    rw (p.1, p.2) first

pub loop-radar-preserved : goal.loop-radar-preserved
loop-radar-preserved c =
    let more = one_more_radar c.args.entries.now c.loop-radar.radars.items c.loop-radar.radar c.index-entries-radar.result c.in_ok-read_radar.field-0 c.loop-radar-test.true c.index-entries-radar.is c.loop-radar.invariant c.in_ok-read_radar.ensures.ok in
    rw c.in_ok-push.ensures.items more
