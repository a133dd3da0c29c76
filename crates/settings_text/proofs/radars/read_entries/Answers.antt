use Rattle.std.proofs.Common.{◌<◌, length, arith}
use Rattle.std.proofs.lemmas.Bool.Decides.{nat_tests}
use Rattle.std.proofs.lemmas.Result.{err_from_is_err_and}
use Rattle.std.proofs.lemmas.List.{take_all, length-map}
use Rattle.settings_text.specs.Documents.{tables_of}
use Rattle.settings_text.proofs.Entries.{entry_of, front_is, too_many_entries, radars_counted, faults_of_front}
use Rattle.settings_text.proofs.radars.read_entries.Goals as goal

pub returns-in_err-radars-clause-err : goal.returns-in_err-radars-clause-err
returns-in_err-radars-clause-err c =
    let some : 0 < length c.args.entries.now = grind (arith, nat_tests) in
    let front = rw c.min-first.ensures at c.in_err-radars.ensures.err in
    let whole = faults_of_front c.in_err-radars.field-0.0 c.args.entries.now some front in
    let p = err_from_is_err_and c.from_residual.result c.from_residual.ensures.1 in
    rw (p.1, p.2) whole

pub returns-then-entries-gt-RADAR_LIMIT-clause-err : goal.returns-then-entries-gt-RADAR_LIMIT-clause-err
returns-then-entries-gt-RADAR_LIMIT-clause-err c =
    let front = rw (c.min-first.ensures, front_is c.args.entries.now) at c.in_ok-radars.ensures.ok in
    rw c.first_key-then-entries-gt-RADAR_LIMIT.ensures
    (too_many_entries (tables_of c.args.entries.now) c.in_ok-radars.radars.items front (omega (arith, length-map c.args.entries.now entry_of, c.if-entries-gt-RADAR_LIMIT.true)))

pub returns-clause-some : goal.returns-clause-some
returns-clause-some c =
    let some : 0 < length c.args.entries.now = grind (arith, nat_tests) in
    let front = rw (c.min-first.ensures, front_is c.args.entries.now) at c.in_ok-radars.ensures.ok in
    let whole = rw (take_all 32 (tables_of c.args.entries.now) (omega (arith, length-map c.args.entries.now entry_of, c.if-entries-gt-RADAR_LIMIT.false))) at front in
    let counted = radars_counted c.args.entries.now c.in_ok-radars.radars.items whole in
    (omega (arith, c.in_ok-radars.radars.ok.0), omega (arith, c.in_ok-radars.radars.ok.0, c.if-entries-gt-RADAR_LIMIT.false))
