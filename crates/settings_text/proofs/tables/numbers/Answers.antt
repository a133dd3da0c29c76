use Rattle.std.proofs.Common.{rules, w64, arith}
use Rattle.std.specs.Prelude.{FitsSigned}
use Rattle.std.proofs.lemmas.Int.{to_z-of_z}
use Rattle.toml.specs.View.{table_view}
use Rattle.settings_text.proofs.Reading.{gives_more, first_fault}
use Rattle.settings_text.proofs.tables.numbers.Goals as goal

pub returns-in_err-numbers-clause-err : goal.returns-in_err-numbers-clause-err
returns-in_err-numbers-clause-err g c =
    let first = first_fault c.args.radar (table_view c.args.table.now) c.args.rules.now c.loop-index.numbers c.loop-index.index _ _ (omega (arith, c.loop-index-test.true, c.told-rules)) c.loop-index.invariant.given c.in_err-numbers.ensures.err in
    search rules

pub loop-index-preserved : goal.loop-index-preserved
loop-index-preserved g c =
    let more = gives_more (table_view c.args.table.now) c.args.rules.now c.loop-index.numbers c.loop-index.index _ _ (omega (arith, c.loop-index-test.true, c.told-rules)) (omega (arith, c.loop-index-test.true, c.loop-index.invariant.long)) c.loop-index.invariant.given c.in_ok-numbers.ensures.ok in
    let fits : FitsSigned w64 c.in_ok-numbers.field-0 = search rules in
    rw (to_z-of_z w64 c.in_ok-numbers.field-0 fits) (record { long = search rules; given = more })
