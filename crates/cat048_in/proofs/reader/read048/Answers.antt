use Rattle.std.proofs.Common.{◌≡◌, ◌∙◌, ap}
use Rattle.std.specs.Prelude.{map}
use Rattle.std.proofs.lemmas.List.{take_all}
use Rattle.asterix_frame.specs.declared.tables.Uap.TheVariants.{Cat048}
use Rattle.cat048_in.specs.declared.report.Report.{Report}
use Rattle.asterix_frame.proofs.Mapped.{made_at, all_made}
use Rattle.cat048_in.specs.Reports.{report_of}
use Rattle.cat048_in.proofs.Told.{timed}
use Rattle.cat048_in.proofs.reader.read048.Goals as goal

pub returns-clause-read : goal.returns-clause-read
returns-clause-read c =
    let body = c.args.block.now.body.now in
    let has = c.in_ok-records.ensures.found in
    let all : c.loop-record.reports.items ≡ map (made_at report_of body) c.in_ok-records.records.items = c.loop-record.invariant ∙ ap (map (made_at report_of body)) (take_all _ _ c.loop-record-test.false ∙ c.deref-record-items.ensures.value) in
    (has.records, has.is_body, all ∙ all_made report_of Cat048 body 0 has.records _ has.have)

pub returns-clause-reads : goal.returns-clause-reads
returns-clause-reads c = λ rs is.
    let body = c.args.block.now.body.now in
    let all : c.loop-record.reports.items ≡ map (made_at report_of body) c.in_ok-records.records.items = c.loop-record.invariant ∙ ap (map (made_at report_of body)) (take_all _ _ c.loop-record-test.false ∙ c.deref-record-items.ensures.value) in
    all ∙ all_made report_of Cat048 body 0 rs _ (c.in_ok-records.ensures.reads rs is)

pub returns-clause-times : goal.returns-clause-times
returns-clause-times c = λ rs is.
    let body = c.args.block.now.body.now in
    let all : c.loop-record.reports.items ≡ map (made_at report_of body) c.in_ok-records.records.items = c.loop-record.invariant ∙ ap (map (made_at report_of body)) (take_all _ _ c.loop-record-test.false ∙ c.deref-record-items.ensures.value) in
    ap (map (λ (r : Report). r.tod)) (all ∙ all_made report_of Cat048 body 0 rs _ (c.in_ok-records.ensures.reads rs is)) ∙ timed rs is.are_records
