use Rattle.std.proofs.Common.{◌≡◌, ◌∙◌, ap}
use Rattle.std.specs.Prelude.{map}
use Rattle.std.proofs.lemmas.List.{take_all}
use Rattle.asterix_frame.specs.declared.tables.Uap.TheVariants.{Cat034}
use Rattle.asterix_frame.proofs.Mapped.{made_at, all_made}
use Rattle.cat034_in.specs.Services.{service_of}
use Rattle.cat034_in.proofs.Told.{all_timed}
use Rattle.cat034_in.proofs.reader.read034.Goals as goal

pub returns-clause-read : goal.returns-clause-read
returns-clause-read c =
    let body = c.args.block.now.body.now in
    let has = c.in_ok-records.ensures.found in
    let all : c.loop-record.services.items ≡ map (made_at service_of body) c.in_ok-records.records.items = c.loop-record.invariant ∙ ap (map (made_at service_of body)) (take_all _ _ c.loop-record-test.false ∙ c.deref-record-items.ensures.value) in
    (has.records, has.is_body, all ∙ all_made service_of Cat034 body 0 has.records _ has.have)

pub returns-clause-timed : goal.returns-clause-timed
returns-clause-timed c =
    let body = c.args.block.now.body.now in
    let has = c.in_ok-records.ensures.found in
    let all : c.loop-record.services.items ≡ map (made_at service_of body) c.in_ok-records.records.items = c.loop-record.invariant ∙ ap (map (made_at service_of body)) (take_all _ _ c.loop-record-test.false ∙ c.deref-record-items.ensures.value) in
    all_timed c.loop-record.services.items has.records has.is_body.are_records (all ∙ all_made service_of Cat034 body 0 has.records _ has.have)

pub returns-clause-reads : goal.returns-clause-reads
returns-clause-reads c = λ rs is.
    let body = c.args.block.now.body.now in
    let all : c.loop-record.services.items ≡ map (made_at service_of body) c.in_ok-records.records.items = c.loop-record.invariant ∙ ap (map (made_at service_of body)) (take_all _ _ c.loop-record-test.false ∙ c.deref-record-items.ensures.value) in
    all ∙ all_made service_of Cat034 body 0 rs _ (c.in_ok-records.ensures.reads rs is)
