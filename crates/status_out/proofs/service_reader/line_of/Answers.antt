use Rattle.std.proofs.Common.{◌∙◌, ap, sym, []}
use Rattle.asterix_frame.specs.declared.tables.Uap.TheVariants.{Cat065}
use Rattle.asterix_frame.specs.Values.{one_octet}
use Rattle.asterix_frame.specs.DataRecords.{item_octets, source_of, time_of}
use Rattle.asterix_frame.specs.Bodies.{elements_at}
use Rattle.status_out.proofs.SensorReading.{not_missing}
use Rattle.status_out.proofs.ServiceReading.{stamp_in, kind_in, source_is, kind_is, service_is, tod_is, stamp_read, status_there, batch_there, status_read, batch_read, known_kind}
use Rattle.status_out.proofs.service_reader.line_of.Goals as goal

pub returns-in_err-sac-clause-read : goal.returns-in_err-sac-clause-read
returns-in_err-sac-clause-read c = λ line is e. not_missing c.data_source.result ((stamp_in line).sac, (stamp_in line).sic) c.from_residual.result line c.in_err-sac.was (c.data_source.ensures ∙ ap source_of (sym e) ∙ source_is line)

pub returns-in_err-kind-clause-read : goal.returns-in_err-kind-clause-read
returns-in_err-kind-clause-read c = λ line is e. not_missing c.one_octet.result (kind_in line) c.from_residual-in_err-kind.result line c.in_err-kind.was (c.one_octet.ensures ∙ ap one_octet (c.octets.ensures ∙ ap (item_octets 2) (sym e)) ∙ kind_is line)

pub returns-in_err-service-clause-read : goal.returns-in_err-service-clause-read
returns-in_err-service-clause-read c = λ line is e. not_missing c.one_octet-2.result (stamp_in line).service c.from_residual-in_err-service.result line c.in_err-service.was (c.one_octet-2.ensures ∙ ap one_octet (c.octets-2.ensures ∙ ap (item_octets 3) (sym e)) ∙ service_is line)

pub returns-in_err-tod-clause-read : goal.returns-in_err-tod-clause-read
returns-in_err-tod-clause-read c = λ line is e. not_missing c.time_of_day.result (stamp_in line).tod c.from_residual-in_err-tod.result line c.in_err-tod.was (c.time_of_day.ensures ∙ ap (time_of Cat065) (sym e) ∙ tod_is line is)

pub returns-in_err-one_octet-clause-read : goal.returns-in_err-one_octet-clause-read
returns-in_err-one_octet-clause-read c = λ line is e.
    let items = elements_at c.args.body.now c.args.items.now.frns.items in
    let kind = sym c.in_ok-kind.was ∙ c.one_octet.ensures ∙ ap one_octet (c.octets.ensures ∙ ap (item_octets 2) (sym e)) ∙ kind_is line in
    status_there items c.in_ok-kind.kind (stamp_in line) line c.one_octet-then-kind-eq-STATUS_KIND.result c.from_residual-in_err-one_octet.result e kind c.if-kind-eq-STATUS_KIND.true c.in_err-one_octet.was (c.one_octet-then-kind-eq-STATUS_KIND.ensures ∙ ap one_octet c.octets-then-kind-eq-STATUS_KIND.ensures)

pub returns-in_err-batch-clause-read : goal.returns-in_err-batch-clause-read
returns-in_err-batch-clause-read c = λ line is e.
    let items = elements_at c.args.body.now c.args.items.now.frns.items in
    let kind = sym c.in_ok-kind.was ∙ c.one_octet.ensures ∙ ap one_octet (c.octets.ensures ∙ ap (item_octets 2) (sym e)) ∙ kind_is line in
    batch_there items c.in_ok-kind.kind (stamp_in line) line c.one_octet-3.result c.from_residual-in_err-batch.result e kind c.if-kind-ne-END_KIND.false c.in_err-batch.was (c.one_octet-3.ensures ∙ ap one_octet c.octets-3.ensures)

pub returns-then-kind-eq-STATUS_KIND-clause-read : goal.returns-then-kind-eq-STATUS_KIND-clause-read
returns-then-kind-eq-STATUS_KIND-clause-read c = λ line is e.
    let items = elements_at c.args.body.now c.args.items.now.frns.items in
    let source = sym c.in_ok-sac.was ∙ c.data_source.ensures ∙ ap source_of (sym e) ∙ source_is line in
    let kind = sym c.in_ok-kind.was ∙ c.one_octet.ensures ∙ ap one_octet (c.octets.ensures ∙ ap (item_octets 2) (sym e)) ∙ kind_is line in
    let service = sym c.in_ok-service.was ∙ c.one_octet-2.ensures ∙ ap one_octet (c.octets-2.ensures ∙ ap (item_octets 3) (sym e)) ∙ service_is line in
    let tod = sym c.in_ok-tod.was ∙ c.time_of_day.ensures ∙ ap (time_of Cat065) (sym e) ∙ tod_is line is in
    let stamp = stamp_read line c.in_ok-sac.sac c.in_ok-sac.sic c.in_ok-service.service c.in_ok-tod.tod source service tod in
    status_read items c.in_ok-kind.kind _ line c.in_ok-one_octet.field-0 c.status_line.result is e kind c.if-kind-eq-STATUS_KIND.true (sym c.in_ok-one_octet.was ∙ c.one_octet-then-kind-eq-STATUS_KIND.ensures ∙ ap one_octet c.octets-then-kind-eq-STATUS_KIND.ensures) stamp c.status_line.ensures.read

pub returns-clause-read : goal.returns-clause-read
returns-clause-read c = λ line is e.
    let items = elements_at c.args.body.now c.args.items.now.frns.items in
    let source = sym c.in_ok-sac.was ∙ c.data_source.ensures ∙ ap source_of (sym e) ∙ source_is line in
    let kind = sym c.in_ok-kind.was ∙ c.one_octet.ensures ∙ ap one_octet (c.octets.ensures ∙ ap (item_octets 2) (sym e)) ∙ kind_is line in
    let service = sym c.in_ok-service.was ∙ c.one_octet-2.ensures ∙ ap one_octet (c.octets-2.ensures ∙ ap (item_octets 3) (sym e)) ∙ service_is line in
    let tod = sym c.in_ok-tod.was ∙ c.time_of_day.ensures ∙ ap (time_of Cat065) (sym e) ∙ tod_is line is in
    let stamp = stamp_read line c.in_ok-sac.sac c.in_ok-sac.sic c.in_ok-service.service c.in_ok-tod.tod source service tod in
    batch_read items c.in_ok-kind.kind _ line c.in_ok-batch.batch e kind c.if-kind-ne-END_KIND.false (sym c.in_ok-batch.was ∙ c.one_octet-3.ensures ∙ ap one_octet c.octets-3.ensures) stamp

pub returns-then-kind-ne-END_KIND-clause-read : goal.returns-then-kind-ne-END_KIND-clause-read
returns-then-kind-ne-END_KIND-clause-read c = λ line is e.
    let kind = sym c.in_ok-kind.was ∙ c.one_octet.ensures ∙ ap one_octet (c.octets.ensures ∙ ap (item_octets 2) (sym e)) ∙ kind_is line in
    absurd (known_kind [] c.in_ok-kind.kind (stamp_in line) line kind c.if-kind-eq-STATUS_KIND.false c.if-kind-ne-END_KIND.true)
