use Rattle.std.proofs.Common.{◌∙◌, sym, refl, subst}
use Rattle.std.specs.Prelude.{IfSome}
use Rattle.trk_base.specs.Ranges.{IsTimeOfDay}
use Rattle.asterix_frame.specs.declared.tables.Uap.TheVariants.{Cat065}
use Rattle.asterix_frame.specs.DataRecords.{time_of}
use Rattle.asterix_frame.proofs.DataItems.{time_in_day}
use Rattle.cat062_out.proofs.ProfileReading.{value_there}
use Rattle.status_out.specs.declared.service_line.Line065.{Line065}
use Rattle.status_out.specs.ServiceRecords.{IsLine065, service_items, service_record}
use Rattle.status_out.proofs.Foreign.{foreign_items, foreign_octets}
use Rattle.status_out.proofs.ServiceProfile.{service_profile}
use Rattle.status_out.proofs.service_reader.first_line.Goals as goal

pub line_of-requires-clause-in_day : goal.line_of-requires-clause-in_day
line_of-requires-clause-in_day c =
    let has = c.in_ok-record.ensures.found in
    subst (λ items. IfSome (time_of Cat065 items) IsTimeOfDay) (sym has.1.items) (time_in_day Cat065 has.0.items has.1.is_record.are_items)

pub returns-in_default-clause-none : goal.returns-in_default-clause-none
returns-in_default-clause-none c =
    let has = c.in_ok-record.ensures.found in
    (foreign_items Line065 Cat065 IsLine065 service_items service_profile c.args.block.now.body.now c.args.from has.0 c.in_ok-record.record c.line_of.result has.1 c.line_of.ensures.read c.in_default.is, refl)

pub returns-then-not-stand_there-clause-none : goal.returns-then-not-stand_there-clause-none
unfolding service_record
returns-then-not-stand_there-clause-none c =
    let has = c.in_ok-record.ensures.found in (
      foreign_octets Line065 Cat065 IsLine065 service_items service_profile c.args.block.now.body.now c.args.from has.0 c.in_ok-record.record c.line_of.result _ c.deref.result.now has.1 c.line_of.ensures.read c.in-Some.is (c.deref.ensures.value ∙ c.in_ok-written.ensures.octets) c.if-not-stand_there.ensures,
      refl,
    )

pub returns-clause-found : goal.returns-clause-found
unfolding service_record
returns-clause-found c =
    let has = c.in_ok-record.ensures.found in
    value_there Line065 Cat065 IsLine065 service_items c.args.block.now.body.now c.args.from has.0 c.in_ok-record.record _ has.1 c.in-Some.ensures.is_line c.in_ok-record.ensures.advances.1 (sym c.in_ok-written.ensures.octets ∙ sym c.deref.ensures.value ∙ c.if-not-stand_there.ensures)
