use Rattle.std.proofs.Common.{◌≡◌, ℕ, arith}
use Rattle.std.specs.Global.{Vec}
use Rattle.asterix_frame.specs.declared.tables.Uap.TheVariants.{Cat065}
use Rattle.cat062_out.proofs.Profiles.{value_code}
use Rattle.cat062_out.proofs.ProfilePassing.{passes_answer, passes_refusal}
use Rattle.cat062_out.proofs.ProfileReading.{all_read, reads_them, not_refused}
use Rattle.status_out.specs.declared.service_line.Line065.{Line065}
use Rattle.status_out.specs.ServiceRecords.{IsLine065, service_items}
use Rattle.status_out.proofs.ServiceProfile.{service_profile}
use Rattle.status_out.proofs.service_reader.read065.Goals as goal

pub loop-from-smaller : goal.loop-from-smaller
loop-from-smaller c =
    let b = c.in_ok-line.ensures.found in
    omega (arith, b.next_is, b.within, (value_code Line065 Cat065 IsLine065 service_items service_profile).some c.in_ok-line.line b.is_value)

pub returns-clause-reads : goal.returns-clause-reads
returns-clause-reads c = λ lines are.
    let all = all_read Line065 Cat065 IsLine065 service_items c.args.block.now.body.now c.loop-from.from c.loop-from.lines.items c.loop-from.invariant c.loop-from-test.false in
    reads_them Line065 Cat065 IsLine065 service_items service_profile c.args.block.now (Vec Line065) c.loop-from.lines.items lines all are

pub returns-clause-refuses : goal.returns-clause-refuses
returns-clause-refuses c = λ e is.
    let all = all_read Line065 Cat065 IsLine065 service_items c.args.block.now.body.now c.loop-from.from c.loop-from.lines.items c.loop-from.invariant c.loop-from-test.false in
    not_refused Line065 Cat065 IsLine065 service_items service_profile c.args.block.now (Vec Line065) c.loop-from.lines.items e all is

pub returns-in_err-line-clause-reads : goal.returns-in_err-line-clause-reads
returns-in_err-line-clause-reads c = λ lines are.
    passes_answer Line065 (Vec Line065) (Line065 × ℕ) Cat065 IsLine065 service_items service_profile c.args.block.now c.loop-from.from c.loop-from.lines.items c.loop-from.invariant c.from_residual.result c.in_err-line.field-0.0
    (λ v. v.items ≡ lines) lines c.from_residual.ensures.1 c.in_err-line.ensures.none are

pub returns-in_err-line-clause-refuses : goal.returns-in_err-line-clause-refuses
returns-in_err-line-clause-refuses c = λ e is.
    passes_refusal Line065 (Vec Line065) (Line065 × ℕ) Cat065 IsLine065 service_items service_profile c.args.block.now c.loop-from.from c.loop-from.lines.items c.loop-from.invariant c.from_residual.result c.in_err-line.field-0.0 e
    c.from_residual.ensures.1 c.in_err-line.ensures.none is
