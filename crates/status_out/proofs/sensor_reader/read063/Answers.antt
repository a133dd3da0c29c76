use Rattle.std.proofs.Common.{◌≡◌, ℕ, arith}
use Rattle.std.specs.Global.{Vec}
use Rattle.asterix_frame.specs.declared.tables.Uap.TheVariants.{Cat063}
use Rattle.cat062_out.proofs.Profiles.{value_code}
use Rattle.cat062_out.proofs.ProfilePassing.{passes_answer, passes_refusal}
use Rattle.cat062_out.proofs.ProfileReading.{all_read, reads_them, not_refused}
use Rattle.status_out.specs.SensorRecords.{Message, IsMessage, sensor_items}
use Rattle.status_out.proofs.SensorProfile.{sensor_profile}
use Rattle.status_out.proofs.sensor_reader.read063.Goals as goal

pub loop-from-smaller : goal.loop-from-smaller
loop-from-smaller c =
    let b = c.in_ok-message.ensures.found in
    omega (arith, b.next_is, b.within, (value_code Message Cat063 IsMessage sensor_items sensor_profile).some c.in_ok-message.message b.is_value)

pub returns-clause-reads : goal.returns-clause-reads
returns-clause-reads c = λ messages are.
    let all = all_read Message Cat063 IsMessage sensor_items c.args.block.now.body.now c.loop-from.from c.loop-from.messages.items c.loop-from.invariant c.loop-from-test.false in
    reads_them Message Cat063 IsMessage sensor_items sensor_profile c.args.block.now (Vec Message) c.loop-from.messages.items messages all are

pub returns-clause-refuses : goal.returns-clause-refuses
returns-clause-refuses c = λ e is.
    let all = all_read Message Cat063 IsMessage sensor_items c.args.block.now.body.now c.loop-from.from c.loop-from.messages.items c.loop-from.invariant c.loop-from-test.false in
    not_refused Message Cat063 IsMessage sensor_items sensor_profile c.args.block.now (Vec Message) c.loop-from.messages.items e all is

pub returns-in_err-message-clause-reads : goal.returns-in_err-message-clause-reads
returns-in_err-message-clause-reads c = λ messages are.
    passes_answer Message (Vec Message) (Message × ℕ) Cat063 IsMessage sensor_items sensor_profile c.args.block.now c.loop-from.from c.loop-from.messages.items c.loop-from.invariant c.from_residual.result c.in_err-message.field-0.0
    (λ v. v.items ≡ messages) messages c.from_residual.ensures.1 c.in_err-message.ensures.none are

pub returns-in_err-message-clause-refuses : goal.returns-in_err-message-clause-refuses
returns-in_err-message-clause-refuses c = λ e is.
    passes_refusal Message (Vec Message) (Message × ℕ) Cat063 IsMessage sensor_items sensor_profile c.args.block.now c.loop-from.from c.loop-from.messages.items c.loop-from.invariant c.from_residual.result c.in_err-message.field-0.0 e
    c.from_residual.ensures.1 c.in_err-message.ensures.none is
