use Rattle.std.proofs.Common.{◌∙◌, ◌+◌, ap, sym, subst}
use Rattle.track_life.specs.Numbers.{assigned}
use Rattle.slot_step.specs.Calls.{AreFromBefore}
use Rattle.slot_step.proofs.Counted.{step_is, assigned_before}
use Rattle.slot_step.proofs.slots.slot_step.Goals as goal

pub returns-clause-table : goal.returns-clause-table
returns-clause-table c =
    c.in_ok-assign_numbers.ensures.given ∙ ap assigned c.in_ok-table.ensures.table
    ∙ sym (step_is c.args.life.now c.args.slot c.args.table.now c.args.batches.now c.requires.batches c.requires.earlier)

pub returns-clause-before : goal.returns-clause-before
returns-clause-before c = subst (AreFromBefore (c.args.slot + 1)) (sym c.in_ok-assign_numbers.ensures.given) (assigned_before (c.args.slot + 1) c.in_ok-table.field-0.table c.in_ok-table.ensures.before)
