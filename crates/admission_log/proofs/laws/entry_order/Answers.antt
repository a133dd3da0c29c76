use Rattle.std.proofs.Common.{refl}
use Rattle.admission_log.specs.EntryOrder.{entry_cmp_total, entry_cmp_exact}
use Rattle.admission_log.proofs.Entering.{slots_rise, slot_first}
use Rattle.admission_log.proofs.laws.entry_order.Goals as goal

pub returns-clause-order : goal.returns-clause-order
returns-clause-order c = λ a b. refl

pub returns-clause-total : goal.returns-clause-total
returns-clause-total c = entry_cmp_total

pub returns-clause-exact : goal.returns-clause-exact
returns-clause-exact c = entry_cmp_exact

pub returns-clause-slots : goal.returns-clause-slots
returns-clause-slots c = slots_rise

pub returns-clause-slot_first : goal.returns-clause-slot_first
returns-clause-slot_first c = slot_first
