use Rattle.std.proofs.Common.{take}
use Rattle.std.specs.List.{flat_map}
use Rattle.admission_log.specs.declared.delivery.Delivery.{Delivery}
use Rattle.admission_log.specs.ReadMessages.{messages_kept}
use Rattle.admission_log.specs.Brought.{BringsMessages}
use Rattle.admission_log.proofs.Bringing.{IsFresh}
use Rattle.admission_log.proofs.delivery.judge_messages.Given as goal

abbrev pub invariant-loop-block : goal.invariant-loop-block
invariant-loop-block l = (start : Delivery) × IsFresh l.next start × BringsMessages l.settings l.last (flat_map messages_kept (take l.block-index l.blocks)) start l.delivery
