use Rattle.std.proofs.Common.{ℕ, map, take}
use Rattle.admission_log.specs.Messages.{service}
use Rattle.admission_log.specs.Brought.{BringsMessages}
use Rattle.admission_log.proofs.delivery.Delivery.add_services.Given as goal

abbrev pub invariant-loop-service : goal.invariant-loop-service
invariant-loop-service l = (last : ℕ) → BringsMessages l.settings last (map service (take l.service-index l.services)) l.fn.self l.self
