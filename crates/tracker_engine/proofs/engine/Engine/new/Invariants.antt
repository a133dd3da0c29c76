use Rattle.std.proofs.Common.{◌≡◌, map}
use Rattle.std.specs.Prelude.{None}
use Rattle.std.specs.List.{range_with_len}
use Rattle.tracker_engine.proofs.engine.Engine.new.Given as goal

abbrev pub invariant-loop : goal.invariant-loop
invariant-loop l = l.services.items ≡ map (λ radar. None) (range_with_len 0 l.index)
