use Rattle.std.proofs.Common.{◌≡◌, None, replicate}
use Rattle.scene_gen.proofs.bearings.Directions.new.Given as goal

abbrev pub invariant-loop : goal.invariant-loop
invariant-loop l = l.made.items ≡ replicate l.counter None
