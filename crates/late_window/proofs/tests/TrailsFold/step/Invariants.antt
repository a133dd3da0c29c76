use Rattle.std.proofs.Common.{◌≡◌, ◌+◌, ◌*◌, ◌%◌, ◌^◌, ℕ, take}
use Rattle.std.specs.List.{fold}
use Rattle.late_window.proofs.tests.TrailsFold.step.Given as goal

abbrev pub invariant-loop-item : goal.invariant-loop-item
invariant-loop-item l = l.mix ≡ fold (λ (a : ℕ) (x : ℕ × ℕ). (a * 31 % 2 ^ 64 + x.1) % 2 ^ 64) l.state.mix (take l.item-index l.items)
