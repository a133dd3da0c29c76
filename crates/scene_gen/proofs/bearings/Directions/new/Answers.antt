use Rattle.std.proofs.Common.{◌≡◌, ◌∙◌, ap, ℕ, Option, None, replicate, ℤ, arith}
use Rattle.scene_gen.proofs.Making.{none_made}
use Rattle.scene_gen.proofs.bearings.Directions.new.Goals as goal

pub invariant_of-result : goal.invariant_of-result
invariant_of-result c =
    let none : Option (ℤ × ℤ) = None in
    let end : c.loop.counter ≡ 65536 = omega arith in
    none_made (c.loop.invariant ∙ ap (λ (n : ℕ). replicate n none) end)
