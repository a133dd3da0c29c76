use Rattle.std.proofs.Common.{sym, subst, ℕ, set, Some, arith}
use Rattle.scene_gen.specs.Bearings.{AreDirections}
use Rattle.scene_gen.proofs.Making.{one_made, read_made}
use Rattle.scene_gen.proofs.bearings.Directions.of.Goals as goal

pub returns-in-Some : goal.returns-in-Some
returns-in-Some c = read_made c.self.inside.made.items c.args.angle c.in-Some.point c.self.invariant c.from-index.ensures (omega (arith, c.ranges.angle.fits)) c.index.ensures c.in-Some.is

pub invariant_of-self : goal.invariant_of-self
invariant_of-self c =
    subst (λ (n : ℕ). AreDirections (set c.self.inside.made.items n (Some c.rotate-point.result))) (sym c.from-index.ensures)
    (one_made c.self.inside.made.items c.args.angle c.rotate-point.result c.self.invariant (omega (arith, c.ranges.angle.fits)) c.rotate-point.ensures.value)
