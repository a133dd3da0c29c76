use Rattle.std.proofs.Common.{sym, subst, ◌≤◌, ◌^◌, ℤ}
use Rattle.std.specs.Prelude.{unsigned_abs}
use Rattle.plot_geometry.proofs.HalfAngles.{cosine_le, sine_le}
use Rattle.plot_geometry.proofs.Table.{entry_is}
use Rattle.plot_geometry.proofs.turns.half_angle.Goals as goal

pub returns-clause-value : goal.returns-clause-value
returns-clause-value c = entry_is c.args.k _ c.requires

pub returns-clause-cosine : goal.returns-clause-cosine
returns-clause-cosine c = subst (λ (p : ℤ × ℤ). unsigned_abs p.0 ≤ 2 ^ 40) (sym (entry_is c.args.k _ c.requires)) (cosine_le c.args.k c.requires)

pub returns-clause-sine : goal.returns-clause-sine
returns-clause-sine c = subst (λ (p : ℤ × ℤ). unsigned_abs p.1 ≤ 2 ^ 40) (sym (entry_is c.args.k _ c.requires)) (sine_le c.args.k c.requires)
