-- A rectangular coarse gate of a track, as Blackman and Popoli describe it, "Design and Analysis of Modern Tracking Systems" (1999), at gating.
use Rattle.std.specs.Prelude.{ℤ, pos, ◌≤ℤ◌, unsigned_abs, IsSome}
use Rattle.plot_geometry.specs.Plots.{PlanePlot}
use Rattle.fixed_imm.specs.Aims.{AimState}
use Rattle.fixed_imm.specs.Bounds.{IsTimeStep, time_step}
use Rattle.gating.specs.declared.coarse.CoarseGate.{CoarseGate}
use Rattle.gating.specs.Gating.{gate}

-- the plot lies in the rectangle
pub record IsIn (g : CoarseGate) (p : PlanePlot) : Type 0 where
  pub west : g.west ≤ℤ p.x
  pub east : p.x ≤ℤ g.east
  pub south : g.south ≤ℤ p.y
  pub north : p.y ≤ℤ g.north

-- every plot that the track gates, and that was measured at most span units of 1/128 s before or after the track's time, lies in it
pub record IsCoarseGate (a : AimState) (span : ℤ) (g : CoarseGate) : Type 0 where
  pub holds : (p : PlanePlot) → IsTimeStep (time_step a.time p.key.time) → pos (unsigned_abs (time_step a.time p.key.time)) ≤ℤ span → IsSome (gate a p) → IsIn g p
