-- An aim after a plot, of the aim that was mixed before.
use Rattle.std.proofs.Common.{◌≡◌, refl}
use Rattle.std.specs.Option.{option_or}
use Rattle.plot_geometry.specs.Plots.{PlanePlot}
use Rattle.fixed_imm.specs.Aims.{AimState, mixed_aim}
use Rattle.fixed_imm.specs.Bounds.{time_step}
use Rattle.fixed_imm.specs.Filter.{predicted, moved, measured, updated}
use Rattle.track_life.specs.Tracks.{aim_after}

abbrev pub mixed_after : AimState → PlanePlot → AimState
mixed_after m p =
    let d = time_step m.time p.key.time in
    record { x = measured (moved m.x d) p.x p.rx; y = measured (moved m.y d) p.y p.ry; time = p.key.time; address = option_or p.address m.address; code = option_or p.code m.code }

pub after_mixed : (a : AimState) (p : PlanePlot) → mixed_after (mixed_aim a) p ≡ aim_after a p
unfolding predicted updated
after_mixed a p = refl
