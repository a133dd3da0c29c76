-- The gate of a track for a plot: what the two call themselves, and how far the plot lies from where the track is expected
-- (Bar-Shalom, Li, Kirubarajan, "Estimation with Applications to Tracking and Navigation", 1.4: the normalized innovation squared).
use Rattle.std.specs.Prelude.{ℕ, ◌+◌, ◌*◌, ◌==◌, nat_le, Bool, false, not, ◌&&◌, ◌||◌, if◌then◌else◌, Option, Some, None, ℤ, pos, ◌-ℤ◌, unsigned_abs}
use Rattle.std.specs.Option.{is_some}
use Rattle.trk_base.specs.Limits.{gate_cost}
use Rattle.trk_base.specs.Numbers.{round}
use Rattle.plot_geometry.specs.Plots.{PlanePlot}
use Rattle.fixed_imm.specs.Values.{AxisState}
use Rattle.fixed_imm.specs.Aims.{AimState}
use Rattle.fixed_imm.specs.Bounds.{time_step}
use Rattle.fixed_imm.specs.Filter.{combined}

-- the square of an innovation by its variance, in 1/256
unfoldable pub axis_cost : ℤ → ℕ → ℕ
axis_cost e s = unsigned_abs (round (pos (256 * (unsigned_abs e * unsigned_abs e))) (pos s))

-- 8 km, in 1/64 m
abbrev pub reach : ℕ
reach = 512000

-- the cost of both axes, unless it is above that of any gate
unfoldable pub within_gate : ℕ → ℕ → Option ℕ
within_gate x y = if nat_le (x + y) gate_cost then Some (x + y) else None

-- the cost of innovations ex and ey with the variances sx and sy, where both are within reach and the sum is within the gate
unfoldable pub cost_of : ℤ → ℕ → ℤ → ℕ → Option ℕ
cost_of ex sx ey sy = if nat_le (unsigned_abs ex) reach && nat_le (unsigned_abs ey) reach then within_gate (axis_cost ex sx) (axis_cost ey sy) else None

-- both are told, and they differ
abbrev pub differ : Option ℕ → Option ℕ → Bool
differ (Some a) (Some b) = not (a == b)
differ _ _ = false

-- a plot is of another aircraft where the addresses differ, or the codes do and not both addresses are told
abbrev pub is_another : Option ℕ → Option ℕ → PlanePlot → Bool
is_another address code p = differ address p.address || differ code p.code && not (is_some address && is_some p.address)

-- how far a position lies from where both models together expect it, and the variance of that
abbrev pub combined_innovation : AxisState → ℤ → ℤ → ℤ
combined_innovation axis d z = z -ℤ (combined axis d).0

abbrev pub combined_variance : AxisState → ℤ → ℕ → ℕ
combined_variance axis d r = unsigned_abs (combined axis d).2 + r

-- the cost of pairing the track with the plot
unfoldable pub gate : AimState → PlanePlot → Option ℕ
gate a p =
    let d = time_step a.time p.key.time in
    if is_another a.address a.code p then None
    else cost_of (combined_innovation a.x d p.x) (combined_variance a.x d p.rx) (combined_innovation a.y d p.y) (combined_variance a.y d p.ry)
