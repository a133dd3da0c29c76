-- What holds of the tracker's gates and times.
use Rattle.std.proofs.Common.{◌≡◌, ℕ, ◌+◌, ◌≤◌, Bool, true, false, cond, Option, Some, None, arith, refl}
use Rattle.std.specs.Prelude.{nat_le}
use Rattle.std.proofs.lemmas.Bool.{leb-true}
use Rattle.trk_base.specs.Limits.{gate_cost}
use Rattle.plot_geometry.specs.Plots.{PlanePlot}
use Rattle.gating.specs.Gating.{gate, cost_of, within_gate, is_another}
use Rattle.track_life.specs.Tracks.{TrackState}
use Rattle.slot_step.specs.Tracker.{track_gate}

-- what holds of a number that is told holds where the other choice tells none
told_first : (b : Bool) (x : Option ℕ) (cost : ℕ) → cond b None x ≡ Some cost → x ≡ Some cost
told_first true x cost e = cc
told_first false x cost e = e

told_last : (b : Bool) (x : Option ℕ) (cost : ℕ) → cond b x None ≡ Some cost → x ≡ Some cost
told_last true x cost e = e
told_last false x cost e = cc

same : (n cost : ℕ) → Some n ≡ Some cost → n ≡ cost
same n cost e = cc

within_test : (b : Bool) (n cost : ℕ) → nat_le n gate_cost ≡ b → cond b (Some n) None ≡ Some cost → cost ≤ gate_cost
within_test true n cost h e = omega (arith, leb-true n gate_cost h, same n cost e)
within_test false n cost h e = cc

within_low : (x y cost : ℕ) → within_gate x y ≡ Some cost → cost ≤ gate_cost
unfolding within_gate
within_low x y cost e = within_test (nat_le (x + y) gate_cost) (x + y) cost refl e

-- a gate costs at most 4,096
pub gate_low : (t : TrackState) (p : PlanePlot) (cost : ℕ) → track_gate t p ≡ Some cost → cost ≤ gate_cost
unfolding gate cost_of
gate_low t p cost e = within_low _ _ cost (told_last _ _ cost (told_first (is_another t.aim.address t.aim.code p) _ cost e))
