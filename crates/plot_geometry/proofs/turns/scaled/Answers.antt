use Rattle.std.proofs.Common.{arith, lit<, ◌*◌, ◌≤◌, ◌^◌, subst, sym}
use Rattle.std.specs.Prelude.{unsigned_abs}
use Rattle.trk_base.proofs.Sizes.{var, times, rounded, is_cast64}
use Rattle.plot_geometry.proofs.Bounds.{scaled_twice}
use Rattle.plot_geometry.proofs.Terms.{given64}
use Rattle.plot_geometry.proofs.turns.scaled.Goals as goal

pub returns-clause-value : goal.returns-clause-value
returns-clause-value c = (is_cast64 (rounded 1099511627776 c.round_shift.ensures (times (given64 {x = c.args.length} (2 ^ 40) c.from.ensures (omega (arith, c.requires.length)) tt tt) (var c.args.sine (2 ^ 41) c.requires.sine tt) tt) tt tt) (lit< tt)).same

pub returns-clause-bound : goal.returns-clause-bound
returns-clause-bound c =
    let value = (is_cast64 (rounded 1099511627776 c.round_shift.ensures (times (given64 {x = c.args.length} (2 ^ 40) c.from.ensures (omega (arith, c.requires.length)) tt tt) (var c.args.sine (2 ^ 41) c.requires.sine tt) tt) tt tt) (lit< tt)).same in
    subst (λ z. unsigned_abs z ≤ 2 * unsigned_abs c.args.length) (sym value) (scaled_twice c.args.length c.args.sine c.requires.sine)
