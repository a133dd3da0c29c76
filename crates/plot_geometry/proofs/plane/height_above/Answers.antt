use Rattle.std.proofs.Common.{lit<, lit≤}
use Rattle.trk_base.proofs.Sizes.{is_pos, is_sub, times, minus, rounded, fits, size}
use Rattle.plot_geometry.specs.Plane.{height_above}
use Rattle.plot_geometry.proofs.Terms.{given16}
use Rattle.plot_geometry.proofs.plane.height_above.Goals as goal

pub overflow_sub-result : goal.overflow_sub-result
overflow_sub-result c =
    fits (is_sub (rounded 100 c.round_div.ensures (times (is_pos {n = 48768}) (given16 c.args.level c.from.ensures c.ranges.level) tt) tt tt) (times (is_pos {n = 64}) (given16 c.args.height c.from-2.ensures c.ranges.height) tt)) (lit< tt)

pub returns-clause-value : goal.returns-clause-value
unfolding height_above
returns-clause-value c =
    (minus (rounded 100 c.round_div.ensures (times (is_pos {n = 48768}) (given16 c.args.level c.from.ensures c.ranges.level) tt) tt tt) (times (is_pos {n = 64}) (given16 c.args.height c.from-2.ensures c.ranges.height) tt) tt).same

pub returns-clause-bound : goal.returns-clause-bound
returns-clause-bound c =
    size (minus (rounded 100 c.round_div.ensures (times (is_pos {n = 48768}) (given16 c.args.level c.from.ensures c.ranges.level) tt) tt tt) (times (is_pos {n = 64}) (given16 c.args.height c.from-2.ensures c.ranges.height) tt) tt) (lit≤ tt)
