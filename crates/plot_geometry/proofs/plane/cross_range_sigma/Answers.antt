use Rattle.std.proofs.Common.{ap, ◌^◌}
use Rattle.std.specs.Prelude.{unsigned_abs}
use Rattle.trk_base.proofs.Sizes.{is_pos, times, rounded}
use Rattle.plot_geometry.specs.Plane.{cross_range_sigma}
use Rattle.plot_geometry.proofs.Terms.{given}
use Rattle.plot_geometry.proofs.plane.cross_range_sigma.Goals as goal

pub returns-clause-value : goal.returns-clause-value
unfolding cross_range_sigma
returns-clause-value c =
    ap unsigned_abs (rounded 7405568 c.round_div.ensures (times (times (given (2 ^ 26) c.from.ensures c.requires.range tt) (given 200 c.from-2.ensures c.requires.sigma tt) tt) (is_pos {n = 710}) tt) tt tt).same
