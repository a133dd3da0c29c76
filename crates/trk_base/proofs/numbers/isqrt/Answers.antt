use Rattle.trk_base.proofs.Roots.{isqrt_root, one_root}
use Rattle.trk_base.proofs.numbers.isqrt.Goals as goal

pub returns-then-n-eq0-clause-value : goal.returns-then-n-eq0-clause-value
returns-then-n-eq0-clause-value c = one_root c.args.n _ _ c.root_of_64.ensures.root (isqrt_root c.args.n c.ranges.n.fits)

pub returns-else-n-eq0-clause-value : goal.returns-else-n-eq0-clause-value
returns-else-n-eq0-clause-value c = one_root c.args.n _ _ c.root_of_128.ensures.root (isqrt_root c.args.n c.ranges.n.fits)
