use Rattle.cluster_split.proofs.Splittings.{one_list}
use Rattle.cluster_split.proofs.splitting.one_splitting.Goals as goal

pub returns : goal.returns
returns c = one_list
