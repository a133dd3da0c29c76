use Rattle.cluster_pool.proofs.lamps.TwoLampsSeparable.crosses.Goals as goal

pub returns : goal.returns
returns c = c.reaches.ensures c.args.arg3 c.args.arg4.now
