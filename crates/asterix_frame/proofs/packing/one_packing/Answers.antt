use Rattle.asterix_frame.proofs.Packings.{one_packing, one_block_packing}
use Rattle.asterix_frame.proofs.packing.one_packing.Goals as goal

pub returns : goal.returns
returns c = record { groups = one_packing; blocks = one_block_packing }
