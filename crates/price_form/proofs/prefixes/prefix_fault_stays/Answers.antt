use Rattle.price_form.proofs.OnePrefix.{fault_stays}
use Rattle.price_form.proofs.prefixes.prefix_fault_stays.Goals as goal

pub returns : goal.returns
returns c = fault_stays
