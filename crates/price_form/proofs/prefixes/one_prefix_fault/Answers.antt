use Rattle.price_form.proofs.Standing.{are_octets}
use Rattle.price_form.proofs.PrefixFaults.{some_fault}
use Rattle.price_form.proofs.OnePrefix.{one_fault}
use Rattle.price_form.proofs.Causes.{causes}
use Rattle.price_form.proofs.prefixes.one_prefix_fault.Goals as goal

pub returns : goal.returns
returns c = record { some = λ prefix all. some_fault prefix (are_octets prefix all); one = one_fault; causes = λ bytes p all. causes bytes p (are_octets bytes all) }
