use Rattle.price_form.proofs.OneFile.{same_records, same_fault, not_both}
use Rattle.price_form.proofs.PrefixFaults.{file_or_fault}
use Rattle.price_form.proofs.Standing.{are_octets}
use Rattle.price_form.proofs.reading.one_price_file.Goals as goal

pub returns : goal.returns
returns c = record { some = λ bytes all. file_or_fault bytes (are_octets bytes all); same_records = same_records; same_fault = same_fault; not_both = not_both }
