use Rattle.price_form.specs.Octets.{entry_number_at}
use Rattle.price_form.proofs.ReadSteps.{none_yet, one_more}
use Rattle.price_form.proofs.numbers.entries_at.Goals as goal

pub loop-i-init : goal.loop-i-init
loop-i-init c = none_yet entry_number_at 4 c.args.octets.now c.args.at c.in_ok-entries.ensures.items

pub loop-i-preserved : goal.loop-i-preserved
loop-i-preserved c = one_more entry_number_at 4 c.args.octets.now c.args.at c.loop-i.i c.loop-i.invariant c.entry_at.ensures c.in_ok-push.ensures.items
