use Rattle.price_form.specs.Octets.{word_at}
use Rattle.price_form.proofs.ReadSteps.{none_yet, one_more}
use Rattle.price_form.proofs.numbers.words_at.Goals as goal

pub loop-i-init : goal.loop-i-init
loop-i-init c = none_yet word_at 8 c.args.octets.now c.args.at c.in_ok-words.ensures.items

pub loop-i-preserved : goal.loop-i-preserved
loop-i-preserved c = one_more word_at 8 c.args.octets.now c.args.at c.loop-i.i c.loop-i.invariant c.word_at.ensures c.in_ok-push.ensures.items
