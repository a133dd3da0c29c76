use Rattle.std.proofs.Common.{◌∙◌}
use Rattle.std.specs.Int.{w64}
use Rattle.std.proofs.lemmas.Int.{to_z-of_z}
use Rattle.price_form.specs.Octets.{price_number_at}
use Rattle.price_form.proofs.ReadSteps.{none_yet, one_more}
use Rattle.price_form.proofs.numbers.prices_at.Goals as goal

pub loop-i-init : goal.loop-i-init
loop-i-init c = none_yet price_number_at 8 c.args.octets.now c.args.at c.in_ok-prices.ensures.items

pub loop-i-preserved : goal.loop-i-preserved
loop-i-preserved c = one_more price_number_at 8 c.args.octets.now c.args.at c.loop-i.i c.loop-i.invariant (to_z-of_z w64 c.price_at.result (record { sfits = c.price_at.type_inv }) ∙ c.price_at.ensures) c.in_ok-push.ensures.items
