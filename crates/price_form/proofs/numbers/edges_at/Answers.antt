use Rattle.price_form.specs.Octets.{edge_numbers_at}
use Rattle.price_form.proofs.ReadSteps.{none_yet, one_more}
use Rattle.price_form.proofs.numbers.edges_at.Goals as goal

pub loop-i-init : goal.loop-i-init
loop-i-init c = none_yet edge_numbers_at 10 c.args.octets.now c.args.at c.in_ok-edges.ensures.items

pub loop-i-preserved : goal.loop-i-preserved
loop-i-preserved c = one_more edge_numbers_at 10 c.args.octets.now c.args.at c.loop-i.i c.loop-i.invariant c.edge_at.ensures c.in_ok-push.ensures.items
