use Rattle.pairing_load.proofs.Bounded.{prices_of_three}
use Rattle.pairing_load.proofs.certificates.next_cert.Goals as goal

pub returns-clause-u_fits : goal.returns-clause-u_fits
returns-clause-u_fits c = (prices_of_three c.args.generator.now c.in_ok-costs.costs c.in_ok-pairing.field-0.pairing c.in_ok-pairing.field-0.u c.in_ok-pairing.field-0.v c.in_ok-costs.ensures.full c.in_ok-pairing.ensures.proves).0

pub returns-clause-v_fits : goal.returns-clause-v_fits
returns-clause-v_fits c = (prices_of_three c.args.generator.now c.in_ok-costs.costs c.in_ok-pairing.field-0.pairing c.in_ok-pairing.field-0.u c.in_ok-pairing.field-0.v c.in_ok-costs.ensures.full c.in_ok-pairing.ensures.proves).1
