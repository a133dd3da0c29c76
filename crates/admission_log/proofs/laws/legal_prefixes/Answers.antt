use Rattle.admission_log.proofs.Prefixes.{prefix_legal, last_prefix, last_in_time}
use Rattle.admission_log.proofs.laws.legal_prefixes.Goals as goal

pub returns-clause-legal : goal.returns-clause-legal
returns-clause-legal c = prefix_legal

pub returns-clause-rises : goal.returns-clause-rises
returns-clause-rises c = last_prefix

pub returns-clause-in_time : goal.returns-clause-in_time
returns-clause-in_time c = last_in_time
