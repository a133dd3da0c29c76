use Rattle.admission_log.proofs.Taken.{all_open, all_known, none_ahead, all_in_plane}
use Rattle.admission_log.proofs.laws.admitted_plots.Goals as goal

pub returns-clause-was_open : goal.returns-clause-was_open
returns-clause-was_open c = all_open

pub returns-clause-radar : goal.returns-clause-radar
returns-clause-radar c = all_known

pub returns-clause-not_ahead : goal.returns-clause-not_ahead
returns-clause-not_ahead c = none_ahead

pub returns-clause-plane : goal.returns-clause-plane
returns-clause-plane c = all_in_plane
