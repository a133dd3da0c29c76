use Rattle.slot_step.proofs.Tracker.{tracks_ordered, tracks_numbered}
use Rattle.slot_step.proofs.laws.tracker_laws.Goals as goal

pub returns-clause-ordered : goal.returns-clause-ordered
returns-clause-ordered c = tracks_ordered

pub returns-clause-numbered : goal.returns-clause-numbered
returns-clause-numbered c = tracks_numbered
