use Rattle.tracker_fold.proofs.Folded.{life_is, radars_below, radars_next, radars_are}
use Rattle.tracker_fold.proofs.laws.folded_radars.Goals as goal

pub returns-clause-life : goal.returns-clause-life
returns-clause-life c = life_is

pub returns-clause-below : goal.returns-clause-below
returns-clause-below c = radars_below

pub returns-clause-next : goal.returns-clause-next
returns-clause-next c = radars_next

pub returns-clause-biases : goal.returns-clause-biases
returns-clause-biases c = radars_are
