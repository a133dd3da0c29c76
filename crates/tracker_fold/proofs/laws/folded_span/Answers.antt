use Rattle.tracker_fold.proofs.Spanned.{slots_same, plots_rise, before_first, states_are, outs_are}
use Rattle.tracker_fold.proofs.laws.folded_span.Goals as goal

pub returns-clause-slots : goal.returns-clause-slots
returns-clause-slots c = slots_same

pub returns-clause-rise : goal.returns-clause-rise
returns-clause-rise c = plots_rise

pub returns-clause-before : goal.returns-clause-before
returns-clause-before c = before_first

pub returns-clause-states : goal.returns-clause-states
returns-clause-states c = states_are

pub returns-clause-outs : goal.returns-clause-outs
returns-clause-outs c = outs_are
