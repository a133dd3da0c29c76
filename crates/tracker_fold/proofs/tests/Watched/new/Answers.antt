use Rattle.tracker_fold.proofs.Starting.{start_before}
use Rattle.tracker_fold.proofs.tests.Watched.new.Goals as goal

pub new-requires : goal.new-requires
new-requires g c = record { before = start_before c.in_ok-settings.field-0 c.in_ok-state.state 71970 c.in_ok-state.ensures }
