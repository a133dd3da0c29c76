use Rattle.tracker_session.proofs.taking.Run.new.Goals as goal

pub returns-clause-keeps : goal.returns-clause-keeps
returns-clause-keeps c = record { log = c.new.ensures.empty; counts = c.none.ensures }
