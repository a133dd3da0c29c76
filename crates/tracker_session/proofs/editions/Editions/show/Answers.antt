use Rattle.tracker_session.proofs.editions.Editions.show.Goals as goal

pub returns-clause-stands : goal.returns-clause-stands
returns-clause-stands c settings log settled before s e = c.show.ensures settings log settled before s e
