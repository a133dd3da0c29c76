use Rattle.tracker_engine.proofs.tests.tells_editions_in_parts.Given as goal

abbrev pub ghosts-tells : goal.ghosts-tells
ghosts-tells g a = record { name = a.blank.name; parts = a.blank.parts }
