use Rattle.trk_base.proofs.tests.spends_what_was_charged.Given as goal

abbrev pub ghosts-left_of_charged : goal.ghosts-left_of_charged
ghosts-left_of_charged g a = record { name = a.blank.name; parts = a.blank.parts }
