use Rattle.late_window.proofs.tests.places_what_was_folded_elsewhere.Given as goal

abbrev pub ghosts-places : goal.ghosts-places
ghosts-places g a = record { name = a.blank.name; parts = a.blank.parts }
