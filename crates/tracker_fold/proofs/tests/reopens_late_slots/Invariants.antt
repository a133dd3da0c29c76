use Rattle.tracker_fold.proofs.tests.reopens_late_slots.Given as goal

abbrev pub ghosts-reopens_with : goal.ghosts-reopens_with
ghosts-reopens_with g a = record { name = a.blank.name; parts = a.blank.parts }
