use Rattle.tracker_fold.proofs.tests.corrects_biases_late.Given as goal

abbrev pub ghosts-corrects_with : goal.ghosts-corrects_with
ghosts-corrects_with g a = record { name = a.blank.name; parts = a.blank.parts }
