use Rattle.slot_step.proofs.tests.folds_slots.Given as goal

abbrev pub ghosts-folds : goal.ghosts-folds
ghosts-folds g a = record { name = a.blank.name; parts = a.blank.parts }
