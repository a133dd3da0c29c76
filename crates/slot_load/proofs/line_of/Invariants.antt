use Rattle.slot_load.proofs.line_of.Given as goal

abbrev pub ghosts-fold : goal.ghosts-fold
ghosts-fold a = record { name = a.blank.name; parts = a.blank.parts }
