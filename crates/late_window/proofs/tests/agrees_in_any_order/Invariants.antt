use Rattle.late_window.proofs.tests.agrees_in_any_order.Given as goal

abbrev pub ghosts-agrees_with : goal.ghosts-agrees_with
ghosts-agrees_with g a = record { name = a.blank.name; parts = a.blank.parts }
