use Rattle.part_load.proofs.line_of.Given as goal

abbrev pub ghosts-count_parts : goal.ghosts-count_parts
ghosts-count_parts a = record { name = a.blank.name; parts = a.blank.parts }
