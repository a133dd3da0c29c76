use Rattle.live_picture.proofs.tests.editions_rise_while_sites_feed.Given as goal

abbrev pub ghosts-are_served_beside : goal.ghosts-are_served_beside
ghosts-are_served_beside g a = record { name = a.blank.name; parts = a.blank.parts }
