use Rattle.cluster_pool.proofs.tests.runs_spans_in_parts.Given as goal

abbrev pub ghosts-runs : goal.ghosts-runs
ghosts-runs g a = record { name = a.blank.name; parts = a.blank.parts }

abbrev pub ghosts-runs-2 : goal.ghosts-runs-2
ghosts-runs-2 g a = record { name = a.blank.name; parts = a.blank.parts }

abbrev pub ghosts-runs-3 : goal.ghosts-runs-3
ghosts-runs-3 g a = record { name = a.blank.name; parts = a.blank.parts }
