-- The line of a replay that was done.
use Rattle.std.specs.Prelude.{ℕ, List, [], ◌++◌, codes, if◌then◌else◌}
use Rattle.std.specs.Fmt.{decimal}
use Rattle.tracker_session.specs.declared.counts.Counts.{Counts}

-- what came of the plots of a replay
abbrev pub plots_text : Counts → List ℕ
plots_text c =
    codes "admitted " ++ (decimal c.admitted
    ++ (codes " unknown " ++ (decimal c.unknown
    ++ (codes " early " ++ (decimal c.early
    ++ (codes " ahead " ++ decimal c.ahead))))))

-- what was no plot, or no more than passed over
abbrev pub others_text : Counts → List ℕ
others_text c =
    codes "notplots " ++ (decimal c.not_plots
    ++ (codes " malformed " ++ (decimal c.malformed
    ++ (codes " other " ++ (decimal c.other
    ++ (codes " old " ++ decimal c.old))))))

-- what came of the changes of biases, where the input can have any
abbrev pub biases_text : Counts → List ℕ
biases_text c = if c.tells_biases then codes " biases " ++ (decimal c.biases ++ (codes " refused " ++ decimal c.refused)) else []

abbrev pub counts_line : Counts → List ℕ
counts_line c = codes "editions " ++ (decimal c.editions ++ (codes " " ++ (plots_text c ++ (codes " " ++ (others_text c ++ (biases_text c ++ codes "\n"))))))
