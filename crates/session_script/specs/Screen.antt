-- What Screen gets of each way to end.
use Rattle.std.specs.Prelude.{ℕ, List, [], ◌++◌, codes}
use Rattle.std.specs.Fmt.{decimal}
use Rattle.settings_text.specs.Texts.{fault_text}
use Rattle.session_script.specs.declared.status.Spot.{Spot}
use Rattle.session_script.specs.declared.status.Spot.TheVariants as spots
use Rattle.session_script.specs.declared.status.Status.{Status}
use Rattle.session_script.specs.declared.status.Status.TheVariants.{Done, Usage, Settings, Input, Read, Write, Memory, NotProved}

-- what can fail
abbrev pub spot_text : Spot → List ℕ
spot_text spots.Settings = codes "Settings"
spot_text spots.Input = codes "Input"
spot_text spots.Output = codes "Output"
spot_text spots.Prices = codes "Prices"
spot_text spots.Screen = codes "Screen"
spot_text (spots.Feed number) = codes "feed " ++ decimal number
spot_text (spots.Outlet number) = codes "outlet " ++ decimal number
spot_text spots.Clock = codes "Clock"

-- an answer, without the end of its line
abbrev pub status_text : Status → List ℕ
status_text Done = codes "done"
status_text Usage = codes "usage: tracker replay, check, scene, exercise or serve"
status_text (Settings fault) = fault_text fault
status_text (Input offset) = codes "input: offset " ++ decimal offset
status_text (Read spot) = codes "read: " ++ spot_text spot
status_text (Write spot) = codes "write: " ++ spot_text spot
status_text Memory = codes "no memory"
status_text (NotProved index offset) = codes "not proved: certificate " ++ (decimal index ++ (codes " at offset " ++ decimal offset))

-- its line; where all was done there is none
abbrev pub status_line : Status → List ℕ
status_line Done = []
status_line status = status_text status ++ codes "\n"
