-- What the program's exit status says, and how a place is told.
use Rattle.std.specs.Prelude.{ℕ}
use Rattle.io_traits.specs.declared.host.Place.{Place}
use Rattle.io_traits.specs.declared.host.Place.TheVariants as places
use Rattle.session_script.specs.declared.status.Spot.{Spot}
use Rattle.session_script.specs.declared.status.Spot.TheVariants as spots
use Rattle.session_script.specs.declared.status.Status.{Status}
use Rattle.session_script.specs.declared.status.Status.TheVariants.{Done, Usage, Settings, Input, Read, Write, Memory, NotProved}

-- the number of each way to end
abbrev pub exit_code : Status → ℕ
exit_code Done = 0
exit_code Usage = 1
exit_code (Settings fault) = 2
exit_code (Input offset) = 3
exit_code (Read spot) = 4
exit_code (Write spot) = 5
exit_code Memory = 6
exit_code (NotProved index offset) = 8

-- how a place is told
abbrev pub spot_of : Place → Spot
spot_of places.Settings = spots.Settings
spot_of places.Input = spots.Input
spot_of places.Output = spots.Output
spot_of places.Prices = spots.Prices
spot_of places.Screen = spots.Screen
