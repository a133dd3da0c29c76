-- What the program says when it ends.
use Rattle.std.specs.Prelude.{ℕ, List, [], codes}
use Rattle.io_traits.specs.declared.host.Place.TheVariants as places
use Rattle.pairing_load.specs.declared.status.Status.{Status}
use Rattle.pairing_load.specs.declared.status.Status.TheVariants.{Done, Usage, Write, Memory}

abbrev pub exit_code : Status → ℕ
exit_code Done = 0
exit_code Usage = 1
exit_code (Write place) = 5
exit_code Memory = 6

abbrev pub status_line : Status → List ℕ
status_line Done = []
status_line Usage = codes "usage: pairing_load pairings COUNT SIZE random|equal SEED, or pairing_load prices COUNT SEED OUTPUT\n"
status_line (Write places.Screen) = codes "pairing_load: the standard output couldn't be written\n"
status_line (Write place) = codes "pairing_load: the price file couldn't be opened or written\n"
status_line Memory = codes "pairing_load: no memory\n"
