-- What came of a load.
use Rattle.std.specs.Prelude.{◌≡◌, ⊤, ℕ, List, Some}
use Rattle.io_traits.specs.Host.{HostState}
use Rattle.io_traits.specs.declared.host.Place.TheVariants as places
use Rattle.io_traits.specs.declared.host.Way.TheVariants as ways
use Rattle.pairing_load.specs.declared.words.PairingLoad.{PairingLoad}
use Rattle.pairing_load.specs.declared.words.PriceLoad.{PriceLoad}
use Rattle.pairing_load.specs.declared.status.Status.{Status}
use Rattle.pairing_load.specs.declared.status.Status.TheVariants.{Done, Usage, Write, Memory}
use Rattle.io_traits.specs.Places.{Got, GotPrefix, HasFailed}
use Rattle.pairing_load.specs.PriceFiles.{FileWritten}
use Rattle.pairing_load.specs.Totals.{IsCostSum, total_line}

-- Screen got the line of the least costs' sum
pub record TotalTold (load : PairingLoad) (old new : HostState) : Type 0 where
  pub total : ℕ
  pub is : IsCostSum load.costs load.size load.seed load.count total
  pub got : Got places.Screen old new (total_line load.count total)

-- Screen got a prefix of it
pub record TotalTruncated (load : PairingLoad) (old new : HostState) : Type 0 where
  pub total : ℕ
  pub is : IsCostSum load.costs load.size load.seed load.count total
  pub got : GotPrefix places.Screen old new (total_line load.count total)

-- Why writing a price file stopped.
abbrev pub StopsWriting : Status → HostState → HostState → Type 0
StopsWriting (Write places.Output) old new = HasFailed places.Output old new
StopsWriting (Write place) old new = ⊥
StopsWriting Memory old new = ⊤
StopsWriting Done old new = ⊥
StopsWriting Usage old new = ⊥

-- Output is bound to the name, and got the whole file.
pub record FileMade (load : PriceLoad) (output : List ℕ) (old new : HostState) : Type 0 where
  pub bound : new.bound places.Output ≡ Some (ways.Write, output)
  pub written : FileWritten load.seed load.count old new

-- How a load of certificates ended.
abbrev pub WritingEnds : Status → PriceLoad → List ℕ → HostState → HostState → Type 0
WritingEnds Done load output old new = FileMade load output old new
WritingEnds Usage load output old new = ⊥
WritingEnds Memory load output old new = ⊤
WritingEnds (Write place) load output old new = StopsWriting (Write place) old new

-- How a load of problems ended, and what Screen got.
abbrev pub SolvingEnds : Status → PairingLoad → HostState → HostState → Type 0
SolvingEnds Done load old new = TotalTold load old new
SolvingEnds (Write places.Screen) load old new = TotalTruncated load old new × HasFailed places.Screen old new
SolvingEnds (Write place) load old new = ⊥
SolvingEnds Memory load old new = new.got places.Screen ≡ old.got places.Screen
SolvingEnds Usage load old new = ⊥
