-- Things that are written one after the other: what follows them, where no more of them begins.
-- `Fits` says what can be written, `encoded` its octets, `IsOther` which octets begin none of them, however they go on, and `IsPartial` which octets end before one that they begin does.
use Rattle.std.specs.Prelude.{◌≡◌, ◌<◌, ℕ, Bool, true, false, List, [], ◌++◌, length, Option, Some, None}
use Rattle.std.specs.List.{flat_map, AllByRecursion}
use Rattle.recording.specs.declared.ending.Ending.{Ending}
use Rattle.recording.specs.declared.ending.Ending.TheVariants.{Nothing, Other, Truncated}

-- The octets are a prefix of one of them, and not all of it.
pub record IsTruncated (T : Type 0) (Fits : T → Type 0) (encoded : T → List ℕ) (rest : List ℕ) : Type 0 where
  pub one : T
  pub fits : Fits one
  pub more : List ℕ
  pub begun : 0 < length rest
  pub missing : 0 < length more
  pub whole : encoded one ≡ rest ++ more

-- What stands there: nothing, octets that begin none, or one that is truncated.
abbrev pub EndsSo : (List ℕ → Type 0) → (List ℕ → Type 0) → Ending → List ℕ → Type 0
EndsSo IsOther IsPartial Nothing rest = rest ≡ []
EndsSo IsOther IsPartial Other rest = IsOther rest
EndsSo IsOther IsPartial Truncated rest = IsPartial rest

-- The octets are these things, and after them what ends them so.
pub record AreWritten (T : Type 0) (Fits : T → Type 0) (encoded : T → List ℕ) (IsOther : List ℕ → Type 0) (IsPartial : List ℕ → Type 0) (octets : List ℕ) (things : List T) (ending : Ending) : Type 0 where
  pub fit : AllByRecursion Fits things
  pub rest : List ℕ
  pub whole : octets ≡ flat_map encoded things ++ rest
  pub ends : EndsSo IsOther IsPartial ending rest

-- The offset of the fault, where the ending stands at this offset. Of octets that go on it is known where they begin none; what is truncated there may be whole, and their end is told.
abbrev pub fault_of : Ending → Bool → ℕ → ℕ → Option ℕ
fault_of Other goes_on offset end = Some offset
fault_of Nothing false offset end = None
fault_of Nothing true offset end = Some end
fault_of Truncated false offset end = Some offset
fault_of Truncated true offset end = Some end
