-- What the command `check` does, and what it gives.
use Rattle.std.specs.Prelude.{◌≡◌, ◌⊎◌, ℕ, List, [], ◌∷◌, ◌++◌, codes, Option, Some, None, Ok, Err}
use Rattle.std.specs.Fmt.{decimal}
use Rattle.io_traits.specs.declared.host.Place.{Place}
use Rattle.io_traits.specs.declared.host.Place.TheVariants as places
use Rattle.io_traits.specs.declared.host.Way.TheVariants as ways
use Rattle.session_script.specs.Scripts.{Binding, End, GetsNothing, Script, reads, picks, ends}
use Rattle.session_script.specs.declared.status.Status.TheVariants.{Input, NotProved}
use Rattle.tracker_session.specs.Checking.{Checks, HasVerdict, Verdict, proved, fails, fault}

-- the line of a price file whose certificates, so many, all prove
abbrev pub proved_line : ℕ → List ℕ
proved_line count = codes "certificates " ++ (decimal count ++ codes " proved\n")

-- the end of a verdict
abbrev pub verdict_end : Verdict → End
verdict_end (proved count) = Ok (proved_line count)
verdict_end (fails index offset) = Err (NotProved index offset)
verdict_end (fault offset) = Err (Input offset)

-- It reads Prices, and ends with the verdict on what was read.
abbrev pub check_script : List ℕ → Script
check_script prices = reads places.Prices prices (λ octets. picks (λ (v : HasVerdict octets). ends (verdict_end v.verdict)))

-- Prices, with its name
abbrev pub prices_read : List ℕ → List Binding
prices_read prices = (places.Prices, ways.Read, prices) ∷ []

-- The end is the verdict on what Prices holds: all of it in the grammar and within the limit, and then each certificate.
pub record IsChecked (prices : List ℕ) (holds : Place → List ℕ → Type 0) (bound : List Binding) (gets : Place → List ℕ) (stop : Option End) : Type 0 where
  pub octets : List ℕ
  pub held : holds places.Prices octets
  pub verdict : Verdict
  pub checks : Checks octets verdict
  pub bound_is : bound ≡ prices_read prices
  pub nothing : GetsNothing gets
  pub end_is : stop ≡ Some (verdict_end verdict)

-- It broke off before its end: Prices may be bound, and nothing was written.
pub record IsCheckedPartly (prices : List ℕ) (bound : List Binding) (gets : Place → List ℕ) (stop : Option End) : Type 0 where
  pub bound_is : (bound ≡ []) ⊎ (bound ≡ prices_read prices)
  pub nothing : GetsNothing gets
  pub broken : stop ≡ None

abbrev pub CheckGives : List ℕ → (Place → List ℕ → Type 0) → List Binding → (Place → List ℕ) → Option End → Type 0
CheckGives prices holds bound gets stop = IsChecked prices holds bound gets stop ⊎ IsCheckedPartly prices bound gets stop
