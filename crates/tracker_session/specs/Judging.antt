-- How the certificates of a price file are judged at their offsets.
use Rattle.std.specs.Prelude.{◌≡◌, ◌<◌, ⊤, ℕ, List, ◌∷◌, ◌++◌, All, Result, Ok, Err, length, take, slice_index}
use Rattle.assignment_dual.specs.Problems.{Proves}
use Rattle.price_form.specs.declared.certs.Cert.{Cert}
use Rattle.price_form.specs.declared.certs.PriceRecord.{PriceRecord}
use Rattle.price_form.specs.declared.certs.PriceRecord.TheVariants.{Cert as Certified}
use Rattle.price_form.specs.Reading.{HasCert}
use Rattle.session_script.specs.declared.status.Status.{Status}
use Rattle.session_script.specs.declared.status.Status.TheVariants.{Input, Memory, NotProved}
use Rattle.tracker_session.specs.Checking.{Checks, HasFileFault, IsProved, certificates_in, proved, fails, fault}

-- why octets aren't taken as a price file
abbrev pub StopsTaking : List ℕ → Status → Type 0
StopsTaking octets (Input offset) = HasFileFault octets offset
StopsTaking octets Memory = ⊤
StopsTaking octets _ = ⊥

-- the certificate that begins at an offset proves its pairing
abbrev pub ProvesAt : List ℕ → ℕ → Type 0
ProvesAt octets at = (c : Cert) → HasCert octets at c → Proves c.costs c.pairing c.u c.v

-- and it doesn't
abbrev pub FailsAt : List ℕ → ℕ → Type 0
FailsAt octets at = (c : Cert) → HasCert octets at c → Proves c.costs c.pairing c.u c.v → ⊥

-- the certificate of this number doesn't prove, and all before it do
pub record IsFirstFailure (octets offsets : List ℕ) (index : ℕ) : Type 0 where
  pub inside : index < length offsets
  pub before : All (ProvesAt octets) (take index offsets)
  pub fails : FailsAt octets (slice_index offsets index)

-- the first that doesn't prove is this certificate
pub record RecordFails (records : List PriceRecord) (index offset : ℕ) : Type 0 where
  pub before : List PriceRecord
  pub cert : Cert
  pub after : List PriceRecord
  pub parts : records ≡ before ++ Certified cert offset ∷ after
  pub each : All IsProved before
  pub fails : IsProved (Certified cert offset) → ⊥
  pub counted : index ≡ certificates_in before

-- the answer is the verdict on the octets, or memory is wanting
abbrev pub Judged : List ℕ → Result ℕ Status → Type 0
Judged octets (Ok count) = Checks octets (proved count)
Judged octets (Err (NotProved index offset)) = Checks octets (fails index offset)
Judged octets (Err (Input offset)) = Checks octets (fault offset)
Judged octets (Err Memory) = ⊤
Judged octets (Err _) = ⊥
