-- The verdict on a price file: which of its certificates prove.
use Rattle.std.specs.Prelude.{◌<◌, ◌≤◌, ◌≡◌, ⊤, ℕ, Bool, true, false, List, ◌∷◌, ◌++◌, length, take, All, count_by}
use Rattle.assignment_dual.specs.Problems.{Proves}
use Rattle.price_form.specs.declared.certs.Cert.{Cert}
use Rattle.price_form.specs.declared.certs.PriceRecord.{PriceRecord}
use Rattle.price_form.specs.declared.certs.PriceRecord.TheVariants.{Edition, Cert as Certified}
use Rattle.price_form.specs.Files.{ArePrices, IsPriceFault}
use Rattle.price_form.specs.Prefixes.{IsPrefixFault}
use Rattle.io_traits.specs.Places.{place_limit}

-- a certificate proves its pairing; an edition has nothing to prove
abbrev pub IsProved : PriceRecord → Type 0
IsProved (Edition number cut) = ⊤
IsProved (Certified c at) = Proves c.costs c.pairing c.u c.v

abbrev pub is_certificate : PriceRecord → Bool
is_certificate (Edition number cut) = false
is_certificate (Certified c at) = true

-- how many certificates there are among records
abbrev pub certificates_in : List PriceRecord → ℕ
certificates_in records = count_by is_certificate records

-- the octets are a price file of these records, within the limit
pub record IsFile (octets : List ℕ) (records : List PriceRecord) : Type 0 where
  pub within : length octets ≤ place_limit
  pub prices : ArePrices octets records

-- All its certificates prove, and these are so many.
pub record AllProve (octets : List ℕ) (count : ℕ) : Type 0 where
  pub records : List PriceRecord
  pub file : IsFile octets records
  pub each : All IsProved records
  pub counted : count ≡ certificates_in records

-- A certificate doesn't prove, and all before it do: so many. Its record begins at the offset.
pub record FirstFails (octets : List ℕ) (index offset : ℕ) : Type 0 where
  pub before : List PriceRecord
  pub cert : Cert
  pub after : List PriceRecord
  pub file : IsFile octets (before ++ Certified cert offset ∷ after)
  pub each : All IsProved before
  pub fails : IsProved (Certified cert offset) → ⊥
  pub counted : index ≡ certificates_in before

-- The octets are no price file, or pass the limit. Of those that pass it the fault is that of the prefix up to there.
pub record HasFileFault (octets : List ℕ) (offset : ℕ) : Type 0 where
  pub whole : length octets ≤ place_limit → IsPriceFault octets offset
  pub prefix : place_limit < length octets → IsPrefixFault (take place_limit octets) offset

-- so many certificates, all of which prove; or the first that doesn't, by its number from 0 and its offset; or the offset of the first fault
pub data Verdict : Type 0 where
  proved : ℕ → Verdict
  fails : ℕ → ℕ → Verdict
  fault : ℕ → Verdict

-- the verdict on the octets
abbrev pub Checks : List ℕ → Verdict → Type 0
Checks octets (proved count) = AllProve octets count
Checks octets (fails index offset) = FirstFails octets index offset
Checks octets (fault offset) = HasFileFault octets offset

pub record HasVerdict (octets : List ℕ) : Type 0 where
  pub verdict : Verdict
  pub checks : Checks octets verdict
