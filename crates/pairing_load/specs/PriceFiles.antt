-- The price file of a load.
use Rattle.std.specs.Prelude.{◌≡◌, ◌<◌, ◌≤◌, ℕ, ◌*◌, List, ◌∷◌, length, get_or}
use Rattle.io_traits.specs.Host.{HostState}
use Rattle.io_traits.specs.declared.host.Place.TheVariants as places
use Rattle.rand_pcg.specs.Lcg.{Lcg}
use Rattle.price_form.specs.declared.certs.Cert.{Cert}
use Rattle.price_form.specs.declared.certs.PriceRecord.{PriceRecord}
use Rattle.price_form.specs.declared.certs.PriceRecord.TheVariants.{Edition, Cert as Certified}
use Rattle.price_form.specs.Files.{ArePrices, IsRecord}
use Rattle.price_form.specs.Encoding.{cert_octets}
use Rattle.pairing_load.specs.declared.problems.EdgeCosts.TheVariants.{Random}
use Rattle.pairing_load.specs.Problems.{after, generator_of}
use Rattle.pairing_load.specs.Certificates.{IsLoadCert, IsLoadRecord}
use Rattle.io_traits.specs.Places.{Got, GotPrefix}

-- the generator of certificate number k
abbrev pub generator_at : ℕ → ℕ → Lcg
generator_at seed k = after Random (k * 9) (generator_of seed)

-- A price file of one edition, number 1 of an empty log, and after it of so many certificates of a seed, each of
-- which proves.
pub record IsLoadFile (seed count : ℕ) (bytes : List ℕ) : Type 0 where
  pub records : List PriceRecord
  pub file : ArePrices bytes (Edition 1 0 ∷ records)
  pub count_is : length records ≡ count
  pub certs : (k : ℕ) → k < count → IsLoadRecord k (generator_at seed k) (get_or records k (Edition 0 0))

-- Output got such a file
pub record FileWritten (seed count : ℕ) (old new : HostState) : Type 0 where
  pub bytes : List ℕ
  pub file : IsLoadFile seed count bytes
  pub got : Got places.Output old new bytes

-- Output got a prefix of such a file, of no more certificates than these
pub record PrefixWritten (seed count : ℕ) (old new : HostState) : Type 0 where
  pub made : ℕ
  pub within : made ≤ count
  pub bytes : List ℕ
  pub file : IsLoadFile seed made bytes
  pub got : GotPrefix places.Output old new bytes

-- these octets are the record of certificate number k
pub record RecordMade (k : ℕ) (g : Lcg) (octets : List ℕ) : Type 0 where
  pub cert : Cert
  pub is : IsLoadCert k g cert
  pub formed : IsRecord (Certified cert 0)
  pub encoded : octets ≡ cert_octets cert
