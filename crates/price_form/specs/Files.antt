-- Price files, and where a list of octets stops being one.
use Rattle.std.specs.Prelude.{◌≡◌, ◌<◌, ◌^◌, ◌+◌, ◌⊎◌, ⊤, ℕ, List, [], ◌∷◌, ◌++◌, length, All, FitsSigned}
use Rattle.std.specs.List.{flat_map}
use Rattle.std.specs.Int.{w64}
use Rattle.assignment_dual.specs.Problems.{IsProblem}
use Rattle.price_form.specs.declared.certs.Cert.{Cert}
use Rattle.price_form.specs.declared.certs.PriceRecord.{PriceRecord}
use Rattle.price_form.specs.declared.certs.PriceRecord.TheVariants.{Edition, Cert as Certified}
use Rattle.price_form.specs.declared.certs.PricesError.{PricesError}
use Rattle.price_form.specs.declared.certs.PricesError.TheVariants.{Fault, NoMemory}
use Rattle.price_form.specs.Certificates.{IsCert}
use Rattle.price_form.specs.Encoding.{price_record_octets}

-- a certificate's numbers are in the ranges of their fields
pub record IsInRange (c : Cert) : Type 0 where
  pub slot : c.slot < 2 ^ 64
  pub radar : c.radar < 256
  pub plots : c.costs.plots < 2 ^ 32
  pub plot_arrivals : All (λ a. a < 2 ^ 64) c.plots
  pub track_arrivals : All (λ a. a < 2 ^ 64) c.tracks
  pub u : All (FitsSigned w64) c.u
  pub v : All (FitsSigned w64) c.v

-- a record that a price file may have
abbrev pub IsRecord : PriceRecord → Type 0
IsRecord (Edition number cut) = (number < 2 ^ 64) × (cut < 2 ^ 64)
IsRecord (Certified c at) = IsCert c × IsProblem c.costs × IsInRange c

abbrev pub magic : List ℕ
magic = 77 ∷ 82 ∷ 80 ∷ 49 ∷ []

-- a certificate tells its place in the file
abbrev pub StandsAt : ℕ → PriceRecord → Type 0
StandsAt p (Edition number cut) = ⊤
StandsAt p (Certified c at) = at ≡ p

abbrev pub StandFrom : ℕ → List PriceRecord → Type 0
StandFrom p [] = ⊤
StandFrom p (r ∷ rs) = StandsAt p r × StandFrom (p + length (price_record_octets r)) rs

-- four octets, and then records
pub record ArePrices (bytes : List ℕ) (records : List PriceRecord) : Type 0 where
  pub encoded : bytes ≡ magic ++ flat_map price_record_octets records
  pub each : All IsRecord records
  pub places : StandFrom 4 records

-- there are octets, and they begin with no record
pub record BeginNone (octets : List ℕ) : Type 0 where
  pub some_left : 0 < length octets
  pub none : (r : PriceRecord) (rest : List ℕ) → IsRecord r → octets ≡ price_record_octets r ++ rest → ⊥

-- after whole records begins none
pub record StopsAt (bytes : List ℕ) (offset : ℕ) : Type 0 where
  pub records : List PriceRecord
  pub rest : List ℕ
  pub encoded : bytes ≡ magic ++ (flat_map price_record_octets records ++ rest)
  pub each : All IsRecord records
  pub stops : BeginNone rest
  pub place : offset ≡ length (magic ++ flat_map price_record_octets records)

-- another beginning is a fault at the first octet
abbrev pub IsPriceFault : List ℕ → ℕ → Type 0
IsPriceFault bytes offset = (((rest : List ℕ) → bytes ≡ magic ++ rest → ⊥) × (offset ≡ 0)) ⊎ StopsAt bytes offset

abbrev pub IfPriceFault : List ℕ → PricesError → Type 0
IfPriceFault bytes (Fault offset) = IsPriceFault bytes offset
IfPriceFault bytes NoMemory = ⊤
