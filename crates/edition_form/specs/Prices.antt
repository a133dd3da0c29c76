-- What a price file has of the editions of a log: for each of them a record of its number and its cut, and then its certificates.
use Rattle.std.specs.Prelude.{◌≡◌, ℕ, List, [], ◌∷◌, ◌++◌}
use Rattle.std.specs.List.{flat_map}
use Rattle.price_form.specs.declared.certs.Cert.{Cert}
use Rattle.price_form.specs.declared.certs.PriceRecord.TheVariants.{Edition}
use Rattle.price_form.specs.Encoding.{cert_octets, price_record_octets}
use Rattle.admission_log.specs.declared.settings.Settings.{Settings}
use Rattle.admission_log.specs.Histories.{History, first}
use Rattle.edition_form.specs.Certificates.{AreLogCertificates}

-- the records of an edition
abbrev pub edition_octets : ℕ → ℕ → List Cert → List ℕ
edition_octets number cut certs = price_record_octets (Edition number cut) ++ flat_map cert_octets certs

-- the octets are those of the edition of a number and a cut of the log
pub record ArePricesOf (settings : Settings) (log : History) (edition : ℕ × ℕ) (octets : List ℕ) : Type 0 where
  pub certs : List Cert
  pub certificates : AreLogCertificates settings (first edition.1 log) certs
  pub octets_are : octets ≡ edition_octets edition.0 edition.1 certs

-- the octets are those of all these editions, one after the other
pub data AreAllPrices (settings : Settings) (log : History) : List (ℕ × ℕ) → List ℕ → Type 0 where
  none : AreAllPrices settings log [] []
  more : (edition : ℕ × ℕ) (editions : List (ℕ × ℕ)) (octets rest : List ℕ) → ArePricesOf settings log edition octets → AreAllPrices settings log editions rest → AreAllPrices settings log (edition ∷ editions) (octets ++ rest)

-- A prefix of them: the octets of whole ones, and then a prefix of the next one's. So of those that come later nothing is asked.
pub data IsPricesPrefix (settings : Settings) (log : History) : List (ℕ × ℕ) → List ℕ → Type 0 where
  ends : (editions : List (ℕ × ℕ)) → IsPricesPrefix settings log editions []
  within : (edition : ℕ × ℕ) (editions : List (ℕ × ℕ)) (octets rest : List ℕ) → ArePricesOf settings log edition (octets ++ rest) → IsPricesPrefix settings log (edition ∷ editions) octets
  whole : (edition : ℕ × ℕ) (editions : List (ℕ × ℕ)) (octets rest : List ℕ) → ArePricesOf settings log edition octets → IsPricesPrefix settings log editions rest → IsPricesPrefix settings log (edition ∷ editions) (octets ++ rest)
