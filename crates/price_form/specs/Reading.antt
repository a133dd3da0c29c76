-- What stands in octets at a place, and the certificate that is read there.
use Rattle.std.specs.Prelude.{◌≡◌, ◌<◌, ◌≤◌, ℕ, ◌+◌, ◌*◌, List, [], ◌∷◌, length, slice_index, All, ⊤}
use Rattle.assignment_dual.specs.Problems.{IsProblem}
use Rattle.price_form.specs.declared.certs.Cert.{Cert}
use Rattle.price_form.specs.declared.certs.PriceRecord.{PriceRecord}
use Rattle.price_form.specs.declared.certs.PriceRecord.TheVariants.{Edition, Cert as Certified}
use Rattle.price_form.specs.declared.reading.Counts.{Counts}
use Rattle.price_form.specs.Certificates.{IsCert}
use Rattle.price_form.specs.Octets.{half_at, word_at, price_number_at, edge_numbers_at, entry_number_at, many_at}
use Rattle.price_form.specs.Encoding.{cert_octets, price_record_octets}
use Rattle.price_form.specs.Files.{ArePrices, IsInRange, IsRecord, StandsAt}

-- the piece stands in the octets from place p on
pub record Stands (xs : List ℕ) (p : ℕ) (piece : List ℕ) : Type 0 where
  pub inside : p + length piece ≤ length xs
  pub same : (k : ℕ) → k < length piece → slice_index xs (p + k) ≡ slice_index piece k

-- how many plots, tracks and edges the certificate at p tells
abbrev pub plots_at : List ℕ → ℕ → ℕ
plots_at xs p = half_at xs (p + 10)

abbrev pub tracks_at : List ℕ → ℕ → ℕ
tracks_at xs p = half_at xs (p + 14)

abbrev pub edges_at : List ℕ → ℕ → ℕ
edges_at xs p = half_at xs (p + 18 + plots_at xs p * 8 + tracks_at xs p * 8)

-- where a certificate of these counts ends that begins at p
abbrev pub end_of : ℕ → ℕ → ℕ → ℕ → ℕ
end_of n k m p = p + 22 + n * 20 + k * 16 + m * 10

abbrev pub cert_end : List ℕ → ℕ → ℕ
cert_end xs p = end_of (plots_at xs p) (tracks_at xs p) (edges_at xs p) p

abbrev pub cert_of : List ℕ → ℕ → ℕ → ℕ → ℕ → Cert
cert_of xs p n k m = record {
  slot = word_at xs (p + 1);
  radar = slice_index xs (p + 9);
  plots = many_at word_at 8 xs (p + 18) n;
  tracks = many_at word_at 8 xs (p + 18 + n * 8) k;
  costs = record { plots = n; tracks = k; edges = many_at edge_numbers_at 10 xs (p + 22 + n * 8 + k * 8) m };
  pairing = many_at entry_number_at 4 xs (p + 22 + n * 8 + k * 8 + m * 10) n;
  u = many_at price_number_at 8 xs (p + 22 + n * 8 + k * 8 + m * 10 + n * 4) n;
  v = many_at price_number_at 8 xs (p + 22 + n * 8 + k * 8 + m * 10 + n * 4 + n * 8) k;
}

-- the certificate whose numbers stand at p
unfoldable pub cert_read : List ℕ → ℕ → Cert
cert_read xs p = cert_of xs p (plots_at xs p) (tracks_at xs p) (edges_at xs p)

-- the counts of the certificate at p, whose octets are all there
pub record HasCounts (xs : List ℕ) (p : ℕ) (c : Counts) : Type 0 where
  pub inside : cert_end xs p ≤ length xs
  pub plots : c.plots ≡ plots_at xs p
  pub tracks : c.tracks ≡ tracks_at xs p
  pub edges : c.edges ≡ edges_at xs p
  pub some_plot : 1 ≤ plots_at xs p
  pub few_tracks : tracks_at xs p < 4294967295

-- the octets at p are those of a certificate, but for the first
pub record ReadsCert (xs : List ℕ) (p : ℕ) (c : Cert) (end : ℕ) : Type 0 where
  pub value : c ≡ cert_read xs p
  pub end' : end ≡ cert_end xs p
  pub inside : cert_end xs p ≤ length xs
  pub formed : IsCert c
  pub problem : IsProblem c.costs

-- a record stands at p, up to the end
pub record ReadsRecord (xs : List ℕ) (p : ℕ) (r : PriceRecord) (end : ℕ) : Type 0 where
  pub formed : IsRecord r
  pub stands : Stands xs p (price_record_octets r)
  pub at : StandsAt p r
  pub ends : end ≡ p + length (price_record_octets r)

-- no certificate stands at p
abbrev pub ReadsNone : List ℕ → ℕ → Type 0
ReadsNone xs p = cert_end xs p ≤ length xs → IsCert (cert_read xs p) → IsProblem (cert_read xs p).costs → ⊥

-- no record stands at p
abbrev pub NoRecord : List ℕ → ℕ → Type 0
NoRecord xs p = (r : PriceRecord) → IsRecord r → Stands xs p (price_record_octets r) → ⊥

-- the record of this certificate begins at p
pub record HasCert (xs : List ℕ) (p : ℕ) (c : Cert) : Type 0 where
  pub formed : IsCert c
  pub problem : IsProblem c.costs
  pub fits : IsInRange c
  pub stands : Stands xs p (cert_octets c)

-- the record of some certificate begins at p
pub record BeginsCert (xs : List ℕ) (p : ℕ) : Type 0 where
  pub cert : Cert
  pub has : HasCert xs p cert

-- a record stands at p, up to the end
pub record EndsRecord (xs : List ℕ) (p end : ℕ) : Type 0 where
  pub stands_there : PriceRecord
  pub reads : ReadsRecord xs p stands_there end

-- where the certificates among records begin
abbrev pub offsets_of : List PriceRecord → List ℕ
offsets_of [] = []
offsets_of (Edition number cut ∷ rs) = offsets_of rs
offsets_of (Certified c at ∷ rs) = at ∷ offsets_of rs

-- a certificate's record begins where it tells
abbrev pub IsThere : List ℕ → PriceRecord → Type 0
IsThere bytes (Edition number cut) = ⊤
IsThere bytes (Certified c at) = HasCert bytes at c

-- the octets are a price file, of which the certificates begin at these offsets
pub record AreOffsets (bytes : List ℕ) (offsets : List ℕ) : Type 0 where
  pub records : List PriceRecord
  pub file : ArePrices bytes records
  pub offsets_are : offsets ≡ offsets_of records
  pub there : All (IsThere bytes) records
  pub begins : All (BeginsCert bytes) offsets
