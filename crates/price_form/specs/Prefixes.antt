-- Prefixes of a price file, which go on after their end, and what is known of the file's fault there.
-- A number is known where all its octets are there. What a number that isn't whole may become is left open.
use Rattle.std.specs.Prelude.{◌≡◌, ◌≢◌, ◌<◌, ◌≤◌, ◌+◌, ◌-◌, ◌*◌, ◌⊎◌, ◌==◌, if◌then◌else◌, ℕ, List, ◌++◌, length, slice_index}
use Rattle.trk_base.specs.Limits.{gate_cost}
use Rattle.assignment_dual.specs.Problems.{EdgeBefore}
use Rattle.price_form.specs.declared.certs.PriceRecord.{PriceRecord}
use Rattle.price_form.specs.Octets.{none_number, half_at, short_at, edge_numbers_at}
use Rattle.price_form.specs.Reading.{plots_at, tracks_at, edges_at, cert_end}
use Rattle.price_form.specs.Files.{magic, ArePrices, StopsAt}

-- where the edges of the certificate at p begin
abbrev pub edges_offset : List ℕ → ℕ → ℕ
edges_offset xs p = p + 22 + plots_at xs p * 8 + tracks_at xs p * 8

-- and where its paired tracks do
abbrev pub pairing_offset : List ℕ → ℕ → ℕ
pairing_offset xs p = edges_offset xs p + edges_at xs p * 10

-- The edge at q has a number that isn't of n plots, of k tracks, or of a cost.
abbrev pub IsOutOfRange : List ℕ → ℕ → ℕ → ℕ → Type 0
IsOutOfRange xs n k q = ((q + 4 ≤ length xs) × (n ≤ half_at xs q)) ⊎ (((q + 8 ≤ length xs) × (k ≤ half_at xs (q + 4))) ⊎ ((q + 10 ≤ length xs) × (gate_cost < short_at xs (q + 8))))

-- Its plot and track aren't after those of the edge before it.
abbrev pub IsOutOfOrder : List ℕ → ℕ → Type 0
IsOutOfOrder xs q = (q + 8 ≤ length xs) × (EdgeBefore (edge_numbers_at xs (q - 10)) (edge_numbers_at xs q) → ⊥)

-- the edge i of those from a place on
abbrev pub IsWrongEdge : List ℕ → ℕ → ℕ → ℕ → ℕ → Type 0
IsWrongEdge xs n k from i = IsOutOfRange xs n k (from + i * 10) ⊎ ((0 < i) × IsOutOfOrder xs (from + i * 10))

-- one of m edges
pub record HasWrongEdge (xs : List ℕ) (n k m from : ℕ) : Type 0 where
  pub i : ℕ
  pub counted : i < m
  pub wrong : IsWrongEdge xs n k from i

-- The paired track at q is neither none nor one of k tracks.
abbrev pub IsWrongEntry : List ℕ → ℕ → ℕ → Type 0
IsWrongEntry xs k q = (q + 4 ≤ length xs) × (half_at xs q ≢ none_number) × (k ≤ half_at xs q)

-- one of those of n plots, from a place on
pub record HasWrongEntry (xs : List ℕ) (n k from : ℕ) : Type 0 where
  pub i : ℕ
  pub counted : i < n
  pub wrong : IsWrongEntry xs k (from + i * 4)

-- The certificate that is begun at p has a number that no certificate has there.
pub data HasWrongNumber (xs : List ℕ) (p : ℕ) : Type 0 where
  no_plots : p + 14 ≤ length xs → plots_at xs p ≡ 0 → HasWrongNumber xs p
  many_tracks : p + 18 ≤ length xs → tracks_at xs p ≡ none_number → HasWrongNumber xs p
  in_edges : HasWrongEdge xs (plots_at xs p) (tracks_at xs p) (edges_at xs p) (edges_offset xs p) → HasWrongNumber xs p
  in_pairing : HasWrongEntry xs (plots_at xs p) (tracks_at xs p) (pairing_offset xs p) → HasWrongNumber xs p

-- The octets from p on begin with another octet than a record, or with a certificate that has a wrong number.
abbrev pub IsWrong : List ℕ → ℕ → Type 0
IsWrong xs p = ((slice_index xs p ≢ 1) × (slice_index xs p ≢ 2)) ⊎ ((slice_index xs p ≡ 2) × HasWrongNumber xs p)

-- where the record that is begun at p ends, by its first octet and its counts
abbrev pub record_end : List ℕ → ℕ → ℕ
record_end xs p = if slice_index xs p == 1 then p + 17 else cert_end xs p

-- The fault that is told of a prefix: where it is known to be wrong, or else its end.
pub data IsPrefixFault (prefix : List ℕ) (offset : ℕ) : Type 0 where
  begins_otherwise : ((more rest : List ℕ) → prefix ++ more ≢ magic ++ rest) → offset ≡ 0 → IsPrefixFault prefix offset
  in_magic : (more : List ℕ) → prefix ++ more ≡ magic → offset ≡ length prefix → IsPrefixFault prefix offset
  is_whole : (records : List PriceRecord) → ArePrices prefix records → offset ≡ length prefix → IsPrefixFault prefix offset
  is_wrong : StopsAt prefix offset → IsWrong prefix offset → IsPrefixFault prefix offset
  is_truncated : (place : ℕ) → StopsAt prefix place → (IsWrong prefix place → ⊥) → offset ≡ length prefix → IsPrefixFault prefix offset

pub record HasPrefixFault (prefix : List ℕ) : Type 0 where
  pub offset : ℕ
  pub fault : IsPrefixFault prefix offset
