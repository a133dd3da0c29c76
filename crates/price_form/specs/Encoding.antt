-- The records of a price file, as octets.
use Rattle.std.specs.Prelude.{ℕ, ℤ, List, ◌∷◌, ◌++◌, Option, length}
use Rattle.std.specs.List.{flat_map}
use Rattle.std.specs.Int.{w32, w64, to_be_bytes}
use Rattle.assignment_dual.specs.Problems.{Edge}
use Rattle.price_form.specs.declared.certs.Cert.{Cert}
use Rattle.price_form.specs.declared.certs.PriceRecord.{PriceRecord}
use Rattle.price_form.specs.declared.certs.PriceRecord.TheVariants.{Edition, Cert as Certified}
use Rattle.price_form.specs.Octets.{word_octets, price_octets, edge_octets, entry_octets}

-- which batch a certificate is of, and how many plots and tracks it has
abbrev pub head_octets : ℕ → ℕ → ℕ → ℕ → List ℕ
head_octets slot radar plots tracks = 2 ∷ (to_be_bytes w64 slot ++ (radar ∷ (to_be_bytes w32 plots ++ to_be_bytes w32 tracks)))

-- which plots and tracks it has, and the gates between them
abbrev pub gate_octets : List ℕ → List ℕ → List Edge → List ℕ
gate_octets plots tracks edges = flat_map word_octets plots ++ (flat_map word_octets tracks ++ (to_be_bytes w32 (length edges) ++ flat_map edge_octets edges))

-- the pairing, and the prices
abbrev pub proof_octets : List (Option ℕ) → List ℤ → List ℤ → List ℕ
proof_octets pairing u v = flat_map entry_octets pairing ++ (flat_map price_octets u ++ flat_map price_octets v)

unfoldable pub cert_octets : Cert → List ℕ
cert_octets c = head_octets c.slot c.radar c.costs.plots c.costs.tracks ++ (gate_octets c.plots c.tracks c.costs.edges ++ proof_octets c.pairing c.u c.v)

abbrev pub price_record_octets : PriceRecord → List ℕ
price_record_octets (Edition number cut) = 1 ∷ (word_octets number ++ word_octets cut)
price_record_octets (Certified c at) = cert_octets c
