-- Certificates of a load are certificates.
use Rattle.std.proofs.Common.{◌≡◌, ◌∙◌, ap, sym, refl, subst, ℕ, ◌+◌, ◌*◌, ◌<◌, ◌^◌, List, [], ◌∷◌, Option, length, arith}
use Rattle.std.specs.Prelude.{FitsSigned, IfSome}
use Rattle.std.specs.Int.{w64}
use Rattle.std.specs.List.{All}
use Rattle.std.proofs.lemmas.List.FromFn.{length-map-range_with_len}
use Rattle.rand_pcg.specs.Lcg.{Lcg}
use Rattle.assignment_dual.specs.Pairings.{Row, AllGate}
use Rattle.assignment_dual.specs.Problems.{Problem, IsProblem, row_of, rows_of}
use Rattle.price_form.specs.declared.certs.Cert.{Cert}
use Rattle.price_form.specs.Certificates.{IsCert}
use Rattle.price_form.specs.Files.{IsInRange}
use Rattle.price_form.specs.Encoding.{cert_octets}
use Rattle.pairing_load.specs.declared.problems.EdgeCosts.TheVariants.{Random}
use Rattle.pairing_load.specs.Problems.{full_edge, full_problem}
use Rattle.pairing_load.specs.Certificates.{IsLoadCert}
use Rattle.pairing_load.specs.PriceFiles.{RecordMade}
use Rattle.pairing_load.proofs.Bounded.{all_three}
use Rattle.pairing_load.proofs.Full.{full_is}

gates_count : (rows : List Row) (xs : List (Option ℕ)) → AllGate rows xs → length xs ≡ length rows
gates_count [] [] h = refl
gates_count [] (x ∷ xs) h = absurd h
gates_count (row ∷ rows) [] h = absurd h
gates_count (row ∷ rows) (x ∷ xs) h = omega (arith, gates_count rows xs h.1)

pub cert_formed : (k : ℕ) (g : Lcg) (c : Cert) → IsLoadCert k g c → All (λ x. IfSome x (λ t. t < c.costs.tracks)) c.pairing → IsCert c
unfolding full_problem
cert_formed k g c h named =
    let plots : c.costs.plots ≡ 3 = ap (λ (p : Problem). p.plots) h.costs in
    let tracks : c.costs.tracks ≡ 3 = ap (λ (p : Problem). p.tracks) h.costs in
    let edges : length c.costs.edges ≡ 9 = ap (λ (p : Problem). length p.edges) h.costs ∙ length-map-range_with_len (full_edge Random 3 g) 0 9 in
    record {
      some_plot = omega (arith, plots);
      few_tracks = omega (arith, tracks);
      few_edges = omega (arith, edges);
      plots = ap length h.plots ∙ sym plots;
      tracks = ap length h.tracks ∙ sym tracks;
      pairing = gates_count (rows_of c.costs) c.pairing h.proves.pairing.gates ∙ length-map-range_with_len (row_of c.costs.edges) 0 c.costs.plots;
      named = named;
      u = h.proves.plot_prices;
      v = h.proves.track_prices;
    }

pub cert_fits : (k : ℕ) (g : Lcg) (c : Cert) → k < 2 ^ 32 → IsLoadCert k g c → All (FitsSigned w64) c.u → All (FitsSigned w64) c.v → IsInRange c
unfolding full_problem
cert_fits k g c lt h us vs =
    let plots : c.costs.plots ≡ 3 = ap (λ (p : Problem). p.plots) h.costs in
    record {
      slot = omega (arith, lt, h.slot);
      radar = omega (arith, h.radar);
      plots = omega (arith, plots);
      plot_arrivals = subst (All (λ a. a < 2 ^ 64)) (sym h.plots) (all_three (λ a. a < 2 ^ 64) (3 * k) (3 * k + 1) (3 * k + 2) (omega (arith, lt)) (omega (arith, lt)) (omega (arith, lt)));
      track_arrivals = subst (All (λ a. a < 2 ^ 64)) (sym h.tracks) (all_three (λ a. a < 2 ^ 64) 0 1 2 (omega arith) (omega arith) (omega arith));
      u = us;
      v = vs;
    }

pub record_made : (k : ℕ) (g : Lcg) (c : Cert) (octets : List ℕ) → k < 2 ^ 32 → IsLoadCert k g c → All (λ x. IfSome x (λ t. t < c.costs.tracks)) c.pairing → All (FitsSigned w64) c.u → All (FitsSigned w64) c.v → octets ≡ cert_octets c → RecordMade k g octets
record_made k g c octets lt h named us vs e = record {
  cert = c;
  is = h;
  formed = (cert_formed k g c h named, subst IsProblem (sym h.costs) (full_is Random 3 g (omega arith)), cert_fits k g c lt h us vs);
  encoded = e;
}
