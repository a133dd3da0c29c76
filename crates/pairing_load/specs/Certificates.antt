-- The certificates of a load.
use Rattle.std.specs.Prelude.{◌≡◌, ℕ, ◌+◌, ◌*◌, [], ◌∷◌}
use Rattle.rand_pcg.specs.Lcg.{Lcg}
use Rattle.assignment_dual.specs.Problems.{Proves}
use Rattle.price_form.specs.declared.certs.Cert.{Cert}
use Rattle.price_form.specs.declared.certs.PriceRecord.{PriceRecord}
use Rattle.price_form.specs.declared.certs.PriceRecord.TheVariants.{Edition, Cert as Certified}
use Rattle.pairing_load.specs.declared.problems.EdgeCosts.TheVariants.{Random}
use Rattle.pairing_load.specs.Problems.{full_problem}

-- Certificate number k: three plots and three tracks with all nine edges, of which the costs are drawn, and prices
-- that prove its pairing. Each certificate has a slot and plots of its own.
pub record IsLoadCert (k : ℕ) (g : Lcg) (c : Cert) : Type 0 where
  pub slot : c.slot ≡ k
  pub radar : c.radar ≡ 0
  pub plots : c.plots ≡ (3 * k) ∷ (3 * k + 1) ∷ (3 * k + 2) ∷ []
  pub tracks : c.tracks ≡ 0 ∷ 1 ∷ 2 ∷ []
  pub costs : c.costs ≡ full_problem Random 3 g
  pub proves : Proves c.costs c.pairing c.u c.v

-- the record is that certificate
abbrev pub IsLoadRecord : ℕ → Lcg → PriceRecord → Type 0
IsLoadRecord k g (Edition number cut) = ⊥
IsLoadRecord k g (Certified c at) = IsLoadCert k g c
