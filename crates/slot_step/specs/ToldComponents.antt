-- The certificate of one component as plain data, and certificates of a batch put behind others.
use Rattle.std.specs.Prelude.{◌≡◌, ◌<◌, ◌^◌, ◌++◌, ℕ, ℤ, List, Option, None, Contains, length, get_or, map}
use Rattle.trk_base.specs.declared.keys.Key.{Key}
use Rattle.plot_geometry.specs.Plots.{PlanePlot}
use Rattle.assignment_dual.specs.Parts.{at_plots, IsPartOf}
use Rattle.assignment_dual.specs.Problems.{Problem, IsProblem, IsSolvedBy}
use Rattle.assignment_dual.specs.Renumbering.{renumbered}
use Rattle.cluster_split.specs.declared.splitting.Component.{Component}
use Rattle.track_life.specs.declared.settings.LifeSettings.{LifeSettings}
use Rattle.track_life.specs.Tracks.{TrackState}
use Rattle.slot_step.specs.Certificates.{Certificate, plots, AreCertificatesOf}
use Rattle.slot_step.specs.Components.{AreAt}
use Rattle.slot_step.specs.Tracker.{tracking, ordered}
use Rattle.slot_step.specs.Told.{told}
use Rattle.slot_step.specs.declared.certs.KeyedCert.{KeyedCert}

-- this tells a certificate of the plots and tracks at the component's indices, with this problem, pairing and prices
pub record IsToldOf (ts : List TrackState) (ps : List PlanePlot) (part : Component) (p : Problem) (xs : List (Option ℕ)) (us vs : List ℤ) (keyed : KeyedCert) : Type 0 where
  pub certificate : Certificate PlanePlot Key
  pub plots_at : AreAt ps part.plots (plots certificate)
  pub births_at : AreAt (map (λ t. t.birth) ts) part.tracks certificate.births
  pub costs : certificate.costs ≡ p
  pub pairing : certificate.pairing ≡ xs
  pub u : certificate.u ≡ us
  pub v : certificate.v ≡ vs
  pub is : keyed ≡ told certificate

-- The component, a part of the batch's problem, has this pairing, and this tells its certificate. Its
-- entries stand in the batch's pairing now, and the others are as they were.
pub record IsPairedComponent (ts : List TrackState) (ps : List PlanePlot) (whole : Problem) (part : Component) (keyed : KeyedCert) (before after : List (Option ℕ)) : Type 0 where
  pub costs : Problem
  pub pairing : List (Option ℕ)
  pub us : List ℤ
  pub vs : List ℤ
  pub worth : ℤ
  pub problem : IsProblem costs
  pub is_part : IsPartOf whole part.plots part.tracks costs
  pub few : length costs.edges < 2 ^ 32
  pub solved : IsSolvedBy costs pairing us vs worth
  pub told : IsToldOf ts ps part costs pairing us vs keyed
  pub count : length after ≡ length before
  pub own : at_plots None after part.plots ≡ renumbered part.tracks pairing
  pub others : (plot : ℕ) → (Contains part.plots plot → ⊥) → get_or after plot None ≡ get_or before plot None

-- the certificates of the batch ps, which finds the tracks ts, were put behind those before
pub record AreToldBehind (life : LifeSettings) (ts : List TrackState) (ps : List PlanePlot) (before after : List KeyedCert) : Type 0 where
  pub certificates : List (Certificate PlanePlot Key)
  pub are : AreCertificatesOf (tracking life) (ordered life) ts ps certificates
  pub all : after ≡ before ++ map told certificates
