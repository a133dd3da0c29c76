-- The certificate of a component whose plots and tracks are named by index, with its own problem solved.
use Rattle.std.specs.Prelude.{ℕ, ℤ, List, map}
use Rattle.std.specs.List.{AllZip}
use Rattle.assignment_dual.specs.Parts.{IsPartOf}
use Rattle.assignment_dual.specs.Problems.{Edge, Problem, IsProblem, IsSolvedBy}
use Rattle.cluster_split.specs.declared.splitting.Component.{Component}
use Rattle.slot_step.specs.Slots.{Ordered}
use Rattle.slot_step.specs.Certificates.{Certificate, plots, IsAt}

-- edges without their costs
abbrev pub edge_pairs : List Edge → List (ℕ × ℕ)
edge_pairs edges = map (λ (e : Edge). (e.0, e.1)) edges

-- these items stand at these indices
abbrev pub AreAt : {X : Type 0} → List X → List ℕ → List X → Type 0
AreAt xs indices ys = AllZip (IsAt xs) indices ys

-- of the plots and the tracks of a component of the batch's problem, with that part of the problem and its solution
pub record IsSolved {T P K : Type 0} (o : Ordered T P K) (ts : List T) (ps : List P) (whole : Problem) (part : Component) (c : Certificate P K) : Type 0 where
  pub plots_at : AreAt ps part.plots (plots c)
  pub births_at : AreAt (map o.birth ts) part.tracks c.births
  pub problem : IsProblem c.costs
  pub costs : IsPartOf whole part.plots part.tracks c.costs
  pub worth : ℤ
  pub solved : IsSolvedBy c.costs c.pairing c.u c.v worth
