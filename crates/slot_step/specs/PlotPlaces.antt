-- What the plots of a batch are found by: their addresses, their places to the east, and their times.
use Rattle.std.specs.Prelude.{◌≡◌, ◌≢◌, ◌<◌, ◌≤◌, ◌%◌, ◌++◌, ℕ, ℤ, ◌≤ℤ◌, ◌<ℤ◌, List, get_or, length, Option, Some, Bool, true, false, Contains, All}
use Rattle.std.specs.List.{AllByRecursion}
use Rattle.plot_geometry.specs.Plots.{PlanePlot}
use Rattle.fixed_imm.specs.Aims.{AimState}
use Rattle.gating.specs.Coarse.{IsIn}
use Rattle.gating.specs.Gating.{is_another}
use Rattle.gating.specs.declared.coarse.CoarseGate.{CoarseGate}
use Rattle.slot_step.specs.Certificates.{IsAt}
use Rattle.slot_step.specs.Gates.{times_placed}

-- the plot has an address, which is another one
pub record HasOther (address : ℕ) (p : PlanePlot) : Type 0 where
  pub own : ℕ
  pub told : p.address ≡ Some own
  pub other : own ≢ address

-- a mark for each remainder of an address; where that of an address isn't set, all plots have others
pub record AreMarked (ps : List PlanePlot) (marks : List Bool) : Type 0 where
  pub count : length marks ≡ 4096
  pub others : (address : ℕ) → get_or marks (address % 4096) false ≡ false → (i : ℕ) (p : PlanePlot) → IsAt ps i p → HasOther address p

-- there is an address, and its mark isn't set
pub record IsUnmarked (marks : List Bool) (address : Option ℕ) : Type 0 where
  pub own : ℕ
  pub told : address ≡ Some own
  pub unmarked : get_or marks (own % 4096) false ≡ false

-- where the plot at an index is to the east
pub record IsPlace (ps : List PlanePlot) (e : ℤ × ℕ) : Type 0 where
  pub plot : PlanePlot
  pub plot_at : IsAt ps e.1 plot
  pub x_is : plot.x ≡ e.0

-- from west to east
abbrev pub RiseEast : List (ℤ × ℕ) → Type 0
RiseEast places = (i j : ℕ) (d : ℤ × ℕ) → i ≤ j → j < length places → (get_or places i d).0 ≤ℤ (get_or places j d).0

-- where all plots are to the east, each once
pub record ArePlaces (ps : List PlanePlot) (places : List (ℤ × ℕ)) : Type 0 where
  pub rising : RiseEast places
  pub at : (i : ℕ) (p : PlanePlot) → IsAt ps i p → Contains places (p.x, i)
  pub of : (e : ℤ × ℕ) → Contains places e → IsPlace ps e
  pub once : (i : ℕ) → times_placed i places ≤ 1

-- those of the places that aren't to the west of one line, nor to the east of another
pub record AreBetween (west east : ℤ) (places near : List (ℤ × ℕ)) : Type 0 where
  pub before : List (ℤ × ℕ)
  pub after : List (ℤ × ℕ)
  pub all : places ≡ before ++ (near ++ after)
  pub west_of : AllByRecursion (λ e. e.0 <ℤ west) before
  pub east_of : AllByRecursion (λ e. east <ℤ e.0) after

-- the least and the greatest time of the plots
pub record AreTimes (ps : List PlanePlot) (times : ℕ × ℕ) : Type 0 where
  pub earliest : (p : PlanePlot) × Contains ps p × (p.key.time ≡ times.0)
  pub latest : (p : PlanePlot) × Contains ps p × (p.key.time ≡ times.1)
  pub each : All (λ p. (times.0 ≤ p.key.time) × (p.key.time ≤ times.1)) ps

-- which of the plots at these places lie in the rectangle are of another aircraft
abbrev pub AreOthers : AimState → CoarseGate → List PlanePlot → List (ℤ × ℕ) → Type 0
AreOthers a g ps near = All (λ e. (p : PlanePlot) → IsAt ps e.1 p → IsIn g p → is_another a.address a.code p ≡ true) near
