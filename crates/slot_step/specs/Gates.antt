-- The gates of a batch, and how they are found track by track.
use Rattle.std.specs.Prelude.{◌≡◌, ◌≢◌, ◌<◌, ◌≤◌, ◌+◌, ◌==◌, ◌&&◌, ◌↔◌, ◌⊎◌, ℕ, ℤ, List, length, Option, Some, IsSome, Contains, All, count_by}
use Rattle.assignment_dual.specs.Problems.{Edge}
use Rattle.slot_step.specs.Certificates.{IsAt}

-- some track gates some plot
pub record GateOne {T P : Type 0} (gate : T → P → Option ℕ) (ts : List T) (ps : List P) : Type 0 where
  pub track : T
  pub plot : P
  pub known : Contains ts track
  pub own : Contains ps plot
  pub gates : IsSome (gate track plot)

-- how many of these places are those of the plot at index i
abbrev pub times_placed : ℕ → List (ℤ × ℕ) → ℕ
times_placed i places = count_by (λ e. e.1 == i) places

-- how many of these edges are between the plot at index i and the track at index j
abbrev pub times_joined : ℕ → ℕ → List Edge → ℕ
times_joined i j es = count_by (λ e. (e.0 == i) && (e.1 == j)) es

-- places of plots, each once, among which are those of all plots that a track gates
pub record CoverGates {P : Type 0} (gate : P → Option ℕ) (ps : List P) (near : List (ℤ × ℕ)) : Type 0 where
  pub inside : All (λ e. e.1 < length ps) near
  pub all : (i : ℕ) (p : P) → IsAt ps i p → IsSome (gate p) → (x : ℤ) × Contains near (x, i)
  pub once : (i : ℕ) → times_placed i near ≤ 1

-- the track gates the plot at index i, which has one of these places, at this cost
pub record IsGateNear {P : Type 0} (gate : P → Option ℕ) (ps : List P) (near : List (ℤ × ℕ)) (i cost : ℕ) : Type 0 where
  pub plot : P
  pub plot_at : IsAt ps i plot
  pub x : ℤ
  pub place : Contains near (x, i)
  pub gate_is : gate plot ≡ Some cost

-- the edges after es are those of the track at index j for the plots at these places, one for each place at most
pub record AreAdded {P : Type 0} (gate : P → Option ℕ) (ps : List P) (near : List (ℤ × ℕ)) (j : ℕ) (es fs : List Edge) : Type 0 where
  pub edges_are : (i k cost : ℕ) → Contains fs (i, k, cost) ↔ (Contains es (i, k, cost) ⊎ ((k ≡ j) × IsGateNear gate ps near i cost))
  pub others : (i k : ℕ) → k ≢ j → times_joined i k fs ≤ times_joined i k es
  pub own : (i : ℕ) → times_joined i j fs ≤ times_joined i j es + times_placed i near
