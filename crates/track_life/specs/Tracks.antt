-- What a track is seen as in contracts, and how it begins and goes on with a plot (Bar-Shalom, Li, Kirubarajan, "Estimation
-- with Applications to Tracking and Navigation", 1.4: track formation and maintenance).
use Rattle.std.specs.Prelude.{◌≡◌, ℕ, ◌+◌, ◌-◌, ◌^◌, min, ◌==◌, nat_le, Bool, true, ◌&&◌, ◌||◌, if◌then◌else◌, Option, Some, None, ℤ, is_some}
use Rattle.std.specs.Option.{option_or}
use Rattle.trk_base.specs.declared.keys.Key.{Key}
use Rattle.plot_geometry.specs.Plots.{PlanePlot}
use Rattle.fixed_imm.specs.Aims.{AimState}
use Rattle.fixed_imm.specs.Bounds.{time_step}
use Rattle.fixed_imm.specs.Filter.{started, updated}

-- birth is the key of the first plot; psr, ssr and mds are the times of the last plots of these kinds
pub record TrackState : Type 0 where
  pub birth : Key
  pub aim : AimState
  pub level : Option ℤ
  pub psr : Option ℕ
  pub ssr : Option ℕ
  pub mds : Option ℕ
  pub radar : ℕ
  pub mono : Bool
  pub spi : Bool
  pub plots : ℕ
  pub confirmed : Bool
  pub number : Option ℕ

-- some radar detected it
pub record IsTrack (t : TrackState) : Type 0 where
  pub detected : (is_some t.psr || is_some t.ssr || is_some t.mds) ≡ true

-- The kinds of I048/020 TYP: 1 is a primary plot, 2 a secondary one and 3 both; 4 and 5 are of Mode S, 6 and 7 of Mode S and primary
abbrev pub is_primary : ℕ → Bool
is_primary kind = kind == 1 || kind == 3 || kind == 6 || kind == 7

abbrev pub is_secondary : ℕ → Bool
is_secondary kind = kind == 2 || kind == 3

abbrev pub is_mode_s : ℕ → Bool
is_mode_s kind = nat_le 4 kind && nat_le kind 7

-- the time of the last plot of a kind
abbrev pub last_seen : Bool → ℕ → Option ℕ → Option ℕ
last_seen now time before = if now then Some time else before

-- where a track is after its first plot
abbrev pub first_aim : PlanePlot → AimState
first_aim p = record { x = started p.x p.rx; y = started p.y p.ry; time = p.key.time; address = p.address; code = p.code }

-- a track of a first plot, where a track is confirmed with this many plots
unfoldable pub begun : ℕ → PlanePlot → TrackState
begun hits p = record {
  birth = p.key;
  aim = first_aim p;
  level = p.level;
  psr = last_seen (is_primary p.kind) p.key.time None;
  ssr = last_seen (is_secondary p.kind) p.key.time None;
  mds = last_seen (is_mode_s p.kind) p.key.time None;
  radar = p.key.radar;
  mono = true;
  spi = p.spi;
  plots = 1;
  confirmed = nat_le hits 1;
  number = None;
}

-- the number of plots stands still at 2 ^ 32 - 1
abbrev pub more_plots : ℕ → ℕ
more_plots n = min (n + 1) (2 ^ 32 - 1)

-- where it is after a further plot: what that tells holds, or else what was told before
abbrev pub aim_after : AimState → PlanePlot → AimState
aim_after a p =
    let d = time_step a.time p.key.time in
    record { x = updated a.x d p.x p.rx; y = updated a.y d p.y p.ry; time = p.key.time; address = option_or p.address a.address; code = option_or p.code a.code }

-- a track that a plot belongs to
unfoldable pub continued : ℕ → TrackState → PlanePlot → TrackState
continued hits t p = record {
  birth = t.birth;
  aim = aim_after t.aim p;
  level = option_or p.level t.level;
  psr = last_seen (is_primary p.kind) p.key.time t.psr;
  ssr = last_seen (is_secondary p.kind) p.key.time t.ssr;
  mds = last_seen (is_mode_s p.kind) p.key.time t.mds;
  radar = t.radar;
  mono = t.mono && p.key.radar == t.radar;
  spi = p.spi;
  plots = more_plots t.plots;
  confirmed = t.confirmed || nat_le hits (more_plots t.plots);
  number = t.number;
}
