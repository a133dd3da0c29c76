-- The lines of an edition's tracks (ASTERIX Part 9, category 062): those that are shown, and those that are shown no more.
use Rattle.std.specs.Prelude.{ℕ, ◌-◌, ◌/◌, ◌≤◌, min, nat_lt, Bool, true, false, not, ◌==◌, ◌&&◌, List, map, ◌++◌, filter, ℤ, pos, unsigned_abs}
use Rattle.std.specs.Option.{option_map}
use Rattle.std.specs.Ordering.{is_eq, nat_cmp, ordering_then}
use Rattle.std.specs.declared.cmp.Ordering.{Ordering}
use Rattle.std.specs.List.{list_any}
use Rattle.std.specs.List.Sorted.{IsStrictlySortedBy}
use Rattle.trk_base.specs.Keys.{key_cmp}
use Rattle.trk_base.specs.Numbers.{round, isqrt}
use Rattle.trk_base.specs.Limits.{plane_bound}
use Rattle.fixed_imm.specs.Constants.{velocity_bound}
use Rattle.fixed_imm.specs.Bounds.{IsCombinedVariance, time_step}
use Rattle.fixed_imm.specs.Filter.{combined}
use Rattle.track_life.specs.Tracks.{TrackState}
use Rattle.cat062_out.specs.Tracks.{TrackLine}
use Rattle.edition_form.specs.declared.lines.ShownLine.{ShownLine}
use Rattle.edition_form.specs.Numbered.{in_rising_number}
use Rattle.edition_form.specs.Pictures.{number_of}

-- ---- the units of CAT062

-- a length in 1/64 m, in 1/2 m (I062/100)
abbrev pub half_metres : ℤ → ℤ
half_metres length = round length (pos 32)

-- a velocity in 1/1024 m/s, in 1/4 m/s (I062/185)
abbrev pub quarter_metres : ℤ → ℤ
quarter_metres velocity = round velocity (pos 256)

-- the standard deviation of a variance in (1/64 m)², in 1/2 m, at most 65,535 (I062/500)
abbrev pub deviation : ℤ → ℕ
deviation variance = min (unsigned_abs (half_metres (pos (isqrt (unsigned_abs variance))))) 65535

-- the time since a moment, in 1/4 s, at most 255 (I062/290)
abbrev pub age : ℕ → ℕ → ℕ
age time moment = min ((time - moment) / 32) 255

-- a track coasts if its last plot is more than 12 s old (I062/080 CST)
abbrev pub is_coasting : ℕ → TrackState → Bool
is_coasting time t = nat_lt 1536 (time - t.aim.time)

-- ---- the line of a track that is shown

-- with these positions, velocities and variances at that time
abbrev pub line_with : ℕ → TrackState → ℤ × ℤ × ℤ → ℤ × ℤ × ℤ → TrackLine
line_with time t x y = record {
  number = number_of t;
  x = half_metres x.0;
  y = half_metres y.0;
  vx = quarter_metres x.1;
  vy = quarter_metres y.1;
  code = t.aim.code;
  address = t.aim.address;
  level = t.level;
  psr = option_map (age time) t.psr;
  ssr = option_map (age time) t.ssr;
  mds = option_map (age time) t.mds;
  mono = t.mono;
  spi = t.spi;
  coast = is_coasting time t;
  first = false;
  ended = false;
  sx = deviation x.2;
  sy = deviation y.2;
}

-- the position, the velocity and the variance of an axis are in the filter's bounds
pub record IsCombined (a : ℤ × ℤ × ℤ) : Type 0 where
  pub position : unsigned_abs a.0 ≤ plane_bound
  pub velocity : unsigned_abs a.1 ≤ velocity_bound
  pub variance : IsCombinedVariance a.2

-- as the filter has it at that time
unfoldable pub line_of : ℕ → TrackState → TrackLine
line_of time t = line_with time t (combined t.aim.x (time_step t.aim.time time)) (combined t.aim.y (time_step t.aim.time time))

-- with the track's birth, for a number may be given to another track later
abbrev pub shown_line : ℕ → TrackState → ShownLine
shown_line time t = record { birth = t.birth; line = line_of time t }

abbrev pub lines_of : ℕ → List TrackState → List ShownLine
lines_of time tracks = map (shown_line time) tracks

-- ---- the lines that are told, against those shown at the cut before

-- of one track: the number and the birth are the same
abbrev pub are_of_one_track : ShownLine → ShownLine → Bool
are_of_one_track a b = (a.line.number == b.line.number) && is_eq (key_cmp a.birth b.birth)

abbrev pub is_among : List ShownLine → ShownLine → Bool
is_among lines s = list_any (are_of_one_track s) lines

-- the line of a track that is shown now, with TSB (I062/080) if it wasn't shown before
abbrev pub line_now : List ShownLine → ShownLine → TrackLine
line_now old s = record s.line { first = not (is_among old s); ended = false }

-- the last line of a track that is shown no more, with TSE (I062/080)
abbrev pub ended_line : ShownLine → TrackLine
ended_line s = record s.line { first = false; ended = true }

-- the tracks that were shown before and aren't now
abbrev pub ended_tracks : List ShownLine → List ShownLine → List ShownLine
ended_tracks old now = filter (λ s. not (is_among now s)) old

-- all lines that are told, in rising number; of one number the one that ended comes first
abbrev pub told_lines : List ShownLine → List ShownLine → List TrackLine
told_lines old now = in_rising_number (λ l. l.number) (map ended_line (ended_tracks old now) ++ map (line_now old) now)

-- ---- what is asked of lines that were shown before

-- by number, then by birth
abbrev pub shown_cmp : ShownLine → ShownLine → Ordering
shown_cmp a b = ordering_then (nat_cmp a.line.number b.line.number) (key_cmp a.birth b.birth)

abbrev pub RiseByNumber : List ShownLine → Type 0
RiseByNumber lines = IsStrictlySortedBy shown_cmp lines
