-- How far both lists of lines were told: what came before, and what is left.
use Rattle.std.specs.Prelude.{◌≡◌, ◌<◌, ◌≤◌, ◌+◌, ◌||◌, Bool, true, false, nat_le, if◌then◌else◌, Option, Some, None, List, [], ◌∷◌, ◌++◌, map, length, take, drop}
use Rattle.std.specs.List.{AllByRecursion}
use Rattle.cat062_out.specs.Tracks.{TrackLine}
use Rattle.edition_form.specs.declared.lines.ShownLine.{ShownLine}
use Rattle.edition_form.specs.declared.telling.Told.{Told}
use Rattle.edition_form.specs.Numbered.{in_rising_number}
use Rattle.edition_form.specs.Lines.{are_of_one_track, ended_tracks, is_among, ended_line, line_now}

-- numbers that don't fall, and those that rise
abbrev pub DontFall : List ShownLine → Type 0
DontFall [] = Unit {0}
DontFall (s ∷ ss) = AllByRecursion (λ t. s.line.number ≤ t.line.number) ss × DontFall ss

abbrev pub Climb : List ShownLine → Type 0
Climb [] = Unit {0}
Climb (s ∷ ss) = AllByRecursion (λ t. s.line.number < t.line.number) ss × Climb ss

-- whether the track of the first of these lines is among the others
abbrev pub IsKnown : List ShownLine → List ShownLine → Bool → Type 0
IsKnown others [] known = known ≡ false
IsKnown others (s ∷ ss) known = known ≡ is_among others s

-- old lines o1 and lines n1 shown now came before, and o2 and n2 are left
pub record AreUnderway (o1 o2 n1 n2 : List ShownLine) (known : Bool) : Type 0 where
  pub old : DontFall (o1 ++ o2)
  pub now : Climb (n1 ++ n2)
  pub apart : AllByRecursion (λ n. AllByRecursion (λ o. n.line.number < o.line.number) o2) n1
  pub passed : AllByRecursion (λ o. AllByRecursion (λ n. o.line.number ≤ n.line.number) n2) o1
  pub is_known : IsKnown o1 n2 known

-- what is still to be told, of these that are left
abbrev pub lines_left : List ShownLine → List ShownLine → List ShownLine → List ShownLine → List TrackLine
lines_left old now o2 n2 = in_rising_number (λ l. l.number) (map ended_line (ended_tracks o2 now) ++ map (line_now old) n2)

-- the next old line comes before the next one that is shown now: of one number it does
abbrev pub old_first : List ShownLine → List ShownLine → Bool
old_first [] n2 = false
old_first (o ∷ o2) [] = true
old_first (o ∷ o2) (n ∷ n2) = nat_le o.line.number n.line.number

-- whether its track is that of the first of these lines
abbrev pub is_first : ShownLine → List ShownLine → Bool
is_first o [] = false
is_first o (n ∷ n2) = are_of_one_track o n

-- the last line of an old one, unless its track is the next one that is shown now
abbrev pub told_old : ShownLine → List ShownLine → Option TrackLine
told_old o n2 = if is_first o n2 then None else Some (ended_line o)

-- ---- by the indices of what is left

pub record IsUnderway (old now : List ShownLine) (t : Told) : Type 0 where
  pub old_within : t.old_count ≤ length old
  pub now_within : t.now_count ≤ length now
  pub are_told : AreUnderway (take t.old_count old) (drop t.old_count old) (take t.now_count now) (drop t.now_count now) t.known

abbrev pub left : List ShownLine → List ShownLine → Told → List TrackLine
left old now t = lines_left old now (drop t.old_count old) (drop t.now_count now)

-- after the next old line o, and after the next one that is shown now
abbrev pub past_old : Told → ShownLine → List ShownLine → Told
past_old t o n2 = record { old_count = t.old_count + 1; now_count = t.now_count; known = t.known || is_first o n2 }

abbrev pub past_now : Told → Told
past_now t = record { old_count = t.old_count; now_count = t.now_count + 1; known = false }
