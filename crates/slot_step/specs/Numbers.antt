-- The step of a slot with numbers: after the run each track has the number that it had before, and
-- then numbers are given. A run reads no number.
use Rattle.std.specs.Prelude.{◌≡◌, ℕ, List, [], ◌∷◌, if◌then◌else◌, map, Option, None}
use Rattle.std.specs.Ordering.{is_eq}
use Rattle.slot_step.specs.Batches.{Tracking}
use Rattle.slot_step.specs.Slots.{Ordered, run}

-- the numbers of tracks, and how a table's tracks without one are given theirs
pub record Numbering (T : Type 0) : Type 0 where
  pub number : T → Option ℕ
  pub with_number : Option ℕ → T → T
  pub assigned : List T → List T

-- the number of the track of this birth, if there is one that has a number
abbrev pub number_of : {T P K : Type 0} → Ordered T P K → Numbering T → List T → K → Option ℕ
number_of o m [] birth = None
number_of o m (t ∷ ts) birth = if is_eq (o.cmp (o.birth t) birth) then m.number t else number_of o m ts birth

-- each track with the number that the track of its birth has in the table before
abbrev pub renumbered_from : {T P K : Type 0} → Ordered T P K → Numbering T → List T → List T → List T
renumbered_from o m before ts = map (λ t. m.with_number (number_of o m before (o.birth t)) t) ts

-- and then each confirmed track without a number is given one
abbrev pub numbered : {T P K : Type 0} → Ordered T P K → Numbering T → List T → List T → List T
numbered o m before ts = m.assigned (renumbered_from o m before ts)

abbrev pub slot_step : {T P K : Type 0} → Tracking T P → Ordered T P K → Numbering T → List T → ℕ → List P → List T
slot_step k o m ts n ps = numbered o m ts (run k o ts n ps)

-- a table without its numbers
abbrev pub without_numbers : {T : Type 0} → Numbering T → List T → List T
without_numbers m ts = map (m.with_number None) ts

-- what is asked of numbers: gates, updates, expiry and births don't depend on them, an update keeps
-- a track's number, a track begins without one, and giving numbers changes nothing else
pub record NumberLaws {T P K : Type 0} (k : Tracking T P) (o : Ordered T P K) (m : Numbering T) : Type 0 where
  pub again : (x y : Option ℕ) (t : T) → m.with_number y (m.with_number x t) ≡ m.with_number y t
  pub own : (t : T) → m.with_number (m.number t) t ≡ t
  pub birth : (x : Option ℕ) (t : T) → o.birth (m.with_number x t) ≡ o.birth t
  pub gate : (x : Option ℕ) (t : T) (p : P) → k.gate (m.with_number x t) p ≡ k.gate t p
  pub update : (x : Option ℕ) (t : T) (p : P) → k.update (m.with_number x t) p ≡ m.with_number x (k.update t p)
  pub update_keeps : (t : T) (p : P) → m.number (k.update t p) ≡ m.number t
  pub begin : (p : P) → m.number (k.begin p) ≡ None
  pub kept : (x : Option ℕ) (n : ℕ) (t : T) → o.kept n (m.with_number x t) ≡ o.kept n t
  pub assigned : (ts : List T) → without_numbers m (m.assigned ts) ≡ without_numbers m ts
