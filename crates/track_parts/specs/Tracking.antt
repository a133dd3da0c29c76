-- The tracker's fold over plots without numbers, and the parts of its states.
use Rattle.std.specs.Prelude.{◌≡◌, ℕ, List, [], ◌∷◌, if◌then◌else◌, Bool, true, false}
use Rattle.std.specs.List.{AllByRecursion}
use Rattle.std.specs.Ordering.{is_lt}
use Rattle.std.specs.declared.cmp.Ordering.{Ordering}
use Rattle.trk_base.specs.declared.keys.Key.{Key}
use Rattle.trk_base.specs.Keys.{key_cmp}
use Rattle.plot_geometry.specs.Plots.{PlanePlot}
use Rattle.price_form.specs.Certificates.{IsCert}
use Rattle.track_life.specs.Tracks.{TrackState}
use Rattle.slot_step.specs.declared.certs.KeyedCert.{KeyedCert}
use Rattle.slot_step.specs.Slots.{IsGated}
use Rattle.slot_step.specs.Parts.{AreBeside}
use Rattle.slot_step.specs.Parts as tables
use Rattle.slot_step.specs.Tracker.{tracking, ordered, run_tracks}
use Rattle.slot_step.specs.Calls.{AreFromBefore}
use Rattle.slot_step.specs.Told.{AreTold}
use Rattle.span_clusters.specs.Parts.{picked_items}
use Rattle.track_parts.specs.Members.{Tracks}

abbrev pub slot_of_plot : PlanePlot → ℕ
slot_of_plot p = p.key.slot

abbrev pub key_of_plot : PlanePlot → Key
key_of_plot p = p.key

-- ---- the fold

-- the same life, with another table
abbrev pub with_table : Tracks → List TrackState → Tracks
with_table s ts = record { life = s.life; table = ts }

-- the tracks after slot n with these plots, without new numbers; without plots they expire
abbrev pub next : Tracks → ℕ → List PlanePlot → Tracks
next s n ps = with_table s (run_tracks s.life s.table n ps)

-- a certificate for each component of each batch of the slot's plots, in the order of radar and least plot
pub record AreCertified (s : Tracks) (n : ℕ) (ps : List PlanePlot) (certs : List KeyedCert) : Type 0 where
  pub told : AreTold s.life s.table n ps certs
  pub whole : AllByRecursion (λ c. IsCert c.cert) certs

-- the tracks are from before the slot
abbrev pub IsBefore : Tracks → ℕ → Type 0
IsBefore s n = AreFromBefore n s.table

-- ---- its parts

-- the tracks whose number passes the test, with the same life
abbrev pub picked : Tracks → List ℕ → (ℕ → Bool) → Tracks
picked s numbers f = with_table s (picked_items f numbers s.table)

-- the tracks of both, by birth
abbrev pub merged : Tracks → Tracks → Tracks
merged s t = with_table s (tables.merged (ordered s.life) s.table t.table)

-- they have one life and share no birth
pub record SharesNone (s t : Tracks) : Type 0 where
  pub life : s.life ≡ t.life
  pub tables : AreBeside (ordered s.life) s.table t.table

-- a track, as it stands at the start of the plot's batch, gates the plot
abbrev pub gates : Tracks → ℕ → List PlanePlot → PlanePlot → Type 0
gates s n own p = IsGated (tracking s.life) (ordered s.life) s.table n own p

-- x and then xs, with others before them as they come before x; rest is what becomes of xs and others
abbrev pub from_first : {X : Type 0} → (X → X → Ordering) → X → List X → (List X → List X) → List X → List X
from_first cmp x xs rest [] = x ∷ xs
from_first cmp x xs rest (y ∷ ys) = if is_lt (cmp x y) then x ∷ rest (y ∷ ys) else y ∷ from_first cmp x xs rest ys

-- two lists as one: of the two elements that stand first, the lesser one comes next
unfoldable pub woven_by : {X : Type 0} → (X → X → Ordering) → List X → List X → List X
woven_by cmp [] ys = ys
woven_by cmp (x ∷ xs) ys = from_first cmp x xs (λ zs. woven_by cmp xs zs) ys

-- whether the next of two lists woven is of the one list
abbrev pub takes_first : {X : Type 0} → (X → X → Ordering) → List X → List X → Bool
takes_first cmp xs [] = true
takes_first cmp [] (y ∷ ys) = false
takes_first cmp (x ∷ xs) (y ∷ ys) = is_lt (cmp x y)

-- the order of tables
abbrev pub by_birth : TrackState → TrackState → Ordering
by_birth t u = key_cmp t.birth u.birth

abbrev pub by_least : KeyedCert → KeyedCert → Ordering
by_least c d = key_cmp c.least d.least

-- the certificates of both, by radar and least plot
abbrev pub both_certs : List KeyedCert → List KeyedCert → List KeyedCert
both_certs a b = woven_by by_least a b
