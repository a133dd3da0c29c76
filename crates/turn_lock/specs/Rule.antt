-- The rule of the lock: what holds of the words, of the slot and of all seats between any two steps.
-- docs/CONCURRENCY.md has the same list in plain words.
use Rattle.std.specs.Prelude.{◌≡◌, ◌⊎◌, ℕ, ◌+◌, ◌<◌, ◌≤◌, Bool, true, false, List, [], ◌∷◌, length, count_by, Some}
use Rattle.std.specs.List.{AllByRecursion}
use mathlib.Core.Option.{none, some}
use mathlib.Core.Option as maybe
use lib.ListN.{get_elem?}
use Rattle.atomic_table.specs.Table.{State}
use Rattle.turn_lock.specs.declared.rule.View.{View}
use Rattle.turn_lock.specs.declared.rule.Stage.{Stage}
use Rattle.turn_lock.specs.declared.rule.Stage.TheVariants.{Idle, Waiting, Holding, Raising, Committed}
use Rattle.turn_lock.specs.Lists.{is_member, count_of, below, Begins}

module _ {E : Type 0} where
  -- the seat is between its look and its pass: it has the slot
  abbrev pub is_out : Stage E → Bool
  is_out Idle = false
  is_out (Waiting t) = false
  is_out (Holding t found) = true
  is_out (Raising t) = true
  is_out (Committed t) = true

  abbrev pub ticket_of : Stage E → maybe.Option ℕ
  ticket_of Idle = none
  ticket_of (Waiting t) = some t
  ticket_of (Holding t found) = some t
  ticket_of (Raising t) = some t
  ticket_of (Committed t) = some t

  -- by how much the published word is behind: by one between the commit of a publishing event and its raise
  abbrev pub unraised : Stage E → ℕ
  unraised Idle = 0
  unraised (Waiting t) = 0
  unraised (Holding t found) = 0
  unraised (Raising t) = 1
  unraised (Committed t) = 0

-- how far the lock has come
pub record Course (E : Type 0) : Type 0 where
  -- the one history
  pub history : List E
  -- the words ticket, serving and published
  pub ticket : ℕ
  pub serving : ℕ
  pub published : ℕ
  -- which seat has a ticket, has a number among the seats, and added the event at an index
  pub ticket_seat : ℕ → ℕ
  pub number_seat : ℕ → ℕ
  pub index_seat : ℕ → ℕ

module _ {E : Type 0} (c : Course E) (seat : ℕ) where
  -- the ticket was drawn, and it is the seat's
  abbrev pub HasTicket : ℕ → Type 0
  HasTicket t = (t < c.ticket) × (c.ticket_seat t ≡ seat)

  -- what the stage of a seat says, where it has seen that list
  abbrev pub Stands : List E → Stage E → Type 0
  Stands seen Idle = Unit {0}
  Stands seen (Waiting t) = HasTicket t × (c.serving ≤ t)
  Stands seen (Holding t found) = HasTicket t × (c.serving ≡ t) × (found ≡ c.history)
  Stands seen (Raising t) = HasTicket t × (c.serving ≡ t) × (seen ≡ c.history)
  Stands seen (Committed t) = HasTicket t × (c.serving ≡ t) × (seen ≡ c.history)

-- what the rule says of one seat and its view. A view without a number is spent
pub record Fits {E B : Type 0} (is_publish : E → Bool) (b : B) (seats : ℕ) (c : Course E) (seat : ℕ) (v : View E B) : Type 0 where
  pub based : 0 < length v.numbers → v.base ≡ Some b
  pub spent : length v.numbers ≡ 0 → (v.mine ≡ []) × (v.stage ≡ Idle)
  -- each number is in one view, once
  pub numbered : (n : ℕ) → is_member n v.numbers ≡ true → (n < seats) × (c.number_seat n ≡ seat)
  pub numbered_once : (n : ℕ) → count_of n v.numbers ≤ 1
  -- the ticket is in one view, and what a turn found or has seen is the history
  pub stands : Stands c seat v.seen v.stage
  pub begins : Begins v.seen c.history
  -- the head has seen each publishing event
  pub head : is_member 0 v.numbers ≡ true → count_by is_publish v.seen ≡ count_by is_publish c.history
  -- each index is in one view, once
  pub made : (p : ℕ) → is_member p v.mine ≡ true → (p < length c.history) × (c.index_seat p ≡ seat)
  pub made_once : (p : ℕ) → count_of p v.mine ≤ 1
  pub told : v.told ≤ c.published
  pub raised : count_by is_publish v.seen ≤ c.published + unraised v.stage
  -- what a joined seat had seen and was told
  pub joined : AllByRecursion (λ x. Begins x.0 c.history × (x.1 ≤ c.published)) v.joined

-- the seat has a view of which this holds
abbrev pub SeatWith : {V : Type 0} → List V → ℕ → (V → Type 0) → Type 0
SeatWith {V} views seat P = (v : V) × (get_elem? views seat ≡ some v) × P v

module _ {S E B : Type 0} (events : S → List E) (is_publish : E → Bool) (base : S → B) (b : B) (seats : ℕ) where
  -- the value is at home, and stands for the history
  pub record Home (c : Course E) (s : State S (View E B)) : Type 0 where
    pub value : S
    pub at_home : s.homes ≡ some value ∷ []
    pub stands_for : events value ≡ c.history
    pub rooted : base value ≡ b
    pub nobody : (i : ℕ) (v : View E B) → get_elem? s.views i ≡ some v → is_out v.stage ≡ false
    pub raised : c.published ≡ count_by is_publish c.history

  -- the value is out with the seat whose ticket is served
  pub record Away (c : Course E) (s : State S (View E B)) : Type 0 where
    pub holder : View E B
    pub holder_is : get_elem? s.views (c.ticket_seat c.serving) ≡ some holder
    pub holds : is_out holder.stage ≡ true
    pub gone : s.homes ≡ none ∷ []
    pub drawn : c.serving < c.ticket
    pub raised : c.published + unraised holder.stage ≡ count_by is_publish c.history

  pub record Kept (s : State S (View E B)) : Type 0 where
    pub course : Course E
    pub words : s.words ≡ course.ticket ∷ course.serving ∷ length course.history ∷ course.published ∷ []
    pub ahead : course.serving ≤ course.ticket
    pub each_seat : (i : ℕ) (v : View E B) → get_elem? s.views i ≡ some v → Fits is_publish b seats course i v
    pub each_ticket : (t : ℕ) → course.serving ≤ t → t < course.ticket → SeatWith s.views (course.ticket_seat t) (λ v. ticket_of v.stage ≡ some t)
    pub each_number : (n : ℕ) → n < seats → SeatWith s.views (course.number_seat n) (λ v. is_member n v.numbers ≡ true)
    pub each_index : (p : ℕ) → p < length course.history → SeatWith s.views (course.index_seat p) (λ v. is_member p v.mine ≡ true)
    pub slot : Home course s ⊎ Away course s

-- the first view, which has all numbers
abbrev pub beginner : {E B : Type 0} → B → ℕ → View E B
beginner b seats = record { seen = []; mine = []; told = 0; numbers = below seats; stage = Idle; joined = []; base = Some b }

-- what a seat knows of a history, and of the last published number: they reach all that it has seen and was told, and
-- all that the seats joined into it had seen and were told
pub record Reaches {E B : Type 0} (v : View E B) (history : List E) (published : ℕ) : Type 0 where
  pub seen : Begins v.seen history
  pub told : v.told ≤ published
  pub joined : AllByRecursion (λ x. Begins x.0 history × (x.1 ≤ published)) v.joined

-- what the seat that has all numbers may rely on of the value that it closes
pub record IsWhole {S E B : Type 0} (events : S → List E) (is_publish : E → Bool) (base : S → B) (b : B) (v : View E B) (y : S) : Type 0 where
  pub rooted : base y ≡ b
  pub reached : Reaches v (events y) (count_by is_publish (events y))
  pub once : (p : ℕ) → p < length (events y) → count_of p v.mine ≡ 1
  pub within : (p : ℕ) → length (events y) ≤ p → count_of p v.mine ≡ 0
