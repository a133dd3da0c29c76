-- What each step on the table tells the seat that makes it.
use Rattle.std.specs.Prelude.{◌≡◌, ◌≢◌, ℕ, ◌==◌, ◌<◌, ◌≤◌, Bool, true, false, List, [], ◌∷◌, ◌++◌, length, count_by, if◌then◌else◌, Some, None}
use Rattle.atomic_table.specs.Table.{Me, Step, rest}
use Rattle.turn_lock.specs.declared.rule.View.{View}
use Rattle.turn_lock.specs.declared.rule.Stage.{Stage}
use Rattle.turn_lock.specs.declared.rule.Stage.TheVariants.{Idle, Waiting, Holding, Raising, Committed}
use Rattle.turn_lock.specs.Lists.{is_member, Begins}

abbrev pub with_stage : {E B : Type 0} → View E B → Stage E → View E B
with_stage v st = record v { stage = st }

-- the index of the event that was added, if one was
abbrev pub new_index : ℕ → ℕ → List ℕ
new_index old new = if old == new then [] else old ∷ []

-- at most one event is added, and a publishing event at the head's turns alone
pub record Adds {E : Type 0} (is_publish : E → Bool) (is_head : Bool) (found left : List E) : Type 0 where
  pub fresh : List E
  pub appended : left ≡ found ++ fresh
  pub few : length fresh ≤ 1
  pub plain : is_head ≡ false → count_by is_publish fresh ≡ 0

-- the stage after a commit: the published word has to be raised where the event is a publishing event
abbrev pub stage_after : {E : Type 0} → (E → Bool) → ℕ → List E → List E → Stage E
stage_after is_publish t found left = if count_by is_publish found == count_by is_publish left then Committed t else Raising t

-- the view after a turn that found one list and left the other
abbrev pub view_after : {E B : Type 0} → View E B → List E → List E → Stage E → View E B
view_after v found left st = record v { seen = left; mine = v.mine ++ new_index (length found) (length left); stage = st }

module _ {S E B : Type 0} where
  -- what a seat knows, and the value that it has, with its slot
  abbrev pub view_of : Me S (View E B) → View E B
  view_of m = m.0

  abbrev pub slots_of : Me S (View E B) → List (ℕ × S)
  slots_of m = m.1

  -- the seat is between two turns, and has a number
  pub record IsAtRest (m : Me S (View E B)) : Type 0 where
    pub empty : slots_of m ≡ []
    pub idle : (view_of m).stage ≡ Idle
    pub numbered : 0 < length (view_of m).numbers

  -- nothing changed
  abbrev pub peeked : Step S → Me S (View E B) → ℕ → Me S (View E B) → Type 0
  peeked st m r m' = m' ≡ m

  -- the ticket was drawn, where the word was as expected; or nothing changed
  abbrev pub drew : Step S → Me S (View E B) → ℕ → Me S (View E B) → Type 0
  drew st m r m' = (r ≡ st.first → m' ≡ (with_stage m.0 (Waiting r), m.1)) × (r ≢ st.first → m' ≡ m)

  -- what a seat may rely on of the value that its look took
  pub record Found (events : S → List E) (is_publish : E → Bool) (base : S → B) (v : View E B) (y : S) : Type 0 where
    pub based : v.base ≡ Some (base y)
    pub begins : Begins v.seen (events y)
    pub head : is_member 0 v.numbers ≡ true → count_by is_publish v.seen ≡ count_by is_publish (events y)

  -- where its own ticket is served, the seat has the slot; or nothing changed
  abbrev pub looked : (S → List E) → (E → Bool) → (S → B) → Step S → Me S (View E B) → ℕ → Me S (View E B) → Type 0
  looked events is_publish base st m r m' = (t : ℕ) → m.0.stage ≡ Waiting t
      → (r ≡ t → (y : S) × Found events is_publish base m.0 y × (m' ≡ (with_stage m.0 (Holding t (events y)), (0, y) ∷ m.1))) × (r ≢ t → m' ≡ m)

  -- the seat has seen what the value stands for
  abbrev pub committed : (S → List E) → (E → Bool) → Step S → Me S (View E B) → ℕ → Me S (View E B) → Type 0
  committed events is_publish st m n m' = (t : ℕ) (found : List E) (y : S) → m.0.stage ≡ Holding t found → m.1 ≡ (0, y) ∷ []
      → m' ≡ (view_after m.0 found (events y) (stage_after is_publish t found (events y)), m.1)

  abbrev pub raised : Step S → Me S (View E B) → ℕ → Me S (View E B) → Type 0
  raised st m n m' = (t : ℕ) → m.0.stage ≡ Raising t → m' ≡ (with_stage m.0 (Committed t), m.1)

  abbrev pub passed : Step S → Me S (View E B) → ℕ → Me S (View E B) → Type 0
  passed st m n m' = (t : ℕ) → m.0.stage ≡ Committed t → m' ≡ (with_stage m.0 Idle, rest m.1)

  -- the number is none that was published before, and the seat was told it
  pub record refreshed (is_publish : E → Bool) (st : Step S) (m : Me S (View E B)) (n : ℕ) (m' : Me S (View E B)) : Type 0 where
    pub told : m.0.told ≤ n
    pub seen : count_by is_publish m.0.seen ≤ n
    pub view : m' ≡ (record m.0 { told = n }, m.1)

-- what the seat that has the value may say of it at each step
module _ {S E B : Type 0} (events : S → List E) (is_publish : E → Bool) (base : S → B) (m : Me S (View E B)) (ticket : ℕ) where
  -- its call was made on the list that its look found, and left so many events
  pub record MayCommit (count : ℕ) : Type 0 where
    pub found : List E
    pub value : S
    pub stage : (view_of m).stage ≡ Holding ticket found
    pub has : slots_of m ≡ (0, value) ∷ []
    pub adds : Adds is_publish (is_member 0 (view_of m).numbers) found (events value)
    pub count_is : count ≡ length (events value)

  -- so many publishing events were there before the call, and so many are there now
  pub record MayAnnounce (before published : ℕ) : Type 0 where
    pub found : List E
    pub stage : (view_of m).stage ≡ stage_after is_publish ticket found (view_of m).seen
    pub before_is : before ≡ count_by is_publish found
    pub published_is : published ≡ count_by is_publish (view_of m).seen

  -- what it has seen is what the value stands for
  pub record MayPass : Type 0 where
    pub value : S
    pub stage : (view_of m).stage ≡ Committed ticket
    pub has : slots_of m ≡ (0, value) ∷ []
    pub seen : events value ≡ (view_of m).seen
    pub based : (view_of m).base ≡ Some (base value)

  -- its call was made, with these counts
  pub record MayEnd (before count published : ℕ) : Type 0 where
    pub commits : MayCommit count
    pub based : (view_of m).base ≡ Some (base commits.value)
    pub before_is : before ≡ count_by is_publish commits.found
    pub published_is : published ≡ count_by is_publish (events commits.value)

-- how the head gives its first number away
abbrev pub rest_of : List ℕ → List ℕ
rest_of [] = []
rest_of (n ∷ ns) = ns

abbrev pub first_of : List ℕ → List ℕ
first_of [] = []
first_of (n ∷ ns) = n ∷ []

module _ {E B : Type 0} where
  abbrev pub giver : View E B → View E B
  giver v = record v { numbers = rest_of v.numbers }

  abbrev pub given : View E B → View E B
  given v = record { seen = []; mine = []; told = 0; numbers = first_of v.numbers; stage = Idle; joined = []; base = v.base }

  -- the two views as one: it has seen what the head had seen, if one of them is the head
  abbrev pub both : View E B → View E B → View E B
  both v w = record {
    seen = if is_member 0 w.numbers then w.seen else v.seen;
    mine = v.mine ++ w.mine;
    told = v.told;
    numbers = v.numbers ++ w.numbers;
    stage = v.stage;
    joined = (v.seen, v.told) ∷ (w.seen, w.told) ∷ (v.joined ++ w.joined);
    base = v.base;
  }

  abbrev pub spent : View E B
  spent = record { seen = []; mine = []; told = 0; numbers = []; stage = Idle; joined = []; base = None }
