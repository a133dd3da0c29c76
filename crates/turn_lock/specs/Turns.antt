-- What a lock and a turn are seen as, and what the calls say of them.
use Rattle.std.specs.Prelude.{◌≡◌, ℕ, ◌≤◌, ◌==◌, Bool, true, All, List, [], ◌∷◌, ◌++◌, length, count_by, sum_by, Option, Some}
use Rattle.atomic_table.specs.Seated.{TableId}
use Rattle.atomic_table.specs.Table.{Me}
use Rattle.turn_lock.specs.declared.rule.View.{View}
use Rattle.turn_lock.specs.declared.rule.Stage.TheVariants.{Idle}
use Rattle.turn_lock.specs.Lists.{Begins, is_member, count_of}
use Rattle.turn_lock.specs.Rule.{Reaches}
use Rattle.turn_lock.specs.Steps.{Adds, new_index}

-- which lock it is, the base of its value, and how many seats it has
pub record LockFacts (B : Type 0) : Type 0 where
  pub table : TableId
  pub base : B
  pub seats : ℕ

-- whose turn it is: the lock, its base and the number among the seats, which never change; what its turns have seen of
-- the history, the indices of the events that they added, and the last number that it was told as published
pub record Token (E B : Type 0) : Type 0 where
  pub table : TableId
  pub base : Option B
  pub number : ℕ
  pub seen : List E
  pub mine : List ℕ
  pub told : ℕ

abbrev pub number_in : List ℕ → ℕ
number_in [] = 0
number_in (n ∷ ns) = n

module _ {E B : Type 0} where
  abbrev pub token_of : TableId → View E B → Token E B
  token_of table v = record { table = table; base = v.base; number = number_in v.numbers; seen = v.seen; mine = v.mine; told = v.told }

  -- a seat between its turns, with the one number that is its own
  pub record Rests {S : Type 0} (me : Me S (View E B)) : Type 0 where
    pub empty : me.1 ≡ []
    pub idle : me.0.stage ≡ Idle
    pub one : me.0.numbers ≡ number_in me.0.numbers ∷ []

  -- the turn is one of the lock's
  pub record IsTurnOf (lock : LockFacts B) (turn : Token E B) : Type 0 where
    pub table : turn.table ≡ lock.table
    pub base : turn.base ≡ Some lock.base

  -- a turn of that number before its first call
  abbrev pub new_token : TableId → Option B → ℕ → Token E B
  new_token table base number = record { table = table; base = base; number = number; seen = []; mine = []; told = 0 }

  abbrev pub newcomer : LockFacts B → ℕ → Token E B
  newcomer lock number = new_token lock.table (Some lock.base) number

  -- how often the index stands among the indices of the turns
  abbrev pub times_made : ℕ → List (Token E B) → ℕ
  times_made p turns = sum_by (λ t. count_of p t.mine) turns

  -- the turn after a call that found one list and left the other
  abbrev pub turned : Token E B → List E → List E → Token E B
  turned turn found left = record turn { seen = left; mine = turn.mine ++ new_index (length found) (length left) }

module _ {S E B : Type 0} (events : S → List E) (is_publish : E → Bool) (base : S → B) where
  -- what a turn may rely on of the value that it finds: it has the lock's base, and its list begins with all that the
  -- turn had seen. The head had seen each publishing event
  pub record Finds (lock : LockFacts B) (turn : Token E B) (found : S) : Type 0 where
    pub rooted : base found ≡ lock.base
    pub begins : Begins turn.seen (events found)
    pub head : turn.number ≡ 0 → count_by is_publish turn.seen ≡ count_by is_publish (events found)

  -- what a turn may make of it: at most one event more, no older one changed, the same base, and a publishing event at
  -- the head's turns alone
  pub record MayLeave (turn : Token E B) (found left : S) : Type 0 where
    pub rooted : base left ≡ base found
    pub adds : Adds is_publish (turn.number == 0) (events found) (events left)

-- The seat that took in the seats of these turns knows what each of them knew.
pub record Gathers {E B : Type 0} (v : View E B) (turns : List (Token E B)) : Type 0 where
  pub numbers : All (λ t. is_member t.number v.numbers ≡ true) turns
  pub mine : (p : ℕ) → count_of p v.mine ≡ times_made p turns
  pub reached : (history : List E) (published : ℕ) → Reaches v history published → All (λ t. Begins t.seen history × (t.told ≤ published)) turns
