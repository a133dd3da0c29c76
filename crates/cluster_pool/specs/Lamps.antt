-- Two lamps that count the items at their places, for tests.
use Rattle.std.specs.Prelude.{◌≡◌, ◌+◌, ◌⊎◌, ℕ, suc, List, [], ◌∷◌, Bool, true, not, if◌then◌else◌, nat_lt, get_or, Option, Some, None}

-- an item of a slot at a place: the left lamp stands below place 10, the right one from there on
abbrev pub Item : Type 0
Item = ℕ × ℕ

abbrev pub is_left : Item → Bool
is_left x = nat_lt x.1 10

abbrev pub is_right : Item → Bool
is_right x = not (nat_lt x.1 10)

-- how many items are at a lamp's place
abbrev pub count_at : (Item → Bool) → List Item → ℕ
count_at f [] = 0
count_at f (x ∷ xs) = if f x then suc (count_at f xs) else count_at f xs

-- a lamp, which may be missing, after so many items at its place
abbrev pub lit : Option ℕ → ℕ → Option ℕ
lit None k = None
lit (Some v) k = Some (v + k)

-- what it tells of them
abbrev pub told : Option ℕ → ℕ → ℕ
told None k = 0
told (Some v) k = k

-- the lamp that is there
abbrev pub either : Option ℕ → Option ℕ → Option ℕ
either None d = d
either (Some v) d = Some v

-- one of the two is missing
abbrev pub OneMissing : Option ℕ → Option ℕ → Type 0
OneMissing None d = Unit {0}
OneMissing (Some v) None = Unit {0}
OneMissing (Some v) (Some w) = ⊥

-- the lamp is there, and the item is at its place
abbrev pub Lights : Option ℕ → Bool → Type 0
Lights None b = ⊥
Lights (Some v) b = b ≡ true

abbrev pub present : Option ℕ → ℕ
present None = 0
present (Some v) = 1

-- the lamp, where its number passes the test
abbrev pub kept : (ℕ → Bool) → Option ℕ → ℕ → Option ℕ
kept f None k = None
kept f (Some v) k = if f k then Some v else None

-- both lamps
abbrev pub Lamps : Type 0
Lamps = Option ℕ × Option ℕ

abbrev pub next : Lamps → ℕ → List Item → Lamps
next s n xs = (lit s.0 (count_at is_left xs), lit s.1 (count_at is_right xs))

abbrev pub IsTold : Lamps → ℕ → List Item → ℕ × ℕ → Type 0
IsTold s n xs o = (o.0 ≡ told s.0 (count_at is_left xs)) × (o.1 ≡ told s.1 (count_at is_right xs))

abbrev pub AreBeside : Lamps → Lamps → Type 0
AreBeside s t = OneMissing s.0 t.0 × OneMissing s.1 t.1

abbrev pub merged : Lamps → Lamps → Lamps
merged s t = (either s.0 t.0, either s.1 t.1)

abbrev pub gates : Lamps → ℕ → List Item → Item → Type 0
gates s n own x = Lights s.0 (is_left x) ⊎ Lights s.1 (is_right x)

abbrev pub both : ℕ × ℕ → ℕ × ℕ → ℕ × ℕ
both a b = (a.0 + b.0, a.1 + b.1)

abbrev pub picked : Lamps → List ℕ → (ℕ → Bool) → Lamps
picked s numbers f = (kept f s.0 (get_or numbers 0 0), kept f s.1 (get_or numbers (present s.0) 0))

abbrev pub count : Lamps → ℕ
count s = present s.0 + present s.1

-- each state may take each step
abbrev pub IsReady : Lamps → ℕ → Type 0
IsReady s n = Unit {0}
