-- What an item says is in its range, whatever its octets are.
use Rattle.std.specs.Prelude.{◌≡◌, ℕ, ◌<◌, ◌≤◌, ◌^◌, ◌%◌, List, [], ◌∷◌, Option, Some, None, pos, neg_ℤ, ◌≤ℤ◌}
use Rattle.std.proofs.Common.{arith, subst}
use Rattle.std.specs.Option.{ForSome, option_map}
use Rattle.asterix_frame.specs.Values.{three_octets, signed}
use Rattle.trk_base.specs.Ranges.{IsTimeOfDay, IsCode, IsLevel, IsAddress}
use Rattle.cat048_in.specs.Values.{kind_of, undoubted, code_of, level_of, address_of, below_day}

-- a value that is there has the property that it has
some_in_range : {A : Type 0} (P : A → Type 0) (y : A) → P y → ForSome (Some y) P
some_in_range P y h = λ x e. let same : y ≡ x = cc in subst P same h

none_in_range : {A : Type 0} (P : A → Type 0) → ForSome None P
none_in_range P = λ x e. absurd (cc)

map_in_range : {A B : Type 0} (P : B → Type 0) (f : A → B) (o : Option A) → ((x : A) → P (f x)) → ForSome (option_map f o) P
map_in_range P f None h = none_in_range P
map_in_range P f (Some x) h = some_in_range P (f x) (h x)

pub kind_in_range : (octets : List ℕ) → ForSome (kind_of octets) (λ k. k ≤ 7)
kind_in_range [] = none_in_range _
kind_in_range (first ∷ _) = some_in_range _ _ (omega arith)

pub code_in_range : (octets : List ℕ) → IsCode (code_of octets)
code_in_range octets = map_in_range (λ code. code < 4096) (λ number. number % 2 ^ 12) (undoubted octets) (λ number. omega arith)

signed_14 : (n : ℕ) → n < 2 ^ 14 → (neg_ℤ (pos 8192) ≤ℤ signed 14 n) × (signed 14 n ≤ℤ pos 8191)
signed_14 n h = grind arith

pub level_in_range : (octets : List ℕ) → IsLevel (level_of octets)
level_in_range octets = map_in_range (λ level. (neg_ℤ (pos 8192) ≤ℤ level) × (level ≤ℤ pos 8191)) (λ number. signed 14 (number % 2 ^ 14)) (undoubted octets) (λ number. signed_14 (number % 2 ^ 14) (omega arith))

pub address_in_range : (octets : List ℕ) → IsAddress (address_of octets)
address_in_range octets = map_in_range (λ address. address < 2 ^ 24) (λ number. number % 2 ^ 24) (three_octets octets) (λ number. omega arith)

pub time_in_range : (time : Option ℕ) → ForSome (below_day time) IsTimeOfDay
time_in_range None = none_in_range _
time_in_range (Some t) = λ x e. grind arith
