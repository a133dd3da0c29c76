-- Numbers that are within the ranges of their keys, index by index.
use Rattle.std.proofs.Common.{◌≡◌, ℕ, zero, suc, ◌<◌, ℤ, pos, Bool, true, List, [], ◌∷◌, length, get_or, map, Option, Some, None, option_map, Ok, inl, inr, refl, rules, arith}
use Rattle.std.specs.Prelude.{int_le}
use Rattle.std.specs.List.{range_with_len, list_all}
use Rattle.std.proofs.lemmas.Bool.{and_parts, cases_Bool}
use Rattle.std.proofs.lemmas.List.FromFn.{fill_by_all}
use Rattle.toml.specs.Data.{Members, get_member, as_integer}
use Rattle.settings_text.specs.Keys.{Otherwise, required, default, Key}
use Rattle.settings_text.specs.Tables.{IsInRange, is_within, AreWithin, left_out, number_of, Gives}

between : (key : Key) (number : ℤ) → is_within key number ≡ true → IsInRange key.least key.greatest number
between key number h =
    let parts = and_parts (int_le key.least number) (int_le number key.greatest) h in (search rules, search rules)

pub range_at : (keys : List Key) (numbers : List ℤ) (k : ℕ) (d : Key) → AreWithin keys numbers → k < length keys → IsInRange (get_or keys k d).least (get_or keys k d).greatest (get_or numbers k (pos 0))
range_at [] numbers k d within h = absurd (omega arith)
range_at (key ∷ keys) [] k d within h = absurd within
range_at (key ∷ keys) (number ∷ numbers) zero d within h = between key number within.0
range_at (key ∷ keys) (number ∷ numbers) (suc k) d within h = range_at keys numbers k d within.1 (omega arith)

-- a list of known length, written out
pub by_index : (n : ℕ) (numbers : List ℤ) → length numbers ≡ n → numbers ≡ map (λ k. get_or numbers k (pos 0)) (range_with_len 0 n)
by_index n numbers long = fill_by_all (λ k. get_or numbers k (pos 0)) numbers n (pos 0) long (λ k h. refl)

-- the default of a key, if it has one, passes a test
abbrev pub passes : (ℤ → Bool) → Otherwise → Bool
passes test required = true
passes test (default number) = test number

-- it is in its range
abbrev pub default_within : Key → Bool
default_within key = passes (is_within key) key.otherwise

left_out_within : (test : ℤ → Bool) (otherwise : Otherwise) (number : ℤ) → passes test otherwise ≡ true → left_out otherwise ≡ Ok number → test number ≡ true
left_out_within test required number h e = absurd (search rules)
left_out_within test (default d) number h e = let same : d ≡ number = search rules in rw (← same) h

number_within : (key : Key) (found : Option (Option ℤ)) (number : ℤ) → default_within key ≡ true → number_of key found ≡ Ok number → is_within key number ≡ true
number_within key None number h e = left_out_within (is_within key) key.otherwise number h e
number_within key (Some None) number h e = absurd (search rules)
number_within key (Some (Some n)) number h e =
    elim (cases_Bool (is_within key n)) [
      | inl within ↦ (let same : n ≡ number = search (rules, rw within at e) in rw (← same) within)
      | inr out ↦ absurd (search (rules, rw out at e))
    ]

-- the numbers that a table gives are in range, the defaults included
pub gives_within : (table : Members) (keys : List Key) (numbers : List ℤ) → list_all default_within keys ≡ true → Gives table keys numbers → AreWithin keys numbers
gives_within table [] [] h given = tt
gives_within table [] (number ∷ numbers) h given = given
gives_within table (key ∷ keys) [] h given = given
gives_within table (key ∷ keys) (number ∷ numbers) h given =
    let parts = and_parts (default_within key) (list_all default_within keys) h in
    (number_within key (option_map as_integer (get_member key.name table)) number parts.0 given.0, gives_within table keys numbers parts.1 given.1)

-- a key that no table has
pub blank : Key
blank = record { number = 0; name = []; least = pos 0; greatest = pos 0; otherwise = required }
