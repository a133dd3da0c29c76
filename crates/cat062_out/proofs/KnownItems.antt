-- Items that are there only where their value is known, before others of a record.
use Rattle.std.proofs.Common.{◌≡◌, refl, suc, ℕ, ◌+◌, ◌-◌, ◌≤◌, List, [], ◌∷◌, ◌++◌, arith, Option, Some, None}
use Rattle.std.specs.Option.{option_map}
use Rattle.std.specs.List.{AllByRecursion}
use Rattle.asterix_frame.specs.Elements.{Element, numbers}
use Rattle.asterix_frame.specs.DataRecords.{item}
use Rattle.asterix_frame.specs.Encoding.{RiseFrom, item_of}
use Rattle.asterix_frame.proofs.DataItems.{item_here, item_later}
use Rattle.cat062_out.specs.TrackRecords.{where_known}

module _ {A : Type 0} (frn : ℕ) (octets : A → List ℕ) where
  -- another item isn't found among them
  pub past : (other : ℕ) (o : Option A) (rest : List Element) → (frn - 1 + 1 ≡ other → ⊥) → item other (where_known frn octets o ++ rest) ≡ item other rest
  past other None rest ne = refl
  past other (Some v) rest ne = item_later other (item_of frn (octets v)) rest ne

  -- the item itself, which isn't among the others
  pub found : (o : Option A) (rest : List Element) → frn - 1 + 1 ≡ frn → item frn rest ≡ None → item frn (where_known frn octets o ++ rest) ≡ option_map octets o
  found None rest here none = none
  found (Some v) rest here none = item_here frn (item_of frn (octets v)) rest here

  rise_down : (k n : ℕ) (ns : List ℕ) → k ≤ n → RiseFrom n ns → RiseFrom k ns
  rise_down k n [] le h = tt
  rise_down k n (m ∷ ms) le h = (omega (arith, le, h.0), h.1)

  pub rising : (k : ℕ) (o : Option A) (rest : List Element) → k ≤ frn - 1 → RiseFrom (suc (frn - 1)) (numbers rest) → RiseFrom k (numbers (where_known frn octets o ++ rest))
  rising k None rest le h = rise_down k (suc (frn - 1)) (numbers rest) (omega (arith, le)) h
  rising k (Some v) rest le h = (le, h)

  pub all_of : (P : Element → Type 0) (o : Option A) (rest : List Element) → ((v : A) → o ≡ Some v → P (item_of frn (octets v))) → AllByRecursion P rest → AllByRecursion P (where_known frn octets o ++ rest)
  all_of P None rest h all = all
  all_of P (Some v) rest h all = (h v refl, all)
