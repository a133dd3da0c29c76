-- What jobs and dones keep, and what parting, crossing and joining answer.
use Rattle.std.specs.Prelude.{◌≡◌, ◌≢◌, ◌⊎◌, ◌+◌, ◌≤◌, ℕ, Bool, min, max, List, [], ◌∷◌, map, length, Contains}
use Rattle.std.specs.List.{AllByRecursion}
use Rattle.std.specs.declared.cmp.Ordering.{Ordering}
use Rattle.std.specs.Ordering.{nat_cmp, ordering_then}
use Rattle.late_window.specs.Folding.{Rises, BeforeFirst, slots, states, AreOutsOf}
use Rattle.span_clusters.specs.Interleavings.{KeysDiffer, EachPair}
use Rattle.span_clusters.specs.Parts.{Part, Cross, ReachesPart, numbered}

-- the part may be run
pub record MayRun {S I K : Type 0} (cmp : I → I → Ordering) (key : I → K) (slot : I → ℕ) (is_before : S → ℕ → Type 0) (start : S) (items : List I) : Type 0 where
  pub rising : Rises cmp key items
  pub before : BeforeFirst is_before slot start items

-- these are the states and outs of the part's own run
pub record HasRun {S I O : Type 0} (next : S → ℕ → List I → S) (slot : I → ℕ) (is_out : S → ℕ → List I → O → Type 0) (start : S) (items : List I) (run_states : List S) (outs : List O) : Type 0 where
  pub folded : run_states ≡ states next slot start items
  pub told : AreOutsOf next slot is_out start items outs

-- no two parts have one number
abbrev pub NumbersDiffer : {S I : Type 0} → List (Part S I) → Type 0
NumbersDiffer parts = EachPair (λ p q. p.number ≢ q.number) parts

-- each of two parts is before the slots of the other's items
pub record AreBeforeBoth {S I : Type 0} (slot : I → ℕ) (is_before : S → ℕ → Type 0) (p q : Part S I) : Type 0 where
  pub there : AllByRecursion (λ x. is_before p.start (slot x)) q.items
  pub back : AllByRecursion (λ x. is_before q.start (slot x)) p.items

-- parts that share no member and no item, and each of which is before the slots of all their items
pub record AreParts {S I K : Type 0} (slot : I → ℕ) (key : I → K) (is_before : S → ℕ → Type 0) (is_beside : S → S → Type 0) (parts : List (Part S I)) : Type 0 where
  pub numbers : NumbersDiffer parts
  pub beside : EachPair (λ p q. is_beside p.start q.start) parts
  pub keys : EachPair (λ p q. KeysDiffer key p.items q.items) parts
  pub before : EachPair (AreBeforeBoth slot is_before) parts

-- the order of pairs of numbers
abbrev pub pair_cmp : ℕ × ℕ → ℕ × ℕ → Ordering
pair_cmp p q = ordering_then (nat_cmp p.0 q.0) (nat_cmp p.1 q.1)

-- p crosses one of the others, and a and b are the numbers of both, the lower first
abbrev pub CrossWith : {S I : Type 0} → (S → ℕ → List I → S) → (I → ℕ) → (S → ℕ → List I → I → Type 0) → Part S I → List (Part S I) → ℕ → ℕ → Type 0
CrossWith next slot gates p [] a b = ⊥
CrossWith next slot gates p (q ∷ others) a b = ((a ≡ min p.number q.number) × (b ≡ max p.number q.number) × Cross next slot gates p q) ⊎ CrossWith next slot gates p others a b

-- two of the parts cross, and a and b are their numbers, the lower first
abbrev pub CrossAs : {S I : Type 0} → (S → ℕ → List I → S) → (I → ℕ) → (S → ℕ → List I → I → Type 0) → List (Part S I) → ℕ → ℕ → Type 0
CrossAs next slot gates [] a b = ⊥
CrossAs next slot gates (p ∷ parts) a b = CrossWith next slot gates p parts a b ⊎ CrossAs next slot gates parts a b

-- p reaches q, which has another number, and a and b are the numbers of both, the lower first
abbrev pub ReachesAs : {S I : Type 0} → (S → ℕ → List I → S) → (I → ℕ) → (S → ℕ → List I → I → Type 0) → Part S I → Part S I → ℕ → ℕ → Type 0
ReachesAs next slot gates p q a b = (a ≡ min p.number q.number) × (b ≡ max p.number q.number) × (p.number ≢ q.number) × ReachesPart next slot gates p q

abbrev pub ReachesOneAs : {S I : Type 0} → (S → ℕ → List I → S) → (I → ℕ) → (S → ℕ → List I → I → Type 0) → Part S I → List (Part S I) → ℕ → ℕ → Type 0
ReachesOneAs next slot gates p [] a b = ⊥
ReachesOneAs next slot gates p (q ∷ parts) a b = ReachesAs next slot gates p q a b ⊎ ReachesOneAs next slot gates p parts a b

-- the slots that the parts fill, counted for each
abbrev pub filled_slots : {S I : Type 0} → (I → ℕ) → List (Part S I) → ℕ
filled_slots slot [] = 0
filled_slots slot (p ∷ parts) = length (slots slot p.items) + filled_slots slot parts

abbrev pub part_numbers : {S I : Type 0} → List (Part S I) → List ℕ
part_numbers parts = map (λ p. p.number) parts

-- the part is the first, or its number was given to a member or to an item
abbrev pub IsUsed : List ℕ → List ℕ → ℕ → Type 0
IsUsed of_members of_items part = (part ≡ 0) ⊎ (Contains of_members part ⊎ Contains of_items part)

-- each member and each item has the number of a part, and each part has what bears its number; no part but the first
-- has nothing
pub record IsPartition {S I : Type 0} (count : S → ℕ) (picked : S → List ℕ → (ℕ → Bool) → S) (s : S) (xs : List I) (parts : List (Part S I)) : Type 0 where
  pub of_members : List ℕ
  pub of_items : List ℕ
  pub each_member : length of_members ≡ count s
  pub each_item : length of_items ≡ length xs
  pub members_there : AllByRecursion (Contains (part_numbers parts)) of_members
  pub items_there : AllByRecursion (Contains (part_numbers parts)) of_items
  pub used : AllByRecursion (IsUsed of_members of_items) (part_numbers parts)
  pub made : parts ≡ map (numbered picked s xs of_members of_items) (part_numbers parts)

-- numbers of parts, of which there is one at least: they differ, each number that was given is among them, and each but
-- 0 was given
pub record AreUsed (given : List ℕ) (most : ℕ) (parts : List ℕ) : Type 0 where
  pub some : 1 ≤ length parts
  pub few : length parts ≤ most
  pub differ : EachPair (λ i j. i ≢ j) parts
  pub there : AllByRecursion (Contains parts) given
  pub used : AllByRecursion (λ part. (part ≡ 0) ⊎ Contains given part) parts
