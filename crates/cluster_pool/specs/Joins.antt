-- What joining the parts of a span keeps, and what it costs.
use Rattle.std.specs.Prelude.{◌≡◌, ◌≢◌, ◌⊎◌, ◌≤◌, ◌+◌, ◌*◌, ℕ, List, Contains, length}
use Rattle.std.specs.List.{AllByRecursion}
use Rattle.std.specs.declared.cmp.Ordering.{Ordering}
use Rattle.late_window.specs.Folding.{Rises, slots}
use Rattle.span_clusters.specs.Interleavings.{Interleaved}
use Rattle.span_clusters.specs.Parts.{Part, IsSplitting, Without, joined}
use Rattle.span_clusters.specs.Jobs.{NumbersDiffer, part_numbers}

-- no part has the number
abbrev pub LackNumber : {S I : Type 0} → ℕ → List (Part S I) → Type 0
LackNumber number parts = AllByRecursion (λ p. p.number ≢ number) parts

-- the two parts have the two numbers, in either order
abbrev pub HaveNumbers : {S I : Type 0} → ℕ → ℕ → Part S I → Part S I → Type 0
HaveNumbers a b p q = ((p.number ≡ a) × (q.number ≡ b)) ⊎ ((p.number ≡ b) × (q.number ≡ a))

-- both are among the parts, and rest is the parts without them
pub record AreTaken {S I : Type 0} (p q : Part S I) (parts rest : List (Part S I)) : Type 0 where
  pub others : List (Part S I)
  pub one : Without p parts others
  pub other : Without q others rest

-- both numbers are those of parts, of two
pub record AreNumbers {S I : Type 0} (a b : ℕ) (parts : List (Part S I)) : Type 0 where
  pub differ : a ≢ b
  pub one : Contains (part_numbers parts) a
  pub other : Contains (part_numbers parts) b

-- two of the parts, p and q, as the one part that is made of both, which rises by itself
pub record AreOne {S I K : Type 0} (cmp : I → I → Ordering) (key : I → K) (merged : S → S → S) (p q made : Part S I) : Type 0 where
  pub both : Interleaved p.items q.items made.items
  pub rising : Rises cmp key made.items
  pub is : made ≡ joined merged p q made.items

-- the parts new come from old by joins: they split what old splits, each has a number of an old one,
-- and for each join the counter rose by no more than the slots of the whole
pub record ComesFrom {S I K : Type 0} (slot : I → ℕ) (cmp : I → I → Ordering) (key : I → K) (is_before : S → ℕ → Type 0) (is_beside : S → S → Type 0) (merged : S → S → S) (old new : List (Part S I)) (before after : ℕ) : Type 0 where
  pub numbers : NumbersDiffer old → NumbersDiffer new
  pub among : (k : ℕ) → Contains (part_numbers new) k → Contains (part_numbers old) k
  pub splitting : (s : S) (zs : List I) → Rises cmp key zs → IsSplitting slot is_before is_beside merged s zs old → IsSplitting slot is_before is_beside merged s zs new
  pub rises : before ≤ after
  pub paid : (s : S) (zs : List I) → Rises cmp key zs → IsSplitting slot is_before is_beside merged s zs old
      → after + length (slots slot zs) * length new ≤ before + length (slots slot zs) * length old
