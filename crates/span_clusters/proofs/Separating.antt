-- A fold in parts as one record, and its laws as another.
use Rattle.std.proofs.Common.{◌≡◌, ℕ, ◌+◌, ◌<◌, ◌≤◌, List, [], length}
use Rattle.std.specs.Prelude.{◌⊎◌}
use Rattle.std.specs.declared.cmp.Ordering.{Ordering}
use Rattle.late_window.specs.Folding.{Rises, InSlot}
use Rattle.span_clusters.specs.Interleavings.{KeysDiffer}
use Rattle.span_clusters.specs.Parts.{AreTwoInSlot, AreApart}

pub record Separating (S I K O : Type 0) : Type 1 where
  pub cmp : I → I → Ordering
  pub key : I → K
  pub slot : I → ℕ
  pub next : S → ℕ → List I → S
  pub is_out : S → ℕ → List I → O → Type 0
  pub is_before : S → ℕ → Type 0
  pub is_beside : S → S → Type 0
  pub merged : S → S → S
  pub gates : S → ℕ → List I → I → Type 0
  pub both : O → O → O

abbrev pub TwoInSlot : {S I K O : Type 0} (F : Separating S I K O) → ℕ → S → S → List I → List I → List I → Type 0
TwoInSlot F n s t xs ys zs = AreTwoInSlot F.cmp F.key F.slot F.is_before F.is_beside n s t xs ys zs

pub record SeparatingLaws {S I K O : Type 0} (F : Separating S I K O) : Type 0 where
  pub stays_before : (s : S) (a b : ℕ) → a ≤ b → F.is_before s a → F.is_before s b
  pub goes_before : (s : S) (n : ℕ) (xs : List I) → InSlot F.slot n xs → Rises F.cmp F.key xs → F.is_before s n → F.is_before (F.next s n xs) (n + 1)
  pub beside_back : (s t : S) → F.is_beside s t → F.is_beside t s
  pub beside_merged : (s t r : S) → F.is_beside s t → F.is_beside s r → F.is_beside t r → F.is_beside (F.merged s t) r
  pub beside_next : (s t : S) (n : ℕ) (xs ys : List I) → F.is_beside s t → F.is_before s n → F.is_before t n → InSlot F.slot n xs → InSlot F.slot n ys → Rises F.cmp F.key xs → Rises F.cmp F.key ys → KeysDiffer F.key xs ys → F.is_beside (F.next s n xs) (F.next t n ys)
  pub merged_back : (s t : S) → F.is_beside s t → F.merged s t ≡ F.merged t s
  pub merged_before : (s t : S) (n : ℕ) → F.is_beside s t → F.is_before s n → F.is_before t n → F.is_before (F.merged s t) n
  pub gates_merged : (s t : S) (n : ℕ) (xs ys zs : List I) (x : I) → TwoInSlot F n s t xs ys zs → AreApart F.gates n s t xs ys → F.gates (F.merged s t) n zs x → F.gates s n xs x ⊎ F.gates t n ys x
  pub next_merged : (s t : S) (n : ℕ) (xs ys zs : List I) → TwoInSlot F n s t xs ys zs → AreApart F.gates n s t xs ys → F.next (F.merged s t) n zs ≡ F.merged (F.next s n xs) (F.next t n ys)
  pub out_merged : (s t : S) (n : ℕ) (xs ys zs : List I) (a b : O) → TwoInSlot F n s t xs ys zs → AreApart F.gates n s t xs ys → 0 < length xs → 0 < length ys → F.is_out s n xs a → F.is_out t n ys b → F.is_out (F.merged s t) n zs (F.both a b)
  pub out_alone : (s t : S) (n : ℕ) (xs : List I) (a : O) → TwoInSlot F n s t xs [] xs → AreApart F.gates n s t xs [] → 0 < length xs → F.is_out s n xs a → F.is_out (F.merged s t) n xs a
  pub next_rested : (s : S) (a b : ℕ) (xs : List I) → F.is_before s a → a < b → F.next (F.next s a []) b xs ≡ F.next s b xs
  pub out_rested : (s : S) (a b : ℕ) (xs : List I) (o : O) → F.is_before s a → a < b → F.is_out s b xs o → F.is_out (F.next s a []) b xs o
  pub gates_rested : (s : S) (a b : ℕ) (xs : List I) (x : I) → F.is_before s a → a < b → F.gates (F.next s a []) b xs x → F.gates s b xs x
