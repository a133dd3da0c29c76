-- The state merged of two parts is before the first of their items.
use Rattle.std.proofs.Common.{ℕ, ◌≤◌, List}
use Rattle.std.specs.List.{AllByRecursion}
use Rattle.late_window.specs.Folding.{BeforeFirst}
use Rattle.late_window.proofs.Groups.{SlotsRise}
use Rattle.span_clusters.specs.Interleavings.{Interleaved}
use Rattle.span_clusters.specs.Interleavings.Interleaved.{neither, first, second}

pub first_of_both : {S I : Type 0} (slot : I → ℕ) (is_before : S → ℕ → Type 0) (is_beside : S → S → Type 0) (merged : S → S → S)
    → ((s : S) (a b : ℕ) → a ≤ b → is_before s a → is_before s b) → ((s t : S) (n : ℕ) → is_beside s t → is_before s n → is_before t n → is_before (merged s t) n)
    → (s t : S) (xs ys zs : List I) → Interleaved xs ys zs → is_beside s t → SlotsRise slot xs → SlotsRise slot ys → BeforeFirst is_before slot s xs → BeforeFirst is_before slot t ys
    → AllByRecursion (λ y. is_before s (slot y)) ys → AllByRecursion (λ x. is_before t (slot x)) xs → BeforeFirst is_before slot (merged s t) zs
first_of_both slot is_before is_beside merged stays both s t _ _ _ neither d r q a b h k = tt
first_of_both slot is_before is_beside merged stays both s t _ _ _ (first x xs ys zs m) d r q a b h k = both s t (slot x) d a k.0
first_of_both slot is_before is_beside merged stays both s t _ _ _ (second y xs ys zs m) d r q a b h k = both s t (slot y) d h.0 b
