-- The parts of a splitting as parts of which crossings are told.
use Rattle.std.proofs.Common.{ℕ, List, [], ◌∷◌}
use Rattle.std.specs.List.{AllByRecursion}
use Rattle.std.specs.declared.cmp.Ordering.{Ordering}
use Rattle.late_window.specs.Folding.{Rises}
use Rattle.span_clusters.specs.Interleavings.{Interleaved, AllInterleaved, EachPair, KeysDiffer}
use Rattle.span_clusters.specs.Parts.{Part, IsSplitting, all_items}
use Rattle.span_clusters.specs.Jobs.{NumbersDiffer, AreBeforeBoth, AreParts}
use Rattle.span_clusters.proofs.Interleavings.{swapped, all_of_first, all_keys_differ}

module _ {S I K : Type 0} (slot : I → ℕ) (key : I → K) (is_before : S → ℕ → Type 0) where
  abbrev Early : List I → Part S I → Type 0
  Early zs p = AllByRecursion (λ z. is_before p.start (slot z)) zs

  keys_one : (p : Part S I) (parts : List (Part S I)) → AllByRecursion (KeysDiffer key p.items) (all_items parts) → AllByRecursion (λ q. KeysDiffer key p.items q.items) parts
  keys_one p [] h = tt
  keys_one p (q ∷ parts) h = (h.0, keys_one p parts h.1)

  keys_each : (parts : List (Part S I)) → EachPair (KeysDiffer key) (all_items parts) → EachPair (λ p q. KeysDiffer key p.items q.items) parts
  keys_each [] h = tt
  keys_each (p ∷ parts) h = (keys_one p parts h.0, keys_each parts h.1)

  less_early : (xs ys zs : List I) → Interleaved xs ys zs → (parts : List (Part S I)) → AllByRecursion (Early zs) parts → AllByRecursion (Early xs) parts
  less_early xs ys zs m [] h = tt
  less_early xs ys zs m (p ∷ parts) h = (all_of_first (λ z. is_before p.start (slot z)) xs ys zs m h.0, less_early xs ys zs m parts h.1)

  -- p is before all that its items and those of the others make, and they are before its items
  before_one : (p : Part S I) (parts : List (Part S I)) (us : List I) → AllInterleaved (all_items parts) us → Early us p → AllByRecursion (Early p.items) parts → AllByRecursion (AreBeforeBoth slot is_before p) parts
  before_one p [] us m e h = tt
  before_one p (q ∷ parts) us m e h = (
    record { there = all_of_first (λ z. is_before p.start (slot z)) q.items m.0 us m.1 e; back = h.0 },
    before_one p parts m.0 m.2 (all_of_first (λ z. is_before p.start (slot z)) m.0 q.items us (swapped q.items m.0 us m.1) e) h.1,
  )

  before_each_pair : (parts : List (Part S I)) (zs : List I) → AllInterleaved (all_items parts) zs → AllByRecursion (Early zs) parts → EachPair (AreBeforeBoth slot is_before) parts
  before_each_pair [] zs m h = tt
  before_each_pair (p ∷ parts) zs m h =
      let back : Interleaved m.0 p.items zs = swapped p.items m.0 zs m.1 in (
        before_one p parts m.0 m.2 (all_of_first (λ z. is_before p.start (slot z)) m.0 p.items zs back h.0) (less_early p.items m.0 zs m.1 parts h.1),
        before_each_pair parts m.0 m.2 (less_early m.0 p.items zs back parts h.1),
      )

  pub separated : (cmp : I → I → Ordering) (is_beside : S → S → Type 0) (merged : S → S → S) (s : S) (zs : List I) (parts : List (Part S I)) → Rises cmp key zs
      → IsSplitting slot is_before is_beside merged s zs parts → NumbersDiffer parts → AreParts slot key is_before is_beside parts
  separated cmp is_beside merged s zs parts up i d = record {
    numbers = d;
    beside = i.beside;
    keys = keys_each parts (all_keys_differ cmp key (all_items parts) zs i.items up);
    before = before_each_pair parts zs i.items i.before;
  }
