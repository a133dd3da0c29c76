-- The parts of the numbers that were given.
use Rattle.std.proofs.Common.{◌≡◌, ◌≢◌, ◌∙◌, ap, sym, refl, ℕ, zero, suc, ◌≤◌, List, [], ◌∷◌, length, map, take, drop, Vec, Global, Bool, true, false, arith, subst, subst₂, inl, inr}
use Rattle.std.specs.Prelude.{Contains, IfOk, Result, Ok, Err, ◌&&◌, ◌||◌, ◌⊎◌}
use Rattle.std.specs.List.{AllByRecursion}
use Rattle.late_window.specs.Folding.{BeforeFirst}
use Rattle.late_window.proofs.Groups.{SlotsRise, drop_all}
use Rattle.span_clusters.specs.Interleavings.{EachPair}
use Rattle.span_clusters.specs.Parts.{Part, IsSplitting, numbered}
use Rattle.span_clusters.specs.Jobs.{NumbersDiffer, AreUsed, IsUsed, IsPartition, part_numbers}
use Rattle.span_clusters.proofs.Interleavings.{contains_first, contains_later, contains_cons}
use Rattle.span_clusters.proofs.Numbered.{splitting}
use Rattle.span_clusters.proofs.OneSlot.{all_weaker}

-- what holds of the list that was cut holds of the jobs that were made of it
pub if_cut : {P E : Type 0} {Q : List P → Type 0} {drafts : List P} (r : Result (Vec P Global) E) → IfOk r (λ jobs. jobs.items ≡ drafts) → ((jobs : List P) → jobs ≡ drafts → Q jobs) → IfOk r (λ jobs. Q jobs.items)
if_cut (Ok jobs) e f = f jobs.items e
if_cut (Err x) e f = tt

take_all : {X : Type 0} (P : X → Type 0) (k : ℕ) (xs : List X) → AllByRecursion P xs → AllByRecursion P (take k xs)
take_all P zero xs h = tt
take_all P (suc k) [] h = tt
take_all P (suc k) (x ∷ xs) h = (h.0, take_all P k xs h.1)

cut_in_two : (n k : ℕ) (given : List ℕ) → Contains given k → Contains (take n given) k ⊎ Contains (drop n given) k
cut_in_two zero k given c = inr c
cut_in_two (suc n) k [] c = absurd (omega (arith, c.1))
cut_in_two (suc n) k (j ∷ given) c = elim (contains_cons j k given c) [
  | inl e ↦ inl (contains_first j k (take n given) e)
  | inr d ↦ elim (cut_in_two n k given d) [ inl a ↦ inl (contains_later j k (take n given) a) | inr b ↦ inr b ]
]

-- a number that was given was given to a member or to an item
of_either : (n k : ℕ) (given members items : List ℕ) → members ≡ take n given → items ≡ drop n given → (k ≡ 0) ⊎ Contains given k → IsUsed members items k
of_either n k given members items m i (inl z) = inl z
of_either n k given members items m i (inr c) = elim (cut_in_two n k given c) [
  | inl a ↦ inr (inl (subst (λ (ks : List ℕ). Contains ks k) (sym m) a))
  | inr b ↦ inr (inr (subst (λ (ks : List ℕ). Contains ks k) (sym i) b))
]

module _ {S I : Type 0} (picked : S → List ℕ → (ℕ → Bool) → S) (s : S) (xs : List I) (members items : List ℕ) where
  abbrev cut : List ℕ → List (Part S I)
  cut parts = map (numbered picked s xs members items) parts

  as_many : (parts : List ℕ) → length (cut parts) ≡ length parts
  as_many [] = refl
  as_many (k ∷ parts) = ap suc (as_many parts)

  same_numbers : (parts : List ℕ) → part_numbers (cut parts) ≡ parts
  same_numbers [] = refl
  same_numbers (k ∷ parts) = ap (λ (ks : List ℕ). k ∷ ks) (same_numbers parts)

  one_differs : (k : ℕ) (parts : List ℕ) → AllByRecursion (λ j. k ≢ j) parts → AllByRecursion (λ (q : Part S I). k ≢ q.number) (cut parts)
  one_differs k [] d = tt
  one_differs k (j ∷ parts) d = (d.0, one_differs k parts d.1)

  each_differs : (parts : List ℕ) → EachPair (λ i j. i ≢ j) parts → NumbersDiffer (cut parts)
  each_differs [] d = tt
  each_differs (k ∷ parts) d = (one_differs k parts d.0, each_differs parts d.1)

  module _ (given : List ℕ) (most : ℕ) (parts : List ℕ) (used : AreUsed given most parts) (jobs : List (Part S I)) (made : jobs ≡ map (numbered picked s xs members items) parts) where
    pub some_jobs : 1 ≤ length jobs
    some_jobs = let n : length jobs ≡ length parts = ap length made ∙ as_many parts in let u = used.some in omega (arith, n, u)

    pub few_jobs : length jobs ≤ most
    few_jobs = let n : length jobs ≡ length parts = ap length made ∙ as_many parts in let u = used.few in omega (arith, n, u)

    pub jobs_differ : NumbersDiffer jobs
    jobs_differ = subst NumbersDiffer (sym made) (each_differs parts used.differ)

    numbers_are : part_numbers jobs ≡ parts
    numbers_are = ap part_numbers made ∙ same_numbers parts

    pub is_partition : (count : S → ℕ) → members ≡ take (count s) given → items ≡ drop (count s) given → length members ≡ count s → length items ≡ length xs → IsPartition count picked s xs jobs
    is_partition count m i lm li = record {
      of_members = members;
      of_items = items;
      each_member = lm;
      each_item = li;
      members_there = subst₂ (λ (ks js : List ℕ). AllByRecursion (Contains ks) js) (sym numbers_are) (sym m) (take_all (Contains parts) (count s) given used.there);
      items_there = subst₂ (λ (ks js : List ℕ). AllByRecursion (Contains ks) js) (sym numbers_are) (sym i) (drop_all (Contains parts) (count s) given used.there);
      used = subst (AllByRecursion (IsUsed members items)) (sym numbers_are)
          (all_weaker (λ k. (k ≡ 0) ⊎ Contains given k) (IsUsed members items) parts (λ k h. of_either (count s) k given members items m i h) used.used);
      made = made ∙ ap cut (sym numbers_are);
    }

    pub is_splitting : (slot : I → ℕ) (is_before : S → ℕ → Type 0) (is_beside : S → S → Type 0) (merged : S → S → S) (count : S → ℕ)
        → ((s : S) (a b : ℕ) → a ≤ b → is_before s a → is_before s b)
        → ((s : S) (numbers : List ℕ) (f : ℕ → Bool) → length numbers ≡ count s → AllByRecursion (λ k. f k ≡ true) numbers → picked s numbers f ≡ s)
        → ((s : S) (numbers : List ℕ) (f : ℕ → Bool) (n : ℕ) → length numbers ≡ count s → is_before s n → is_before (picked s numbers f) n)
        → ((s : S) (numbers : List ℕ) (f g : ℕ → Bool) (n : ℕ) → length numbers ≡ count s → is_before s n → ((k : ℕ) → (f k && g k) ≡ false) → is_beside (picked s numbers f) (picked s numbers g))
        → ((s : S) (numbers : List ℕ) (f g : ℕ → Bool) (n : ℕ) → length numbers ≡ count s → is_before s n → ((k : ℕ) → (f k && g k) ≡ false) → merged (picked s numbers f) (picked s numbers g) ≡ picked s numbers (λ k. f k || g k))
        → members ≡ take (count s) given → items ≡ drop (count s) given → length members ≡ count s → length items ≡ length xs → SlotsRise slot xs → BeforeFirst is_before slot s xs
        → (n : ℕ) → is_before s n → IsSplitting slot is_before is_beside merged s xs jobs
    is_splitting slot is_before is_beside merged count stays all before beside picks m i lm li up first n b =
        let low : (l : ℕ) × is_before s l × AllByRecursion (λ x. l ≤ slot x) xs = lowest xs up first in
        subst (IsSplitting slot is_before is_beside merged s xs) (sym made)
        (splitting slot is_before is_beside merged count picked stays all before beside picks s xs members items low.0 lm low.1 parts li used.differ used.some
        (subst (AllByRecursion (Contains parts)) (sym m) (take_all (Contains parts) (count s) given used.there))
        (subst (AllByRecursion (Contains parts)) (sym i) (drop_all (Contains parts) (count s) given used.there)) low.2)
      where
        lowest : (ys : List I) → SlotsRise slot ys → BeforeFirst is_before slot s ys → (l : ℕ) × is_before s l × AllByRecursion (λ x. l ≤ slot x) ys
        lowest [] up first = (n, b, tt)
        lowest (y ∷ ys) up first = (slot y, first, (omega arith, up.0))
