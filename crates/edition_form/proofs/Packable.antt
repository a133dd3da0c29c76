-- Records within the limit can be packed, and so can those of tracks.
use Rattle.std.proofs.Common.{◌≡◌, ◌≢◌, ◌∙◌, ap, sym, subst, refl, ℕ, ◌+◌, ◌<◌, ◌≤◌, List, [], ◌∷◌, ◌++◌, length, map, arith, inl, inr, append_assoc, append-nil}
use Rattle.std.specs.List.{AllByRecursion, concat}
use Rattle.std.proofs.lemmas.Bool.{cases_lt}
use Rattle.std.proofs.lemmas.List.{length-append}
use Rattle.std.proofs.lemmas.List.Folds.{concat-append}
use Rattle.asterix_frame.specs.Packing.{block_limit, record_limit, block_size, AreFilled, ungrouped, packed_block, ArePacked}

-- a group, the records that still go into it, and the groups after it
record AreGrouped (first : List ℕ) (group rest : List (List ℕ)) : Type 0 where
  pub more : List (List ℕ)
  pub groups : List (List (List ℕ))
  pub filled : AreFilled ((first ∷ group ++ more) ∷ groups)
  pub all : (first ∷ group ++ more) ++ ungrouped groups ≡ (first ∷ group) ++ rest

some_record : (first : List ℕ) (group : List (List ℕ)) → first ∷ group ≢ []
some_record first group e = cc

size_more : (group : List (List ℕ)) (r : List ℕ) → block_size (group ++ r ∷ []) ≡ block_size group + length r
size_more group r =
    let joined : length (concat (group ++ r ∷ [])) ≡ length (concat group) + length r =
    ap length (concat-append group (r ∷ [])) ∙ length-append (concat group) (concat (r ∷ [])) ∙ ap (λ n. length (concat group) + n) (ap length (append-nil r)) in
    omega (arith, joined)

size_one : (r : List ℕ) → block_size (r ∷ []) ≡ length r + 3
size_one r = ap (λ xs. length xs + 3) (append-nil r)

grouped : (first : List ℕ) (group rest : List (List ℕ)) → block_size (first ∷ group) ≤ block_limit → AllByRecursion (λ r. length r ≤ record_limit) rest → AreGrouped first group rest
grouped first group [] fits h = record {
  more = [];
  groups = [];
  filled = (some_record first (group ++ []), subst (λ xs. block_size (first ∷ xs) ≤ block_limit) (sym (append-nil group)) fits);
  all = append-nil (first ∷ group ++ []);
}
grouped first group (r ∷ rest) fits h =
    elim (cases_lt block_limit (block_size (first ∷ group) + length r)) as (λ _. AreGrouped first group (r ∷ rest)) [
      | inl over ↦
          let next = grouped r [] rest (omega (arith, size_one r, h.0)) h.1 in
          let same = append-nil group in
          record {
            more = [];
            groups = (r ∷ next.more) ∷ next.groups;
            filled = (some_record first (group ++ []), subst (λ xs. block_size (first ∷ xs) ≤ block_limit) (sym same) fits, subst (λ xs. block_limit < block_size (first ∷ xs) + length r) (sym same) over, next.filled);
            all = ap (λ xs. (first ∷ xs) ++ ((r ∷ next.more) ++ ungrouped next.groups)) same ∙ ap (λ xs. (first ∷ group) ++ xs) next.all;
          }
      | inr le ↦
          let next = grouped first (group ++ r ∷ []) rest (omega (arith, size_more (first ∷ group) r, le)) h.1 in
          record {
            more = r ∷ next.more;
            groups = next.groups;
            filled = subst (λ xs. AreFilled ((first ∷ xs) ∷ next.groups)) (append_assoc group (r ∷ []) next.more) next.filled;
            all = ap (λ xs. (first ∷ xs) ++ ungrouped next.groups) (sym (append_assoc group (r ∷ []) next.more)) ∙ next.all ∙ ap (λ xs. first ∷ xs) (append_assoc group (r ∷ []) rest);
          }
    ]

pub record IsPackable (category : ℕ) (records : List (List ℕ)) : Type 0 where
  pub blocks : List (List ℕ)
  pub packed : ArePacked category records blocks

pub packable : (category : ℕ) (records : List (List ℕ)) → AllByRecursion (λ r. length r ≤ record_limit) records → IsPackable category records
packable category [] h = record { blocks = []; packed = record { groups = []; filled = tt; all = refl; blocks_are = refl } }
packable category (r ∷ rest) h =
    let g = grouped r [] rest (omega (arith, size_one r, h.0)) h.1 in
    let groups = (r ∷ g.more) ∷ g.groups in
    record { blocks = map (packed_block category) groups; packed = record { groups = groups; filled = g.filled; all = g.all; blocks_are = refl } }
