-- Records have at most one setting in filled blocks, and how one is built record by record.
use Rattle.std.proofs.Common.{◌≡◌, ◌≢◌, ◌∙◌, ap, sym, inl, inr, ℕ, ◌+◌, ◌<◌, ◌≤◌, ◌⊎◌, List, [], ◌∷◌, ◌++◌, length, arith, refl, length-append, subst, append_assoc, append-nil}
use Rattle.std.specs.List.{concat}
use Rattle.std.specs.Prelude.{map}
use Rattle.std.proofs.lemmas.List.{map-append}
use Rattle.std.proofs.lemmas.List.Folds.{concat-append}
use Rattle.std.proofs.lemmas.List.Concat.{flat_map-append}
use Rattle.asterix_frame.specs.Blocks.{DataBlock, encoded}
use Rattle.asterix_frame.specs.Packing.{block_limit, AreFilled, ungrouped, block_size, packed_block, ArePacked, Packed, IsPackingOf}

-- two lists with the same continuation differ only in how far they go
record Continues (short long rest rest' : List (List ℕ)) : Type 0 where
  next : List ℕ
  more : List (List ℕ)
  long_is : long ≡ short ++ next ∷ more
  rest_is : rest ≡ next ∷ more ++ rest'

overlap : (g h x y : List (List ℕ)) → g ++ x ≡ h ++ y → ((g ≡ h) × (x ≡ y)) ⊎ (Continues g h x y ⊎ Continues h g y x)
overlap [] [] x y e = inl (refl, e)
overlap [] (r ∷ h) x y e = inr (inl (record { next = r; more = h; long_is = refl; rest_is = e }))
overlap (r ∷ g) [] x y e = inr (inr (record { next = r; more = g; long_is = refl; rest_is = sym e }))
overlap (r ∷ g) (s ∷ h) x y e =
    let head : r ≡ s = cc in
    let tail : g ++ x ≡ h ++ y = cc in
    elim (overlap g h x y tail) [
      | inl same ↦ inl ((λ i. head i ∷ same.0 i), same.1)
      | inr (inl on) ↦ inr (inl (record { next = on.next; more = on.more; long_is = (λ i. sym head i ∷ on.long_is i); rest_is = on.rest_is }))
      | inr (inr on) ↦ inr (inr (record { next = on.next; more = on.more; long_is = (λ i. head i ∷ on.long_is i); rest_is = on.rest_is }))
    ]

fits : (g : List (List ℕ)) (gs : List (List (List ℕ))) → AreFilled (g ∷ gs) → block_size g ≤ block_limit
fits g [] h = h.1
fits g ([] ∷ gs) h = absurd h
fits g ((r ∷ rs) ∷ gs) h = h.1

others : (g : List (List ℕ)) (gs : List (List (List ℕ))) → AreFilled (g ∷ gs) → AreFilled gs
others g [] h = tt
others g ([] ∷ gs) h = absurd h
others g ((r ∷ rs) ∷ gs) h = h.3

not_empty : (g : List (List ℕ)) (gs : List (List (List ℕ))) → AreFilled (g ∷ gs) → g ≢ []
not_empty g [] h = h.0
not_empty g ([] ∷ gs) h = absurd h
not_empty g ((r ∷ rs) ∷ gs) h = h.0

-- the record after a group has no room in it
no_room : (g : List (List ℕ)) (gs : List (List (List ℕ))) (r : List ℕ) (more : List (List ℕ)) → AreFilled (g ∷ gs) → ungrouped gs ≡ r ∷ more → block_limit < block_size g + length r
no_room g [] r more h e = absurd cc
no_room g ([] ∷ gs) r more h e = absurd h
no_room g ((s ∷ rs) ∷ gs) r more h e =
    let same : s ≡ r = cc in
    subst (λ (t : List ℕ). block_limit < block_size g + length t) same h.2

no_longer : (g h : List (List ℕ)) (gs hs : List (List (List ℕ))) → AreFilled (g ∷ gs) → AreFilled (h ∷ hs) → Continues g h (ungrouped gs) (ungrouped hs) → ⊥
no_longer g h gs hs fg fh on =
    let over = no_room g gs on.next (on.more ++ ungrouped hs) fg on.rest_is in
    let size : length (concat h) ≡ length (concat g) + length (concat (on.next ∷ on.more)) =
    ap (λ (t : List (List ℕ)). length (concat t)) on.long_is ∙ ap length (concat-append g (on.next ∷ on.more)) ∙ length-append (concat g) (concat (on.next ∷ on.more)) in
    omega (arith, over, size, fits h hs fh, length-append on.next (concat on.more))

pub one_packing : (gs hs : List (List (List ℕ))) → AreFilled gs → AreFilled hs → ungrouped gs ≡ ungrouped hs → gs ≡ hs
one_packing [] [] fg fh e = refl
one_packing [] ([] ∷ hs) fg fh e = absurd (not_empty [] hs fh refl)
one_packing [] ((r ∷ h) ∷ hs) fg fh e = absurd cc
one_packing ([] ∷ gs) [] fg fh e = absurd (not_empty [] gs fg refl)
one_packing ((r ∷ g) ∷ gs) [] fg fh e = absurd cc
one_packing (g ∷ gs) (h ∷ hs) fg fh e =
    elim (overlap g h (ungrouped gs) (ungrouped hs) e) [
      | inl same ↦ (let rest = one_packing gs hs (others g gs fg) (others h hs fh) same.1 in (λ i. same.0 i ∷ rest i))
      | inr (inl on) ↦ absurd (no_longer g h gs hs fg fh on)
      | inr (inr on) ↦ absurd (no_longer h g hs gs fh fg on)
    ]

size_grow : (g : List (List ℕ)) (r : List ℕ) → block_size (g ++ r ∷ []) ≡ block_size g + length r
size_grow g r = omega (arith, ap length (concat-append g (r ∷ [])), length-append (concat g) (concat (r ∷ [])), length-append r [])

-- the last group takes one more record
pub filled_grow : (gs : List (List (List ℕ))) (g : List (List ℕ)) (r : List ℕ) → AreFilled (gs ++ g ∷ []) → block_size g + length r ≤ block_limit → AreFilled (gs ++ (g ++ r ∷ []) ∷ [])
filled_grow [] [] r h room = absurd (h.0 refl)
filled_grow [] (s ∷ g) r h room = ((λ e. cc), omega (arith, room, size_grow (s ∷ g) r))
filled_grow (f ∷ []) [] r h room = absurd h
filled_grow (f ∷ []) (s ∷ g) r h room = (h.0, h.1, h.2, filled_grow [] (s ∷ g) r h.3 room)
filled_grow (f ∷ [] ∷ gs) g r h room = absurd h
filled_grow (f ∷ (s ∷ e) ∷ gs) g r h room = (h.0, h.1, h.2, filled_grow ((s ∷ e) ∷ gs) g r h.3 room)

-- a record without room in the last group begins the next one
pub filled_open : (gs : List (List (List ℕ))) (g : List (List ℕ)) (r : List ℕ) → AreFilled (gs ++ g ∷ []) → block_limit < block_size g + length r → length r + 3 ≤ block_limit → AreFilled (gs ++ g ∷ (r ∷ []) ∷ [])
filled_open [] g r h full small = (h.0, h.1, full, ((λ e. cc), omega (arith, small, length-append r [])))
filled_open (f ∷ []) [] r h full small = absurd h
filled_open (f ∷ []) (s ∷ g) r h full small = (h.0, h.1, h.2, filled_open [] (s ∷ g) r h.3 full small)
filled_open (f ∷ [] ∷ gs) g r h full small = absurd h
filled_open (f ∷ (s ∷ e) ∷ gs) g r h full small = (h.0, h.1, h.2, filled_open ((s ∷ e) ∷ gs) g r h.3 full small)

-- the first record of all
pub filled_first : (r : List ℕ) → length r + 3 ≤ block_limit → AreFilled ((r ∷ []) ∷ [])
filled_first r small = ((λ e. cc), omega (arith, small, length-append r []))

-- ---- records packed one after the other

concat_push : (rs : List (List ℕ)) (r : List ℕ) → concat (rs ++ r ∷ []) ≡ concat rs ++ r
concat_push rs r = concat-append rs (r ∷ []) ∙ ap (λ t. concat rs ++ t) (append-nil r)

ungrouped_push : (gs : List (List (List ℕ))) (g : List (List ℕ)) → ungrouped (gs ++ g ∷ []) ≡ ungrouped gs ++ g
ungrouped_push gs g = flat_map-append (λ group. group) gs (g ∷ []) ∙ ap (λ t. ungrouped gs ++ t) (append-nil g)

module _ (category : ℕ) where
  abbrev Body : List ℕ → DataBlock
  Body octets = record { category = category; body = octets }

  blocks_push : (gs : List (List (List ℕ))) (g : List (List ℕ)) → map (packed_block category) (gs ++ g ∷ []) ≡ map (packed_block category) gs ++ packed_block category g ∷ []
  blocks_push gs g = map-append (packed_block category) gs (g ∷ [])

  size_of : (block : DataBlock) (last : List (List ℕ)) → block ≡ Body (concat last) → length block.body ≡ length (concat last)
  size_of block last e = ap (λ b. length b.body) e

  -- the last block takes the record
  pub packing_grow : (records : List (List ℕ)) (p : Packed) (r : List ℕ) → IsPackingOf category records p → 0 < length r → length p.last.body + length r + 3 ≤ block_limit
      → IsPackingOf category (records ++ r ∷ []) (record { full = p.full; last = record p.last { body = p.last.body ++ r } })
  packing_grow records p r s some room =
      let size = size_of p.last s.in_last s.last_is in
      record {
        groups = s.groups;
        in_last = s.in_last ++ r ∷ [];
        filled = inr (
          elim s.filled [
            | inl none ↦ rw (none.0, none.1) (filled_first r (omega arith))
            | inr filled ↦ filled_grow s.groups s.in_last r filled.0 (omega (arith, size))
          ],
          omega (arith, ap length (concat_push s.in_last r), length-append (concat s.in_last) r),
        );
        all = sym (append_assoc (ungrouped s.groups) s.in_last (r ∷ [])) ∙ ap (λ t. t ++ r ∷ []) s.all;
        full_is = s.full_is;
        last_is = ap (λ (b : DataBlock). record b { body = b.body ++ r }) s.last_is ∙ ap Body (sym (concat_push s.in_last r));
      }

  -- the octets of the last block
  last_octets : (records : List (List ℕ)) (p : Packed) (octets : List ℕ) (s : IsPackingOf category records p) → octets ≡ encoded p.last → octets ≡ packed_block category s.in_last
  last_octets records p octets s e = e ∙ ap encoded s.last_is

  pub last_category : (records : List (List ℕ)) (p : Packed) → IsPackingOf category records p → p.last.category ≡ category
  last_category records p s = ap (λ b. b.category) s.last_is

  -- the record begins a new one
  pub packing_next : (records : List (List ℕ)) (p : Packed) (octets : List ℕ) (r : List ℕ) → IsPackingOf category records p → 0 < length r → length r + 3 ≤ block_limit → block_limit < length p.last.body + length r + 3
      → (0 < length p.last.body → octets ≡ encoded p.last) → IsPackingOf category (records ++ r ∷ []) (record { full = p.full ++ octets ∷ []; last = Body r })
  packing_next records p octets r s some small over whole =
      let size = size_of p.last s.in_last s.last_is in
      let nonempty : 0 < length (concat (r ∷ [])) = rw (append-nil r) some in
      elim s.filled [
        | inl none ↦ absurd (omega (arith, size, ap (λ t. length (concat t)) none.1))
        | inr filled ↦ record {
          groups = s.groups ++ s.in_last ∷ [];
          in_last = r ∷ [];
          filled = inr (rw append_assoc (filled_open s.groups s.in_last r filled.0 (omega (arith, size)) small), nonempty);
          all = ap (λ t. t ++ r ∷ []) (ungrouped_push s.groups s.in_last ∙ s.all);
          full_is = (λ i. s.full_is i ++ last_octets records p octets s (whole (omega (arith, size))) i ∷ []) ∙ sym (blocks_push s.groups s.in_last);
          last_is = ap Body (sym (append-nil r));
        }
      ]

  -- the last block, if it has records, ends the packing
  pub packing_end : (records : List (List ℕ)) (p : Packed) (octets : List ℕ) → IsPackingOf category records p → 0 < length p.last.body → octets ≡ encoded p.last → ArePacked category records (p.full ++ octets ∷ [])
  packing_end records p octets s some whole =
      let size = size_of p.last s.in_last s.last_is in
      elim s.filled [
        | inl none ↦ absurd (omega (arith, size, ap (λ t. length (concat t)) none.1))
        | inr filled ↦ record {
          groups = s.groups ++ s.in_last ∷ [];
          filled = filled.0;
          all = ungrouped_push s.groups s.in_last ∙ s.all;
          blocks_are = (λ i. s.full_is i ++ last_octets records p octets s whole i ∷ []) ∙ sym (blocks_push s.groups s.in_last);
        }
      ]

  pub packing_none : (records : List (List ℕ)) (p : Packed) → IsPackingOf category records p → p.last.body ≡ [] → ArePacked category records p.full
  packing_none records p s none =
      let size = size_of p.last s.in_last s.last_is in
      elim s.filled [
        | inl nothing ↦ record {
          groups = [];
          filled = tt;
          all = rw (nothing.0, nothing.1) at s.all;
          blocks_are = s.full_is ∙ ap (map (packed_block category)) nothing.0;
        }
        | inr filled ↦ absurd (omega (arith, size, ap length none, filled.1))
      ]

  pub one_block_packing : (records bs cs : List (List ℕ)) → ArePacked category records bs → ArePacked category records cs → bs ≡ cs
  one_block_packing records bs cs h k = h.blocks_are ∙ ap (map (packed_block category)) (one_packing h.groups k.groups h.filled k.filled (h.all ∙ sym k.all)) ∙ sym k.blocks_are
