-- Two parts of a splitting joined.
use Rattle.std.proofs.Common.{◌≡◌, ◌∙◌, ap, sym, refl, ◌+◌, List, [], ◌∷◌, length, arith, subst, inl, inr}
use Rattle.std.specs.Prelude.{fold}
use Rattle.std.specs.List.{AllByRecursion}
use Rattle.std.specs.declared.cmp.Ordering.{Ordering}
use Rattle.std.specs.declared.cmp.Ordering.TheVariants.{Less, Greater}
use Rattle.std.specs.Ordering.{ordering_reverse}
use Rattle.std.specs.Cmp.{IsTotalOrder}
use Rattle.late_window.specs.Folding.{Rises, ComesBefore}
use Rattle.span_clusters.specs.Interleavings.{Interleaved, AllInterleaved, EachPair}
use Rattle.span_clusters.specs.Parts.{Part, IsSplitting, starts, all_items, Without, joined}
use Rattle.span_clusters.specs.Interleavings.Interleaved.{neither, first, second}
use Rattle.span_clusters.proofs.Interleavings.{swapped, two_first, first_rises, contains_first, all_contains, in_both}
use Rattle.span_clusters.proofs.Separating.{Separating, SeparatingLaws}

-- items that rise are put together in one way
pub one_interleaving : {I K : Type 0} (cmp : I → I → Ordering) (key : I → K) → IsTotalOrder cmp → (xs ys us vs : List I) → Interleaved xs ys us → Interleaved xs ys vs → Rises cmp key us → Rises cmp key vs → us ≡ vs
one_interleaving cmp key t _ _ _ _ neither neither h k = refl
one_interleaving {I} cmp key t _ _ _ _ (first x xs ys us m) (first _ _ _ vs n) h k = ap (λ (l : List I). x ∷ l) (one_interleaving cmp key t xs ys us vs m n h.1 k.1)
one_interleaving cmp key t _ _ _ _ (first x xs _ us m) (second y _ ys vs n) h k =
    let a : cmp x y ≡ Less = (all_contains (ComesBefore cmp key x) y us h.0 (in_both y (y ∷ ys) xs us (swapped _ _ _ m) (contains_first y y ys refl))).order in
    let b : cmp y x ≡ Less = (all_contains (ComesBefore cmp key y) x vs k.0 (in_both x (x ∷ xs) ys vs n (contains_first x x xs refl))).order in
    let c : Less ≡ Greater = sym a ∙ t.antisymm x y ∙ ap ordering_reverse b in
    cc
one_interleaving cmp key t _ _ _ _ (second y _ ys us m) (first x xs _ vs n) h k =
    let a : cmp y x ≡ Less = (all_contains (ComesBefore cmp key y) x us h.0 (in_both x (x ∷ xs) ys us m (contains_first x x xs refl))).order in
    let b : cmp x y ≡ Less = (all_contains (ComesBefore cmp key x) y vs k.0 (in_both y (y ∷ ys) xs vs (swapped _ _ _ n) (contains_first y y ys refl))).order in
    let c : Less ≡ Greater = sym a ∙ t.antisymm y x ∙ ap ordering_reverse b in
    cc
one_interleaving {I} cmp key t _ _ _ _ (second y xs ys us m) (second _ _ _ vs n) h k = ap (λ (l : List I). y ∷ l) (one_interleaving cmp key t xs ys us vs m n h.1 k.1)

-- of three lists the first and the second change places
first_two_swapped : {I : Type 0} (xs us ys vs zs : List I) → Interleaved xs us zs → Interleaved ys vs us → (ws : List I) × Interleaved xs vs ws × Interleaved ys ws zs
first_two_swapped {I} xs us ys vs zs m n =
    let a : (ws : List I) × Interleaved xs ys ws × Interleaved ws vs zs = two_first xs us ys vs zs m n in
    let b : (ws : List I) × Interleaved vs xs ws × Interleaved ws ys zs = two_first vs a.0 xs ys zs (swapped _ _ _ a.2) a.1 in
    (b.0, swapped _ _ _ b.1, swapped _ _ _ b.2)

module _ {S I K O : Type 0} (F : Separating S I K O) (L : SeparatingLaws F)
    (merged_rest : (s t r : S) → F.is_beside s t → F.is_beside s r → F.is_beside t r → F.merged (F.merged s t) r ≡ F.merged s (F.merged t r)) where
  out_of_all : (P : Part S I → Type 0) (q : Part S I) (ps os : List (Part S I)) → Without q ps os → AllByRecursion P ps → P q × AllByRecursion P os
  out_of_all P q [] os w h = absurd w
  out_of_all P q (p ∷ ps) os (inl (e, f)) h = (subst P (sym e) h.0, subst (AllByRecursion P) (sym f) h.1)
  out_of_all P q (p ∷ ps) os (inr (others, f, v)) h = let r : P q × AllByRecursion P others = out_of_all P q ps others v h.1 in (r.0, subst (AllByRecursion P) (sym f) (h.0, r.1))

  out_of_pairs : (q : Part S I) (ps os : List (Part S I)) → Without q ps os → EachPair (λ a b. F.is_beside a.start b.start) ps → AllByRecursion (λ b. F.is_beside q.start b.start) os × EachPair (λ a b. F.is_beside a.start b.start) os
  out_of_pairs q [] os w h = absurd w
  out_of_pairs q (p ∷ ps) os (inl (e, f)) h = (subst (AllByRecursion (λ (b : Part S I). F.is_beside q.start b.start)) (sym f) (subst (λ (a : Part S I). AllByRecursion (λ (b : Part S I). F.is_beside a.start b.start) ps) (sym e) h.0), subst (EachPair (λ (a b : Part S I). F.is_beside a.start b.start)) (sym f) h.1)
  out_of_pairs q (p ∷ ps) os (inr (others, f, v)) h =
      let r : AllByRecursion (λ (b : Part S I). F.is_beside q.start b.start) others × EachPair (λ (a b : Part S I). F.is_beside a.start b.start) others = out_of_pairs q ps others v h.1 in
      let g : F.is_beside p.start q.start × AllByRecursion (λ (b : Part S I). F.is_beside p.start b.start) others = out_of_all (λ (b : Part S I). F.is_beside p.start b.start) q ps others v h.0 in
      (subst (AllByRecursion (λ (b : Part S I). F.is_beside q.start b.start)) (sym f) (L.beside_back _ _ g.0, r.0), subst (EachPair (λ (a b : Part S I). F.is_beside a.start b.start)) (sym f) (g.1, r.1))

  out_of_items : (q : Part S I) (ps os : List (Part S I)) (zs : List I) → Without q ps os → AllInterleaved (all_items ps) zs → AllInterleaved (q.items ∷ all_items os) zs
  out_of_items q [] os zs w m = absurd w
  out_of_items q (p ∷ ps) os zs (inl (e, f)) m = subst (λ (l : List (Part S I)). AllInterleaved (q.items ∷ all_items l) zs) (sym f) (subst (λ (a : Part S I). AllInterleaved (a.items ∷ all_items ps) zs) (sym e) m)
  out_of_items q (p ∷ ps) os zs (inr (others, f, v)) m =
      let r : AllInterleaved (q.items ∷ all_items others) m.0 = out_of_items q ps others m.0 v m.2 in
      let t : (ws : List I) × Interleaved p.items r.0 ws × Interleaved q.items ws zs = first_two_swapped p.items m.0 q.items r.0 zs m.1 r.1 in
      subst (λ (l : List (Part S I)). AllInterleaved (q.items ∷ all_items l) zs) (sym f) (t.0, t.2, (r.0, t.1, r.2))

  all_joined : (a b : S) (ps : List (Part S I)) → F.is_beside a b → AllByRecursion (λ (r : Part S I). F.is_beside a r.start) ps → AllByRecursion (λ (r : Part S I). F.is_beside b r.start) ps → AllByRecursion (λ (r : Part S I). F.is_beside (F.merged a b) r.start) ps
  all_joined a b [] d h k = tt
  all_joined a b (p ∷ ps) d h k = (L.beside_merged a b p.start d h.0 k.0, all_joined a b ps d h.1 k.1)

  -- one of them is merged first
  pulled : (a : S) (q : Part S I) (ps os : List (Part S I)) → Without q ps os → AllByRecursion (λ r. F.is_beside a r.start) ps → EachPair (λ c d. F.is_beside c.start d.start) ps
      → fold F.merged a (starts ps) ≡ fold F.merged (F.merged a q.start) (starts os)
  pulled a q [] os w h d = absurd w
  pulled a q (p ∷ ps) os (inl (e, f)) h d = λ i. fold F.merged (F.merged a (sym e i).start) (starts (sym f i))
  pulled a q (p ∷ ps) os (inr (others, f, v)) h d =
      let aq : F.is_beside a q.start × AllByRecursion (λ (r : Part S I). F.is_beside a r.start) others = out_of_all (λ (r : Part S I). F.is_beside a r.start) q ps others v h.1 in
      let pq : F.is_beside p.start q.start × AllByRecursion (λ (r : Part S I). F.is_beside p.start r.start) others = out_of_all (λ (r : Part S I). F.is_beside p.start r.start) q ps others v d.0 in
      let turn : F.merged (F.merged a p.start) q.start ≡ F.merged (F.merged a q.start) p.start =
      merged_rest a p.start q.start h.0 aq.0 pq.0 ∙ ap (F.merged a) (L.merged_back p.start q.start pq.0) ∙ sym (merged_rest a q.start p.start aq.0 h.0 (L.beside_back _ _ pq.0)) in
      pulled (F.merged a p.start) q ps others v (all_joined a p.start ps h.0 h.1 d.0) d.1
      ∙ (λ i. fold F.merged (turn i) (starts others)) ∙ (λ i. fold F.merged (F.merged a q.start) (starts (sym f i)))

  front_state : (p q : Part S I) (ps os : List (Part S I)) → Without q (p ∷ ps) os → EachPair (λ c d. F.is_beside c.start d.start) (p ∷ ps) → fold F.merged p.start (starts ps) ≡ fold F.merged q.start (starts os)
  front_state p q ps os (inl (e, f)) d = λ i. fold F.merged (sym e i).start (starts (sym f i))
  front_state p q ps os (inr (others, f, v)) d =
      let pq : F.is_beside p.start q.start × AllByRecursion (λ (r : Part S I). F.is_beside p.start r.start) others = out_of_all (λ (r : Part S I). F.is_beside p.start r.start) q ps others v d.0 in
      pulled p.start q ps others v d.0 d.1 ∙ ap (λ t. fold F.merged t (starts others)) (L.merged_back p.start q.start pq.0) ∙ (λ i. fold F.merged q.start (starts (sym f i)))

  without_length : (q : Part S I) (ps os : List (Part S I)) → Without q ps os → length os + 1 ≡ length ps
  without_length q [] os w = absurd w
  without_length q (p ∷ ps) os (inl (e, f)) = let g : length os ≡ length ps = ap length f in omega arith
  without_length q (p ∷ ps) os (inr (others, f, v)) = let g : length os ≡ length (p ∷ others) = ap length f in omega (arith, without_length q ps others v)

  before_both : (a b : S) (zs : List I) → F.is_beside a b → AllByRecursion (λ z. F.is_before a (F.slot z)) zs → AllByRecursion (λ z. F.is_before b (F.slot z)) zs → AllByRecursion (λ z. F.is_before (F.merged a b) (F.slot z)) zs
  before_both a b [] d h k = tt
  before_both a b (z ∷ zs) d h k = (L.merged_before a b (F.slot z) d h.0 k.0, before_both a b zs d h.1 k.1)

  pub join_splitting : IsTotalOrder F.cmp → (s : S) (zs : List I) (p q r : Part S I) (ps os rest : List (Part S I)) (items : List I) → Rises F.cmp F.key zs
      → IsSplitting F.slot F.is_before F.is_beside F.merged s zs (p ∷ ps) → Without q (p ∷ ps) os → Without r os rest → Interleaved q.items r.items items → Rises F.cmp F.key items
      → IsSplitting F.slot F.is_before F.is_beside F.merged s zs (joined F.merged q r items ∷ rest) × (length (joined F.merged q r items ∷ rest) + 1 ≡ length (p ∷ ps))
  join_splitting t s zs p q r ps os rest items up i w v m mu =
      let one : AllByRecursion (λ (b : Part S I). F.is_beside q.start b.start) os × EachPair (λ (a b : Part S I). F.is_beside a.start b.start) os = out_of_pairs q (p ∷ ps) os w i.beside in
      let two : AllByRecursion (λ (b : Part S I). F.is_beside r.start b.start) rest × EachPair (λ (a b : Part S I). F.is_beside a.start b.start) rest = out_of_pairs r os rest v one.1 in
      let qr : F.is_beside q.start r.start × AllByRecursion (λ (b : Part S I). F.is_beside q.start b.start) rest = out_of_all (λ (b : Part S I). F.is_beside q.start b.start) r os rest v one.0 in
      let Early : Part S I → Type 0 = λ a. AllByRecursion (λ z. F.is_before a.start (F.slot z)) zs in
      let bq : Early q × AllByRecursion Early os = out_of_all Early q (p ∷ ps) os w i.before in
      let br : Early r × AllByRecursion Early rest = out_of_all Early r os rest v bq.1 in
      let a : AllInterleaved (q.items ∷ all_items os) zs = out_of_items q (p ∷ ps) os zs w i.items in
      let b : AllInterleaved (r.items ∷ all_items rest) a.0 = out_of_items r os rest a.0 v a.2 in
      let c : (ws : List I) × Interleaved q.items r.items ws × Interleaved ws b.0 zs = two_first q.items a.0 r.items b.0 zs a.1 b.1 in
      let same : c.0 ≡ items = one_interleaving F.cmp F.key t q.items r.items c.0 items c.1 m (first_rises F.cmp F.key c.0 b.0 zs c.2 up) mu in (
        record {
          state = i.state ∙ front_state p q ps os w i.beside ∙ pulled q.start r os rest v one.0 one.1;
          items = (b.0, subst (λ (l : List I). Interleaved l b.0 zs) same c.2, b.2);
          beside = (all_joined q.start r.start rest qr.0 qr.1 two.0, two.1);
          before = (before_both q.start r.start zs qr.0 bq.0 br.0, br.1);
        },
        omega (arith, without_length q (p ∷ ps) os w, without_length r os rest v),
      )

  -- the same of any list of parts
  pub joined_splitting : IsTotalOrder F.cmp → (s : S) (zs : List I) (q r : Part S I) (parts os rest : List (Part S I)) (items : List I) → Rises F.cmp F.key zs
      → IsSplitting F.slot F.is_before F.is_beside F.merged s zs parts → Without q parts os → Without r os rest → Interleaved q.items r.items items → Rises F.cmp F.key items
      → IsSplitting F.slot F.is_before F.is_beside F.merged s zs (joined F.merged q r items ∷ rest) × (length (joined F.merged q r items ∷ rest) + 1 ≡ length parts)
  joined_splitting t s zs q r [] os rest items up i w v m mu = absurd i.state
  joined_splitting t s zs q r (p ∷ ps) os rest items up i w v m mu = join_splitting t s zs p q r ps os rest items up i w v m mu
