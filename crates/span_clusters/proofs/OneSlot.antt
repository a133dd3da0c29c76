-- Any number of parts in one slot: two are joined at a time.
use Rattle.std.proofs.Common.{◌≡◌, ◌∙◌, ap, sym, refl, ℕ, ◌<◌, List, [], ◌∷◌, length, map, arith, subst, inl, inr}
use Rattle.std.specs.Prelude.{fold}
use Rattle.std.specs.List.{AllByRecursion}
use Rattle.late_window.specs.Folding.{Rises, InSlot}
use Rattle.span_clusters.specs.Interleavings.{Interleaved, AllInterleaved, EachPair, IsJoin}
use Rattle.span_clusters.specs.Parts.{AreApart, Part, joined, starts, all_items, OutsBegin}
use Rattle.span_clusters.proofs.Interleavings.{swapped, alone, both_length, all_of_first, in_one, two_first, first_rises}
use Rattle.span_clusters.proofs.Separating.{Separating, SeparatingLaws, TwoInSlot}
use Rattle.span_clusters.proofs.Resting.{empty_or}

pub all_weaker : {X : Type 0} (P Q : X → Type 0) (xs : List X) → ((x : X) → P x → Q x) → AllByRecursion P xs → AllByRecursion Q xs
all_weaker P Q [] f h = tt
all_weaker P Q (x ∷ xs) f h = (f x h.0, all_weaker P Q xs f h.1)

pub all_unmap : {X Y : Type 0} (P : Y → Type 0) (f : X → Y) (xs : List X) → AllByRecursion P (map f xs) → AllByRecursion (λ x. P (f x)) xs
all_unmap P f [] h = tt
all_unmap P f (x ∷ xs) h = (h.0, all_unmap P f xs h.1)

pub pairs_unmap : {X Y : Type 0} (R : Y → Y → Type 0) (f : X → Y) (xs : List X) → EachPair R (map f xs) → EachPair (λ x y. R (f x) (f y)) xs
pairs_unmap R f [] h = tt
pairs_unmap R f (x ∷ xs) h = (all_unmap (R (f x)) f xs h.0, pairs_unmap R f xs h.1)

module _ {S I K O : Type 0} (F : Separating S I K O) (L : SeparatingLaws F) where
  abbrev pub Beside : Part S I → Part S I → Type 0
  Beside q r = F.is_beside q.start r.start

  abbrev pub ApartIn : ℕ → Part S I → Part S I → Type 0
  ApartIn n q r = AreApart F.gates n q.start r.start q.items r.items

  -- parts that take the step of one slot
  pub record AreInSlot (n : ℕ) (qs : List (Part S I)) (zs : List I) : Type 0 where
    pub items : AllInterleaved (all_items qs) zs
    pub of_slot : InSlot F.slot n zs
    pub rising : Rises F.cmp F.key zs
    pub beside : EachPair Beside qs
    pub before : AllByRecursion (λ r. F.is_before r.start n) qs
    pub apart : EachPair (ApartIn n) qs

  -- the first two as one
  pub record AreJoined (n : ℕ) (q r : Part S I) (qs : List (Part S I)) (zs : List I) : Type 0 where
    pub items : List I
    pub two : TwoInSlot F n q.start r.start q.items r.items items
    pub apart : AreApart F.gates n q.start r.start q.items r.items
    pub rest : AreInSlot n (joined F.merged q r items ∷ qs) zs

  joined_beside : (q r : Part S I) (ws : List I) (os : List (Part S I)) → Beside q r → AllByRecursion (Beside q) os → AllByRecursion (Beside r) os → AllByRecursion (Beside (joined F.merged q r ws)) os
  joined_beside q r ws [] b h k = tt
  joined_beside q r ws (o ∷ os) b h k = (L.beside_merged q.start r.start o.start b h.0 k.0, joined_beside q r ws os b h.1 k.1)

  joined_apart : (n : ℕ) (q r : Part S I) (ws : List I) (os : List (Part S I)) → TwoInSlot F n q.start r.start q.items r.items ws → ApartIn n q r
      → AllByRecursion (ApartIn n q) os → AllByRecursion (ApartIn n r) os → AllByRecursion (ApartIn n (joined F.merged q r ws)) os
  joined_apart n q r ws [] i a h k = tt
  joined_apart n q r ws (o ∷ os) i a h k = (
    record {
      there = λ g. elim (L.gates_merged q.start r.start n q.items r.items ws g.0 i a g.2) [ inl u ↦ h.0.there (g.0, g.1, u) | inr u ↦ k.0.there (g.0, g.1, u) ];
      back = λ g. elim (in_one g.0 q.items r.items ws i.items g.1) [ inl c ↦ h.0.back (g.0, c, g.2) | inr c ↦ k.0.back (g.0, c, g.2) ];
    },
    joined_apart n q r ws os i a h.1 k.1,
  )

  join : (n : ℕ) (q r : Part S I) (qs : List (Part S I)) (zs : List I) → AreInSlot n (q ∷ r ∷ qs) zs → AreJoined n q r qs zs
  join n q r qs zs a =
      let us : List I = a.items.0 in
      let vs : List I = a.items.2.0 in
      let w : (ws : List I) × Interleaved q.items r.items ws × Interleaved ws vs zs = two_first q.items us r.items vs zs a.items.1 a.items.2.1 in
      let i : TwoInSlot F n q.start r.start q.items r.items w.0 = record {
        items = w.1;
        of_slot = all_of_first (λ x. F.slot x ≡ n) w.0 vs zs w.2 a.of_slot;
        rising = first_rises F.cmp F.key w.0 vs zs w.2 a.rising;
        beside = a.beside.0.0;
        one = a.before.0;
        other = a.before.1.0;
      } in
      record {
        items = w.0;
        two = i;
        apart = a.apart.0.0;
        rest = record {
          items = (vs, w.2, a.items.2.2);
          of_slot = a.of_slot;
          rising = a.rising;
          beside = (joined_beside q r w.0 qs a.beside.0.0 a.beside.0.1 a.beside.1.0, a.beside.1.1);
          before = (L.merged_before q.start r.start n a.beside.0.0 a.before.0 a.before.1.0, a.before.1.1);
          apart = (joined_apart n q r w.0 qs i a.apart.0.0 a.apart.0.1 a.apart.1.0, a.apart.1.1);
        };
      }

  abbrev pub steps : ℕ → List (Part S I) → List S
  steps n qs = map (λ r. F.next r.start n r.items) qs

  pub next_all : (n : ℕ) (q : Part S I) (qs : List (Part S I)) (zs : List I) → AreInSlot n (q ∷ qs) zs → F.next (fold F.merged q.start (starts qs)) n zs ≡ fold F.merged (F.next q.start n q.items) (steps n qs)
  next_all n q [] zs a = ap (F.next q.start n) (sym (alone q.items a.items.0 zs a.items.1 a.items.2))
  next_all n q (r ∷ qs) zs a =
      let j : AreJoined n q r qs zs = join n q r qs zs a in
      next_all n (joined F.merged q r j.items) qs zs j.rest ∙ ap (λ t. fold F.merged t (steps n qs)) (L.next_merged q.start r.start n q.items r.items j.items j.two j.apart)

  -- outs of the parts that have items
  abbrev pub OutsIn : ℕ → List (Part S I) → List O → Type 0
  OutsIn n [] os = os ≡ []
  OutsIn n (q ∷ qs) os = OutsBegin (F.is_out q.start n q.items) (OutsIn n qs) q.items os

  first_none : (P : O → Type 0) (Q : List O → Type 0) (xs : List I) (os : List O) → xs ≡ [] → OutsBegin P Q xs os → Q os
  first_none P Q xs os e h = subst (λ l. OutsBegin P Q l os) e h

  none_first : (P : O → Type 0) (Q : List O → Type 0) (xs : List I) (os : List O) → xs ≡ [] → Q os → OutsBegin P Q xs os
  none_first P Q xs os e h = subst (λ l. OutsBegin P Q l os) (sym e) h

  pub record HasFirst (P : O → Type 0) (Q : List O → Type 0) (os : List O) : Type 0 where
    pub o : O
    pub rest : List O
    pub is : os ≡ o ∷ rest
    pub own : P o
    pub others : Q rest

  first_some : (P : O → Type 0) (Q : List O → Type 0) (xs : List I) (os : List O) → 0 < length xs → OutsBegin P Q xs os → HasFirst P Q os
  first_some P Q [] os l h = absurd (omega arith)
  first_some P Q (x ∷ xs) [] l h = absurd h
  first_some P Q (x ∷ xs) (o ∷ os) l h = record { o = o; rest = os; is = refl; own = h.0; others = h.1 }

  some_first : (P : O → Type 0) (Q : List O → Type 0) (xs : List I) (o : O) (os : List O) → 0 < length xs → P o → Q os → OutsBegin P Q xs (o ∷ os)
  some_first P Q [] o os l h k = absurd (omega arith)
  some_first P Q (x ∷ xs) o os l h k = (h, k)

  pub record OutsJoined (n : ℕ) (q r : Part S I) (ws : List I) (qs : List (Part S I)) (os : List O) : Type 0 where
    pub outs : List O
    pub are : OutsIn n (joined F.merged q r ws ∷ qs) outs
    pub same : (o : O) → IsJoin F.both os o → IsJoin F.both outs o

  filled_left : (xs ys ws : List I) → Interleaved xs ys ws → 0 < length xs → 0 < length ws
  filled_left xs ys ws m l = omega (arith, both_length xs ys ws m)

  -- where only the first of two has items
  out_left : (n : ℕ) (s t : S) (xs ys ws : List I) (o : O) → TwoInSlot F n s t xs ys ws → AreApart F.gates n s t xs ys → 0 < length xs → ys ≡ [] → F.is_out s n xs o → F.is_out (F.merged s t) n ws o
  out_left n s t xs ys ws o i a l e h =
      let same : xs ≡ ws = alone xs ys ws i.items e in
      let j : TwoInSlot F n s t xs [] xs = subst (λ u. TwoInSlot F n s t xs [] u) (sym same) (subst (λ u. TwoInSlot F n s t xs u ws) e i) in
      let b : AreApart F.gates n s t xs [] = subst (λ u. AreApart F.gates n s t xs u) e a in
      subst (λ u. F.is_out (F.merged s t) n u o) same (L.out_alone s t n xs o j b l h)

  in_back : (n : ℕ) (s t : S) (xs ys ws : List I) → TwoInSlot F n s t xs ys ws → TwoInSlot F n t s ys xs ws
  in_back n s t xs ys ws i = record { items = swapped xs ys ws i.items; of_slot = i.of_slot; rising = i.rising; beside = L.beside_back s t i.beside; one = i.other; other = i.one }

  join_outs : (n : ℕ) (q r : Part S I) (qs : List (Part S I)) (zs : List I) (j : AreJoined n q r qs zs) (os : List O) → OutsIn n (q ∷ r ∷ qs) os → OutsJoined n q r j.items qs os
  join_outs n q r qs zs j os h =
      let m = j.two.items in
      let P = F.is_out (F.merged q.start r.start) n j.items in
      let Q = OutsIn n qs in
      elim (empty_or q.items) [
        | inl e ↦
            let g : OutsIn n (r ∷ qs) os = first_none (F.is_out q.start n q.items) (OutsIn n (r ∷ qs)) q.items os e h in
            elim (empty_or r.items) [
              | inl f ↦ record {
                outs = os;
                are = none_first P Q j.items os (sym (alone q.items r.items j.items m f) ∙ e) (first_none (F.is_out r.start n r.items) Q r.items os f g);
                same = λ o k. k;
              }
              | inr l ↦
                  let a : HasFirst (F.is_out r.start n r.items) Q os = first_some (F.is_out r.start n r.items) Q r.items os l g in
                  record {
                    outs = os;
                    are = subst (OutsBegin P Q j.items) (sym a.is) (some_first P Q j.items a.o a.rest (filled_left r.items q.items j.items (swapped q.items r.items j.items m) l)
                        (subst (λ t. F.is_out t n j.items a.o) (L.merged_back r.start q.start (L.beside_back q.start r.start j.two.beside))
                        (out_left n r.start q.start r.items q.items j.items a.o (in_back n q.start r.start q.items r.items j.items j.two) (record { there = j.apart.back; back = j.apart.there }) l e a.own)) a.others);
                    same = λ o k. k;
                  }
            ]
        | inr l ↦
            let a : HasFirst (F.is_out q.start n q.items) (OutsIn n (r ∷ qs)) os = first_some (F.is_out q.start n q.items) (OutsIn n (r ∷ qs)) q.items os l h in
            elim (empty_or r.items) [
              | inl f ↦ record {
                outs = os;
                are = subst (OutsBegin P Q j.items) (sym a.is) (some_first P Q j.items a.o a.rest (filled_left q.items r.items j.items m l)
                    (out_left n q.start r.start q.items r.items j.items a.o j.two j.apart l f a.own) (first_none (F.is_out r.start n r.items) Q r.items a.rest f a.others));
                same = λ o k. k;
              }
              | inr k ↦
                  let b : HasFirst (F.is_out r.start n r.items) Q a.rest = first_some (F.is_out r.start n r.items) Q r.items a.rest k a.others in
                  record {
                    outs = F.both a.o b.o ∷ b.rest;
                    are = some_first P Q j.items (F.both a.o b.o) b.rest (filled_left q.items r.items j.items m l)
                        (L.out_merged q.start r.start n q.items r.items j.items a.o b.o j.two j.apart l k a.own b.own) b.others;
                    same = λ o g. subst (λ x. IsJoin F.both x o) (a.is ∙ ap (λ (x : List O). a.o ∷ x) b.is) g;
                  }
            ]
      ]

  -- the outs put together are an out of the whole
  pub out_all : (n : ℕ) (q : Part S I) (qs : List (Part S I)) (zs : List I) (os : List O) (o : O) → AreInSlot n (q ∷ qs) zs → OutsIn n (q ∷ qs) os → IsJoin F.both os o → F.is_out (fold F.merged q.start (starts qs)) n zs o
  out_all n q [] zs os o a h k =
      let same : q.items ≡ zs = alone q.items a.items.0 zs a.items.1 a.items.2 in
      elim (empty_or q.items) [
        | inl e ↦ absurd (subst (λ x. IsJoin F.both x o) (first_none (F.is_out q.start n q.items) (λ x. x ≡ []) q.items os e h) k)
        | inr l ↦
            let f : HasFirst (F.is_out q.start n q.items) (λ x. x ≡ []) os = first_some (F.is_out q.start n q.items) (λ x. x ≡ []) q.items os l h in
            let is : o ≡ f.o = subst (λ x. IsJoin F.both x o) (f.is ∙ ap (λ (x : List O). f.o ∷ x) f.others) k in
            subst (λ u. F.is_out q.start n u o) same (subst (F.is_out q.start n q.items) (sym is) f.own)
      ]
  out_all n q (r ∷ qs) zs os o a h k =
      let j : AreJoined n q r qs zs = join n q r qs zs a in
      let b : OutsJoined n q r j.items qs os = join_outs n q r qs zs j os h in
      out_all n (joined F.merged q r j.items) qs zs b.outs o j.rest b.are (b.same o k)
