-- The run of a part, with a rest in each slot that only others fill.
use Rattle.std.proofs.Common.{◌≡◌, ◌∙◌, ap, sym, refl, ℕ, zero, suc, ◌+◌, ◌<◌, ◌≤◌, List, [], ◌∷◌, length, eqb, arith, subst, inl, inr}
use Rattle.std.specs.Prelude.{◌⊎◌}
use Rattle.late_window.specs.Folding.{Rises, at_slot, stepped, before}
use Rattle.span_clusters.specs.Parts.{IsFilled}
use Rattle.span_clusters.proofs.Interleavings.{at_in_slot, rises_filter}
use Rattle.span_clusters.proofs.Separating.{Separating, SeparatingLaws}

pub empty_or : {I : Type 0} (xs : List I) → (xs ≡ []) ⊎ (0 < length xs)
empty_or [] = inl refl
empty_or (x ∷ xs) = inr (omega arith)

-- the step of a slot that the whole fills; else the state stays
abbrev pub rested_step : {S I : Type 0} → (S → ℕ → List I → S) → S → ℕ → List I → List I → S
rested_step next s n own [] = s
rested_step next s n own (z ∷ zs) = next s n own

-- the part's state before a slot, with a rest in each slot that only others fill
unfoldable pub rested_before : {S I : Type 0} → (S → ℕ → List I → S) → (I → ℕ) → S → List I → List I → ℕ → S
rested_before next slot s xs zs zero = s
rested_before next slot s xs zs (suc n) = rested_step next (rested_before next slot s xs zs n) n (at_slot slot n xs) (at_slot slot n zs)

pub rested_filled : {S I : Type 0} (next : S → ℕ → List I → S) (s : S) (n : ℕ) (own zs : List I) → 0 < length zs → rested_step next s n own zs ≡ next s n own
rested_filled next s n own [] h = absurd (omega arith)
rested_filled next s n own (z ∷ zs) h = refl

pub stepped_filled : {S I : Type 0} (next : S → ℕ → List I → S) (s : S) (n : ℕ) (xs : List I) → 0 < length xs → stepped next s n xs ≡ next s n xs
stepped_filled next s n [] h = absurd (omega arith)
stepped_filled next s n (x ∷ xs) h = refl

stepped_caught : {S I : Type 0} (next : S → ℕ → List I → S) (s : S) (n : ℕ) (xs : List I) → stepped next s n xs ≡ rested_step next s n xs xs
stepped_caught next s n [] = refl
stepped_caught next s n (x ∷ xs) = refl

-- by itself the whole rests nowhere
pub whole_rests_nowhere : {S I : Type 0} (next : S → ℕ → List I → S) (slot : I → ℕ) (s : S) (zs : List I) (n : ℕ) → before next slot s zs n ≡ rested_before next slot s zs zs n
unfolding before rested_before
whole_rests_nowhere next slot s zs zero = refl
whole_rests_nowhere next slot s zs (suc n) = stepped_caught next (before next slot s zs n) n (at_slot slot n zs) ∙ ap (λ t. rested_step next t n (at_slot slot n zs) (at_slot slot n zs)) (whole_rests_nowhere next slot s zs n)

module _ {S I K O : Type 0} (F : Separating S I K O) (L : SeparatingLaws F) where
  -- a start and items of a part, with the items of the whole
  pub record IsPartOf (s : S) (xs zs : List I) : Type 0 where
    pub rises : Rises F.cmp F.key xs
    pub filled : (n : ℕ) → IsFilled F.slot n xs → IsFilled F.slot n zs
    pub start : (n : ℕ) → IsFilled F.slot n zs → F.is_before s n

  pub at_rises : (s : S) (xs zs : List I) (n : ℕ) → IsPartOf s xs zs → Rises F.cmp F.key (at_slot F.slot n xs)
  at_rises s xs zs n i = rises_filter F.cmp F.key (λ x. eqb (F.slot x) n) xs i.rises

  pub before_stays : (s : S) (xs zs : List I) → IsPartOf s xs zs → (n m : ℕ) → n ≤ m → IsFilled F.slot m zs → F.is_before (before F.next F.slot s xs n) m
  unfolding before
  before_stays s xs zs i zero m le f = i.start m f
  before_stays s xs zs i (suc n) m le f = elim (empty_or (at_slot F.slot n xs)) [
    | inl e ↦ subst (λ t. F.is_before t m) (sym (ap (stepped F.next (before F.next F.slot s xs n) n) e)) (before_stays s xs zs i n m (omega arith) f)
    | inr g ↦ subst (λ t. F.is_before t m) (sym (stepped_filled F.next (before F.next F.slot s xs n) n (at_slot F.slot n xs) g))
        (L.stays_before _ (n + 1) m (omega arith) (L.goes_before (before F.next F.slot s xs n) n (at_slot F.slot n xs) (at_in_slot F.slot n xs) (at_rises s xs zs n i) (before_stays s xs zs i n n (omega arith) (i.filled n g))))
  ]

  pub rested_stays : (s : S) (xs zs : List I) → IsPartOf s xs zs → (n m : ℕ) → n ≤ m → IsFilled F.slot m zs → F.is_before (rested_before F.next F.slot s xs zs n) m
  unfolding rested_before
  rested_stays s xs zs i zero m le f = i.start m f
  rested_stays s xs zs i (suc n) m le f = elim (empty_or (at_slot F.slot n zs)) [
    | inl e ↦ subst (λ t. F.is_before t m) (sym (ap (rested_step F.next (rested_before F.next F.slot s xs zs n) n (at_slot F.slot n xs)) e)) (rested_stays s xs zs i n m (omega arith) f)
    | inr g ↦ subst (λ t. F.is_before t m) (sym (rested_filled F.next (rested_before F.next F.slot s xs zs n) n (at_slot F.slot n xs) (at_slot F.slot n zs) g))
        (L.stays_before _ (n + 1) m (omega arith) (L.goes_before (rested_before F.next F.slot s xs zs n) n (at_slot F.slot n xs) (at_in_slot F.slot n xs) (at_rises s xs zs n i) (rested_stays s xs zs i n n (omega arith) g)))
  ]

  -- in slot n the state t does what s does
  pub record Reads (t s : S) (n : ℕ) : Type 0 where
    pub next : (ys : List I) → F.next t n ys ≡ F.next s n ys
    pub gates : (ys : List I) (x : I) → F.gates t n ys x → F.gates s n ys x
    pub out : (ys : List I) (o : O) → F.is_out s n ys o → F.is_out t n ys o

  reads_same : (t s : S) (n : ℕ) → t ≡ s → Reads t s n
  reads_same t s n e = subst (λ u. Reads u s n) (sym e) (record { next = λ ys. refl; gates = λ ys x h. h; out = λ ys o h. h })

  reads_by : (t s u v : S) (n : ℕ) → t ≡ u → s ≡ v → Reads u v n → Reads t s n
  reads_by t s u v n e f r = subst (λ a. Reads a s n) (sym e) (subst (λ b. Reads u b n) (sym f) r)

  -- rests change neither that a later slot does
  pub reads : (s : S) (xs zs : List I) → IsPartOf s xs zs → (n b : ℕ) → n ≤ b → Reads (rested_before F.next F.slot s xs zs n) (before F.next F.slot s xs n) b
  unfolding rested_before before
  reads s xs zs i zero b le = reads_same _ _ b refl
  reads s xs zs i (suc n) b le =
      let a = rested_before F.next F.slot s xs zs n in
      let c = before F.next F.slot s xs n in
      let own = at_slot F.slot n xs in
      let all = at_slot F.slot n zs in
      elim (empty_or all) [
        | inl e ↦ elim (empty_or own) [
          | inl f ↦ reads_by _ _ a c b (ap (rested_step F.next a n own) e) (ap (stepped F.next c n) f) (reads s xs zs i n b (omega arith))
          | inr g ↦ absurd (let h : 0 < length all = i.filled n g in let k : length all ≡ 0 = ap length e in omega arith)
        ]
        | inr h ↦
            let r : Reads a c n = reads s xs zs i n n (omega arith) in
            elim (empty_or own) [
              | inl f ↦
                  let old : F.is_before c n = before_stays s xs zs i n n (omega arith) h in
                  reads_by _ _ (F.next c n []) c b (rested_filled F.next a n own all h ∙ ap (F.next a n) f ∙ r.next []) (ap (stepped F.next c n) f)
                  (record {
                    next = λ ys. L.next_rested c n b ys old (omega arith);
                    gates = λ ys x k. L.gates_rested c n b ys x old (omega arith) k;
                    out = λ ys o k. L.out_rested c n b ys o old (omega arith) k;
                  })
              | inr g ↦ reads_same _ _ b (rested_filled F.next a n own all h ∙ r.next own ∙ sym (stepped_filled F.next c n own g))
            ]
      ]
