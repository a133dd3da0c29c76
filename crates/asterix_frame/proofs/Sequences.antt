-- Lists of things that are encoded one after the other, where octets begin one thing at most, or have one fault.
use Rattle.std.proofs.Common.{◌≡◌, ◌∙◌, ap, sym, refl, subst, inl, inr, zero, suc, ℕ, ◌+◌, ◌<◌, ◌≤◌, ◌⊎◌, List, [], ◌∷◌, ◌++◌, length, arith, append_assoc, append-nil, length-append}
use Rattle.std.specs.List.{flat_map, AllByRecursion}

module _ (X : Type 0) (octets_of : X → List ℕ) (Is : X → Type 0) (None : List ℕ → ℕ → ℕ → Type 0) where
  pub record AreCode : Type 0 where
    pub some : (x : X) → Is x → 0 < length (octets_of x)
    pub same : (x y : X) (r t : List ℕ) → Is x → Is y → octets_of x ++ r ≡ octets_of y ++ t → (x ≡ y) × (r ≡ t)
    pub not_none : (x : X) (r : List ℕ) (inside cause : ℕ) → Is x → None (octets_of x ++ r) inside cause → ⊥
    pub not_empty : (inside cause : ℕ) → None [] inside cause → ⊥
    pub one_fault : (o : List ℕ) (i c i' c' : ℕ) → None o i c → None o i' c' → (i ≡ i') × (c ≡ c')

  -- the end of a reading: nothing, or what begins none
  pub record Ends (r : List ℕ) : Type 0 where
    pub ends : (r ≡ []) ⊎ ((inside : ℕ) × (cause : ℕ) × None r inside cause)

  pub at_end : Ends []
  at_end = record { ends = inl refl }

  pub at_fault : (r : List ℕ) (inside cause : ℕ) → None r inside cause → Ends r
  at_fault r inside cause none = record { ends = inr (inside, cause, none) }

  -- whole things, and then octets that begin none
  pub record FirstFault (octets : List ℕ) (offset cause : ℕ) : Type 0 where
    pub prefix : List X
    pub rest : List ℕ
    pub inside : ℕ
    pub all : AllByRecursion Is prefix
    pub whole : octets ≡ flat_map octets_of prefix ++ rest
    pub none : None rest inside cause
    pub offset_is : offset ≡ length (flat_map octets_of prefix) + inside

  pub record Whole (octets : List ℕ) (xs : List X) : Type 0 where
    pub all : AllByRecursion Is xs
    pub whole : octets ≡ flat_map octets_of xs

  module _ (code : AreCode) where
    no_more : (x : X) (r t : List ℕ) → Is x → Ends t → t ≡ octets_of x ++ r → ⊥
    no_more x r t hx end e =
        elim end.ends [
          | inl nil ↦ omega (arith, code.some x hx, ap length (sym e ∙ nil), length-append (octets_of x) r)
          | inr (inside, cause, none) ↦ code.not_none x r inside cause hx (subst (λ z. None z inside cause) e none)
        ]

    pub same_reading : (xs ys : List X) (r t : List ℕ) → AllByRecursion Is xs → AllByRecursion Is ys → Ends r → Ends t → flat_map octets_of xs ++ r ≡ flat_map octets_of ys ++ t → (xs ≡ ys) × (r ≡ t)
    same_reading [] [] r t hx hy er et e = (refl, e)
    same_reading [] (y ∷ ys) r t hx hy er et e = absurd (no_more y (flat_map octets_of ys ++ t) r hy.0 er (e ∙ append_assoc (octets_of y) (flat_map octets_of ys) t))
    same_reading (x ∷ xs) [] r t hx hy er et e = absurd (no_more x (flat_map octets_of xs ++ r) t hx.0 et (sym e ∙ append_assoc (octets_of x) (flat_map octets_of xs) r))
    same_reading (x ∷ xs) (y ∷ ys) r t hx hy er et e =
        let prefix = code.same x y (flat_map octets_of xs ++ r) (flat_map octets_of ys ++ t) hx.0 hy.0 (sym (append_assoc (octets_of x) (flat_map octets_of xs) r) ∙ e ∙ append_assoc (octets_of y) (flat_map octets_of ys) t) in
        let rest = same_reading xs ys r t hx.1 hy.1 er et prefix.1 in
        (λ i. prefix.0 i ∷ rest.0 i, rest.1)

    pub one_list : (o : List ℕ) (xs ys : List X) → Whole o xs → Whole o ys → xs ≡ ys
    one_list o xs ys a b =
        (same_reading xs ys [] [] a.all b.all at_end at_end (append-nil (flat_map octets_of xs) ∙ sym a.whole ∙ b.whole ∙ sym (append-nil (flat_map octets_of ys)))).0

    pub not_both : (o : List ℕ) (xs : List X) (offset cause : ℕ) → Whole o xs → FirstFault o offset cause → ⊥
    not_both o xs offset cause a f =
        let same = same_reading xs f.prefix [] f.rest a.all f.all at_end (at_fault f.rest f.inside cause f.none) (append-nil (flat_map octets_of xs) ∙ sym a.whole ∙ f.whole) in
        code.not_empty f.inside cause (subst (λ z. None z f.inside cause) (sym same.1) f.none)

    pub one_fault : (o : List ℕ) (p c p' c' : ℕ) → FirstFault o p c → FirstFault o p' c' → (p ≡ p') × (c ≡ c')
    one_fault o p c p' c' f g =
        let same = same_reading f.prefix g.prefix f.rest g.rest f.all g.all (at_fault f.rest f.inside c f.none) (at_fault g.rest g.inside c' g.none) (sym f.whole ∙ g.whole) in
        let one = code.one_fault g.rest f.inside c g.inside c' (subst (λ z. None z f.inside c) same.1 f.none) g.none in
        (f.offset_is ∙ (λ i. length (flat_map octets_of (same.0 i)) + one.0 i) ∙ sym g.offset_is, one.1)

    -- ---- there is a reading

    -- what octets begin
    pub record Step (Good : List ℕ → Type 0) (o : List ℕ) : Type 0 where
      pub step : ((x : X) × (rest : List ℕ) × Is x × (o ≡ octets_of x ++ rest) × Good rest) ⊎ ((inside : ℕ) × (cause : ℕ) × None o inside cause)

    pub record Reading (o : List ℕ) : Type 0 where
      pub reading : ((xs : List X) × Whole o xs) ⊎ ((offset : ℕ) × (cause : ℕ) × FirstFault o offset cause)

    more : (x : X) (o rest : List ℕ) → Is x → o ≡ octets_of x ++ rest → Reading rest → Reading o
    more x o rest h e r =
        elim r.reading [
          | inl (xs, w) ↦ record { reading = inl (x ∷ xs, record { all = (h, w.all); whole = e ∙ ap (λ t. octets_of x ++ t) w.whole }) }
          | inr (offset, cause, f) ↦ record {
            reading = inr (
              length (octets_of x) + offset,
              cause,
              record {
                prefix = x ∷ f.prefix;
                rest = f.rest;
                inside = f.inside;
                all = (h, f.all);
                whole = e ∙ ap (λ t. octets_of x ++ t) f.whole ∙ sym (append_assoc (octets_of x) (flat_map octets_of f.prefix) f.rest);
                none = f.none;
                offset_is = omega (arith, f.offset_is, length-append (octets_of x) (flat_map octets_of f.prefix));
              },
            );
          }
        ]

    pub some_reading : (Good : List ℕ → Type 0) → ((o : List ℕ) → Good o → 0 < length o → Step Good o) → (n : ℕ) (o : List ℕ) → length o ≤ n → Good o → Reading o
    some_reading Good step n [] h good = record { reading = inl ([], record { all = tt; whole = refl }) }
    some_reading Good step zero (a ∷ o) h good = absurd (omega arith)
    some_reading Good step (suc n) (a ∷ o) h good =
        elim (step (a ∷ o) good (omega arith)).step [
          | inl (x, rest, is, e, next) ↦ more x (a ∷ o) rest is e (some_reading Good step n rest (omega (arith, code.some x is, ap length e, length-append (octets_of x) rest, h)) next)
          | inr (inside, cause, none) ↦ record { reading = inr (inside, cause, record { prefix = []; rest = a ∷ o; inside = inside; all = tt; whole = refl; none = none; offset_is = omega arith }) }
        ]
