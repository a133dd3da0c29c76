-- Lists of views after one of them changed, functions changed at one number, and lists of numbers.
use Rattle.std.proofs.Common.{◌<◌, ◌≤◌, ◌≡◌, ◌≢◌, ◌⊎◌, ℕ, zero, suc, ◌+◌, ◌==◌, Bool, true, false, true≢false, List, [], ◌∷◌, ◌++◌, set, sym, refl, ap, ◌∙◌, subst, ⊎_elim, inl, inr, arith, append_assoc, eq-eqb, ne_eqb}
use Rattle.std.specs.Prelude.{if◌then◌else◌, count_by}
use Rattle.std.specs.List.{AllByRecursion}
use Rattle.std.proofs.lemmas.List.Sums.{sum_by-append}
use mathlib.Core.Logic.{dite}
use mathlib.Core.Option.{some, some-injective, some-ne-none}
use native.Mathlib.Decide.{ℕ_discrete}
use lib.ListN.{get_elem?}
use Rattle.atomic_table.proofs.Lists.{at_set, set_else}
use Rattle.turn_lock.specs.Lists.{is_member, count_of, Begins}
use Rattle.turn_lock.specs.Rule.{SeatWith}

abbrev pick : {P : Type 0} → Dec P → ℕ → ℕ → ℕ
pick (yes _) a b = a
pick (no _) a b = b

-- the function, with i at x
pub put_at : (ℕ → ℕ) → ℕ → ℕ → ℕ → ℕ
put_at f x i q = pick (ℕ_discrete q x) i (f q)

pub put_elim : (f : ℕ → ℕ) (x i q : ℕ) (F : ℕ → Type 0) → (q ≡ x → F i) → (q ≢ x → F (f q)) → F (put_at f x i q)
unfolding put_at
put_elim f x i q F here other = go (ℕ_discrete q x)
  where
    go : (d : Dec (q ≡ x)) → F (pick d i (f q))
    go (yes e) = here e
    go (no n) = other n

module _ {A : Type 0} where
  pub set_there : (l : List A) (i : ℕ) (a b : A) → get_elem? l i ≡ some a → get_elem? (set l i b) i ≡ some b
  set_there [] i a b e = absurd (some-ne-none a (sym e))
  set_there (x ∷ xs) zero a b e = refl
  set_there (x ∷ xs) (suc i) a b e = set_there xs i a b e

  pub all_set : (F : ℕ → A → Type 0) (vs : List A) (me : ℕ) (w : A) → F me w → ((j : ℕ) (d : A) → j ≢ me → get_elem? vs j ≡ some d → F j d)
      → (j : ℕ) (d : A) → get_elem? (set vs me w) j ≡ some d → F j d
  all_set F vs me w mine others j d e = ⊎_elim (λ (t : (j ≡ me) × (w ≡ d)). subst (λ (x : ℕ × A). F x.0 x.1) (λ i. (sym t.0 i, t.1 i)) mine)
      (λ (t : (j ≢ me) × (get_elem? vs j ≡ some d)). others j d t.0 t.1) (at_set vs me j w d e)

  pub seat_set : (vs : List A) (me : ℕ) (v w : A) (Q : A → Type 0) → get_elem? vs me ≡ some v → (Q v → Q w) → (i : ℕ) → SeatWith vs i Q → SeatWith (set vs me w) i Q
  seat_set vs me v w Q at keep i t = dite (ℕ_discrete i me)
      (λ e. (w, ap (get_elem? (set vs me w)) e ∙ set_there vs me v w at, keep (subst Q (some-injective t.0 v (sym t.1 ∙ (ap (get_elem? vs) e ∙ at))) t.2)))
      (λ n. (t.0, set_else vs me i w n ∙ t.1, t.2))

  pub begins_append : (xs ys zs : List A) → Begins xs ys → Begins xs (ys ++ zs)
  begins_append xs ys zs b = (b.0 ++ zs, ap (λ l. l ++ zs) b.1 ∙ append_assoc xs b.0 zs)

  pub each_more : {P Q : A → Type 0} → ((x : A) → P x → Q x) → (xs : List A) → AllByRecursion P xs → AllByRecursion Q xs
  each_more f [] h = tt
  each_more f (x ∷ xs) h = (f x h.0, each_more f xs h.1)

  pub each_append : (P : A → Type 0) (xs ys : List A) → AllByRecursion P xs → AllByRecursion P ys → AllByRecursion P (xs ++ ys)
  each_append P [] ys h k = k
  each_append P (x ∷ xs) ys h k = (h.0, each_append P xs ys h.1 k)

  pub each_left : (P : A → Type 0) (xs ys : List A) → AllByRecursion P (xs ++ ys) → AllByRecursion P xs
  each_left P [] ys h = tt
  each_left P (x ∷ xs) ys h = (h.0, each_left P xs ys h.1)

  pub each_right : (P : A → Type 0) (xs ys : List A) → AllByRecursion P (xs ++ ys) → AllByRecursion P ys
  each_right P [] ys h = h
  each_right P (x ∷ xs) ys h = each_right P xs ys h.1

  pub count_by-append : (f : A → Bool) (xs ys : List A) → count_by f (xs ++ ys) ≡ count_by f xs + count_by f ys
  count_by-append f xs ys = sum_by-append (λ x. if f x then 1 else 0) xs ys

pub is_member-append : (n : ℕ) (xs ys : List ℕ) → is_member n (xs ++ ys) ≡ true → (is_member n xs ≡ true) ⊎ (is_member n ys ≡ true)
is_member-append n [] ys h = inr h
is_member-append n (x ∷ xs) ys h = go (n == x) (λ e. is_member-append n xs ys e) h
  where
    go : (b : Bool) → (is_member n (xs ++ ys) ≡ true → (is_member n xs ≡ true) ⊎ (is_member n ys ≡ true)) → (if b then true else is_member n (xs ++ ys)) ≡ true → ((if b then true else is_member n xs) ≡ true) ⊎ (is_member n ys ≡ true)
    go true f e = inl refl
    go false f e = f e

pub is_member-left : (n : ℕ) (xs ys : List ℕ) → is_member n xs ≡ true → is_member n (xs ++ ys) ≡ true
is_member-left n [] ys h = absurd (true≢false (sym h))
is_member-left n (x ∷ xs) ys h = go (n == x) (λ e. is_member-left n xs ys e) h
  where
    go : (b : Bool) → (is_member n xs ≡ true → is_member n (xs ++ ys) ≡ true) → (if b then true else is_member n xs) ≡ true → (if b then true else is_member n (xs ++ ys)) ≡ true
    go true f e = refl
    go false f e = f e

pub is_member-right : (n : ℕ) (xs ys : List ℕ) → is_member n ys ≡ true → is_member n (xs ++ ys) ≡ true
is_member-right n [] ys h = h
is_member-right n (x ∷ xs) ys h = go (n == x) (is_member-right n xs ys h)
  where
    go : (b : Bool) → is_member n (xs ++ ys) ≡ true → (if b then true else is_member n (xs ++ ys)) ≡ true
    go true e = refl
    go false e = e

pub is_member_one : (n x : ℕ) → is_member n (x ∷ []) ≡ true → n ≡ x
is_member_one n x h = dite (ℕ_discrete n x) (λ e. e) (λ ne. absurd (true≢false (sym h ∙ ap (λ b. if b then true else false) (ne_eqb n x ne))))

pub is_member_first : (n x : ℕ) (ns : List ℕ) → n ≡ x → is_member n (x ∷ ns) ≡ true
is_member_first n x ns e = ap (λ b. if b then true else is_member n ns) (eq-eqb n x e)

pub is_member_other : (n x : ℕ) (ns : List ℕ) → n ≢ x → is_member n (x ∷ ns) ≡ is_member n ns
is_member_other n x ns ne = ap (λ b. if b then true else is_member n ns) (ne_eqb n x ne)

pub count_of-append : (n : ℕ) (xs ys : List ℕ) → count_of n (xs ++ ys) ≡ count_of n xs + count_of n ys
count_of-append n [] ys = omega arith
count_of-append n (x ∷ xs) ys = let h = count_of-append n xs ys in omega (arith, h)

pub is_member_counted : (n : ℕ) (xs : List ℕ) → 0 < count_of n xs → is_member n xs ≡ true
is_member_counted n [] h = absurd (omega arith)
is_member_counted n (x ∷ xs) h = go (n == x) (λ e. is_member_counted n xs e) h
  where
    go : (b : Bool) → (0 < count_of n xs → is_member n xs ≡ true) → 0 < (if b then 1 else 0) + count_of n xs → (if b then true else is_member n xs) ≡ true
    go true f e = refl
    go false f e = f (omega arith)

pub count_of_member : (n : ℕ) (xs : List ℕ) → is_member n xs ≡ true → 0 < count_of n xs
count_of_member n [] h = absurd (true≢false (sym h))
count_of_member n (x ∷ xs) h = go (n == x) (λ e. count_of_member n xs e) h
  where
    go : (b : Bool) → (is_member n xs ≡ true → 0 < count_of n xs) → (if b then true else is_member n xs) ≡ true → 0 < (if b then 1 else 0) + count_of n xs
    go true f e = omega arith
    go false f e = let h = f e in omega arith

pub count_of_one : (n x : ℕ) → count_of n (x ∷ []) ≤ 1
count_of_one n x = go (n == x)
  where
    go : (b : Bool) → (if b then 1 else 0) + 0 ≤ 1
    go true = omega arith
    go false = omega arith

pub count_of_other : (n x : ℕ) → n ≢ x → count_of n (x ∷ []) ≡ 0
count_of_other n x ne = ap (λ b. (if b then 1 else 0) + 0) (ne_eqb n x ne)

pub count_of_head : (n x : ℕ) (xs : List ℕ) → n ≡ x → count_of n (x ∷ xs) ≡ 1 + count_of n xs
count_of_head n x xs e = ap (λ b. (if b then 1 else 0) + count_of n xs) (eq-eqb n x e)

pub count_of_tail : (n x : ℕ) (xs : List ℕ) → n ≢ x → count_of n (x ∷ xs) ≡ count_of n xs
count_of_tail n x xs ne = let e : count_of n (x ∷ xs) ≡ 0 + count_of n xs = ap (λ b. (if b then 1 else 0) + count_of n xs) (ne_eqb n x ne) in omega arith
