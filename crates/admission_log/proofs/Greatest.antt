-- Elements of a list, and the greatest of some entries.
use Rattle.std.proofs.Common.{◌≡◌, ◌∙◌, ap, sym, subst, refl, Bool, true, false, cond, List, [], ◌∷◌, ◌++◌, ◌⊎◌, inl, inr}
use Rattle.std.specs.Prelude.{filter, fold}
use Rattle.std.specs.Cmp.{IsStrictWeakOrder}
use Rattle.std.specs.Ordering.{is_lt, ord_max, ordering_reverse}
use Rattle.std.specs.declared.cmp.Ordering.{Ordering}
use Rattle.std.specs.declared.cmp.Ordering.TheVariants.{Less, Equal, Greater}
use Rattle.std.proofs.lemmas.List.Sorted.{ranks_by}
use Rattle.admission_log.specs.declared.entries.Entry.{Entry}
use Rattle.admission_log.specs.EntryOrder.{entry_cmp, entry_cmp_total}

-- ---- elements

-- x is an element
abbrev pub Has : {X : Type 0} → X → List X → Type 0
Has x [] = ⊥
Has x (y ∷ ys) = (x ≡ y) ⊎ Has x ys

pub has_left : {X : Type 0} (x : X) (xs ys : List X) → Has x xs → Has x (xs ++ ys)
has_left x [] ys h = absurd h
has_left x (y ∷ xs) ys (inl h) = inl h
has_left x (y ∷ xs) ys (inr h) = inr (has_left x xs ys h)

pub has_right : {X : Type 0} (x : X) (xs ys : List X) → Has x ys → Has x (xs ++ ys)
has_right x [] ys h = h
has_right x (y ∷ xs) ys h = inr (has_right x xs ys h)

pub has_either : {X : Type 0} (x : X) (xs ys : List X) → Has x (xs ++ ys) → Has x xs ⊎ Has x ys
has_either x [] ys h = inr h
has_either x (y ∷ xs) ys (inl h) = inl (inl h)
has_either x (y ∷ xs) ys (inr h) = elim (has_either x xs ys h) [ inl k ↦ inl (inr k) | inr k ↦ inr k ]

-- one that passes the test is among those that do
pub has_filtered : {X : Type 0} (p : X → Bool) (x : X) (xs : List X) → Has x xs → p x ≡ true → Has x (filter p xs)
has_filtered p x [] h passes = absurd h
has_filtered p x (y ∷ xs) (inl h) passes = subst (λ b. Has x (cond b (y ∷ filter p xs) (filter p xs))) (sym (ap p (sym h) ∙ passes)) (inl h)
has_filtered {X} p x (y ∷ xs) (inr h) passes = elim (p y) as (λ b. Has x (cond b (y ∷ filter p xs) (filter p xs))) [
  | true ↦ inr (has_filtered p x xs h passes)
  | false ↦ has_filtered p x xs h passes
]

pub passes_filtered : {X : Type 0} (p : X → Bool) (x : X) (xs : List X) → Has x (filter p xs) → Has x xs × (p x ≡ true)
passes_filtered p x [] h = absurd h
passes_filtered {X} p x (y ∷ xs) h =
    let at : (b : Bool) → p y ≡ b → Has x (cond b (y ∷ filter p xs) (filter p xs)) → Has x (y ∷ xs) × (p x ≡ true) =
    λ b. elim b as (λ b. p y ≡ b → Has x (cond b (y ∷ filter p xs) (filter p xs)) → Has x (y ∷ xs) × (p x ≡ true)) [
      | true ↦ λ e k. elim k [
        | inl same ↦ (inl same, ap p same ∙ e)
        | inr more ↦ (let rest = passes_filtered p x xs more in (inr rest.0, rest.1))
      ]
      | false ↦ λ e k. let rest = passes_filtered p x xs k in (inr rest.0, rest.1)
    ] in
    at (p y) refl h

-- ---- the greatest

pub order : IsStrictWeakOrder (λ x y. is_lt (entry_cmp x y))
order = ranks_by entry_cmp_total (λ x. x)

not_below_itself : (x : Entry) → is_lt (entry_cmp x x) ≡ false
not_below_itself x =
    let h : (o : Ordering) → o ≡ ordering_reverse o → is_lt o ≡ false = λ o. elim o as (λ o. o ≡ ordering_reverse o → is_lt o ≡ false) [ Less ↦ λ e. absurd (cc) | Equal ↦ λ e. refl | Greater ↦ λ e. refl ] in
    h (entry_cmp x x) (entry_cmp_total.antisymm x x)

-- the greater of two is one of them, and neither is above it
pub record IsMax (a b r : Entry) : Type 0 where
  pub one : (r ≡ a) ⊎ (r ≡ b)
  pub first : is_lt (entry_cmp r a) ≡ false
  pub second : is_lt (entry_cmp r b) ≡ false

max_is : (a b : Entry) → IsMax a b (ord_max entry_cmp a b)
max_is a b =
    let at : (t : Bool) → is_lt (entry_cmp b a) ≡ t → IsMax a b (cond t a b) = λ t. elim t as (λ t. is_lt (entry_cmp b a) ≡ t → IsMax a b (cond t a b)) [
      | true ↦ λ e. record { one = inl refl; first = not_below_itself a; second = order.one_way b a e }
      | false ↦ λ e. record { one = inr refl; first = e; second = not_below_itself b }
    ] in
    at (is_lt (entry_cmp b a)) refl

-- the greatest is one of them, and none is above it
pub record IsGreatest (xs : List Entry) (r : Entry) : Type 0 where
  pub one : Has r xs
  pub least : (x : Entry) → Has x xs → is_lt (entry_cmp r x) ≡ false

pub greatest_is : (x : Entry) (xs : List Entry) → IsGreatest (x ∷ xs) (fold (ord_max entry_cmp) x xs)
greatest_is x [] = record { one = inl refl; least = λ y h. elim h [ inl same ↦ subst (λ z. is_lt (entry_cmp x z) ≡ false) (sym same) (not_below_itself x) | inr none ↦ absurd none ] }
greatest_is x (y ∷ xs) =
    let m = ord_max entry_cmp x y in
    let r = fold (ord_max entry_cmp) m xs in
    let max = max_is x y in
    let rest = greatest_is m xs in
    let above = rest.least m (inl refl) in
    record {
      one = elim rest.one [
        | inl same ↦ elim max.one [ inl first ↦ inl (same ∙ first) | inr second ↦ inr (inl (same ∙ second)) ]
        | inr more ↦ inr (inr more)
      ];
      least = λ z h. elim h [
        | inl first ↦ subst (λ z. is_lt (entry_cmp r z) ≡ false) (sym first) (order.chain r m x above max.first)
        | inr others ↦ elim others [
          | inl second ↦ subst (λ z. is_lt (entry_cmp r z) ≡ false) (sym second) (order.chain r m y above max.second)
          | inr more ↦ rest.least z (inr more)
        ]
      ];
    }
