-- Orders that compare the slot first, for those who fold.
use Rattle.std.proofs.Common.{◌≡◌, ap, refl, subst, ℕ, ◌+◌, ◌≤◌, arith, inl, inr}
use Rattle.std.specs.Ordering.{nat_cmp, ordering_then}
use Rattle.std.specs.declared.cmp.Ordering.{Ordering}
use Rattle.std.specs.declared.cmp.Ordering.TheVariants.{Less, Greater}
use Rattle.std.proofs.lemmas.Bool.{cases_lt, le-ltb, ne_eqb}

greater_first : (r : Ordering) → ordering_then Greater r ≡ Less → ⊥
greater_first r e = cc

-- items in such an order are in the order of their slots
pub slot_first : {I : Type 0} (slot : I → ℕ) (rest : I → I → Ordering) (x y : I) → ordering_then (nat_cmp (slot x) (slot y)) (rest x y) ≡ Less → slot x ≤ slot y
slot_first slot rest x y e =
    elim (cases_lt (slot y) (slot x)) [
      | inl lt ↦
          let greater : nat_cmp (slot x) (slot y) ≡ Greater = rw (le-ltb (slot x) (slot y) (omega (arith, lt)), ne_eqb (slot x) (slot y) (λ q. omega (arith, lt, q))) refl in
          absurd (greater_first (rest x y) (subst (λ o. ordering_then o (rest x y) ≡ Less) greater e))
      | inr le ↦ le
    ]

pub same_first : {X Y : Type 0} (x y : X × Y) → x ≡ y → x.0 ≡ y.0
same_first x y e = ap (λ z. z.0) e

pub still_at_most : (l a b : ℕ) → l ≤ a → a ≤ b → l ≤ b
still_at_most l a b h k = omega (arith, h, k)

pub one_more : (n : ℕ) → n ≤ n + 1
one_more n = omega arith
