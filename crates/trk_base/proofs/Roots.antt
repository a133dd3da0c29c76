-- The root that the definition finds is the one root.
use Rattle.std.proofs.Common.{◌≡◌, inl, inr, ℕ, zero, suc, ◌+◌, ◌*◌, ◌^◌, ◌<◌, ◌≤◌, arith, leb}
use Rattle.std.proofs.lemmas.Bool.{cond_both, leb-true, leb-false, cases_lt}
use Rattle.std.proofs.lemmas.Nat.{mul-le}
use Rattle.trk_base.specs.Numbers.{IsRoot, root_from, isqrt}

pub root_from_is : (k r n : ℕ) → r * r ≤ n → n < (r + 2 ^ k) * (r + 2 ^ k) → IsRoot n (root_from k r n)
root_from_is zero r n low high = record { low = low; high = high }
root_from_is (suc k) r n low high =
    cond_both (leb ((r + 2 ^ k) * (r + 2 ^ k)) n) (r + 2 ^ k) r (λ q. IsRoot n (root_from k q n))
    (λ t. root_from_is k (r + 2 ^ k) n (leb-true _ _ t) (let e : r + 2 ^ k + 2 ^ k ≡ r + 2 ^ suc k = omega arith in rw e high))
    (λ t. root_from_is k r n low (leb-false _ _ t))

pub isqrt_root : (n : ℕ) → n < 2 ^ 128 → IsRoot n (isqrt n)
unfolding isqrt
isqrt_root n small = root_from_is 64 0 n (omega arith) small

pub one_root : (n r s : ℕ) → IsRoot n r → IsRoot n s → r ≡ s
one_root n r s a b =
    elim (cases_lt r s) [
      | inl lt ↦ absurd (omega (arith, a.high, b.low, mul-le (r + 1) (r + 1) s s (omega arith) (omega arith)))
      | inr ge ↦ elim (cases_lt s r) [
        | inl lt ↦ absurd (omega (arith, b.high, a.low, mul-le (s + 1) (s + 1) r r (omega arith) (omega arith)))
        | inr le ↦ omega arith
      ]
    ]

-- a bound on the square is one on the root
pub root_le : (n r b : ℕ) → IsRoot n r → n ≤ b * b → r ≤ b
root_le n r b root le =
    elim (cases_lt b r) [
      | inl lt ↦ absurd (omega (arith, root.low, mul-le (b + 1) (b + 1) r r (omega arith) (omega arith)))
      | inr ge ↦ ge
    ]

pub square_le : (r b : ℕ) → r * r ≤ b * b → r ≤ b
square_le r b le =
    elim (cases_lt b r) [
      | inl lt ↦ absurd (omega (arith, mul-le (b + 1) (b + 1) r r (omega arith) (omega arith)))
      | inr ge ↦ ge
    ]
