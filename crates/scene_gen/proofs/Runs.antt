-- What a function gives for each number of a range, one after the other.
use Rattle.std.proofs.Common.{◌≡◌, ◌∙◌, ap, sym, ℕ, zero, suc, ◌+◌, List, ◌++◌, arith}
use Rattle.std.specs.List.{flat_map, range_with_len}
use Rattle.std.proofs.lemmas.List.{append-nil, append_assoc}

pub zero_first : (n : ℕ) → 0 + n ≡ n
zero_first n = omega arith

zero_last : (n : ℕ) → n ≡ n + 0
zero_last n = omega arith

one_first : (m n : ℕ) → suc m + n ≡ suc (m + n)
one_first m n = omega arith

one_over : (a m : ℕ) → a + 1 + m ≡ a + suc m
one_over a m = omega arith

abbrev pub run : {Y : Type 0} → (ℕ → List Y) → ℕ → ℕ → List Y
run f a n = flat_map f (range_with_len a n)

pub run_split : {Y : Type 0} (f : ℕ → List Y) (a m n : ℕ) → run f a (m + n) ≡ run f a m ++ run f (a + m) n
run_split f a zero n = ap (run f a) (zero_first n) ∙ ap (λ (b : ℕ). run f b n) (zero_last a)
run_split {Y} f a (suc m) n =
    ap (run f a) (one_first m n) ∙ ap (λ (l : List Y). f a ++ l) (run_split f (a + 1) m n) ∙ sym (append_assoc (f a) (run f (a + 1) m) (run f (a + 1 + m) n))
    ∙ ap (λ (b : ℕ). (f a ++ run f (a + 1) m) ++ run f b n) (one_over a m)

-- one number more
pub run_more : {Y : Type 0} (f : ℕ → List Y) (n : ℕ) → run f 0 (n + 1) ≡ run f 0 n ++ f n
run_more {Y} f n = run_split f 0 n 1 ∙ ap (λ (l : List Y). run f 0 n ++ l) (ap (λ (b : ℕ). run f b 1) (zero_first n) ∙ append-nil (f n))
