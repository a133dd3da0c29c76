-- What a copy out of a list leaves.
use Rattle.std.proofs.Common.{◌≡◌, ◌∙◌, ap, sym, ℕ, ◌+◌, ◌-◌, ◌≤◌, List, ◌++◌, length, take, drop, arith}
use Rattle.std.proofs.lemmas.List.{take-append-drop, drop-drop, take_at, length-take}

-- what was copied, and then what is left, is what was left before
pub copied_prefix : (xs copy rest piece : List ℕ) (at n : ℕ) → copy ≡ take (at + n - at) (drop at xs) → length copy ≡ length (take n piece) → n ≤ length piece → drop at xs ≡ take n (copy ++ rest) ++ drop (at + n) xs
copied_prefix xs copy rest piece at n e l h =
    let k : at + n - at ≡ n = omega arith in
    let long : length copy ≡ n = omega (arith, l, length-take n piece) in
    let same : copy ≡ take n (drop at xs) = rw k at e in
    rw (take_at copy rest n (long), same) (sym (ap (λ t. take n (drop at xs) ++ t) (sym (drop-drop n at xs)) ∙ take-append-drop n (drop at xs)))
