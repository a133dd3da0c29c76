-- PriceLoad that prove a pairing of three plots and three tracks are small.
use Rattle.std.proofs.Common.{◌≡◌, ◌∙◌, ap, ℕ, List, [], ◌∷◌, Option, length, arith, ℤ, pos, negsuc, ◌+ℤ◌, ◌≤ℤ◌}
use Rattle.std.specs.Prelude.{FitsSigned}
use Rattle.std.specs.Int.{w64}
use Rattle.std.specs.List.{All}
use Rattle.std.proofs.lemmas.Int.{fits_signed_from_abs, ints}
use Rattle.std.proofs.lemmas.List.Elements.{All-cons, All-nil}
use Rattle.rand_pcg.specs.Lcg.{Lcg}
use Rattle.assignment_dual.specs.Pairings.{cost}
use Rattle.assignment_dual.specs.Problems.{Problem, Proves, rows_of, total}
use Rattle.pairing_load.specs.declared.problems.EdgeCosts.TheVariants.{Random}
use Rattle.pairing_load.specs.Problems.{full_problem}

pub all_three : {X : Type 0} (P : X → Type 0) (x y z : X) → P x → P y → P z → All P (x ∷ y ∷ z ∷ [])
all_three P x y z a b c = All-cons P x (y ∷ z ∷ []) a (All-cons P y (z ∷ []) b (All-cons P z [] c (All-nil P)))

small : (z : ℤ) → z ≤ℤ pos 20000 → pos 0 ≤ℤ (z +ℤ pos 20000) → FitsSigned w64 z
small (pos n) high low = fits_signed_from_abs w64 (pos n) (omega (arith, ints, high))
small (negsuc n) high low = fits_signed_from_abs w64 (negsuc n) (omega (arith, ints, low))

-- three prices of at most 4,097 and three of at most 0, whose sum isn't below 0
prices_fit : (us vs : List ℤ) (c : ℕ) → length us ≡ 3 → length vs ≡ 3 → All (λ u. u ≤ℤ pos 4097) us → All (λ v. v ≤ℤ pos 0) vs → total us +ℤ total vs ≡ pos c → All (FitsSigned w64) us × All (FitsSigned w64) vs
prices_fit (a ∷ b ∷ d ∷ []) (x ∷ y ∷ z ∷ []) c ul vl us vs e =
    let a' : a ≤ℤ pos 4097 = us 0 (pos 0) (omega arith) in
    let b' : b ≤ℤ pos 4097 = us 1 (pos 0) (omega arith) in
    let d' : d ≤ℤ pos 4097 = us 2 (pos 0) (omega arith) in
    let x' : x ≤ℤ pos 0 = vs 0 (pos 0) (omega arith) in
    let y' : y ≤ℤ pos 0 = vs 1 (pos 0) (omega arith) in
    let z' : z ≤ℤ pos 0 = vs 2 (pos 0) (omega arith) in
    let sum : (((pos 0 +ℤ a) +ℤ b) +ℤ d) +ℤ (((pos 0 +ℤ x) +ℤ y) +ℤ z) ≡ pos c = e in (
      all_three (FitsSigned w64) a b d (small a (omega (arith, ints, a')) (omega (arith, ints, b', d', x', y', z', sum)))
          (small b (omega (arith, ints, b')) (omega (arith, ints, a', d', x', y', z', sum)))
          (small d (omega (arith, ints, d')) (omega (arith, ints, a', b', x', y', z', sum))),
      all_three (FitsSigned w64) x y z (small x (omega (arith, ints, x')) (omega (arith, ints, a', b', d', y', z', sum)))
          (small y (omega (arith, ints, y')) (omega (arith, ints, a', b', d', x', z', sum)))
          (small z (omega (arith, ints, z')) (omega (arith, ints, a', b', d', x', y', sum))),
    )
prices_fit us vs c ul vl ue ve e = absurd (omega (arith, ul, vl))

-- so prices that prove a pairing of three plots and three tracks fit 64 bits
pub prices_of_three : (g : Lcg) (p : Problem) (xs : List (Option ℕ)) (us vs : List ℤ) → p ≡ full_problem Random 3 g → Proves p xs us vs → All (FitsSigned w64) us × All (FitsSigned w64) vs
unfolding full_problem
prices_of_three g p xs us vs e h =
    let plots : p.plots ≡ 3 = ap (λ (q : Problem). q.plots) e in
    let tracks : p.tracks ≡ 3 = ap (λ (q : Problem). q.tracks) e in
    prices_fit us vs (cost (rows_of p) xs) (h.plot_prices ∙ plots) (h.track_prices ∙ tracks) h.below_miss h.below_zero h.equal
