-- The sum of the prices, when one of them changes.
use Rattle.std.proofs.Common.{◌≤◌, ◌<◌, inl, inr, ℕ, suc, ◌+◌, ◌-◌, ◌*◌, ◌^◌, length, get_or, set, sum, List, [], ◌∷◌, arith, ap, ◌∙◌, get_or-set_same, get_or-set_other}
use Rattle.std.proofs.lemmas.Bool.{cases_eq}
use Rattle.std.proofs.lemmas.List.{length-set}
use Rattle.std.proofs.lemmas.List.Sums.{sum_by-set, get_or-le-sum_by}
use Rattle.trk_base.specs.Limits.{miss_cost}
use Rattle.assignment_dual.specs.Totals.{IsTotal}
use Rattle.assignment_dual.proofs.Duality.{sum-cons}

sum_small : (qs : List ℕ) → ((v : ℕ) → get_or qs v 0 ≤ miss_cost) → sum qs ≤ miss_cost * length qs
sum_small [] h = omega arith
sum_small (q ∷ qs) h = omega (arith, sum-cons q qs, h 0, sum_small qs (λ v. h (suc v)))

pub total_small : {qs : List ℕ} {t : ℕ} → IsTotal qs t → t < 2 ^ 53
total_small {qs} {t} i = omega (arith, i.equal, i.few, sum_small qs i.small)

pub price_within : {qs : List ℕ} {t : ℕ} (v : ℕ) → IsTotal qs t → v < length qs → get_or qs v 0 ≤ t
price_within {qs} {t} v i h = omega (arith, i.equal, get_or-le-sum_by (λ (q : ℕ). q) qs v 0 h)

pub total_set : {qs : List ℕ} {t : ℕ} (v price : ℕ) → IsTotal qs t → v < length qs → price ≤ miss_cost → IsTotal (set qs v price) (t - get_or qs v 0 + price)
total_set {qs} {t} v price i h p = record {
  equal = omega (arith, i.equal, sum_by-set (λ (q : ℕ). q) qs v price 0 h, price_within v i h);
  few = omega (arith, i.few, length-set qs v price);
  small = λ o. elim (cases_eq o v) [
    | inl e ↦ omega (arith, ap (λ (j : ℕ). get_or (set qs v price) j 0) e ∙ get_or-set_same qs v price 0 h, p)
    | inr d ↦ omega (arith, get_or-set_other qs v o price 0 d, i.small o)
  ];
}
