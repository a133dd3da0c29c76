-- The order of biases, which is total, and by which biases that compare as equal are one.
use Rattle.std.proofs.Common.{◌≡◌, ap, subst, ℤ, ◌≤◌}
use Rattle.std.proofs.Props.{props}
use Rattle.std.specs.Prelude.{unsigned_abs}
use Rattle.std.specs.Cmp.{IsTotalOrder}
use Rattle.std.specs.Ordering.{int_cmp, ordering_then}
use Rattle.std.specs.declared.cmp.Ordering.{Ordering}
use Rattle.std.proofs.lemmas.Cmp.{on_total, then_total, int_cmp_total}
use Rattle.std.proofs.lemmas.Map.Lookups.{CmpEqualImpliesEq, exact_signed, exact_pairs}
use Rattle.plot_geometry.specs.declared.biases.Bias.{Bias}

-- by the gain, then the range, then the azimuth
abbrev pub bias_cmp : Bias → Bias → Ordering
bias_cmp a b = ordering_then (int_cmp a.gain b.gain) (ordering_then (int_cmp a.range b.range) (int_cmp a.azimuth b.azimuth))

pub bias_cmp_total : IsTotalOrder bias_cmp
bias_cmp_total =
    then_total (on_total (λ (b : Bias). b.gain) int_cmp_total)
    (then_total (on_total (λ (b : Bias). b.range) int_cmp_total) (on_total (λ (b : Bias). b.azimuth) int_cmp_total))

abbrev Fields : Type 0
Fields = ℤ × (ℤ × ℤ)

abbrev Ranges : Fields → Type 0
Ranges t = (unsigned_abs t.0 ≤ 10000) × (unsigned_abs t.1.0 ≤ 1000) × (unsigned_abs t.1.1 ≤ 1000)

abbrev made : (t : Fields) → Ranges t → Bias
made t r = record { gain = t.0; range = t.1.0; azimuth = t.1.1; gain_range = r.0; range_range = r.1; azimuth_range = r.2 }

ranges_prop : (t : Fields) → IsProp (Ranges t)
ranges_prop t = hlevel props

same_made : (s t : Fields) (e : Ranges s) (f : Ranges t) → s ≡ t → made s e ≡ made t f
same_made s t e f h =
    let P : Fields → Type 0 = λ z. (g : Ranges z) → made s e ≡ made z g in
    subst P h (λ g. ap (made s) (ranges_prop s e g)) f

-- biases with the same numbers are one
pub same_bias : (a b : Bias) → a.gain ≡ b.gain → a.range ≡ b.range → a.azimuth ≡ b.azimuth → a ≡ b
same_bias a b g r z =
    same_made (a.gain, (a.range, a.azimuth)) (b.gain, (b.range, b.azimuth)) (a.gain_range, a.range_range, a.azimuth_range) (b.gain_range, b.range_range, b.azimuth_range) (λ i. (g i, (r i, z i)))

pub bias_cmp_exact : CmpEqualImpliesEq bias_cmp
bias_cmp_exact a b h =
    let e : ◌≡◌ {A = Fields} (a.gain, (a.range, a.azimuth)) (b.gain, (b.range, b.azimuth)) = exact_pairs int_cmp _ exact_signed (exact_pairs int_cmp int_cmp exact_signed exact_signed) (a.gain, (a.range, a.azimuth)) (b.gain, (b.range, b.azimuth)) h in
    same_bias a b (λ i. (e i).0) (λ i. (e i).1.0) (λ i. (e i).1.1)
