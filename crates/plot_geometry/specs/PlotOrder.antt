-- The order of plots in the plane: by key, then by the other fields as they stand. It is total, and plots that compare as equal are one.
use Rattle.std.proofs.Common.{◌≡◌, ◌≢◌, ap, refl, ℕ, ℤ, Bool, Option}
use Rattle.std.specs.Cmp.{IsTotalOrder, bool_cmp_total}
use Rattle.std.specs.Ordering.{nat_cmp, int_cmp, bool_cmp, ordering_then}
use Rattle.std.specs.Option.{option_cmp}
use Rattle.std.specs.declared.cmp.Ordering.{Ordering}
use Rattle.std.specs.declared.cmp.Ordering.TheVariants.{Less, Equal, Greater}
use Rattle.std.proofs.lemmas.Cmp.{on_total, then_total, nat_cmp_total, int_cmp_total}
use Rattle.std.proofs.lemmas.Map.Lookups.{CmpEqualImpliesEq, exact_unsigned, exact_signed, exact_pairs}
use Rattle.trk_base.specs.declared.keys.Key.{Key}
use Rattle.trk_base.specs.Keys.{key_cmp}
use Rattle.trk_base.specs.KeyOrder.{key_cmp_total, key_cmp_exact}
use Rattle.trk_base.proofs.RawPlotOrder.{options_total, exact_bool, exact_option}
use Rattle.plot_geometry.specs.Plots.{PlanePlot}

-- by what the radar reports of the aircraft
abbrev pub report_cmp : PlanePlot → PlanePlot → Ordering
report_cmp a b = ordering_then (nat_cmp a.kind b.kind) (ordering_then (bool_cmp a.spi b.spi) (ordering_then (option_cmp nat_cmp a.code b.code) (ordering_then (option_cmp int_cmp a.level b.level) (option_cmp nat_cmp a.address b.address))))

-- by key, then by position, then by variance, then by the report
abbrev pub plot_cmp : PlanePlot → PlanePlot → Ordering
plot_cmp a b =
    ordering_then (key_cmp a.key b.key) (ordering_then (int_cmp a.x b.x) (ordering_then (int_cmp a.y b.y) (ordering_then (nat_cmp a.rx b.rx) (ordering_then (nat_cmp a.ry b.ry) (report_cmp a b)))))

report_cmp_total : IsTotalOrder report_cmp
report_cmp_total =
    then_total (on_total (λ (p : PlanePlot). p.kind) nat_cmp_total)
    (then_total (on_total (λ (p : PlanePlot). p.spi) bool_cmp_total)
    (then_total (on_total (λ (p : PlanePlot). p.code) (options_total nat_cmp_total))
    (then_total (on_total (λ (p : PlanePlot). p.level) (options_total int_cmp_total)) (on_total (λ (p : PlanePlot). p.address) (options_total nat_cmp_total)))))

pub plot_cmp_total : IsTotalOrder plot_cmp
plot_cmp_total =
    then_total (on_total (λ (p : PlanePlot). p.key) key_cmp_total)
    (then_total (on_total (λ (p : PlanePlot). p.x) int_cmp_total)
    (then_total (on_total (λ (p : PlanePlot). p.y) int_cmp_total)
    (then_total (on_total (λ (p : PlanePlot). p.rx) nat_cmp_total) (then_total (on_total (λ (p : PlanePlot). p.ry) nat_cmp_total) report_cmp_total))))

abbrev Report : Type 0
Report = ℕ × (Bool × (Option ℕ × (Option ℤ × Option ℕ)))

report_exact : CmpEqualImpliesEq (λ (x y : Report). ordering_then (nat_cmp x.0 y.0) (ordering_then (bool_cmp x.1.0 y.1.0) (ordering_then (option_cmp nat_cmp x.1.1.0 y.1.1.0) (ordering_then (option_cmp int_cmp x.1.1.1.0 y.1.1.1.0) (option_cmp nat_cmp x.1.1.1.1 y.1.1.1.1)))))
report_exact =
    exact_pairs nat_cmp _ exact_unsigned
    (exact_pairs bool_cmp _ exact_bool
    (exact_pairs (option_cmp nat_cmp) _ (exact_option nat_cmp exact_unsigned)
    (exact_pairs (option_cmp int_cmp) (option_cmp nat_cmp) (exact_option int_cmp exact_signed) (exact_option nat_cmp exact_unsigned))))

abbrev Parts : Type 0
Parts = Key × (ℤ × (ℤ × (ℕ × (ℕ × Report))))

abbrev parts : PlanePlot → Parts
parts p = (p.key, (p.x, (p.y, (p.rx, (p.ry, (p.kind, (p.spi, (p.code, (p.level, p.address)))))))))

abbrev of_parts : Parts → PlanePlot
of_parts t = record {
  key = t.0;
  x = t.1.0;
  y = t.1.1.0;
  rx = t.1.1.1.0;
  ry = t.1.1.1.1.0;
  kind = t.1.1.1.1.1.0;
  spi = t.1.1.1.1.1.1.0;
  code = t.1.1.1.1.1.1.1.0;
  level = t.1.1.1.1.1.1.1.1.0;
  address = t.1.1.1.1.1.1.1.1.1;
}

parts_exact : (a b : PlanePlot) → plot_cmp a b ≡ Equal → parts a ≡ parts b
parts_exact a b h =
    exact_pairs key_cmp _ key_cmp_exact
    (exact_pairs int_cmp _ exact_signed
    (exact_pairs int_cmp _ exact_signed (exact_pairs nat_cmp _ exact_unsigned (exact_pairs nat_cmp _ exact_unsigned report_exact)))) (parts a) (parts b) h

pub plot_cmp_exact : CmpEqualImpliesEq plot_cmp
plot_cmp_exact a b h = ap of_parts (parts_exact a b h)

then_first : (a b : Ordering) → a ≢ Equal → ordering_then a b ≡ a
then_first Less b h = refl
then_first Equal b h = absurd (h refl)
then_first Greater b h = refl

-- plots with other keys compare as these do
pub key_first : (a b : PlanePlot) → key_cmp a.key b.key ≢ Equal → plot_cmp a b ≡ key_cmp a.key b.key
key_first a b h = then_first (key_cmp a.key b.key) _ h
