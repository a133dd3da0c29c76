-- The order of plots as a radar reports them is total, and plots that compare alike are one.
use Rattle.std.proofs.Common.{◌≡◌, ap, refl, ℕ, ℤ, Bool, true, false, Option, Some, None}
use Rattle.std.specs.Cmp.{IsTotalOrder, bool_cmp_total}
use Rattle.std.specs.Cmp.Rules.{comparing}
use Rattle.std.specs.Ordering.{nat_cmp, int_cmp, bool_cmp, ordering_then}
use Rattle.std.specs.Option.{option_cmp}
use Rattle.std.specs.declared.cmp.Ordering.{Ordering}
use Rattle.std.specs.declared.cmp.Ordering.TheVariants.{Equal}
use Rattle.std.proofs.lemmas.Cmp.{on_total, then_total, nat_cmp_total, int_cmp_total}
use Rattle.std.proofs.lemmas.Map.Lookups.{CmpEqualImpliesEq, exact_unsigned, exact_signed, exact_pairs}
use Rattle.trk_base.specs.declared.plots.RawPlot.{RawPlot}
use Rattle.trk_base.specs.RawPlots.{raw_report_cmp, raw_plot_cmp}
use Rattle.trk_base.proofs.RawPlotFields.{same_raw_plot}

-- for orders of a field that may be left out
pub options_total : {K : Type 0} {R : K → K → Ordering} → IsTotalOrder R → IsTotalOrder (option_cmp R)
options_total o = search comparing

raw_report_cmp_total : IsTotalOrder raw_report_cmp
raw_report_cmp_total =
    then_total (on_total (λ (p : RawPlot). p.kind) nat_cmp_total)
    (then_total (on_total (λ (p : RawPlot). p.spi) bool_cmp_total)
    (then_total (on_total (λ (p : RawPlot). p.code) (options_total nat_cmp_total))
    (then_total (on_total (λ (p : RawPlot). p.level) (options_total int_cmp_total)) (on_total (λ (p : RawPlot). p.address) (options_total nat_cmp_total)))))

pub raw_plot_cmp_total : IsTotalOrder raw_plot_cmp
raw_plot_cmp_total =
    then_total (on_total (λ (p : RawPlot). p.sac) nat_cmp_total)
    (then_total (on_total (λ (p : RawPlot). p.sic) nat_cmp_total)
    (then_total (on_total (λ (p : RawPlot). p.tod) nat_cmp_total)
    (then_total (on_total (λ (p : RawPlot). p.rho) nat_cmp_total) (then_total (on_total (λ (p : RawPlot). p.theta) nat_cmp_total) raw_report_cmp_total))))

pub exact_bool : CmpEqualImpliesEq bool_cmp
exact_bool true true h = refl
exact_bool true false h = cc
exact_bool false true h = cc
exact_bool false false h = refl

pub exact_option : {K : Type 0} (R : K → K → Ordering) → CmpEqualImpliesEq R → (a b : Option K) → option_cmp R a b ≡ Equal → a ≡ b
exact_option R g None None h = refl
exact_option R g None (Some y) h = cc
exact_option R g (Some x) None h = cc
exact_option R g (Some x) (Some y) h = ap (λ z. Some z) (g x y h)

abbrev Report : Type 0
Report = ℕ × (Bool × (Option ℕ × (Option ℤ × Option ℕ)))

report_exact : CmpEqualImpliesEq (λ (x y : Report). ordering_then (nat_cmp x.0 y.0) (ordering_then (bool_cmp x.1.0 y.1.0) (ordering_then (option_cmp nat_cmp x.1.1.0 y.1.1.0) (ordering_then (option_cmp int_cmp x.1.1.1.0 y.1.1.1.0) (option_cmp nat_cmp x.1.1.1.1 y.1.1.1.1)))))
report_exact =
    exact_pairs nat_cmp _ exact_unsigned
    (exact_pairs bool_cmp _ exact_bool
    (exact_pairs (option_cmp nat_cmp) _ (exact_option nat_cmp exact_unsigned)
    (exact_pairs (option_cmp int_cmp) (option_cmp nat_cmp) (exact_option int_cmp exact_signed) (exact_option nat_cmp exact_unsigned))))

abbrev parts : RawPlot → ℕ × (ℕ × (ℕ × (ℕ × (ℕ × Report))))
parts p = (p.sac, (p.sic, (p.tod, (p.rho, (p.theta, (p.kind, (p.spi, (p.code, (p.level, p.address)))))))))

parts_exact : (a b : RawPlot) → raw_plot_cmp a b ≡ Equal → parts a ≡ parts b
parts_exact a b h =
    exact_pairs nat_cmp _ exact_unsigned
    (exact_pairs nat_cmp _ exact_unsigned
    (exact_pairs nat_cmp _ exact_unsigned (exact_pairs nat_cmp _ exact_unsigned (exact_pairs nat_cmp _ exact_unsigned report_exact)))) (parts a) (parts b) h

pub raw_plot_cmp_exact : CmpEqualImpliesEq raw_plot_cmp
raw_plot_cmp_exact a b h =
    let e = parts_exact a b h in
    same_raw_plot a b (λ i. ((e i).0, (e i).1.0, (e i).1.1.0, (e i).1.1.1.0, (e i).1.1.1.1.0, (e i).1.1.1.1.1.0, (e i).1.1.1.1.1.1.0, (e i).1.1.1.1.1.1.1.0, (e i).1.1.1.1.1.1.1.1.0, (e i).1.1.1.1.1.1.1.1.1))
