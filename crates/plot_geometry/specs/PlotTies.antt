-- Plots are equal exactly where they compare as equal.
use Rattle.std.proofs.Common.{◌≡◌, rules, ℕ, ℤ, Option, nat_eq, int_eq, int_cmp, nat_cmp}
use Rattle.std.specs.Cmp.{both_tied}
use Rattle.std.specs.Cmp.Rules.{comparing}
use Rattle.std.specs.Option.{option_cmp, option_eq}
use Rattle.std.specs.Ordering.{is_eq}
use Rattle.trk_base.specs.declared.keys.Key.{Key}
use Rattle.trk_base.specs.Keys.{key_cmp}
use Rattle.trk_base.specs.contracts.keys.KeyPartialEq.TheImpl as key_eq
use Rattle.plot_geometry.specs.Plots.{PlanePlot}
use Rattle.plot_geometry.specs.PlotOrder.{plot_cmp}
use Rattle.plot_geometry.specs.contracts.plots.PlanePlotPartialEq.TheImpl as plot_eq

key_ties : (x y : Key) → key_eq.ghosts.eq x y ≡ is_eq (key_cmp x y)
key_ties x y = search (comparing, rules)

naturals : (x y : ℕ) → nat_eq x y ≡ is_eq (nat_cmp x y)
naturals x y = search (comparing, rules)

integers : (x y : ℤ) → int_eq x y ≡ is_eq (int_cmp x y)
integers x y = search (comparing, rules)

told_naturals : (x y : Option ℕ) → option_eq nat_eq x y ≡ is_eq (option_cmp nat_cmp x y)
told_naturals x y = search (comparing, rules)

told_integers : (x y : Option ℤ) → option_eq int_eq x y ≡ is_eq (option_cmp int_cmp x y)
told_integers x y = search (comparing, rules)

pub plot_ties : (x y : PlanePlot) → plot_eq.ghosts.eq x y ≡ is_eq (plot_cmp x y)
plot_ties x y =
    both_tied _ _ _ _ (key_ties x.key y.key) (both_tied _ _ _ _ (integers x.x y.x) (both_tied _ _ _ _ (integers x.y y.y) (both_tied _ _ _ _ (naturals x.rx y.rx) (both_tied _ _ _ _ (naturals x.ry y.ry)
    (both_tied _ _ _ _ (naturals x.kind y.kind) (both_tied _ _ _ _ (search (comparing, rules)) (both_tied _ _ _ _ (told_naturals x.code y.code) (both_tied _ _ _ _ (told_integers x.level y.level) (told_naturals x.address y.address)))))))))
