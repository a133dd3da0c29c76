use Rattle.std.proofs.Common.{rules, ◌≡◌, sym, subst, ℕ, ℤ, ◌+◌, List, [], ◌∷◌, ◌++◌, arith}
use Rattle.plot_geometry.specs.Plots.{PlanePlot}
use Rattle.slot_step.specs.Certificates.{IsAt}
use Rattle.slot_step.proofs.Certifying.{within}
use Rattle.slot_step.proofs.Components.{get_at}
use Rattle.slot_step.proofs.Places.{ArePlacesUpTo, one_place, all_places, east_from_sort}
use Rattle.slot_step.proofs.nearby.plot_places.Goals as goal

pub loop-index-preserved : goal.loop-index-preserved
loop-index-preserved c =
    let ps = c.args.plots.now in
    let i = c.loop-index.index in
    let p : PlanePlot = c.index-plots-index.result in
    let places : List (ℤ × ℕ) = c.loop-index.places.items in
    let pushed : c.push.new.self.items ≡ places ++ (p.x, i) ∷ [] = search rules in
    subst (ArePlacesUpTo ps (i + 1)) (sym pushed) (one_place ps i places p c.loop-index.invariant (subst (IsAt ps i) (sym c.index-plots-index.is) (get_at p ps i c.loop-index-test.true)))

pub returns : goal.returns
returns c =
    all_places c.args.plots.now c.loop-index.index c.loop-index.places.items _ c.loop-index.invariant (λ i p at. omega (arith, c.loop-index-test.false, within c.args.plots.now i p at)) c.sort_unstable_by_key.ensures.permutation
    (east_from_sort _ c.sort_unstable_by_key.ensures.sorted (λ a r q k. search rules))
