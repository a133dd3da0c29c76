use Rattle.std.proofs.Common.{◌≡◌, ◌+◌, ◌++◌, ◌∷◌, [], get_or, set, sym, subst, arith, ◌∙◌}
use Rattle.cluster_split.specs.Grouping.{AreGrouped, with_plot, no_component}
use Rattle.cluster_split.proofs.Placing.{none_grouped, grouped_new, grouped_more, grouped_as, few_parts}
use Rattle.cluster_split.proofs.grouping.components_of_plots.Goals as goal
use Rattle.cluster_split.proofs.grouping.components_of_plots.Goals.{then-least-plot+in_ok-place, else-least-plot}

pub loop-plot-init : goal.loop-plot-init
loop-plot-init c = none_grouped c.args.least.now _ _ c.in_ok-parts.ensures.items c.in_ok-places.ensures.items

pub add_component-requires : goal.add_component-requires
add_component-requires c = omega (arith, few_parts c.args.least.now c.loop-plot.plot c.loop-plot.parts.items c.loop-plot.invariant.parts_so_far, c.loop-plot.parts.ok.0, c.requires.few, c.loop-plot-test.true)

pub loop-plot-preserved : goal.loop-plot-preserved
loop-plot-preserved c =
    let n = c.loop-plot.plot in
    let least = c.args.least.now in
    let places = c.loop-plot.places.items in
    let g = c.loop-plot.invariant in
    let now = c.if-least-plot in
    grouped_as least (n + 1)
    (elim c.if-least-plot.branch [
      | then-least-plot+in_ok-place w ↦ grouped_new least n c.loop-plot.parts.items places c.requires.settled c.loop-plot-test.true w.if-least-plot.true g now.parts.items now.place
          ((λ i. (w.parts-is i).items) ∙ w.in_ok-place.ensures.parts)
          (w.place-is ∙ w.in_ok-place.ensures.place ∙ (omega (arith, c.loop-plot.parts.ok.0)))
      | else-least-plot w ↦ subst (λ v. AreGrouped least (n + 1) (set v.items now.place (with_plot n (get_or v.items now.place no_component))) (places ++ now.place ∷ [])) (sym w.parts-is)
          (grouped_more least n c.loop-plot.parts.items places c.requires.settled c.loop-plot-test.true w.if-least-plot.false g now.place
          (subst (λ p. p ≡ get_or places (get_or least n 0) p) (sym w.place-is) w.index.ensures))
    ])
    c.in_ok-put_plot.ensures c.in_ok-push.ensures.items
