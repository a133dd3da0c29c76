use Rattle.std.proofs.Common.{◌∙◌, ap, [], ◌∷◌}
use Rattle.std.specs.Ordering.{ordering_then}
use Rattle.plot_geometry.specs.PlotOrder.{plot_cmp}
use Rattle.plot_geometry.proofs.Orders.{lefts_rights}
use Rattle.plot_geometry.proofs.plots.PlanePlotOrd.cmp.Goals as goal

pub returns : goal.returns
returns c =
    (c.then-9.ensures ∙ ap (λ t. ordering_then t c.cmp-10.result) (c.then-8.ensures ∙ ap (λ t. ordering_then t c.cmp-9.result) (c.then-7.ensures ∙ ap (λ t. ordering_then t c.cmp-8.result) (c.then-6.ensures ∙ ap (λ t. ordering_then t c.cmp-7.result) (c.then-5.ensures ∙ ap (λ t. ordering_then t c.cmp-6.result) (c.then-4.ensures ∙ ap (λ t. ordering_then t c.cmp-5.result) (c.then-3.ensures ∙ ap (λ t. ordering_then t c.cmp-4.result) (c.then-2.ensures ∙ ap (λ t. ordering_then t c.cmp-3.result) (c.then.ensures)))))))))
    ∙ lefts_rights c.cmp.result (c.cmp-2.result ∷ c.cmp-3.result ∷ c.cmp-4.result ∷ c.cmp-5.result ∷ c.cmp-6.result ∷ c.cmp-7.result ∷ c.cmp-8.result ∷ c.cmp-9.result ∷ c.cmp-10.result ∷ [])
    ∙ (λ i. ordering_then (c.cmp.ensures i) (ordering_then (c.cmp-2.ensures i) (ordering_then (c.cmp-3.ensures i) (ordering_then (c.cmp-4.ensures i) (ordering_then (c.cmp-5.ensures i) (ordering_then (c.cmp-6.ensures i) (ordering_then (c.cmp-7.ensures i) (ordering_then (c.cmp-8.ensures i) (ordering_then (c.cmp-9.ensures i) (c.cmp-10.ensures i))))))))))
    ∙ (λ i. plot_cmp (c.self.view_is i) (c.other.view_is i))
