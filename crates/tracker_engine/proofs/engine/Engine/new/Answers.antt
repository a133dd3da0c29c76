use Rattle.std.proofs.Common.{◌≡◌, ◌∙◌, ap, ◌++◌, ◌∷◌, [], map, length, arith}
use Rattle.std.specs.Prelude.{None}
use Rattle.std.specs.List.{range_with_len}
use Rattle.std.specs.Arc.{arc_value}
use Rattle.admission_log.specs.Histories.{low_at}
use Rattle.tracker_fold.specs.Starts.{start}
use Rattle.tracker_engine.proofs.Beginning.{none_more, none_before, begins}
use Rattle.tracker_engine.proofs.engine.Engine.new.Goals as goal

pub loop-preserved : goal.loop-preserved
loop-preserved c = c.in_ok-push.ensures.items ∙ ap (λ l. l ++ None ∷ []) c.loop.invariant ∙ none_more c.loop.index

pub new-requires : goal.new-requires
new-requires c = record { before = none_before (arc_value c.args.settings) c.in_ok-state.state c.saturating_sub-low.result (c.in_ok-state.ensures ∙ ap start c.deref.ensures) }

pub returns : goal.returns
returns c =
    let settings = arc_value c.args.settings in
    let low : c.saturating_sub-low.result ≡ low_at settings.window c.args.start = omega (arith, c.saturating_sub-low.ensures, c.slot_of.ensures, c.from.ensures, ap (λ s. s.window) c.deref-4.ensures) in
    let count : c.loop.index ≡ length settings.radars = omega (arith, c.loop-test.false, c.loop.auto.index-end, ap length (c.as_slice-items.ensures ∙ ap (λ s. s.radars) c.deref-3.ensures)) in
    begins settings c.args.start c.saturating_sub-low.result c.in_ok-state.state c.loop.services.items c.new.result c.new-2.result.items low (c.in_ok-state.ensures ∙ ap start c.deref.ensures)
    (c.loop.invariant ∙ ap (λ n. map (λ radar. None) (range_with_len 0 n)) count) c.new.ensures c.new-2.ensures.items
