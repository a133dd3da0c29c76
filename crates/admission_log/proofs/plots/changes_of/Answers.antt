use Rattle.std.proofs.Common.{◌≡◌, ◌∙◌, ap, sym, ◌++◌, ◌∷◌, [], ◌+◌, ◌≤◌, length, take, arith}
use Rattle.std.proofs.lemmas.List.{take_more, length-take-le}
use Rattle.admission_log.specs.Biases.{changes_in, changes_of}
use Rattle.admission_log.proofs.Entering.{flat_map-more}
use Rattle.admission_log.proofs.plots.changes_of.Goals as goal

pub loop-event-preserved : goal.loop-event-preserved
loop-event-preserved c =
    let i = c.loop-event.event-index in
    let es = c.args.events.now in
    let e = c.event-item.result in
    let within : i ≤ length es = omega (arith, c.loop-event-test.true) in
    let index : c.loop-event.index ≡ length (take i es) = c.loop-event.invariant.0 ∙ sym (length-take-le i es within) in
    let grown : take i es ++ e ∷ [] ≡ take (i + 1) es = ap (λ x. take i es ++ x ∷ []) c.event-item.is ∙ sym (take_more es i e c.loop-event-test.true) in (
      omega (arith, c.loop-event.invariant.0),
      c.in_ok-append_change.ensures ∙ ap (λ k. c.loop-event.changes.items ++ changes_in k e) index ∙ ap (λ t. t ++ changes_in (length (take i es)) e) c.loop-event.invariant.1
          ∙ sym (flat_map-more changes_in (take i es) e) ∙ ap changes_of grown,
    )
