use Rattle.std.proofs.Common.{◌≡◌, ◌∙◌, ap, sym, ◌++◌, ◌∷◌, [], ◌+◌, ◌≤◌, length, take, arith}
use Rattle.std.proofs.lemmas.List.{take_more, length-take-le}
use Rattle.admission_log.specs.Entries.{entries_in}
use Rattle.tracker_engine.proofs.Entering.{entries_at, entries_at-more}
use Rattle.tracker_engine.proofs.absorbing.entries_of.Goals as goal

pub loop-event-preserved : goal.loop-event-preserved
loop-event-preserved c =
    let i = c.loop-event.event-index in
    let es = c.args.events.now in
    let e = c.event-item.result in
    let k = c.args.index in
    let within : i ≤ length es = omega (arith, c.loop-event-test.true) in
    let place : c.loop-event.place ≡ k + length (take i es) = omega (arith, c.loop-event.invariant.0, length-take-le i es within) in
    let grown : take i es ++ e ∷ [] ≡ take (i + 1) es = ap (λ x. take i es ++ x ∷ []) c.event-item.is ∙ sym (take_more es i e c.loop-event-test.true) in (
      omega (arith, c.loop-event.invariant.0),
      c.in_ok-append_entries.ensures.ok ∙ ap (λ n. c.loop-event.entries.items ++ entries_in n e) place ∙ ap (λ t. t ++ entries_in (k + length (take i es)) e) c.loop-event.invariant.1
          ∙ entries_at-more k (take i es) e ∙ ap (entries_at k) grown,
    )
