use Rattle.std.proofs.Common.{◌∙◌, ap, sym, ◌∷◌, []}
use Rattle.tracker_session.specs.Counting.{with_told}
use Rattle.tracker_session.proofs.Tallying.{told_next}
use Rattle.tracker_session.proofs.counts.count_outcomes.Goals as goal

pub loop-outcome-preserved : goal.loop-outcome-preserved
loop-outcome-preserved c =
    c.count_outcome.ensures ∙ ap (with_told (_ ∷ [])) c.loop-outcome.invariant
    ∙ sym (told_next c.args.outcomes.now c.loop-outcome.outcome-index _ c.args.counts.now c.loop-outcome-test.true)
