use Rattle.std.proofs.Common.{◌≡◌, ◌∙◌, ◌+◌, ◌++◌, ◌∷◌, [], ap, arith, length}
use Rattle.late_window.specs.Folding.{slots}
use Rattle.span_clusters.specs.Jobs.{filled_slots}
use Rattle.span_clusters.proofs.FewSlots.{filled_more}
use Rattle.span_clusters.proofs.parting.all_charged.Goals as goal

pub loop-draft-preserved : goal.loop-draft-preserved
loop-draft-preserved g c =
    let slot = g.F.Fold.slot_of in
    let jobs = c.loop-draft.jobs.items in
    let job = c.charged.result in
    let same : job ≡ c.in-Some.draft = (λ i. record { number = c.charged.ensures.number i; start = c.charged.ensures.start i; items = c.charged.ensures.items i }) ∙ c.draft.view_is in
    let pushed : c.push_reserved.new.self.items ≡ jobs ++ job ∷ [] = c.push_reserved.ensures.items in
    let more : filled_slots slot c.push_reserved.new.self.items ≡ filled_slots slot jobs + length (slots slot job.items) = ap (filled_slots slot) pushed ∙ filled_more slot jobs job in
    let own : length (slots slot job.items) ≡ length (slots slot c.draft.inside.items.items) = ap (λ l. length (slots slot l)) c.charged.ensures.items in
    record {
      jobs = pushed ∙ (λ i. c.loop-draft.invariant.jobs i ++ same i ∷ []);
      counted = let rose = c.charged.ensures.count in let was = c.loop-draft.invariant.counted in omega (arith, more, own, rose, was);
      room = let gone = c.in-Some.ensures.steps.1 in let len = c.push_reserved.ensures.len in let kept = c.push_reserved.ensures.capacity in let was = c.loop-draft.invariant.room in omega (arith, gone, len, kept, was);
    }
