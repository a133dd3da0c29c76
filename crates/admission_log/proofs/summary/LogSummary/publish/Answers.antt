use Rattle.std.proofs.Common.{◌≡◌, ◌∙◌, ap, sym, ◌+◌, arith}
use Rattle.admission_log.proofs.Appending.{kept, published, edition_legal}
use Rattle.admission_log.proofs.summary.LogSummary.publish.Goals as goal

pub invariant_of-self : goal.invariant_of-self
invariant_of-self c =
    let count : c.in_ok-count.count ≡ c.self.inside.count + 1 = c.in_ok-count.ensures.value ∙ ap (λ s. s.count + 1) (sym c.self.view_is) in
    record {
      in_time = c.self.invariant.in_time;
      few_plots = c.self.invariant.few_plots;
      few_editions = omega (arith, c.if-number-ge-COUNT_LIMIT.false);
      few_events = omega (arith, count, c.in_ok-count.ensures.limit, ap (λ s. s.count) c.self.view_is);
      cut_within = omega (arith, count, c.requires.no_more, ap (λ s. s.count) c.self.view_is);
    }

pub returns-clause-ok : goal.returns-clause-ok
returns-clause-ok c = λ log same.
    let s = kept c.self.inside in
    let count : c.in_ok-count.count ≡ s.count + 1 = c.in_ok-count.ensures.value ∙ ap (λ s. s.count + 1) (sym c.self.view_is) in
    let number : c.args.number ≡ s.published + 1 = c.requires.number ∙ ap (λ s. s.published + 1) (sym c.self.view_is) in
    published log s c.args.number c.args.cut c.in_ok-count.count (c.self.view_is ∙ same) number (omega (arith, c.requires.no_less, ap (λ s. s.cut) c.self.view_is)) count

pub returns-clause-legal : goal.returns-clause-legal
returns-clause-legal c = λ settings log same legal. edition_legal settings log c.args.self.now c.args.number c.args.cut same c.requires.number c.requires.no_less c.requires.no_more legal
