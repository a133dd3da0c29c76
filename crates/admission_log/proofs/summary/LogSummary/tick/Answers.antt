use Rattle.std.proofs.Common.{◌≡◌, ◌∙◌, ap, sym, ◌+◌, arith}
use Rattle.admission_log.proofs.Appending.{kept, ticked, tick_legal}
use Rattle.admission_log.proofs.summary.LogSummary.tick.Goals as goal

pub invariant_of-self : goal.invariant_of-self
invariant_of-self c =
    let count : c.in_ok-count.count ≡ c.self.inside.count + 1 = c.in_ok-count.ensures.value ∙ ap (λ s. s.count + 1) (sym c.self.view_is) in
    record {
      in_time = c.requires;
      few_plots = c.self.invariant.few_plots;
      few_editions = c.self.invariant.few_editions;
      few_events = omega (arith, count, c.in_ok-count.ensures.limit, ap (λ s. s.count) c.self.view_is);
      cut_within = omega (arith, count, c.self.invariant.cut_within);
    }

pub returns-clause-ok : goal.returns-clause-ok
returns-clause-ok c = λ log same.
    let count : c.in_ok-count.count ≡ c.self.inside.count + 1 = c.in_ok-count.ensures.value ∙ ap (λ s. s.count + 1) (sym c.self.view_is) in
    ticked log (kept c.self.inside) c.args.time c.in_ok-count.count (c.self.view_is ∙ same) (omega (arith, c.if-time-self.false)) count

pub returns-clause-legal : goal.returns-clause-legal
returns-clause-legal c = λ settings log same legal.
    tick_legal settings log (kept c.self.inside) c.args.time (c.self.view_is ∙ same) (omega (arith, c.if-time-self.false)) c.requires legal
