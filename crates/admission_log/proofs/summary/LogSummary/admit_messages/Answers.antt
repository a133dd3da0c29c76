use Rattle.std.proofs.Common.{◌≡◌, ◌∙◌, ap, sym, ◌+◌, arith}
use Rattle.admission_log.proofs.Appending.{kept, delivered_summary, delivered_legal}
use Rattle.admission_log.proofs.summary.LogSummary.admit_messages.Goals as goal

pub invariant_of-self : goal.invariant_of-self
invariant_of-self c =
    let count : c.in_ok-count.count ≡ c.self.inside.count + 1 = c.in_ok-count.ensures.value ∙ ap (λ s. s.count + 1) (sym c.self.view_is) in
    let few = c.in_ok-event.ensures.arrivals c.self.invariant.few_plots in
    record {
      in_time = c.self.invariant.in_time;
      few_plots = omega (arith, few, c.plots.ensures);
      few_editions = c.self.invariant.few_editions;
      few_events = omega (arith, count, c.in_ok-count.ensures.limit, ap (λ s. s.count) c.self.view_is);
      cut_within = omega (arith, count, c.self.invariant.cut_within);
    }

pub returns-clause-ok : goal.returns-clause-ok
returns-clause-ok c = λ log same.
    let s = kept c.self.inside in
    let count : c.in_ok-count.count ≡ s.count + 1 = c.in_ok-count.ensures.value ∙ ap (λ s. s.count + 1) (sym c.self.view_is) in
    delivered_summary log s c.args.settings.now c.args.feed c.args.messages.now c.in_ok-event.event _ c.in_ok-count.count (c.self.view_is ∙ same) c.in_ok-event.ensures.delivered (ap (λ n. s.next + n) c.plots.ensures) count

pub returns-clause-legal : goal.returns-clause-legal
returns-clause-legal c = λ log same legal.
    delivered_legal c.args.settings.now log (kept c.self.inside) c.args.feed c.args.messages.now c.in_ok-event.event (c.self.view_is ∙ same) c.in_ok-event.ensures.delivered legal
