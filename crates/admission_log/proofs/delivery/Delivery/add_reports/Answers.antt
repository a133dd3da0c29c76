use Rattle.std.proofs.Common.{◌≡◌, ◌∙◌, ap, sym, subst, [], ◌∷◌, ◌++◌, ◌+◌, map, take}
use Rattle.std.proofs.lemmas.List.{map-append, take_more}
use Rattle.admission_log.specs.Messages.{report}
use Rattle.admission_log.specs.Brought.{BringsMessages}
use Rattle.admission_log.proofs.Bringing.{messages_one, messages_more}
use Rattle.admission_log.proofs.delivery.Delivery.add_reports.Goals as goal

pub loop-report-preserved : goal.loop-report-preserved
loop-report-preserved c =
    let settings = c.args.settings.now in
    let mid = c.loop-report.self in
    let new = c.add.new.self in
    let i = c.loop-report.report-index in
    let reports = c.args.reports.now in
    let r = c.report-item.result in
    let one = messages_one settings c.args.last (report r) c.admission.result mid new c.admission.ensures c.in_ok-add.ensures in
    let grown : map report (take i reports) ++ report r ∷ [] ≡ map report (take (i + 1) reports) =
    sym (map-append report (take i reports) (r ∷ [])) ∙ ap (map report) (ap (λ x. take i reports ++ x ∷ []) c.report-item.is ∙ sym (take_more reports i r c.loop-report-test.true)) in
    subst (λ ms. BringsMessages settings c.args.last ms c.args.self.now new) grown
    (messages_more settings c.args.last (map report (take i reports)) (report r ∷ []) c.args.self.now mid new c.loop-report.invariant one)
