use Rattle.std.proofs.Common.{◌≡◌, ◌∙◌, ◌≤◌, ◌+◌, sym, subst, length, Some}
use Rattle.std.specs.Arc.{arc_value}
use Rattle.admission_log.specs.declared.events.Event.TheVariants as events
use Rattle.admission_log.specs.Histories.{History, appended, first, publications_of, published_of}
use Rattle.admission_log.specs.Legality.{IsLegal}
use Rattle.edition_form.specs.Editions.{IsEdition}
use Rattle.station.specs.Newest.{Shared, last_cut, StandsFor}
use Rattle.station.proofs.Standing.{stands_published}
use Rattle.station.proofs.shared.SharedLog.publish.Goals as goal

pub invariant_of-self-2 : goal.invariant_of-self-2
invariant_of-self-2 c = let s = arc_value c.self.inside.settings in let e = arc_value c.args.edition in let log = c.self.inside.log in
    let grown : c.publish.new.self ≡ appended log (events.Publish e.number e.cut) = c.in_ok-index.ensures.ok ∙ (λ i. appended log (events.Publish ((c.deref.ensures i).number) ((c.deref-2.ensures i).cut))) in
    let legal : IsLegal s (appended log (events.Publish e.number e.cut)) = subst (IsLegal s) grown (c.in_ok-index.ensures.legal s c.self.invariant.legal) in
    let within : e.cut ≤ length log.events = subst (λ (x : Shared). e.cut ≤ length x.log.events) (sym c.self.view_is) c.requires.no_more in
    let is : IsEdition s (first e.cut log) (last_cut (publications_of log)) (published_of log + 1) e =
    subst (λ (x : Shared). IsEdition x.settings (first e.cut x.log) (last_cut (publications_of x.log)) (published_of x.log + 1) e) (sym c.self.view_is) c.requires.edition in
    subst (λ (h : History). StandsFor s h (Some e)) (sym grown) (stands_published s log e legal within is)
