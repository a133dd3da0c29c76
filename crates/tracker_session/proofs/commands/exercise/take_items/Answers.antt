use Rattle.std.proofs.Common.{rules, ◌≡◌, ◌∙◌, ◌<◌, ◌≤◌, ap, sym, subst, arith, ℕ, ◌+◌, List, [], ◌∷◌, ◌++◌, length, get_or, take, false}
use Rattle.std.specs.List.{concat}
use Rattle.recording.specs.Answers.{item_of, items_of}
use Rattle.recording.specs.declared.header.Header.TheVariants.{Second}
use Rattle.recording.specs.declared.item.Item.{Item as Held}
use Rattle.recording.specs.Items.{Item, IsItem}
use Rattle.admission_log.specs.declared.settings.Settings.{Settings}
use Rattle.admission_log.specs.declared.events.Event.{Event}
use Rattle.admission_log.specs.Histories.{History}
use Rattle.tracker_session.specs.declared.editions.Editions.{Editions}
use Rattle.tracker_session.specs.declared.taking.Run.{Run}
use Rattle.tracker_session.specs.Counting.{counted, counts_of}
use Rattle.tracker_session.specs.Editions.{AreGiven, ArePartsOfNewest, HasNext}
use Rattle.tracker_session.specs.Replay.{IsReplayLog, empty_log, log_with}
use Rattle.tracker_session.specs.Taking.{shows}
use Rattle.tracker_session.specs.Totals.{AreCounted}
use Rattle.tracker_session.specs.Work.{IsSpentOn}
use Rattle.tracker_session.proofs.Items.{all_taken, item_fits, next_taken}
use Rattle.tracker_session.proofs.Logs.{log_push}
use Rattle.tracker_session.proofs.Spending.{none_spent, spent_on_items, spent_shown, spent_silent}
use Rattle.tracker_session.proofs.Underway.{Both, Stands, begins, has_next, shown_on, silent_on}
use Rattle.tracker_session.proofs.Totaling.{counted_as, none_counted, shown_counted, silent_counted}
use Rattle.tracker_session.proofs.commands.exercise.take_items.Goals as goal
use Rattle.tracker_session.proofs.commands.exercise.take_items.Goals.{then-branch+in_ok-parts, else-branch}

-- the item that lies at a place
here : (ys xs : List Held) (i : ℕ) (d : Held) → ys ≡ xs → d ≡ get_or ys i d → get_or xs i d ≡ d
here ys xs i d same is = sym (is ∙ ap (λ (zs : List Held). get_or zs i d) same)

pub loop-item-init : goal.loop-item-init
loop-item-init g c =
    let settings = c.args.settings.now in
    let start = c.args.reading.now.start in
    let steps = c.args.steps.now in
    let on = begins settings false start (λ log. Both (AreCounted settings log 0 0) (IsSpentOn log steps steps)) _ c.args.editions c.new-run.ensures.keeps c.new-run.ensures.newest c.requires.given (record { holds = none_counted settings start; cost = none_spent (empty_log start) steps }) in
    (on.0, on.1, omega arith)

pub take-requires : goal.take-requires
take-requires g c =
    let xs = c.args.reading.now.items.items in
    let i = c.loop-item.item-index in
    let d = c.item-item.result in
    let lt : i < length xs = search rules in
    let is = here _ xs i d c.deref-item-items.ensures.value c.item-item.is in
    subst (λ (x : Held). IsItem Second (item_of x)) is (item_fits xs i d lt c.requires.fits)

pub returns-in_err-take-clause-spent : goal.returns-in_err-take-clause-spent
returns-in_err-take-clause-spent g c =
    let inv = c.loop-item.invariant in
    spent_on_items c.args.settings.now c.args.reading.now.start (items_of c.args.reading.now.items.items) c.loop-item.item-index inv.0.progress.log c.args.steps.now c.loop-item.steps inv.0.stands.log inv.1.cost

pub returns-in_err-take-clause-rises : goal.returns-in_err-take-clause-rises
returns-in_err-take-clause-rises g c = c.loop-item.invariant.2

pub advance-requires-clause-next : goal.advance-requires-clause-next
advance-requires-clause-next g c κs lives =
    let u = c.loop-item.invariant.0 in
    let m = c.in_ok-take.ensures u.progress u.keeps in
    let has = has_next c.args.settings.now false c.args.reading.now.start _ c.loop-item.run c.take.new.self c.loop-item.editions u (item_of c.item-item.result) c.in_ok-take.field-0 m (m.takes.shown_is ∙ c.if-branch.true) in
    (m.after.log, subst (λ (z : Settings × List Event). HasNext z.0 m.after.log z.1 c.loop-item.editions) (λ i. (sym u.given.stands.settings_are i, sym c.newest.ensures i)) has)

pub returns-in_err-parts-clause-rises : goal.returns-in_err-parts-clause-rises
returns-in_err-parts-clause-rises g c = omega (arith, c.loop-item.invariant.2, c.advance.ensures.rises)

pub returns-in_err-parts-clause-spent : goal.returns-in_err-parts-clause-spent
returns-in_err-parts-clause-spent g c =
    let settings = c.args.settings.now in
    let start = c.args.reading.now.start in
    let xs = c.args.reading.now.items.items in
    let items = items_of xs in
    let i = c.loop-item.item-index in
    let d = c.item-item.result in
    let lt : i < length xs = search rules in
    let is = here _ xs i d c.deref-item-items.ensures.value c.item-item.is in
    let longer = next_taken xs i d lt ∙ ap (λ (x : Held). take i items ++ item_of x ∷ []) is in
    let inv = c.loop-item.invariant in
    let u = inv.0 in
    let m = c.in_ok-take.ensures u.progress u.keeps in
    let t = m.takes in
    let eq = u.given.stands.settings_are in
    let shown = t.shown_is ∙ c.if-branch.true in
    let has = has_next settings false start (take i items) c.loop-item.run c.take.new.self c.loop-item.editions u (item_of d) c.in_ok-take.field-0 m shown in
    let own = subst (λ (z : Settings × List Event). HasNext z.0 m.after.log z.1 c.loop-item.editions) (λ j. (sym eq j, sym c.newest.ensures j)) has in
    let pushed = log_push settings (empty_log start) (take i items) u.progress.log m.after.log (item_of d) t.added u.stands.log t.has.adds t.has.log in
    let spent = spent_shown settings u.progress.log m.after.log (item_of d) t.added c.loop-item.editions.cut c.args.steps.now c.loop-item.steps c.advance.new.steps t.has.adds shown t.has.log u.given.cut_is inv.1.cost (λ slots span. c.advance.ensures.bound m.after.log slots own span) in
    spent_on_items settings start items (i + 1) m.after.log c.args.steps.now c.advance.new.steps (subst (λ (its : List Item). IsReplayLog settings start its m.after.log) (sym longer) pushed) spent

pub loop-item-preserved : goal.loop-item-preserved
loop-item-preserved g c =
    let settings = c.args.settings.now in
    let start = c.args.reading.now.start in
    let xs = c.args.reading.now.items.items in
    let items = items_of xs in
    let i = c.loop-item.item-index in
    let d = c.item-item.result in
    let lt : i < length xs = search rules in
    let is = here _ xs i d c.deref-item-items.ensures.value c.item-item.is in
    let longer = next_taken xs i d lt ∙ ap (λ (x : Held). take i items ++ item_of x ∷ []) is in
    let inv = c.loop-item.invariant in
    let u = inv.0 in
    let m = c.in_ok-take.ensures u.progress u.keeps in
    let t = m.takes in
    let o = c.loop-item.octets in
    let n = c.loop-item.certificates in
    let first = c.args.steps.now in
    let now = c.if-branch.steps in
    let P = λ (log : History). Both (AreCounted settings log c.if-branch.octets c.if-branch.certificates) (IsSpentOn log first now) in
    elim c.if-branch.branch [
      | then-branch+in_ok-parts w ↦ (
          let eq = u.given.stands.settings_are in
          let parts = w.in_ok-parts.parts in
          let shown = t.shown_is ∙ w.if-branch.true in
          let has = has_next settings false start (take i items) c.loop-item.run c.take.new.self c.loop-item.editions u (item_of d) c.in_ok-take.field-0 m shown in
          let own = subst (λ (z : Settings × List Event). HasNext z.0 m.after.log z.1 c.loop-item.editions) (λ j. (sym eq j, sym w.newest.ensures j)) has in
          let newest = subst (λ (s : Settings). ArePartsOfNewest s m.after.log parts) eq (w.in_ok-parts.ensures.newest m.after.log own) in
          let given = subst (λ (s : Settings). AreGiven s m.after.log w.advance.new.self) eq (w.in_ok-parts.ensures.given m.after.log own) in
          let both = shown_counted settings u.progress.log (item_of d) t.added t.has.adds o n inv.1.holds parts shown (subst (λ (l : History). ArePartsOfNewest settings l parts) t.has.log newest) in
          let octets = w.more_octets-octets.ensures ∙ ap (λ (d : List (List ℕ)). counted (o + length (concat d))) w.as_slice.ensures in
          let all = counted_as settings (log_with u.progress.log t.added) m.after.log _ _ _ _ t.has.log (w.octets-is ∙ octets) (w.certificates-is ∙ w.more-certificates.ensures) both in
          let spent = spent_shown settings u.progress.log m.after.log (item_of d) t.added c.loop-item.editions.cut first c.loop-item.steps w.advance.new.steps t.has.adds shown t.has.log u.given.cut_is inv.1.cost (λ slots span. w.advance.ensures.bound m.after.log slots own span) in
          let p : P m.after.log = record { holds = all; cost = subst (λ (k : ℕ). IsSpentOn m.after.log first k) (sym w.steps-is) spent } in
          let on = shown_on settings false start (take i items) c.loop-item.run c.take.new.self c.loop-item.editions u (item_of d) c.in_ok-take.field-0 m shown P p w.forget.new.self w.advance.new.self given w.forget.ensures.log w.forget.ensures.counts w.forget.ensures.newest in
          let out = subst (λ (z : List Item × (Run × Editions)). Stands settings false start P z.0 z.1.0 z.1.1) (λ j. (sym longer j, (sym w.run-is j, sym w.editions-is j))) on in
          (out.0, out.1, omega (arith, inv.2, w.advance.ensures.rises, w.steps-is)))
      | else-branch w ↦ (
          let silent : shows t.added ≡ false = t.shown_is ∙ w.if-branch.false in
          let all = counted_as settings (log_with u.progress.log t.added) m.after.log _ _ _ _ t.has.log w.octets-is w.certificates-is (silent_counted settings u.progress.log (item_of d) t.added t.has.adds o n inv.1.holds silent) in
          let spent = spent_silent u.progress.log m.after.log t.added first c.loop-item.steps t.has.log inv.1.cost in
          let p : P m.after.log = record { holds = all; cost = subst (λ (k : ℕ). IsSpentOn m.after.log first k) (sym w.steps-is) spent } in
          let on = silent_on settings false start (take i items) c.loop-item.run c.take.new.self c.loop-item.editions u (item_of d) c.in_ok-take.field-0 m P p silent in
          let out = subst (λ (z : List Item × (Run × Editions)). Stands settings false start P z.0 z.1.0 z.1.1) (λ j. (sym longer j, (sym w.run-is j, sym w.editions-is j))) on in
          (out.0, out.1, omega (arith, inv.2, w.steps-is)))
    ]

pub returns-clause-totals : goal.returns-clause-totals
returns-clause-totals g c =
    let xs = c.args.reading.now.items.items in
    let i = c.loop-item.item-index in
    let all : length xs ≤ i = search rules in
    let u = c.loop-item.invariant.0 in
    let log = u.progress.log in
    record {
      log = log;
      log_is = subst (λ (its : List Item). IsReplayLog c.args.settings.now c.args.reading.now.start its log) (all_taken xs i all) u.stands.log;
      counts_are = u.keeps.counts ∙ u.stands.counts ∙ ap (λ its. counts_of false its log) (all_taken xs i all);
      totals_are = record { tracks_are = u.given.tracks_are; counted_are = c.loop-item.invariant.1.holds };
    }

pub returns-clause-rises : goal.returns-clause-rises
returns-clause-rises g c = c.loop-item.invariant.2

pub returns-clause-spent : goal.returns-clause-spent
returns-clause-spent g c =
    let inv = c.loop-item.invariant in
    spent_on_items c.args.settings.now c.args.reading.now.start (items_of c.args.reading.now.items.items) c.loop-item.item-index inv.0.progress.log c.args.steps.now c.loop-item.steps inv.0.stands.log inv.1.cost
