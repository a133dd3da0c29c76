use Rattle.std.proofs.Common.{rules, ◌≡◌, ◌∙◌, ◌<◌, ◌≤◌, ap, sym, subst, arith, ℕ, ◌+◌, List, [], ◌∷◌, ◌++◌, length, get_or, take, drop, false, Err}
use Rattle.io_traits.specs.Host.{HostState, IsBoundFor}
use Rattle.io_traits.specs.declared.host.Place.TheVariants as places
use Rattle.io_traits.specs.declared.host.Way.TheVariants as ways
use Rattle.recording.specs.Answers.{item_of, items_of}
use Rattle.recording.specs.declared.header.Header.TheVariants.{Second}
use Rattle.recording.specs.declared.item.Item.{Item as Held}
use Rattle.recording.specs.Items.{Item, IsItem}
use Rattle.admission_log.specs.declared.settings.Settings.{Settings}
use Rattle.admission_log.specs.declared.events.Event.{Event}
use Rattle.admission_log.specs.Histories.{History}
use Rattle.session_script.specs.Scripts.{End, Follows, Script, end_of, writes}
use Rattle.session_script.specs.declared.status.Status.{Status}
use Rattle.session_script.specs.declared.status.Status.TheVariants.{Memory}
use Rattle.session_script.proofs.Following.{after_write, ended_so, gave_up, still_open, writing_broke}
use Rattle.tracker_session.specs.declared.counts.Counts.{Counts}
use Rattle.tracker_session.specs.declared.editions.Editions.{Editions}
use Rattle.tracker_session.specs.declared.taking.Run.{Run}
use Rattle.tracker_session.specs.Counting.{counts_of}
use Rattle.tracker_session.specs.Editions.{AreGiven, AreNewest, EditionBroke, EditionWritten, HasNext, at_output, at_prices}
use Rattle.tracker_session.specs.Replay.{IsReplayLog, empty_log}
use Rattle.tracker_session.specs.ReplayScript.{IsEndAt, ending, items_script}
use Rattle.tracker_session.specs.Taking.{shows}
use Rattle.tracker_session.specs.Work.{IsSpentOn}
use Rattle.tracker_session.proofs.Logs.{log_push}
use Rattle.tracker_session.proofs.Spending.{none_spent, spent_on_items, spent_shown, spent_silent}
use Rattle.tracker_session.proofs.Touched.{WritesBoth, nothing_written, then_written}
use Rattle.tracker_session.proofs.Items.{all_taken, ends_at, item_fits, items_over, next_taken, none_left, rest_at, shown_item, silent_item}
use Rattle.tracker_session.proofs.Underway.{Both, GoesOn, Stands, begins, has_next, shown_on, silent_on}
use Rattle.tracker_session.proofs.commands.replay.take_items.Goals as goal
use Rattle.tracker_session.proofs.commands.replay.take_items.Goals.{then-branch+in_ok-octets+in_ok-write_edition, else-branch}

-- the item that lies at a place
here : (ys xs : List Held) (i : ℕ) (d : Held) → ys ≡ xs → d ≡ get_or ys i d → get_or xs i d ≡ d
here ys xs i d same is = sym (is ∙ ap (λ (zs : List Held). get_or zs i d) same)

rest_is : (xs : List Held) (i : ℕ) (d : Held) → i < length xs → get_or xs i d ≡ d → drop i (items_of xs) ≡ item_of d ∷ drop (i + 1) (items_of xs)
rest_is xs i d lt is = rest_at xs i d lt ∙ ap (λ x. item_of x ∷ drop (i + 1) (items_of xs)) is

pub loop-item-init : goal.loop-item-init
loop-item-init g c =
    let state = g.H.Host.state in
    let settings = c.args.settings.now in
    let start = c.args.reading.now.start in
    let items = items_of c.args.reading.now.items.items in
    let script = λ (log : History). items_script settings (ending c.args.tells_biases c.args.reading.now.fault items) log items in
    let steps = c.args.steps.now in
    let host = state c.args.host.now in
    let P = λ (log : History). Both (GoesOn script (script (empty_log start)) host host log) (IsSpentOn log steps steps) in
    let on = begins settings c.args.tells_biases start P _ c.args.editions c.new-run.ensures.keeps c.new-run.ensures.newest c.requires.given (record { holds = λ end new f. f; cost = none_spent (empty_log start) steps }) in
    (on.0, c.requires.output, c.requires.prices, on.1, nothing_written host, omega arith)

pub take-requires : goal.take-requires
take-requires g c =
    let xs = c.args.reading.now.items.items in
    let i = c.loop-item.item-index in
    let d = c.item-item.result in
    let lt : i < length xs = search rules in
    let is = here _ xs i d c.deref-item-items.ensures.value c.item-item.is in
    subst (λ (x : Held). IsItem Second (item_of x)) is (item_fits xs i d lt c.requires.fits)

pub returns-in_err-take-clause-follows : goal.returns-in_err-take-clause-follows
returns-in_err-take-clause-follows g c =
    let state = g.H.Host.state in
    let host = state c.loop-item.host in
    let items = items_of c.args.reading.now.items.items in
    let next = ending c.args.tells_biases c.args.reading.now.fault items in
    let settings = c.args.settings.now in
    let start = empty_log c.args.reading.now.start in
    ended_so (items_script settings next start items) (Err Memory) (end_of c.from_residual.result) (state c.args.host.now) host (search rules) (c.loop-item.invariant.3.holds (Err Memory) host (gave_up (items_script settings next c.loop-item.invariant.0.progress.log (drop c.loop-item.item-index items)) host))

pub next-requires-clause-next : goal.next-requires-clause-next
next-requires-clause-next g c κs lives =
    let u = c.loop-item.invariant.0 in
    let m = c.in_ok-take.ensures u.progress u.keeps in
    let has = has_next c.args.settings.now c.args.tells_biases c.args.reading.now.start _ c.loop-item.run c.take.new.self c.loop-item.editions u (item_of c.item-item.result) c.in_ok-take.field-0 m (m.takes.shown_is ∙ c.if-branch.true) in
    (m.after.log, subst (λ (z : Settings × List Event). HasNext z.0 m.after.log z.1 c.loop-item.editions) (λ i. (sym u.given.stands.settings_are i, sym c.newest.ensures i)) has)

pub returns-in_err-octets-clause-follows : goal.returns-in_err-octets-clause-follows
returns-in_err-octets-clause-follows g c =
    let state = g.H.Host.state in
    let host = state c.loop-item.host in
    let items = items_of c.args.reading.now.items.items in
    let next = ending c.args.tells_biases c.args.reading.now.fault items in
    let settings = c.args.settings.now in
    let start = empty_log c.args.reading.now.start in
    ended_so (items_script settings next start items) (Err Memory) (end_of c.from_residual-in_err-octets.result) (state c.args.host.now) host (search rules) (c.loop-item.invariant.3.holds (Err Memory) host (gave_up (items_script settings next c.loop-item.invariant.0.progress.log (drop c.loop-item.item-index items)) host))

-- writing an edition broke off
edition_broke : (output prices : List ℕ) (next : Script) (s : Status) (old new : HostState) → EditionBroke output prices s old new → Follows (writes places.Output output (writes places.Prices prices next)) (Err s) old new
edition_broke output prices next s old new (at_output b) = writing_broke places.Output output (writes places.Prices prices next) s old new b
edition_broke output prices next s old new (at_prices mid first b) = after_write places.Output output (writes places.Prices prices next) (Err s) old mid new first (writing_broke places.Prices prices next s mid new b)

-- it was written
edition_written : (output prices : List ℕ) (next : Script) (end : End) (old now new : HostState) → EditionWritten output prices old now → Follows next end now new → Follows (writes places.Output output (writes places.Prices prices next)) end old new
edition_written output prices next end old now new w f = after_write places.Output output (writes places.Prices prices next) end old w.mid new w.first (after_write places.Prices prices next end w.mid now new w.second f)

pub returns-in_err-write_edition-clause-follows : goal.returns-in_err-write_edition-clause-follows
returns-in_err-write_edition-clause-follows g c =
    let state = g.H.Host.state in
    let settings = c.args.settings.now in
    let tells = c.args.tells_biases in
    let begin = c.args.reading.now.start in
    let xs = c.args.reading.now.items.items in
    let items = items_of xs in
    let next = ending tells c.args.reading.now.fault items in
    let i = c.loop-item.item-index in
    let d = c.item-item.result in
    let lt : i < length xs = search rules in
    let is = here _ xs i d c.deref-item-items.ensures.value c.item-item.is in
    let host = state c.loop-item.host in
    let new = state c.write_edition.new.host in
    let s = c.in_err-write_edition.field-0.0 in
    let same : c.from_residual-in_err-write_edition.result ≡ Err s = search rules in
    let inv = c.loop-item.invariant in
    let u = inv.0 in
    let m = c.in_ok-take.ensures u.progress u.keeps in
    let t = m.takes in
    let shown = t.shown_is ∙ c.if-branch.true in
    let has = has_next settings tells begin _ c.loop-item.run c.take.new.self c.loop-item.editions u (item_of d) c.in_ok-take.field-0 m shown in
    let own = subst (λ (z : Settings × List Event). HasNext z.0 m.after.log z.1 c.loop-item.editions) (λ i. (sym u.given.stands.settings_are i, sym c.newest.ensures i)) has in
    let octets = c.in_ok-octets.octets in
    let newest = subst (λ (given : Settings). AreNewest given m.after.log octets) u.given.stands.settings_are (c.in_ok-octets.ensures.newest m.after.log own) in
    ended_so (items_script settings next (empty_log begin) items) (Err s) (end_of c.from_residual-in_err-write_edition.result) (state c.args.host.now) new (ap end_of same) (inv.3.holds (Err s) new
    (shown_item settings next u.progress m.after (item_of d) (drop (i + 1) items) (drop i items) (rest_is xs i d lt is) t.added t.has (Err s) host new octets.output.items octets.prices.items shown newest.output newest.prices
    (edition_broke octets.output.items octets.prices.items (items_script settings next m.after.log (drop (i + 1) items)) s host new c.in_err-write_edition.ensures.broke)))

pub loop-item-preserved : goal.loop-item-preserved
loop-item-preserved g c =
    let state = g.H.Host.state in
    let settings = c.args.settings.now in
    let tells = c.args.tells_biases in
    let begin = c.args.reading.now.start in
    let xs = c.args.reading.now.items.items in
    let items = items_of xs in
    let next = ending tells c.args.reading.now.fault items in
    let i = c.loop-item.item-index in
    let d = c.item-item.result in
    let lt : i < length xs = search rules in
    let is = here _ xs i d c.deref-item-items.ensures.value c.item-item.is in
    let rest = rest_is xs i d lt is in
    let longer = next_taken xs i d lt ∙ ap (λ (x : Held). take i items ++ item_of x ∷ []) is in
    let inv = c.loop-item.invariant in
    let u = inv.0 in
    let host = state c.loop-item.host in
    let now = state c.if-branch.host in
    let m = c.in_ok-take.ensures u.progress u.keeps in
    let t = m.takes in
    let first = c.args.steps.now in
    let steps = c.if-branch.steps in
    let G = GoesOn (λ log. items_script settings next log (drop (i + 1) items)) (items_script settings next (empty_log begin) items) (state c.args.host.now) now in
    let P = λ (log : History). Both (G log) (IsSpentOn log first steps) in
    elim c.if-branch.branch [
      | then-branch+in_ok-octets+in_ok-write_edition w ↦ (
          let new = state w.write_edition.new.host in
          let same : now ≡ new = ap state w.host-is in
          let octets = w.in_ok-octets.octets in
          let eq = u.given.stands.settings_are in
          let shown = t.shown_is ∙ w.if-branch.true in
          let has = has_next settings tells begin (take i items) c.loop-item.run c.take.new.self c.loop-item.editions u (item_of d) c.in_ok-take.field-0 m shown in
          let own = subst (λ (z : Settings × List Event). HasNext z.0 m.after.log z.1 c.loop-item.editions) (λ j. (sym eq j, sym w.newest.ensures j)) has in
          let newest = subst (λ (given : Settings). AreNewest given m.after.log octets) eq (w.in_ok-octets.ensures.newest m.after.log own) in
          let given = subst (λ (s : Settings). AreGiven s m.after.log w.next.new.self) eq (w.in_ok-octets.ensures.given m.after.log own) in
          let wrote = w.in_ok-write_edition.ensures.written in
          let behind = items_script settings next m.after.log (drop (i + 1) items) in
          let goes : G m.after.log = λ end last f. inv.3.holds end last
          (shown_item settings next u.progress m.after (item_of d) (drop (i + 1) items) (drop i items) rest t.added t.has end host last octets.output.items octets.prices.items shown newest.output newest.prices
          (edition_written octets.output.items octets.prices.items behind end host new last wrote (subst (λ (h : HostState). Follows behind end h last) same f))) in
          let spent = spent_shown settings u.progress.log m.after.log (item_of d) t.added c.loop-item.editions.cut first c.loop-item.steps w.next.new.steps t.has.adds shown t.has.log u.given.cut_is inv.3.cost (λ slots span. w.next.ensures.bound m.after.log slots own span) in
          let p : P m.after.log = record { holds = goes; cost = subst (λ (k : ℕ). IsSpentOn m.after.log first k) (sym w.steps-is) spent } in
          let on = shown_on settings tells begin (take i items) c.loop-item.run c.take.new.self c.loop-item.editions u (item_of d) c.in_ok-take.field-0 m shown P p w.forget.new.self w.next.new.self given w.forget.ensures.log w.forget.ensures.counts w.forget.ensures.newest in
          let all = subst (λ (z : List Item × (Run × Editions)). Stands settings tells begin P z.0 z.1.0 z.1.1) (λ j. (sym longer j, (sym w.run-is j, sym w.editions-is j))) on in (
            all.0,
            subst (λ (h : HostState). IsBoundFor ways.Write h places.Output) (sym same) (still_open places.Output _ _ wrote.mid new wrote.second.touches (still_open places.Output _ _ host wrote.mid wrote.first.touches inv.1)),
            subst (λ (h : HostState). IsBoundFor ways.Write h places.Prices) (sym same) (still_open places.Prices _ _ wrote.mid new wrote.second.touches (still_open places.Prices _ _ host wrote.mid wrote.first.touches inv.2)),
            all.1,
            subst (λ (h : HostState). WritesBoth (state c.args.host.now) h) (sym same) (then_written (state c.args.host.now) host new inv.4 w.write_edition.ensures.touches),
            omega (arith, inv.5, w.next.ensures.rises, w.steps-is),
          ))
      | else-branch w ↦ (
          let same : now ≡ host = ap state w.host-is in
          let silent : shows t.added ≡ false = t.shown_is ∙ w.if-branch.false in
          let goes : G m.after.log = λ end last f. inv.3.holds end last
          (silent_item settings next u.progress m.after (item_of d) (drop (i + 1) items) (drop i items) rest t.added t.has end host last silent (subst (λ (h : HostState). Follows (items_script settings next m.after.log (drop (i + 1) items)) end h last) same f)) in
          let spent = spent_silent u.progress.log m.after.log t.added first c.loop-item.steps t.has.log inv.3.cost in
          let p : P m.after.log = record { holds = goes; cost = subst (λ (k : ℕ). IsSpentOn m.after.log first k) (sym w.steps-is) spent } in
          let on = silent_on settings tells begin (take i items) c.loop-item.run c.take.new.self c.loop-item.editions u (item_of d) c.in_ok-take.field-0 m P p silent in
          let all = subst (λ (z : List Item × (Run × Editions)). Stands settings tells begin P z.0 z.1.0 z.1.1) (λ j. (sym longer j, (sym w.run-is j, sym w.editions-is j))) on in
          (all.0, subst (λ (h : HostState). IsBoundFor ways.Write h places.Output) (sym same) inv.1, subst (λ (h : HostState). IsBoundFor ways.Write h places.Prices) (sym same) inv.2, all.1, subst (λ (h : HostState). WritesBoth (state c.args.host.now) h) (sym same) inv.4, omega (arith, inv.5, w.steps-is)))
    ]

pub returns-clause-follows : goal.returns-clause-follows
returns-clause-follows g c =
    let state = g.H.Host.state in
    let settings = c.args.settings.now in
    let tells = c.args.tells_biases in
    let fault = c.args.reading.now.fault in
    let xs = c.args.reading.now.items.items in
    let items = items_of xs in
    let i = c.loop-item.item-index in
    let all : length xs ≤ i = search rules in
    let host = state c.loop-item.host in
    let u = c.loop-item.invariant.0 in
    let log = u.progress.log in
    let end = end_of c.end_at.result in
    let part = subst (λ (n : Counts). IsEndAt fault n end) (u.keeps.counts ∙ u.stands.counts) c.end_at.ensures in
    let so = subst (λ (its : List Item). IsEndAt fault (counts_of tells its log) end) (all_taken xs i all) part in
    c.loop-item.invariant.3.holds end host (items_over settings (ending tells fault items) log (drop i items) end host host (none_left xs i all) (ends_at fault (counts_of tells items log) end host so))

pub returns-in_err-take-clause-touches : goal.returns-in_err-take-clause-touches
returns-in_err-take-clause-touches g c = c.loop-item.invariant.4

pub returns-in_err-take-clause-rises : goal.returns-in_err-take-clause-rises
returns-in_err-take-clause-rises g c = c.loop-item.invariant.5

pub returns-in_err-take-clause-spent : goal.returns-in_err-take-clause-spent
returns-in_err-take-clause-spent g c =
    let inv = c.loop-item.invariant in
    spent_on_items c.args.settings.now c.args.reading.now.start (items_of c.args.reading.now.items.items) c.loop-item.item-index inv.0.progress.log c.args.steps.now c.loop-item.steps inv.0.stands.log inv.3.cost

pub returns-in_err-octets-clause-touches : goal.returns-in_err-octets-clause-touches
returns-in_err-octets-clause-touches g c = c.loop-item.invariant.4

pub returns-in_err-octets-clause-rises : goal.returns-in_err-octets-clause-rises
returns-in_err-octets-clause-rises g c = omega (arith, c.loop-item.invariant.5, c.next.ensures.rises)

pub returns-in_err-octets-clause-spent : goal.returns-in_err-octets-clause-spent
returns-in_err-octets-clause-spent g c =
    let settings = c.args.settings.now in
    let tells = c.args.tells_biases in
    let start = c.args.reading.now.start in
    let xs = c.args.reading.now.items.items in
    let items = items_of xs in
    let i = c.loop-item.item-index in
    let d = c.item-item.result in
    let lt : i < length xs = search rules in
    let is = here _ xs i d c.deref-item-items.ensures.value c.item-item.is in
    let longer = next_taken xs i d lt ∙ ap (λ (x : Held). take i items ++ item_of x ∷ []) is in
    let inv = c.loop-item.invariant in
    let u = inv.0 in
    let m = c.in_ok-take.ensures u.progress u.keeps in
    let t = m.takes in
    let eq = u.given.stands.settings_are in
    let shown = t.shown_is ∙ c.if-branch.true in
    let has = has_next settings tells start (take i items) c.loop-item.run c.take.new.self c.loop-item.editions u (item_of d) c.in_ok-take.field-0 m shown in
    let own = subst (λ (z : Settings × List Event). HasNext z.0 m.after.log z.1 c.loop-item.editions) (λ j. (sym eq j, sym c.newest.ensures j)) has in
    let pushed = log_push settings (empty_log start) (take i items) u.progress.log m.after.log (item_of d) t.added u.stands.log t.has.adds t.has.log in
    let spent = spent_shown settings u.progress.log m.after.log (item_of d) t.added c.loop-item.editions.cut c.args.steps.now c.loop-item.steps c.next.new.steps t.has.adds shown t.has.log u.given.cut_is inv.3.cost (λ slots span. c.next.ensures.bound m.after.log slots own span) in
    spent_on_items settings start items (i + 1) m.after.log c.args.steps.now c.next.new.steps (subst (λ (its : List Item). IsReplayLog settings start its m.after.log) (sym longer) pushed) spent

pub returns-in_err-write_edition-clause-touches : goal.returns-in_err-write_edition-clause-touches
returns-in_err-write_edition-clause-touches g c =
    let state = g.H.Host.state in
    then_written (state c.args.host.now) (state c.loop-item.host) (state c.write_edition.new.host) c.loop-item.invariant.4 c.write_edition.ensures.touches

pub returns-in_err-write_edition-clause-rises : goal.returns-in_err-write_edition-clause-rises
returns-in_err-write_edition-clause-rises g c = omega (arith, c.loop-item.invariant.5, c.next.ensures.rises)

pub returns-in_err-write_edition-clause-spent : goal.returns-in_err-write_edition-clause-spent
returns-in_err-write_edition-clause-spent g c =
    let settings = c.args.settings.now in
    let tells = c.args.tells_biases in
    let start = c.args.reading.now.start in
    let xs = c.args.reading.now.items.items in
    let items = items_of xs in
    let i = c.loop-item.item-index in
    let d = c.item-item.result in
    let lt : i < length xs = search rules in
    let is = here _ xs i d c.deref-item-items.ensures.value c.item-item.is in
    let longer = next_taken xs i d lt ∙ ap (λ (x : Held). take i items ++ item_of x ∷ []) is in
    let inv = c.loop-item.invariant in
    let u = inv.0 in
    let m = c.in_ok-take.ensures u.progress u.keeps in
    let t = m.takes in
    let eq = u.given.stands.settings_are in
    let shown = t.shown_is ∙ c.if-branch.true in
    let has = has_next settings tells start (take i items) c.loop-item.run c.take.new.self c.loop-item.editions u (item_of d) c.in_ok-take.field-0 m shown in
    let own = subst (λ (z : Settings × List Event). HasNext z.0 m.after.log z.1 c.loop-item.editions) (λ j. (sym eq j, sym c.newest.ensures j)) has in
    let pushed = log_push settings (empty_log start) (take i items) u.progress.log m.after.log (item_of d) t.added u.stands.log t.has.adds t.has.log in
    let spent = spent_shown settings u.progress.log m.after.log (item_of d) t.added c.loop-item.editions.cut c.args.steps.now c.loop-item.steps c.next.new.steps t.has.adds shown t.has.log u.given.cut_is inv.3.cost (λ slots span. c.next.ensures.bound m.after.log slots own span) in
    spent_on_items settings start items (i + 1) m.after.log c.args.steps.now c.next.new.steps (subst (λ (its : List Item). IsReplayLog settings start its m.after.log) (sym longer) pushed) spent

pub returns-clause-touches : goal.returns-clause-touches
returns-clause-touches g c = c.loop-item.invariant.4

pub returns-clause-rises : goal.returns-clause-rises
returns-clause-rises g c = c.loop-item.invariant.5

pub returns-clause-spent : goal.returns-clause-spent
returns-clause-spent g c =
    let inv = c.loop-item.invariant in
    spent_on_items c.args.settings.now c.args.reading.now.start (items_of c.args.reading.now.items.items) c.loop-item.item-index inv.0.progress.log c.args.steps.now c.loop-item.steps inv.0.stands.log inv.3.cost
