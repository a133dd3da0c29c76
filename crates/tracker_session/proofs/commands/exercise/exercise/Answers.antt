use Rattle.std.proofs.Common.{rules, ◌≡◌, ◌<◌, ◌^◌, ◌∙◌, subst, arith}
use Rattle.std.specs.Arc.{arc_value}
use Rattle.recording.specs.Answers.{items_of}
use Rattle.admission_log.specs.declared.settings.Settings.{Settings}
use Rattle.tracker_session.specs.Exercise.{HaveTotals}
use Rattle.tracker_session.specs.Work.{IsSpentOnItems}
use Rattle.tracker_session.proofs.Exercising.{read_so, scene_spent}
use Rattle.tracker_session.proofs.Spending.{none_spent}
use Rattle.tracker_session.proofs.commands.exercise.exercise.Goals as goal

pub returns-clause-text : goal.returns-clause-text
returns-clause-text g c =
    let settings = c.in_ok-scene_settings.field-0 in
    let r = c.in_ok-reading.reading in
    let tally = c.in_ok-tally.tally in
    let shared : arc_value c.in_ok-settings.settings ≡ settings = search rules in
    let told : HaveTotals c.deref-2.result.now r.start (items_of r.items.items) tally.counts tally.totals = c.in_ok-tally.ensures.totals in
    let under = subst (λ (s : Settings). HaveTotals s r.start (items_of r.items.items) tally.counts tally.totals) (c.deref-2.ensures ∙ shared) told in
    let few : c.args.seconds < 2 ^ 16 = omega (arith, c.ranges.seconds.fits) in
    let octets = c.deref.ensures.value ∙ c.in_ok-octets.ensures in (
      record {
        counts = tally.counts;
        totals = tally.totals;
        is = record {
          settings = settings;
          given = c.in_ok-scene_settings.ensures;
          told = read_so c.args.seed c.args.aircraft c.args.seconds c.args.late c.deref.result.now r.header r.start (items_of r.items.items) r.fault settings tally.counts tally.totals few octets c.in_ok-reading.ensures.reads under;
        };
      },
      c.in_ok-exercise_lines.ensures,
    )

pub returns-in_err-octets-clause-spent : goal.returns-in_err-octets-clause-spent
returns-in_err-octets-clause-spent g c settings given log is = none_spent log c.args.steps.now

pub returns-in_err-reading-clause-spent : goal.returns-in_err-reading-clause-spent
returns-in_err-reading-clause-spent g c settings given log is = none_spent log c.args.steps.now

pub returns-in_err-scene_settings-clause-spent : goal.returns-in_err-scene_settings-clause-spent
returns-in_err-scene_settings-clause-spent g c settings given log is = none_spent log c.args.steps.now

pub returns-in_err-settings-clause-spent : goal.returns-in_err-settings-clause-spent
returns-in_err-settings-clause-spent g c settings given log is = none_spent log c.args.steps.now

pub returns-in_err-clone-clause-spent : goal.returns-in_err-clone-clause-spent
returns-in_err-clone-clause-spent g c settings given log is = none_spent log c.args.steps.now

pub returns-in_err-editions-clause-spent : goal.returns-in_err-editions-clause-spent
returns-in_err-editions-clause-spent g c settings given log is = none_spent log c.args.steps.now

pub returns-in_err-tally-clause-spent : goal.returns-in_err-tally-clause-spent
returns-in_err-tally-clause-spent g c =
    let settings = c.in_ok-scene_settings.field-0 in
    let r = c.in_ok-reading.reading in
    let old = c.args.steps.now in
    let new = c.take_items.new.steps in
    let shared : arc_value c.in_ok-settings.settings ≡ settings = search rules in
    let spent = subst (λ (s : Settings). IsSpentOnItems s r.start (items_of r.items.items) old new) (c.deref-2.ensures ∙ shared) c.take_items.ensures.spent in
    let few : c.args.seconds < 2 ^ 16 = omega (arith, c.ranges.seconds.fits) in
    let octets = c.deref.ensures.value ∙ c.in_ok-octets.ensures in
    scene_spent c.args.seed c.args.aircraft c.args.seconds c.args.late c.deref.result.now r.header r.start (items_of r.items.items) r.fault settings old new few octets c.in_ok-reading.ensures.reads c.in_ok-scene_settings.ensures spent

pub returns-in_err-exercise_lines-clause-spent : goal.returns-in_err-exercise_lines-clause-spent
returns-in_err-exercise_lines-clause-spent g c =
    let settings = c.in_ok-scene_settings.field-0 in
    let r = c.in_ok-reading.reading in
    let old = c.args.steps.now in
    let new = c.take_items.new.steps in
    let shared : arc_value c.in_ok-settings.settings ≡ settings = search rules in
    let spent = subst (λ (s : Settings). IsSpentOnItems s r.start (items_of r.items.items) old new) (c.deref-2.ensures ∙ shared) c.take_items.ensures.spent in
    let few : c.args.seconds < 2 ^ 16 = omega (arith, c.ranges.seconds.fits) in
    let octets = c.deref.ensures.value ∙ c.in_ok-octets.ensures in
    scene_spent c.args.seed c.args.aircraft c.args.seconds c.args.late c.deref.result.now r.header r.start (items_of r.items.items) r.fault settings old new few octets c.in_ok-reading.ensures.reads c.in_ok-scene_settings.ensures spent

pub returns-clause-spent : goal.returns-clause-spent
returns-clause-spent g c =
    let settings = c.in_ok-scene_settings.field-0 in
    let r = c.in_ok-reading.reading in
    let old = c.args.steps.now in
    let new = c.take_items.new.steps in
    let shared : arc_value c.in_ok-settings.settings ≡ settings = search rules in
    let spent = subst (λ (s : Settings). IsSpentOnItems s r.start (items_of r.items.items) old new) (c.deref-2.ensures ∙ shared) c.take_items.ensures.spent in
    let few : c.args.seconds < 2 ^ 16 = omega (arith, c.ranges.seconds.fits) in
    let octets = c.deref.ensures.value ∙ c.in_ok-octets.ensures in
    scene_spent c.args.seed c.args.aircraft c.args.seconds c.args.late c.deref.result.now r.header r.start (items_of r.items.items) r.fault settings old new few octets c.in_ok-reading.ensures.reads c.in_ok-scene_settings.ensures spent
