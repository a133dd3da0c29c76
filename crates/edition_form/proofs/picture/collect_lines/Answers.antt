use Rattle.std.proofs.Common.{◌≡◌, ◌∙◌, ap, sym, subst, ◌<◌, ◌++◌, ◌∷◌, [], map, true}
use Rattle.trk_base.specs.Numbers.{slot_of}
use Rattle.track_life.specs.Tracks.{TrackState}
use Rattle.track_life.specs.Tables.{is_kept}
use Rattle.edition_form.specs.Lines.{shown_line}
use Rattle.edition_form.proofs.Sorting.{all_at}
use Rattle.edition_form.proofs.Shown.{shown_among, is_shown_by, step_of, collected_one, collected_none, collected_all}
use Rattle.edition_form.proofs.picture.collect_lines.Goals as goal
use Rattle.edition_form.proofs.picture.collect_lines.Goals.{in-Some+in_ok-push, in_default}

pub shown_line-requires-clause-step : goal.shown_line-requires-clause-step
shown_line-requires-clause-step c =
    let t = c.track-item.result in
    let shown = is_shown_by c.args.life.now c.slot_of-slot.result t c.in-Some.number (sym c.shown_number.ensures ∙ c.in-Some.is) in
    let kept : is_kept c.args.life.now (slot_of c.args.time) t ≡ true = subst (λ n. is_kept c.args.life.now n t ≡ true) c.slot_of-slot.ensures shown.kept in
    let earlier : t.aim.time < c.args.time = subst (λ (x : TrackState). x.aim.time < c.args.time) (sym c.track-item.is) (all_at (λ x. x.aim.time < c.args.time) c.args.tracks.now c.loop-track.track-index t c.requires c.loop-track-test.true) in
    step_of c.args.life.now c.args.time t kept earlier

pub loop-track-preserved : goal.loop-track-preserved
loop-track-preserved c =
    let t = c.track-item.result in
    elim c.match-shown_number.branch [
      | in-Some+in_ok-push w ↦ collected_one c.args.life.now c.slot_of-slot.result c.args.time c.args.tracks.now c.loop-track.track-index t w.in-Some.number c.loop-track.lines.items c.match-shown_number.lines.items c.loop-track-test.true c.track-item.is (sym c.shown_number.ensures ∙ w.in-Some.is) (ap (λ v. v.items) w.lines-is ∙ w.in_ok-push.ensures.items ∙ ap (λ s. c.loop-track.lines.items ++ s ∷ []) w.shown_line.ensures) c.loop-track.invariant
      | in_default w ↦ collected_none c.args.life.now c.slot_of-slot.result c.args.time c.args.tracks.now c.loop-track.track-index t c.loop-track.lines.items c.match-shown_number.lines.items c.loop-track-test.true c.track-item.is (sym c.shown_number.ensures ∙ w.in_default.is) (ap (λ v. v.items) w.lines-is) c.loop-track.invariant
    ]

pub returns : goal.returns
returns c =
    collected_all c.args.life.now c.slot_of-slot.result c.args.time c.args.tracks.now c.loop-track.track-index c.loop-track.lines.items c.loop-track-test.false c.loop-track.invariant
    ∙ ap (λ n. map (shown_line c.args.time) (shown_among c.args.life.now n c.args.tracks.now)) c.slot_of-slot.ensures
