use Rattle.std.proofs.Common.{◌∙◌, ap, List, sym, subst}
use Rattle.track_life.specs.Tracks.{TrackState}
use Rattle.slot_step.specs.Batches.{least}
use Rattle.slot_step.specs.MixedAims.{AreMixed}
use Rattle.slot_step.specs.Tracker.{tracking}
use Rattle.slot_step.proofs.Mixing.{none_mixed}
use Rattle.slot_step.proofs.Moves.{least_inside, least_once, least_count, moved_is}
use Rattle.slot_step.proofs.batch_step.step_batch.Goals as goal

pub batch_costs-requires-clause-aims : goal.batch_costs-requires-clause-aims
batch_costs-requires-clause-aims c = subst (AreMixed c.deref.result.now) (sym c.new-aims.ensures.items) (none_mixed c.deref.result.now)

pub move_tracks-requires-clause-count : goal.move_tracks-requires-clause-count
move_tracks-requires-clause-count c =
    let k = tracking c.args.life.now in
    least_count k c.deref-2.result.now c.args.plots.now c.deref-3.result.now (c.deref-3.ensures.value ∙ c.in_ok-pairing.ensures.pairing c.args.life.now)

pub move_tracks-requires-clause-once : goal.move_tracks-requires-clause-once
move_tracks-requires-clause-once c =
    let k = tracking c.args.life.now in
    least_once k c.deref-2.result.now c.args.plots.now c.deref-3.result.now (c.deref-3.ensures.value ∙ c.in_ok-pairing.ensures.pairing c.args.life.now)

pub move_tracks-requires-clause-inside : goal.move_tracks-requires-clause-inside
move_tracks-requires-clause-inside c =
    let k = tracking c.args.life.now in
    least_inside k c.args.tracks.now.items c.args.plots.now c.deref-3.result.now (c.deref-3.ensures.value ∙ c.in_ok-pairing.ensures.pairing c.args.life.now ∙ ap (λ (ts : List TrackState). least k ts c.args.plots.now) c.deref-2.ensures.value)

pub returns-clause-tracks : goal.returns-clause-tracks
returns-clause-tracks c =
    let k = tracking c.args.life.now in
    c.in_ok-move_tracks.ensures
    ∙ moved_is k c.args.tracks.now.items c.args.plots.now c.deref-3.result.now (c.deref-3.ensures.value ∙ c.in_ok-pairing.ensures.pairing c.args.life.now ∙ ap (λ (ts : List TrackState). least k ts c.args.plots.now) c.deref-2.ensures.value)
