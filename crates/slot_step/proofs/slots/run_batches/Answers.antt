use Rattle.std.proofs.Common.{◌≡◌, ◌∙◌, ◌+◌, ap, sym, List, subst}
use Rattle.plot_geometry.specs.Plots.{PlanePlot}
use Rattle.track_life.specs.Tracks.{TrackState}
use Rattle.track_life.specs.Tables.{IsTable}
use Rattle.slot_step.specs.OneBatch.{Batch}
use Rattle.slot_step.specs.Calls.{AreNear, AreFromBefore, plots_of}
use Rattle.slot_step.specs.Certificates.{IsAt}
use Rattle.slot_step.specs.Batches.{batch_step}
use Rattle.slot_step.specs.Slots.{unexpired}
use Rattle.slot_step.specs.Told.{AreTold}
use Rattle.slot_step.specs.ToldComponents.{AreToldBehind}
use Rattle.slot_step.specs.Tracker.{tracking, ordered}
use Rattle.slot_step.specs.declared.certs.KeyedCert.{KeyedCert}
use Rattle.slot_step.proofs.Components.{get_at}
use Rattle.slot_step.proofs.Running.{HasRun, expired, run_none, run_more, run_all, run_told, run_after, run_near, run_sorted, run_table}
use Rattle.slot_step.proofs.slots.run_batches.Goals as goal

pub loop-batch-init : goal.loop-batch-init
loop-batch-init c =
    let life = c.args.life.now in
    let n = c.args.slot in
    let ts = c.args.table.now in
    let is : unexpired (ordered life) n ts ≡ c.into_tracks-tracks.result.items = sym (c.into_tracks-tracks.ensures.value ∙ c.in_ok-expire.ensures ∙ expired life n ts) in
    subst (λ (y : List TrackState × List KeyedCert). HasRun life n ts c.args.batches.now 0 y.0 y.1) (λ i. (is i, sym c.in_ok-certs.ensures.items i))
    (run_none life n ts c.args.batches.now c.requires.batches (subst IsTable (sym is) c.into_tracks-tracks.ensures.table))

pub step_batch-requires-clause-few : goal.step_batch-requires-clause-few
step_batch-requires-clause-few c = c.loop-batch.invariant.few

pub step_batch-requires-clause-tracks : goal.step_batch-requires-clause-tracks
step_batch-requires-clause-tracks c =
    run_sorted c.args.life.now c.args.slot c.args.table.now c.args.batches.now c.requires.batches c.requires.earlier c.loop-batch.batch-index c.loop-batch.tracks.items c.loop-batch.certs.items c.loop-batch.invariant

pub step_batch-requires-clause-near : goal.step_batch-requires-clause-near
step_batch-requires-clause-near c =
    let b : Batch = c.batch-item.result in
    let at : IsAt c.args.batches.now c.loop-batch.batch-index b = subst (IsAt c.args.batches.now c.loop-batch.batch-index) (sym c.batch-item.is) (get_at b c.args.batches.now c.loop-batch.batch-index c.loop-batch-test.true) in
    subst (AreNear c.loop-batch.tracks.items) (sym (c.as_slice.ensures ∙ ap (λ (d : Batch). d.plots) c.batch.view_is))
    (run_near c.args.life.now c.args.slot c.args.table.now c.args.batches.now c.requires.batches c.requires.earlier c.loop-batch.batch-index c.loop-batch.tracks.items c.loop-batch.certs.items c.loop-batch.invariant b at)

pub loop-batch-preserved : goal.loop-batch-preserved
loop-batch-preserved c =
    let life = c.args.life.now in
    let tracks = c.loop-batch.tracks.items in
    let b : Batch = c.batch-item.result in
    let at : IsAt c.args.batches.now c.loop-batch.batch-index b = subst (IsAt c.args.batches.now c.loop-batch.batch-index) (sym c.batch-item.is) (get_at b c.args.batches.now c.loop-batch.batch-index c.loop-batch-test.true) in
    let plots : c.as_slice.result.now ≡ b.plots = c.as_slice.ensures ∙ ap (λ (d : Batch). d.plots) c.batch.view_is in
    run_more life c.args.slot c.args.table.now c.args.batches.now c.requires.batches c.loop-batch.batch-index tracks c.loop-batch.certs.items c.loop-batch.invariant b at c.step_batch.new.tracks.items c.step_batch.new.certs.items
    (c.in_ok-step_batch.ensures.tracks ∙ ap (batch_step (tracking life) tracks) plots) c.in_ok-step_batch.ensures.few
    (subst (λ (ps : List PlanePlot). AreToldBehind life tracks ps c.loop-batch.certs.items c.step_batch.new.certs.items) plots c.in_ok-step_batch.ensures.certs)
    (c.in_ok-step_batch.ensures.whole c.loop-batch.invariant.good)

pub of-requires : goal.of-requires
of-requires c =
    run_table c.args.life.now c.args.slot c.args.table.now c.args.batches.now c.requires.batches c.requires.earlier c.loop-batch.batch-index c.loop-batch.tracks.items c.loop-batch.certs.items c.loop-batch.invariant

pub returns-clause-table : goal.returns-clause-table
returns-clause-table c =
    c.of.ensures ∙ run_all c.args.life.now c.args.slot c.args.table.now c.args.batches.now c.requires.batches c.loop-batch.batch-index c.loop-batch.tracks.items c.loop-batch.certs.items c.loop-batch.invariant c.loop-batch-test.false

pub returns-clause-certs : goal.returns-clause-certs
returns-clause-certs c =
    subst (AreTold c.args.life.now c.args.table.now c.args.slot (plots_of c.args.batches.now)) (sym c.of-2.ensures)
    (run_told c.args.life.now c.args.slot c.args.table.now c.args.batches.now c.requires.batches c.loop-batch.batch-index c.loop-batch.tracks.items c.loop-batch.certs.items c.loop-batch.invariant c.loop-batch-test.false)

pub returns-clause-before : goal.returns-clause-before
returns-clause-before c =
    subst (AreFromBefore (c.args.slot + 1)) (sym c.of.ensures)
    (run_after c.args.life.now c.args.slot c.args.table.now c.args.batches.now c.requires.batches c.requires.earlier c.loop-batch.batch-index c.loop-batch.tracks.items c.loop-batch.certs.items c.loop-batch.invariant)
