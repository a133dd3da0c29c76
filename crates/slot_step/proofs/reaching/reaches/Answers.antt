use Rattle.std.proofs.Common.{rules, ◌≡◌, ◌∙◌, ◌<◌, ◌≤◌, ap, sym, refl, ℕ, List, length, arith, subst, inl, inr}
use Rattle.std.proofs.lemmas.Bool.{cases_lt}
use Rattle.plot_geometry.specs.Plots.{PlanePlot}
use Rattle.track_life.specs.Tracks.{TrackState}
use Rattle.track_life.specs.Tables.{IsTable}
use Rattle.slot_step.specs.OneBatch.{Batch}
use Rattle.slot_step.specs.Calls.{AreNear, plots_of}
use Rattle.slot_step.specs.Gates.{GateOne}
use Rattle.slot_step.specs.Beside.{IsBelow}
use Rattle.slot_step.specs.Certificates.{IsAt}
use Rattle.slot_step.specs.Batches.{batch_step}
use Rattle.slot_step.specs.Slots.{unexpired, batch_table}
use Rattle.slot_step.specs.ToldComponents.{AreToldBehind}
use Rattle.slot_step.specs.Tracker.{track_gate, tracking, ordered}
use Rattle.slot_step.specs.declared.certs.KeyedCert.{KeyedCert}
use Rattle.slot_step.proofs.Certifying.{within}
use Rattle.slot_step.proofs.Components.{get_at}
use Rattle.slot_step.proofs.Running.{expired, run_more, run_near, run_sorted}
use Rattle.slot_step.proofs.Looking.{HasLooked, looked_none, looked_run, looked_start, looked_more, looked_near, reached, not_reached}
use Rattle.slot_step.proofs.reaching.reaches.Goals as goal

-- where the next own batch isn't below, it is at or above
none_below : (bs : List Batch) (k radar r : ℕ) → radar ≡ r → (IsBelow bs k radar → ⊥) → (b : Batch) → IsAt bs k b → r ≤ b.radar
none_below bs k radar r e f b a = elim (cases_lt b.radar r) [
  | inl lt ↦ absurd (f (record { batch = b; at = a; below = omega (arith, lt, e) }))
  | inr ge ↦ ge
]

pub loop-seen-init : goal.loop-seen-init
loop-seen-init c =
    let life = c.args.life.now in
    let n = c.args.slot in
    let ts = c.args.table.now in
    let is : unexpired (ordered life) n ts ≡ c.into_tracks-tracks.result.items = sym (c.into_tracks-tracks.ensures.value ∙ c.in_ok-expire.ensures ∙ expired life n ts) in
    subst (λ (y : List TrackState × List KeyedCert). HasLooked life n ts c.args.batches.now c.args.others.now 0 0 y.0 y.1) (λ i. (is i, sym c.new-certs.ensures.items i))
    (looked_none life n ts c.args.batches.now c.args.others.now c.requires.batches c.requires.others (subst IsTable (sym is) c.into_tracks-tracks.ensures.table))

pub bounds-batches-ran : goal.bounds-batches-ran
bounds-batches-ran c = let w : IsBelow c.args.batches.now c.loop-seen.ran c.other.inside.radar = c.if-is_below.ensures in within c.args.batches.now c.loop-seen.ran w.batch w.at

pub offset_bounds-batches-ran : goal.offset_bounds-batches-ran
offset_bounds-batches-ran c =
    let w : IsBelow c.args.batches.now c.loop-seen.ran c.other.inside.radar = c.if-is_below.ensures in
    let inside : c.loop-seen.ran < length c.args.batches.now = within c.args.batches.now c.loop-seen.ran w.batch w.at in
    search rules

pub step_batch-requires-clause-tracks : goal.step_batch-requires-clause-tracks
step_batch-requires-clause-tracks c =
    run_sorted c.args.life.now c.args.slot c.args.table.now c.args.batches.now c.requires.batches c.requires.earlier c.loop-seen.ran c.loop-seen.tracks.items c.loop-seen.certs.items c.loop-seen.invariant.ran

pub step_batch-requires-clause-near : goal.step_batch-requires-clause-near
step_batch-requires-clause-near c =
    let bs = c.args.batches.now in
    let k = c.loop-seen.ran in
    let w : IsBelow bs k c.other.inside.radar = c.if-is_below.ensures in
    let b : Batch = c.index-batches-ran.result in
    let at : IsAt bs k b = subst (IsAt bs k) (sym c.index-batches-ran.is) (get_at b bs k (within bs k w.batch w.at)) in
    subst (AreNear c.loop-seen.tracks.items) (sym (c.as_slice.ensures ∙ ap (λ (d : Batch). d.plots) c.batch.view_is))
    (run_near c.args.life.now c.args.slot c.args.table.now bs c.requires.batches c.requires.earlier k c.loop-seen.tracks.items c.loop-seen.certs.items c.loop-seen.invariant.ran b at)

pub overflow_add-ran : goal.overflow_add-ran
overflow_add-ran c =
    let w : IsBelow c.args.batches.now c.loop-seen.ran c.other.inside.radar = c.if-is_below.ensures in
    let inside : c.loop-seen.ran < length c.args.batches.now = within c.args.batches.now c.loop-seen.ran w.batch w.at in
    search rules

pub loop-seen-smaller-then-is_below : goal.loop-seen-smaller-then-is_below
loop-seen-smaller-then-is_below c =
    let w : IsBelow c.args.batches.now c.loop-seen.ran c.other.inside.radar = c.if-is_below.ensures in
    omega (arith, within c.args.batches.now c.loop-seen.ran w.batch w.at)

pub loop-seen-preserved-then-is_below : goal.loop-seen-preserved-then-is_below
loop-seen-preserved-then-is_below c =
    let life = c.args.life.now in
    let n = c.args.slot in
    let ts = c.args.table.now in
    let bs = c.args.batches.now in
    let os = c.args.others.now in
    let k = c.loop-seen.ran in
    let i = c.loop-seen.seen in
    let tracks = c.loop-seen.tracks.items in
    let certs = c.loop-seen.certs.items in
    let w : IsBelow bs k c.other.inside.radar = c.if-is_below.ensures in
    let b : Batch = c.index-batches-ran.result in
    let at : IsAt bs k b = subst (IsAt bs k) (sym c.index-batches-ran.is) (get_at b bs k (within bs k w.batch w.at)) in
    let other : Batch = c.index-others-seen.result in
    let there : IsAt os i other = subst (IsAt os i) (sym c.index-others-seen.is) (get_at other os i c.loop-seen-test.true) in
    let plots : c.as_slice.result.now ≡ b.plots = c.as_slice.ensures ∙ ap (λ (d : Batch). d.plots) c.batch.view_is in
    looked_run life n ts bs os c.requires.batches c.requires.others i k tracks certs c.loop-seen.invariant w.batch other w.at there (omega (arith, w.below, ap (λ (d : Batch). d.radar) c.other.view_is)) c.step_batch.new.tracks.items c.step_batch.new.certs.items
    (run_more life n ts bs c.requires.batches k tracks certs c.loop-seen.invariant.ran b at c.step_batch.new.tracks.items c.step_batch.new.certs.items
    (c.in_ok-step_batch.ensures.tracks ∙ ap (batch_step (tracking life) tracks) plots) c.in_ok-step_batch.ensures.few
    (subst (λ (ps : List PlanePlot). AreToldBehind life tracks ps certs c.step_batch.new.certs.items) plots c.in_ok-step_batch.ensures.certs)
    (c.in_ok-step_batch.ensures.whole c.loop-seen.invariant.ran.good))

pub gate_one-requires-clause-near : goal.gate_one-requires-clause-near
gate_one-requires-clause-near c =
    let os = c.args.others.now in
    let i = c.loop-seen.seen in
    let other : Batch = c.index-others-seen.result in
    let there : IsAt os i other = subst (IsAt os i) (sym c.index-others-seen.is) (get_at other os i c.loop-seen-test.true) in
    let plots : c.as_slice-else-is_below.result.now ≡ other.plots = c.as_slice-else-is_below.ensures ∙ ap (λ (d : Batch). d.plots) c.other.view_is in
    subst (λ (y : List TrackState × List PlanePlot). AreNear y.0 y.1) (λ j. (sym c.deref.ensures.value j, sym plots j))
    (looked_near c.args.life.now c.args.slot c.args.table.now c.args.batches.now os c.requires.batches c.requires.others c.requires.earlier i c.loop-seen.ran c.loop-seen.tracks.items c.loop-seen.certs.items c.loop-seen.invariant other there)

pub returns-then-branch : goal.returns-then-branch
returns-then-branch c =
    let life = c.args.life.now in
    let n = c.args.slot in
    let ts = c.args.table.now in
    let bs = c.args.batches.now in
    let os = c.args.others.now in
    let k = c.loop-seen.ran in
    let i = c.loop-seen.seen in
    let other : Batch = c.index-others-seen.result in
    let there : IsAt os i other = subst (IsAt os i) (sym c.index-others-seen.is) (get_at other os i c.loop-seen-test.true) in
    let plots : c.as_slice-else-is_below.result.now ≡ other.plots = c.as_slice-else-is_below.ensures ∙ ap (λ (d : Batch). d.plots) c.other.view_is in
    let start : c.loop-seen.tracks.items ≡ batch_table (tracking life) (ordered life) ts n (plots_of bs) other.radar =
    looked_start life n ts bs os c.requires.batches c.requires.others i k c.loop-seen.tracks.items c.loop-seen.certs.items c.loop-seen.invariant other there
    (none_below bs k c.other.inside.radar other.radar (ap (λ (d : Batch). d.radar) c.other.view_is) c.if-is_below.ensures) in (
      λ t. reached life n ts bs os c.requires.batches c.requires.others i other there
          (subst (λ (y : List TrackState × List PlanePlot). GateOne track_gate y.0 y.1) (λ j. ((c.deref.ensures.value ∙ start) j, plots j)) (c.in_ok-gate_one.ensures.0 c.if-branch.true)),
      λ r. refl,
    )

pub loop-seen-preserved : goal.loop-seen-preserved
loop-seen-preserved c =
    let life = c.args.life.now in
    let n = c.args.slot in
    let ts = c.args.table.now in
    let bs = c.args.batches.now in
    let os = c.args.others.now in
    let k = c.loop-seen.ran in
    let i = c.loop-seen.seen in
    let other : Batch = c.index-others-seen.result in
    let there : IsAt os i other = subst (IsAt os i) (sym c.index-others-seen.is) (get_at other os i c.loop-seen-test.true) in
    let plots : c.as_slice-else-is_below.result.now ≡ other.plots = c.as_slice-else-is_below.ensures ∙ ap (λ (d : Batch). d.plots) c.other.view_is in
    let start : c.loop-seen.tracks.items ≡ batch_table (tracking life) (ordered life) ts n (plots_of bs) other.radar =
    looked_start life n ts bs os c.requires.batches c.requires.others i k c.loop-seen.tracks.items c.loop-seen.certs.items c.loop-seen.invariant other there
    (none_below bs k c.other.inside.radar other.radar (ap (λ (d : Batch). d.radar) c.other.view_is) c.if-is_below.ensures) in
    looked_more life n ts bs os c.requires.batches c.requires.others i k c.loop-seen.tracks.items c.loop-seen.certs.items c.loop-seen.invariant other there (λ g.
    let f = c.if-branch.false in
    let t = c.in_ok-gate_one.ensures.1 (subst (λ (y : List TrackState × List PlanePlot). GateOne track_gate y.0 y.1) (λ j. (sym (c.deref.ensures.value ∙ start) j, sym plots j)) g) in
    cc)

pub returns : goal.returns
returns c =
    (λ t. absurd (cc), λ r. absurd (not_reached c.args.life.now c.args.slot c.args.table.now c.args.batches.now c.args.others.now c.requires.batches c.requires.others c.loop-seen.seen c.loop-seen.ran c.loop-seen.tracks.items c.loop-seen.certs.items c.loop-seen.invariant (omega (arith, c.loop-seen-test.false)) r))
