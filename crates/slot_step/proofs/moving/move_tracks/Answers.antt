use Rattle.std.proofs.Common.{◌≡◌, ◌∙◌, ◌<◌, ◌++◌, ◌∷◌, [], ap, sym, ℕ, List, length, take, get_or, Option, Some, None, Vec, Global, arith, subst, slice_set}
use Rattle.std.specs.Prelude.{All, IfSome}
use Rattle.fixed_imm.specs.Bounds.{IsTimeStep, time_step}
use Rattle.plot_geometry.specs.Plots.{PlanePlot}
use Rattle.track_life.specs.Tracks.{TrackState, continued}
use Rattle.slot_step.specs.Certificates.{IsAt}
use Rattle.slot_step.specs.Tracker.{tracking}
use Rattle.slot_step.proofs.Components.{get_at}
use Rattle.slot_step.proofs.Moves.{moved_none, moved_begun, moved_paired, not_moved, moved_longer}
use Rattle.slot_step.proofs.moving.move_tracks.Goals as goal
use Rattle.slot_step.proofs.moving.move_tracks.Goals.{in-Some, in-None+in_ok-push-in-None}

-- a track that an entry names is in the table
inside : (n i t : ℕ) (xs : List (Option ℕ)) → All (λ x. IfSome x (λ t. t < n)) xs → i < length xs → get_or xs i None ≡ Some t → t < n
inside n i t xs h lt e = subst (λ (x : Option ℕ). IfSome x (λ u. u < n)) e (h i None lt)

pub loop-index-init : goal.loop-index-init
loop-index-init c = sym (moved_none (tracking c.args.life.now) c.args.tracks.now.items)

pub index-before-requires : goal.index-before-requires
index-before-requires c =
    let ts = c.args.tracks.now.items in
    let i = c.loop-index.index in
    let t : ℕ = c.in-Some.track in
    let own : t < length ts = inside (length ts) i t c.args.pairing.now c.requires.inside (omega (arith, c.loop-index-test.true, c.requires.count)) c.in-Some.is in
    omega (arith, ap length c.loop-index.invariant, moved_longer (tracking c.args.life.now) ts (take i c.args.plots.now) (take i c.args.pairing.now) t own)

pub update_track-requires-clause-mixed : goal.update_track-requires-clause-mixed
update_track-requires-clause-mixed c =
    let ts = c.args.tracks.now.items in
    let i = c.loop-index.index in
    let t : ℕ = c.in-Some.track in
    let d = c.index-before.result.now in
    let lt : i < length c.args.pairing.now = omega (arith, c.loop-index-test.true, c.requires.count) in
    let own : t < length ts = inside (length ts) i t c.args.pairing.now c.requires.inside lt c.in-Some.is in
    let is : d ≡ get_or ts t d = c.index-before.ensures ∙ ap (λ (us : List TrackState). get_or us t d) c.loop-index.invariant ∙ not_moved (tracking c.args.life.now) ts d c.args.plots.now c.args.pairing.now i t lt c.requires.once own c.in-Some.is in
    c.aim_of.ensures ts d c.requires.aims (subst (IsAt ts t) (sym is) (get_at d ts t own))

pub update_track-requires-clause-step : goal.update_track-requires-clause-step
update_track-requires-clause-step c =
    let ts = c.args.tracks.now.items in
    let ps = c.args.plots.now in
    let i = c.loop-index.index in
    let t : ℕ = c.in-Some.track in
    let p = c.index-plots-index.result in
    let d = c.index-before.result.now in
    let lt : i < length c.args.pairing.now = omega (arith, c.loop-index-test.true, c.requires.count) in
    let own : t < length ts = inside (length ts) i t c.args.pairing.now c.requires.inside lt c.in-Some.is in
    let is : d ≡ get_or ts t d = c.index-before.ensures ∙ ap (λ (us : List TrackState). get_or us t d) c.loop-index.invariant ∙ not_moved (tracking c.args.life.now) ts d ps c.args.pairing.now i t lt c.requires.once own c.in-Some.is in
    subst (λ (y : TrackState × PlanePlot). IsTimeStep (time_step y.0.aim.time y.1.key.time)) (λ k. (sym is k, sym c.index-plots-index.is k)) (c.requires.near i p c.loop-index-test.true t d own)

pub index_mut-requires : goal.index_mut-requires
index_mut-requires c =
    let ts = c.args.tracks.now.items in
    let i = c.loop-index.index in
    let t : ℕ = c.in-Some.track in
    let own : t < length ts = inside (length ts) i t c.args.pairing.now c.requires.inside (omega (arith, c.loop-index-test.true, c.requires.count)) c.in-Some.is in
    omega (arith, ap length c.loop-index.invariant, moved_longer (tracking c.args.life.now) ts (take i c.args.plots.now) (take i c.args.pairing.now) t own)

pub loop-index-preserved : goal.loop-index-preserved
loop-index-preserved c =
    let k = tracking c.args.life.now in
    let ts = c.args.tracks.now.items in
    let ps = c.args.plots.now in
    let xs = c.args.pairing.now in
    let i = c.loop-index.index in
    let p = c.index-plots-index.result in
    let lt : i < length xs = omega (arith, c.loop-index-test.true, c.requires.count) in
    elim c.match-pairing-index.branch [
      | in-Some w ↦
          let t : ℕ = w.in-Some.track in
          let d = w.index-before.result.now in
          let own : t < length ts = inside (length ts) i t xs c.requires.inside lt w.in-Some.is in
          let is : d ≡ get_or ts t d = w.index-before.ensures ∙ ap (λ (us : List TrackState). get_or us t d) c.loop-index.invariant ∙ not_moved k ts d ps xs i t lt c.requires.once own w.in-Some.is in
          ap (λ (v : Vec TrackState Global). v.items) w.tracks-is
          ∙ (λ j. slice_set (c.loop-index.invariant j) t ((w.update_track.ensures ∙ (λ l. continued c.args.life.now.hits (is l) (c.index-plots-index.is l))) j))
          ∙ sym (moved_paired k ts d p ps xs i t c.loop-index-test.true c.requires.count c.requires.once own w.in-Some.is)
      | in-None+in_ok-push-in-None w ↦
          ap (λ (v : Vec TrackState Global). v.items) w.tracks-is ∙ w.in_ok-push-in-None.ensures.items
          ∙ (λ j. c.loop-index.invariant j ++ (w.begin.ensures ∙ ap k.begin c.index-plots-index.is) j ∷ [])
          ∙ sym (moved_begun k ts p ps xs i c.loop-index-test.true c.requires.count w.in-None.is)
    ]
