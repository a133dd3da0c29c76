use Rattle.std.proofs.Common.{◌≡◌, ◌∙◌, ◌<◌, ◌++◌, ◌∷◌, [], ap, sym, ℕ, List, length, map, get_or, arith}
use Rattle.std.proofs.lemmas.List.{take_all, get_or-map}
use Rattle.trk_base.specs.declared.keys.Key.{Key}
use Rattle.track_life.specs.Tracks.{TrackState}
use Rattle.slot_step.proofs.Components.{zip_length}
use Rattle.slot_step.specs.Certificates.{IsAt}
use Rattle.slot_step.proofs.ComponentEdges.{map_more}
use Rattle.slot_step.proofs.Telling.{at_own}
use Rattle.slot_step.proofs.certs.birth_arrivals.Goals as goal

pub loop-index-preserved : goal.loop-index-preserved
loop-index-preserved c = λ births z.
    let k = c.loop-index.index-index in
    let all : List Key = map (λ (t : TrackState). t.birth) c.args.tracks.now in
    let t = c.index-tracks-index.result in
    let i : ℕ = get_or c.args.indices.now k 0 in
    let inside : i < length c.args.tracks.now = c.requires k 0 c.loop-index-test.true in
    let is : t.birth ≡ get_or births k t.birth = ap (λ (u : TrackState). u.birth) c.index-tracks-index.is ∙ sym (get_or-map (λ (u : TrackState). u.birth) c.args.tracks.now i t t.birth inside) ∙ at_own all c.args.indices.now births z k c.loop-index-test.true t.birth in
    c.in_ok-push.ensures.ok ∙ ap (λ (b : Key). c.loop-index.arrivals ++ b.arrival ∷ []) (ap (λ (u : TrackState). u.birth) c.track.view_is ∙ is)
    ∙ map_more (λ (b : Key). b.arrival) births k t.birth c.loop-index.arrivals [] (omega (arith, c.loop-index-test.true, zip_length (IsAt all) c.args.indices.now births z)) (c.loop-index.invariant births z)

pub returns : goal.returns
returns c = λ births z.
    let all : List Key = map (λ (t : TrackState). t.birth) c.args.tracks.now in
    c.loop-index.invariant births z ∙ ap (map (λ b. b.arrival)) (take_all c.loop-index.index-index births (omega (arith, c.loop-index-test.false, zip_length (IsAt all) c.args.indices.now births z)))
