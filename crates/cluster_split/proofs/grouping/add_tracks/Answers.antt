use Rattle.std.proofs.Common.{◌≡◌, true, sym, ◌∙◌, length-set, ap, length}
use Rattle.cluster_split.specs.Grouping.{is_first}
use Rattle.cluster_split.proofs.Placing.{tracks_same, track_step, first_track, other_track, same_track}
use Rattle.cluster_split.proofs.grouping.add_tracks.Goals as goal
use Rattle.cluster_split.proofs.grouping.add_tracks.Goals.{then-i-eq0+in_ok-put_track, then-i-eq0-via-then-i-eq0, then-i-eq0-via-else-i-eq0+then-by_track-i, else-i-eq0+else-by_track-i}

pub loop-i-preserved : goal.loop-i-preserved
loop-i-preserved c =
    let edges = c.args.by_track.now in
    let i = c.loop-i.i in
    elim c.if-i-eq0.branch [
      | then-i-eq0+in_ok-put_track w ↦
          let is = ap (λ v. v.items) w.parts-is ∙ w.in_ok-put_track.ensures in
          let new : is_first edges i ≡ true = elim w.then-i-eq0.branch [ then-i-eq0-via-then-i-eq0 u ↦ first_track edges i u.if-i-eq0.true | then-i-eq0-via-else-i-eq0+then-by_track-i u ↦ other_track edges i u.if-by_track-i.true ] in
          record {
            long = ap length is ∙ length-set _ _ _ ∙ c.loop-i.invariant.long;
            parts = λ least h e. track_step least c.args.places.now edges i c.loop-i.parts.items _ h c.requires.inside c.loop-i-test.true new (c.loop-i.invariant.parts least h e) is;
          }
      | else-i-eq0+else-by_track-i w ↦
          let is = ap (λ v. v.items) w.parts-is in
          record {
            long = ap length is ∙ c.loop-i.invariant.long;
            parts = λ least h e. is ∙ c.loop-i.invariant.parts least h e ∙ sym (tracks_same least edges _ i (same_track edges i w.if-i-eq0.false w.if-by_track-i.false));
          }
    ]
