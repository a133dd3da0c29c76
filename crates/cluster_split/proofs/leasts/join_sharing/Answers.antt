use Rattle.std.proofs.Common.{◌+◌, subst, sym}
use Rattle.cluster_split.specs.Leasts.{Falls, HasLabels}
use Rattle.cluster_split.proofs.Labels.{first_edge, fewer_edges, one_more_joined, one_more_apart}
use Rattle.cluster_split.proofs.leasts.join_sharing.Goals as goal
use Rattle.cluster_split.proofs.leasts.join_sharing.Goals.{then-by_track-i, else-by_track-i}

pub loop-i-init : goal.loop-i-init
loop-i-init c = record { falls = c.requires.falls; labels = first_edge c.args.by_track.now c.args.lower.now }

pub loop-i-preserved : goal.loop-i-preserved
loop-i-preserved c =
    let edges = c.args.by_track.now in
    let i = c.loop-i.i in
    elim c.if-by_track-i.branch [
      | then-by_track-i w ↦ record {
        falls = subst Falls (sym w.lower-is) w.join.ensures.falls;
        labels = λ h. subst (HasLabels edges (i + 1)) (sym w.lower-is) (one_more_joined edges i c.loop-i.lower _ c.loop-i.auto.i c.loop-i-test.true w.if-by_track-i.true w.join.ensures.labels (c.loop-i.invariant.labels h));
      }
      | else-by_track-i w ↦ record {
        falls = subst Falls (sym w.lower-is) c.loop-i.invariant.falls;
        labels = λ h. subst (HasLabels edges (i + 1)) (sym w.lower-is) (one_more_apart edges i c.loop-i.lower c.loop-i.auto.i c.loop-i-test.true c.requires.sorted w.if-by_track-i.false (c.loop-i.invariant.labels h));
      }
    ]

pub returns : goal.returns
returns c = record {
  falls = c.loop-i.invariant.falls;
  labels = λ h. fewer_edges c.args.by_track.now _ c.loop-i.i c.loop-i.lower c.loop-i-test.false (c.loop-i.invariant.labels h);
}
