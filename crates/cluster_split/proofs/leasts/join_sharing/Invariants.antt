use Rattle.cluster_split.specs.Leasts.{Falls, HasLabels}
use Rattle.cluster_split.proofs.leasts.join_sharing.Given as goal

abbrev pub invariant-loop-i : goal.invariant-loop-i
invariant-loop-i l = record {
  falls : Falls l.lower;
  labels : HasLabels l.by_track 0 l.initial.lower → HasLabels l.by_track l.i l.lower;
}
