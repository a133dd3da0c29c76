use Rattle.std.proofs.Common.{arith, sym}
use Rattle.cluster_split.proofs.Labels.{own_labels, leasts_of_labels}
use Rattle.cluster_split.proofs.leasts.label_all.Goals as goal

pub returns : goal.returns
returns c =
    let h = c.join_sharing.ensures.labels (own_labels c.args.by_track.now c.args.lower.now c.requires.own) in
    leasts_of_labels c.args.by_track.now c.join_sharing.new.lower _ (sym c.join_sharing.auto.lower) c.requires.inside h c.flatten.new.lower (omega (arith, c.join_sharing.auto.lower, c.flatten.auto.lower)) (c.flatten.ensures.labels h.label h.labelled)
