use Rattle.std.proofs.Common.{◌≡◌, rules}
use Rattle.late_window.specs.Folding.{slots, states, AreOutsOf}
use Rattle.cluster_pool.proofs.Ways.{run_length, outs_length}
use Rattle.cluster_pool.proofs.walking.walk_of.Goals as goal

pub invariant_of-result : goal.invariant_of-result
invariant_of-result g c =
    let F = g.F.Fold in
    let p = c.args.done in
    let filled : c.from.result.items ≡ slots F.slot_of p.items = search rules in
    let run : c.from-2.result.items ≡ states F.next F.slot_of p.start p.items = search rules in
    let told : AreOutsOf F.next F.slot_of F.is_out p.start p.items c.from-3.result.items = search rules in
    (run_length F.next F.slot_of p.start p.items c.from-2.result.items c.from.result.items run filled, outs_length F.next F.slot_of F.is_out p.start p.items c.from-3.result.items c.from.result.items told filled)

pub returns : goal.returns
returns g c = record { state = search rules; filled = search rules; folded = search rules; told = search rules }
