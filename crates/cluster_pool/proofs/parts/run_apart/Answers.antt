use Rattle.std.proofs.Common.{◌≡◌, ◌++◌, length, rules}
use Rattle.span_clusters.proofs.Separating.{Separating}
use Rattle.cluster_pool.proofs.TakenOut.{cross_numbers, none_cross, some_before, empty_lacks}
use Rattle.cluster_pool.proofs.WholeRuns.{kept_first, kept_parts, kept_bound, kept_joined, kept_failed}
use Rattle.cluster_pool.proofs.parts.run_apart.Goals as goal

pub joins-init : goal.joins-init
joins-init g c =
    let S = g.row.F-State.Denot in
    let I = g.row.F-Item.Denot in
    let K = g.row.F-Key.Denot in
    let O = g.row.F-Out.Denot in
    let F : Separating S I K O = record {
      cmp = g.F.Item.Ord.cmp;
      key = g.F.Fold.key_of;
      slot = g.F.Fold.slot_of;
      next = g.F.Fold.next;
      is_out = g.F.Fold.is_out;
      is_before = g.F.Fold.is_before;
      is_beside = g.F.Separable.is_beside;
      merged = g.F.Separable.merged;
      gates = g.F.Separable.gates;
      both = g.F.Separable.both;
    } in
    let b = some_before g.F.Fold.is_before g.F.Fold.slot_of c.args.state.now c.args.items.now c.requires.some c.requires.before in
    rw c.in_ok-done.ensures (kept_first F c.args.wish c.args.state.now c.args.items.now c.in_ok-jobs.jobs.items c.args.steps.now c.partition.new.steps (c.in_ok-jobs.ensures.splitting b.0 b.1) c.in_ok-jobs.ensures.numbers c.in_ok-jobs.ensures.few c.in_ok-jobs.ensures.steps)

pub crossings-requires : goal.crossings-requires
crossings-requires g c =
    let S = g.row.F-State.Denot in
    let I = g.row.F-Item.Denot in
    let K = g.row.F-Key.Denot in
    let O = g.row.F-Out.Denot in
    let F : Separating S I K O = record {
      cmp = g.F.Item.Ord.cmp;
      key = g.F.Fold.key_of;
      slot = g.F.Fold.slot_of;
      next = g.F.Fold.next;
      is_out = g.F.Fold.is_out;
      is_before = g.F.Fold.is_before;
      is_beside = g.F.Separable.is_beside;
      merged = g.F.Separable.merged;
      gates = g.F.Separable.gates;
      both = g.F.Separable.both;
    } in
    let s = c.args.state.now in
    let zs = c.args.items.now in
    let before = c.args.steps.now in
    let kept = c.joins.invariant in
    record { parts = rw c.deref.ensures.value (kept_parts F c.args.wish s zs c.joins.done.items before c.joins.steps c.requires.rising kept) }

pub returns-then-is_empty-clause-clear : goal.returns-then-is_empty-clause-clear
returns-then-is_empty-clause-clear g c =
    let M = g.F.Fold in
    let none : length c.in_ok-pairs.pairs.items ≡ 0 = search rules in
    none_cross M.next M.slot_of g.F.Separable.gates c.joins.done.items (λ a b h. empty_lacks c.in_ok-pairs.pairs.items (a, b) none ((c.in_ok-pairs.ensures.exact a b).1 (rw c.deref.ensures.value h)))

pub returns-then-is_empty-clause-wished : goal.returns-then-is_empty-clause-wished
returns-then-is_empty-clause-wished g c =
    let S = g.row.F-State.Denot in
    let I = g.row.F-Item.Denot in
    let K = g.row.F-Key.Denot in
    let O = g.row.F-Out.Denot in
    let F : Separating S I K O = record {
      cmp = g.F.Item.Ord.cmp;
      key = g.F.Fold.key_of;
      slot = g.F.Fold.slot_of;
      next = g.F.Fold.next;
      is_out = g.F.Fold.is_out;
      is_before = g.F.Fold.is_before;
      is_beside = g.F.Separable.is_beside;
      merged = g.F.Separable.merged;
      gates = g.F.Separable.gates;
      both = g.F.Separable.both;
    } in
    let s = c.args.state.now in
    let zs = c.args.items.now in
    let before = c.args.steps.now in
    let kept = c.joins.invariant in
    kept_bound F c.args.wish s zs c.joins.done.items before c.joins.steps kept

pub returns-in_err-pairs-clause-wished : goal.returns-in_err-pairs-clause-wished
returns-in_err-pairs-clause-wished g c =
    let S = g.row.F-State.Denot in
    let I = g.row.F-Item.Denot in
    let K = g.row.F-Key.Denot in
    let O = g.row.F-Out.Denot in
    let F : Separating S I K O = record {
      cmp = g.F.Item.Ord.cmp;
      key = g.F.Fold.key_of;
      slot = g.F.Fold.slot_of;
      next = g.F.Fold.next;
      is_out = g.F.Fold.is_out;
      is_before = g.F.Fold.is_before;
      is_beside = g.F.Separable.is_beside;
      merged = g.F.Separable.merged;
      gates = g.F.Separable.gates;
      both = g.F.Separable.both;
    } in
    let s = c.args.state.now in
    let zs = c.args.items.now in
    let before = c.args.steps.now in
    let kept = c.joins.invariant in
    kept_bound F c.args.wish s zs c.joins.done.items before c.joins.steps kept

pub join_all-requires-clause-there : goal.join_all-requires-clause-there
join_all-requires-clause-there g c =
    let M = g.F.Fold in
    λ a b h. cross_numbers M.next M.slot_of g.F.Separable.gates c.joins.done.items a b c.joins.invariant.numbers (rw c.deref.ensures.value at ((c.in_ok-pairs.ensures.exact a b).0 (rw c.deref-in-joins.ensures.value at h)))

pub join_all-requires-clause-parts : goal.join_all-requires-clause-parts
join_all-requires-clause-parts g c =
    let S = g.row.F-State.Denot in
    let I = g.row.F-Item.Denot in
    let K = g.row.F-Key.Denot in
    let O = g.row.F-Out.Denot in
    let F : Separating S I K O = record {
      cmp = g.F.Item.Ord.cmp;
      key = g.F.Fold.key_of;
      slot = g.F.Fold.slot_of;
      next = g.F.Fold.next;
      is_out = g.F.Fold.is_out;
      is_before = g.F.Fold.is_before;
      is_beside = g.F.Separable.is_beside;
      merged = g.F.Separable.merged;
      gates = g.F.Separable.gates;
      both = g.F.Separable.both;
    } in
    let s = c.args.state.now in
    let zs = c.args.items.now in
    let before = c.args.steps.now in
    let kept = c.joins.invariant in
    kept_parts F c.args.wish s zs c.joins.done.items before c.joins.steps c.requires.rising kept

pub returns-in_err-made-clause-wished : goal.returns-in_err-made-clause-wished
returns-in_err-made-clause-wished g c =
    let S = g.row.F-State.Denot in
    let I = g.row.F-Item.Denot in
    let K = g.row.F-Key.Denot in
    let O = g.row.F-Out.Denot in
    let F : Separating S I K O = record {
      cmp = g.F.Item.Ord.cmp;
      key = g.F.Fold.key_of;
      slot = g.F.Fold.slot_of;
      next = g.F.Fold.next;
      is_out = g.F.Fold.is_out;
      is_before = g.F.Fold.is_before;
      is_beside = g.F.Separable.is_beside;
      merged = g.F.Separable.merged;
      gates = g.F.Separable.gates;
      both = g.F.Separable.both;
    } in
    let s = c.args.state.now in
    let zs = c.args.items.now in
    let before = c.args.steps.now in
    let kept = c.joins.invariant in
    kept_failed F c.args.wish s zs c.joins.done.items before c.joins.steps c.join_all.new.steps kept (c.join_all.ensures.bound s zs c.requires.rising kept.splitting)

pub returns-in_err-next-clause-wished : goal.returns-in_err-next-clause-wished
returns-in_err-next-clause-wished g c =
    let S = g.row.F-State.Denot in
    let I = g.row.F-Item.Denot in
    let K = g.row.F-Key.Denot in
    let O = g.row.F-Out.Denot in
    let F : Separating S I K O = record {
      cmp = g.F.Item.Ord.cmp;
      key = g.F.Fold.key_of;
      slot = g.F.Fold.slot_of;
      next = g.F.Fold.next;
      is_out = g.F.Fold.is_out;
      is_before = g.F.Fold.is_before;
      is_beside = g.F.Separable.is_beside;
      merged = g.F.Separable.merged;
      gates = g.F.Separable.gates;
      both = g.F.Separable.both;
    } in
    let s = c.args.state.now in
    let zs = c.args.items.now in
    let before = c.args.steps.now in
    let kept = c.joins.invariant in
    kept_failed F c.args.wish s zs c.joins.done.items before c.joins.steps c.join_all.new.steps kept (c.join_all.ensures.bound s zs c.requires.rising kept.splitting)

pub joins-preserved : goal.joins-preserved
joins-preserved g c =
    let S = g.row.F-State.Denot in
    let I = g.row.F-Item.Denot in
    let K = g.row.F-Key.Denot in
    let O = g.row.F-Out.Denot in
    let F : Separating S I K O = record {
      cmp = g.F.Item.Ord.cmp;
      key = g.F.Fold.key_of;
      slot = g.F.Fold.slot_of;
      next = g.F.Fold.next;
      is_out = g.F.Fold.is_out;
      is_before = g.F.Fold.is_before;
      is_beside = g.F.Separable.is_beside;
      merged = g.F.Separable.merged;
      gates = g.F.Separable.gates;
      both = g.F.Separable.both;
    } in
    let s = c.args.state.now in
    let zs = c.args.items.now in
    let before = c.args.steps.now in
    let kept = c.joins.invariant in
    rw c.in_ok-next.ensures (kept_joined F c.args.wish s zs c.joins.done.items (c.in_ok-made.made.items ++ c.in_ok-made.left.items) before c.joins.steps c.join_all.new.steps c.requires.rising kept c.in_ok-made.ensures.joined)

pub returns-in_err-done-clause-wished : goal.returns-in_err-done-clause-wished
returns-in_err-done-clause-wished g c =
    let S = g.row.F-State.Denot in
    let I = g.row.F-Item.Denot in
    let K = g.row.F-Key.Denot in
    let O = g.row.F-Out.Denot in
    let F : Separating S I K O = record {
      cmp = g.F.Item.Ord.cmp;
      key = g.F.Fold.key_of;
      slot = g.F.Fold.slot_of;
      next = g.F.Fold.next;
      is_out = g.F.Fold.is_out;
      is_before = g.F.Fold.is_before;
      is_beside = g.F.Separable.is_beside;
      merged = g.F.Separable.merged;
      gates = g.F.Separable.gates;
      both = g.F.Separable.both;
    } in
    let b = some_before g.F.Fold.is_before g.F.Fold.slot_of c.args.state.now c.args.items.now c.requires.some c.requires.before in
    kept_bound F c.args.wish c.args.state.now c.args.items.now c.in_ok-jobs.jobs.items c.args.steps.now c.partition.new.steps
    (kept_first F c.args.wish c.args.state.now c.args.items.now c.in_ok-jobs.jobs.items c.args.steps.now c.partition.new.steps (c.in_ok-jobs.ensures.splitting b.0 b.1) c.in_ok-jobs.ensures.numbers c.in_ok-jobs.ensures.few c.in_ok-jobs.ensures.steps)
