use Rattle.std.proofs.Common.{◌≡◌, ◌+◌, ◌≤◌, vec_len, vec_capacity}
use Rattle.std.specs.Vec.Iter.{into_iter_len}
use Rattle.span_clusters.specs.Jobs.{filled_slots}
use Rattle.span_clusters.proofs.parting.all_charged.Given as goal

abbrev pub invariant-loop-draft : goal.invariant-loop-draft
invariant-loop-draft g l = record {
  jobs : l.jobs.items ≡ l.yielded;
  counted : l.steps ≡ l.initial.steps + filled_slots g.F.Fold.slot_of l.jobs.items;
  room : vec_len l.jobs + into_iter_len l.draft-iterator ≤ vec_capacity l.jobs;
}
