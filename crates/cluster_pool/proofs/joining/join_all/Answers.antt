use Rattle.std.proofs.Common.{◌≡◌, ◌<◌, ◌≤◌, ◌+◌, ◌*◌, ◌++◌, length, rules, sym, subst}
use Rattle.std.specs.Option.{option_to_list}
use Rattle.late_window.specs.Folding.{slots}
use Rattle.span_clusters.proofs.Separating.{Separating, SeparatingLaws}
use Rattle.cluster_pool.proofs.TakenOut.{contains_at}
use Rattle.cluster_pool.proofs.WholeRuns.{Joins, joins_first, joins_step, joins_bound, joins_fewer}
use Rattle.cluster_pool.proofs.joining.join_all.Goals as goal

pub loop-place-init : goal.loop-place-init
loop-place-init g c =
    let S = g.row.F-State.Denot in
    let I = g.row.F-Item.Denot in
    let K = g.row.F-Key.Denot in
    let O = g.row.F-Out.Denot in
    let F : Separating S I K O = record {
      cmp = g.F.Item.Ord.cmp;
      key = g.F.Fold.key_of;
      slot = g.F.Fold.slot_of;
      next = g.F.Fold.next;
      is_out = g.F.Fold.is_out;
      is_before = g.F.Fold.is_before;
      is_beside = g.F.Separable.is_beside;
      merged = g.F.Separable.merged;
      gates = g.F.Separable.gates;
      both = g.F.Separable.both;
    } in
    let L : SeparatingLaws F = record {
      stays_before = g.met.F.Fold.stays_before;
      goes_before = g.met.F.Fold.goes_before;
      beside_back = g.met.F.Separable.beside_back;
      beside_merged = g.met.F.Separable.beside_merged;
      beside_next = g.met.F.Separable.beside_next;
      merged_back = g.met.F.Separable.merged_back;
      merged_before = g.met.F.Separable.merged_before;
      gates_merged = g.met.F.Separable.gates_merged;
      next_merged = g.met.F.Separable.next_merged;
      out_merged = g.met.F.Separable.out_merged;
      out_alone = g.met.F.Separable.out_alone;
      next_rested = g.met.F.Separable.next_rested;
      out_rested = g.met.F.Separable.out_rested;
      gates_rested = g.met.F.Separable.gates_rested;
    } in
    rw c.new-jobs.ensures.items (joins_first F L g.met.F.Separable.merged_rest c.args.done.items c.args.steps.now c.requires.parts)

pub join_pair-requires-clause-differ : goal.join_pair-requires-clause-differ
join_pair-requires-clause-differ g c =
    let at = c.loop-place.place in
    let pair = c.pair_at-pair.result in
    let inside : at < length c.args.pairs.now = search rules in
    (c.requires.there pair.0 pair.1 (contains_at c.args.pairs.now at pair inside c.pair_at-pair.ensures)).differ

pub loop-place-preserved : goal.loop-place-preserved
loop-place-preserved g c =
    let S = g.row.F-State.Denot in
    let I = g.row.F-Item.Denot in
    let K = g.row.F-Key.Denot in
    let O = g.row.F-Out.Denot in
    let F : Separating S I K O = record {
      cmp = g.F.Item.Ord.cmp;
      key = g.F.Fold.key_of;
      slot = g.F.Fold.slot_of;
      next = g.F.Fold.next;
      is_out = g.F.Fold.is_out;
      is_before = g.F.Fold.is_before;
      is_beside = g.F.Separable.is_beside;
      merged = g.F.Separable.merged;
      gates = g.F.Separable.gates;
      both = g.F.Separable.both;
    } in
    let L : SeparatingLaws F = record {
      stays_before = g.met.F.Fold.stays_before;
      goes_before = g.met.F.Fold.goes_before;
      beside_back = g.met.F.Separable.beside_back;
      beside_merged = g.met.F.Separable.beside_merged;
      beside_next = g.met.F.Separable.beside_next;
      merged_back = g.met.F.Separable.merged_back;
      merged_before = g.met.F.Separable.merged_before;
      gates_merged = g.met.F.Separable.gates_merged;
      next_merged = g.met.F.Separable.next_merged;
      out_merged = g.met.F.Separable.out_merged;
      out_alone = g.met.F.Separable.out_alone;
      next_rested = g.met.F.Separable.next_rested;
      out_rested = g.met.F.Separable.out_rested;
      gates_rested = g.met.F.Separable.gates_rested;
    } in
    let old = c.args.done.items in
    let at = c.loop-place.place in
    let pair = c.pair_at-pair.result in
    let inside : at < length c.args.pairs.now = search rules in
    let there = c.requires.there pair.0 pair.1 (contains_at c.args.pairs.now at pair inside c.pair_at-pair.ensures) in
    subst (λ l. Joins F L g.met.F.Separable.merged_rest old (at + 1) l c.join_pair.new.done.items c.args.steps.now c.join_pair.new.steps) (sym c.in_ok-put_first.ensures)
    (joins_step F L g.met.F.Separable.merged_rest g.met.F.Item.Ord.total old c.loop-place.jobs.items c.loop-place.done.items c.join_pair.new.done.items at pair.0 pair.1 c.args.steps.now c.loop-place.steps c.join_pair.new.steps c.in_ok-job.job c.loop-place.invariant there c.in_ok-job.ensures.none)

pub returns-in_err-put_first-clause-bound : goal.returns-in_err-put_first-clause-bound
returns-in_err-put_first-clause-bound g c =
    let S = g.row.F-State.Denot in
    let I = g.row.F-Item.Denot in
    let K = g.row.F-Key.Denot in
    let O = g.row.F-Out.Denot in
    let F : Separating S I K O = record {
      cmp = g.F.Item.Ord.cmp;
      key = g.F.Fold.key_of;
      slot = g.F.Fold.slot_of;
      next = g.F.Fold.next;
      is_out = g.F.Fold.is_out;
      is_before = g.F.Fold.is_before;
      is_beside = g.F.Separable.is_beside;
      merged = g.F.Separable.merged;
      gates = g.F.Separable.gates;
      both = g.F.Separable.both;
    } in
    let L : SeparatingLaws F = record {
      stays_before = g.met.F.Fold.stays_before;
      goes_before = g.met.F.Fold.goes_before;
      beside_back = g.met.F.Separable.beside_back;
      beside_merged = g.met.F.Separable.beside_merged;
      beside_next = g.met.F.Separable.beside_next;
      merged_back = g.met.F.Separable.merged_back;
      merged_before = g.met.F.Separable.merged_before;
      gates_merged = g.met.F.Separable.gates_merged;
      next_merged = g.met.F.Separable.next_merged;
      out_merged = g.met.F.Separable.out_merged;
      out_alone = g.met.F.Separable.out_alone;
      next_rested = g.met.F.Separable.next_rested;
      out_rested = g.met.F.Separable.out_rested;
      gates_rested = g.met.F.Separable.gates_rested;
    } in
    let old = c.args.done.items in
    let at = c.loop-place.place in
    let pair = c.pair_at-pair.result in
    let inside : at < length c.args.pairs.now = search rules in
    let there = c.requires.there pair.0 pair.1 (contains_at c.args.pairs.now at pair inside c.pair_at-pair.ensures) in
    λ s zs up i. joins_bound F L g.met.F.Separable.merged_rest old (option_to_list c.in_ok-job.job ++ c.loop-place.jobs.items) c.join_pair.new.done.items (at + 1) c.args.steps.now c.join_pair.new.steps
    (joins_step F L g.met.F.Separable.merged_rest g.met.F.Item.Ord.total old c.loop-place.jobs.items c.loop-place.done.items c.join_pair.new.done.items at pair.0 pair.1 c.args.steps.now c.loop-place.steps c.join_pair.new.steps c.in_ok-job.job c.loop-place.invariant there c.in_ok-job.ensures.none) s zs up i

pub returns-in_err-put_first-clause-rises : goal.returns-in_err-put_first-clause-rises
returns-in_err-put_first-clause-rises g c =
    let S = g.row.F-State.Denot in
    let I = g.row.F-Item.Denot in
    let K = g.row.F-Key.Denot in
    let O = g.row.F-Out.Denot in
    let F : Separating S I K O = record {
      cmp = g.F.Item.Ord.cmp;
      key = g.F.Fold.key_of;
      slot = g.F.Fold.slot_of;
      next = g.F.Fold.next;
      is_out = g.F.Fold.is_out;
      is_before = g.F.Fold.is_before;
      is_beside = g.F.Separable.is_beside;
      merged = g.F.Separable.merged;
      gates = g.F.Separable.gates;
      both = g.F.Separable.both;
    } in
    let L : SeparatingLaws F = record {
      stays_before = g.met.F.Fold.stays_before;
      goes_before = g.met.F.Fold.goes_before;
      beside_back = g.met.F.Separable.beside_back;
      beside_merged = g.met.F.Separable.beside_merged;
      beside_next = g.met.F.Separable.beside_next;
      merged_back = g.met.F.Separable.merged_back;
      merged_before = g.met.F.Separable.merged_before;
      gates_merged = g.met.F.Separable.gates_merged;
      next_merged = g.met.F.Separable.next_merged;
      out_merged = g.met.F.Separable.out_merged;
      out_alone = g.met.F.Separable.out_alone;
      next_rested = g.met.F.Separable.next_rested;
      out_rested = g.met.F.Separable.out_rested;
      gates_rested = g.met.F.Separable.gates_rested;
    } in
    let old = c.args.done.items in
    let at = c.loop-place.place in
    let pair = c.pair_at-pair.result in
    let inside : at < length c.args.pairs.now = search rules in
    let there = c.requires.there pair.0 pair.1 (contains_at c.args.pairs.now at pair inside c.pair_at-pair.ensures) in
    (joins_step F L g.met.F.Separable.merged_rest g.met.F.Item.Ord.total old c.loop-place.jobs.items c.loop-place.done.items c.join_pair.new.done.items at pair.0 pair.1 c.args.steps.now c.loop-place.steps c.join_pair.new.steps c.in_ok-job.job c.loop-place.invariant there c.in_ok-job.ensures.none).comes.rises

pub returns-in_err-job-clause-bound : goal.returns-in_err-job-clause-bound
returns-in_err-job-clause-bound g c =
    let S = g.row.F-State.Denot in
    let I = g.row.F-Item.Denot in
    let K = g.row.F-Key.Denot in
    let O = g.row.F-Out.Denot in
    let F : Separating S I K O = record {
      cmp = g.F.Item.Ord.cmp;
      key = g.F.Fold.key_of;
      slot = g.F.Fold.slot_of;
      next = g.F.Fold.next;
      is_out = g.F.Fold.is_out;
      is_before = g.F.Fold.is_before;
      is_beside = g.F.Separable.is_beside;
      merged = g.F.Separable.merged;
      gates = g.F.Separable.gates;
      both = g.F.Separable.both;
    } in
    let L : SeparatingLaws F = record {
      stays_before = g.met.F.Fold.stays_before;
      goes_before = g.met.F.Fold.goes_before;
      beside_back = g.met.F.Separable.beside_back;
      beside_merged = g.met.F.Separable.beside_merged;
      beside_next = g.met.F.Separable.beside_next;
      merged_back = g.met.F.Separable.merged_back;
      merged_before = g.met.F.Separable.merged_before;
      gates_merged = g.met.F.Separable.gates_merged;
      next_merged = g.met.F.Separable.next_merged;
      out_merged = g.met.F.Separable.out_merged;
      out_alone = g.met.F.Separable.out_alone;
      next_rested = g.met.F.Separable.next_rested;
      out_rested = g.met.F.Separable.out_rested;
      gates_rested = g.met.F.Separable.gates_rested;
    } in
    let old = c.args.done.items in
    let same : c.join_pair.new.steps ≡ c.loop-place.steps = search rules in
    λ s zs up i. subst (λ n. n + length (slots F.slot zs) ≤ c.args.steps.now + length (slots F.slot zs) * length old) (sym same)
    (joins_bound F L g.met.F.Separable.merged_rest old c.loop-place.jobs.items c.loop-place.done.items c.loop-place.place c.args.steps.now c.loop-place.steps c.loop-place.invariant s zs up i)

pub returns-clause-bound : goal.returns-clause-bound
returns-clause-bound g c =
    let S = g.row.F-State.Denot in
    let I = g.row.F-Item.Denot in
    let K = g.row.F-Key.Denot in
    let O = g.row.F-Out.Denot in
    let F : Separating S I K O = record {
      cmp = g.F.Item.Ord.cmp;
      key = g.F.Fold.key_of;
      slot = g.F.Fold.slot_of;
      next = g.F.Fold.next;
      is_out = g.F.Fold.is_out;
      is_before = g.F.Fold.is_before;
      is_beside = g.F.Separable.is_beside;
      merged = g.F.Separable.merged;
      gates = g.F.Separable.gates;
      both = g.F.Separable.both;
    } in
    let L : SeparatingLaws F = record {
      stays_before = g.met.F.Fold.stays_before;
      goes_before = g.met.F.Fold.goes_before;
      beside_back = g.met.F.Separable.beside_back;
      beside_merged = g.met.F.Separable.beside_merged;
      beside_next = g.met.F.Separable.beside_next;
      merged_back = g.met.F.Separable.merged_back;
      merged_before = g.met.F.Separable.merged_before;
      gates_merged = g.met.F.Separable.gates_merged;
      next_merged = g.met.F.Separable.next_merged;
      out_merged = g.met.F.Separable.out_merged;
      out_alone = g.met.F.Separable.out_alone;
      next_rested = g.met.F.Separable.next_rested;
      out_rested = g.met.F.Separable.out_rested;
      gates_rested = g.met.F.Separable.gates_rested;
    } in
    λ s zs up i. joins_bound F L g.met.F.Separable.merged_rest c.args.done.items c.loop-place.jobs.items c.loop-place.done.items c.loop-place.place c.args.steps.now c.loop-place.steps c.loop-place.invariant s zs up i

pub returns-clause-fewer : goal.returns-clause-fewer
returns-clause-fewer g c =
    let S = g.row.F-State.Denot in
    let I = g.row.F-Item.Denot in
    let K = g.row.F-Key.Denot in
    let O = g.row.F-Out.Denot in
    let F : Separating S I K O = record {
      cmp = g.F.Item.Ord.cmp;
      key = g.F.Fold.key_of;
      slot = g.F.Fold.slot_of;
      next = g.F.Fold.next;
      is_out = g.F.Fold.is_out;
      is_before = g.F.Fold.is_before;
      is_beside = g.F.Separable.is_beside;
      merged = g.F.Separable.merged;
      gates = g.F.Separable.gates;
      both = g.F.Separable.both;
    } in
    let L : SeparatingLaws F = record {
      stays_before = g.met.F.Fold.stays_before;
      goes_before = g.met.F.Fold.goes_before;
      beside_back = g.met.F.Separable.beside_back;
      beside_merged = g.met.F.Separable.beside_merged;
      beside_next = g.met.F.Separable.beside_next;
      merged_back = g.met.F.Separable.merged_back;
      merged_before = g.met.F.Separable.merged_before;
      gates_merged = g.met.F.Separable.gates_merged;
      next_merged = g.met.F.Separable.next_merged;
      out_merged = g.met.F.Separable.out_merged;
      out_alone = g.met.F.Separable.out_alone;
      next_rested = g.met.F.Separable.next_rested;
      out_rested = g.met.F.Separable.out_rested;
      gates_rested = g.met.F.Separable.gates_rested;
    } in
    let some : 0 < c.loop-place.place = search rules in
    joins_fewer F L g.met.F.Separable.merged_rest c.args.done.items c.loop-place.jobs.items c.loop-place.done.items c.loop-place.place c.args.steps.now c.loop-place.steps c.loop-place.invariant some
