use Rattle.std.proofs.Common.{rules}
use Rattle.cluster_pool.proofs.TakenOut.{two_taken}
use Rattle.cluster_pool.proofs.joining.join_pair.Goals as goal

pub join_parts-requires-clause-numbers : goal.join_parts-requires-clause-numbers
join_parts-requires-clause-numbers g c =
    let F = g.F.Fold in
    (two_taken F.slot_of F.key_of F.is_before g.F.Separable.is_beside g.met.F.Separable.beside_back c.in-Some.one c.in-Some.other c.args.done.now.items c.take_both.new.done.items c.in-Some.ensures.0 c.requires.parts).numbers

pub join_parts-requires-clause-beside : goal.join_parts-requires-clause-beside
join_parts-requires-clause-beside g c =
    let F = g.F.Fold in
    (two_taken F.slot_of F.key_of F.is_before g.F.Separable.is_beside g.met.F.Separable.beside_back c.in-Some.one c.in-Some.other c.args.done.now.items c.take_both.new.done.items c.in-Some.ensures.0 c.requires.parts).beside

pub join_parts-requires-clause-keys : goal.join_parts-requires-clause-keys
join_parts-requires-clause-keys g c =
    let F = g.F.Fold in
    (two_taken F.slot_of F.key_of F.is_before g.F.Separable.is_beside g.met.F.Separable.beside_back c.in-Some.one c.in-Some.other c.args.done.now.items c.take_both.new.done.items c.in-Some.ensures.0 c.requires.parts).keys

pub join_parts-requires-clause-one_before : goal.join_parts-requires-clause-one_before
join_parts-requires-clause-one_before g c =
    let F = g.F.Fold in
    (two_taken F.slot_of F.key_of F.is_before g.F.Separable.is_beside g.met.F.Separable.beside_back c.in-Some.one c.in-Some.other c.args.done.now.items c.take_both.new.done.items c.in-Some.ensures.0 c.requires.parts).before.there

pub join_parts-requires-clause-other_before : goal.join_parts-requires-clause-other_before
join_parts-requires-clause-other_before g c =
    let F = g.F.Fold in
    (two_taken F.slot_of F.key_of F.is_before g.F.Separable.is_beside g.met.F.Separable.beside_back c.in-Some.one c.in-Some.other c.args.done.now.items c.take_both.new.done.items c.in-Some.ensures.0 c.requires.parts).before.back

pub returns-in_ok-job-in-Some-clause-none : goal.returns-in_ok-job-in-Some-clause-none
returns-in_ok-job-in-Some-clause-none g c =
    let e = c.in_ok-job-in-Some.ensures in
    (c.in-Some.one, c.in-Some.other, c.in-Some.ensures.0, record { both = e.items; rising = search rules; is = λ i. record { number = e.number i; start = e.start i; items = c.in_ok-job-in-Some.job.items } }, e.steps, c.in-Some.ensures.1)
