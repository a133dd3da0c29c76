use Rattle.std.proofs.Common.{ap, sym, subst, arith}
use Rattle.slot_step.specs.OneBatch.{Batch}
use Rattle.slot_step.specs.Certificates.{IsAt}
use Rattle.slot_step.proofs.Certifying.{within}
use Rattle.slot_step.proofs.Components.{get_at}
use Rattle.slot_step.proofs.Problems.{one_at}
use Rattle.slot_step.proofs.reaching.is_below.Goals as goal

pub returns-then-batches-index : goal.returns-then-batches-index
returns-then-batches-index c = λ w. omega (arith, c.if-batches-index.true, within c.args.batches.now c.args.index w.batch w.at)

pub returns-then-radar-batch : goal.returns-then-radar-batch
returns-then-radar-batch c = λ w.
    let bs = c.args.batches.now in
    let i = c.args.index in
    let b : Batch = c.index-batches-index.result in
    let at : IsAt bs i b = subst (IsAt bs i) (sym c.index-batches-index.is) (get_at b bs i (omega (arith, c.if-batches-index.false))) in
    omega (arith, c.if-radar-batch.true, w.below, ap (λ (d : Batch). d.radar) (one_at bs i w.batch b w.at at), ap (λ (d : Batch). d.radar) c.batch.view_is)

pub returns : goal.returns
returns c =
    let bs = c.args.batches.now in
    let i = c.args.index in
    let b : Batch = c.index-batches-index.result in
    let at : IsAt bs i b = subst (IsAt bs i) (sym c.index-batches-index.is) (get_at b bs i (omega (arith, c.if-batches-index.false))) in
    record { batch = b; at = at; below = omega (arith, c.if-radar-batch.false, ap (λ (d : Batch). d.radar) c.batch.view_is) }
