use Rattle.std.proofs.Common.{◌≡◌, ◌<◌, ℕ, length, get_or, List, Bool, true, false, arith, refl, sym, ◌∙◌, ap, subst, get_or-set_same}
use Rattle.assignment_dual.specs.Vertices.{to_of, IsOptimal}
use Rattle.assignment_dual.proofs.Candidates.{Tried, tried, track_here, trying_next, fixed_track, fixed_none, fixed_pair, others_track, others_none}
use Rattle.assignment_dual.proofs.tie.fix_plot.Goals as goal

pub overflow_add-arc : goal.overflow_add-arc
overflow_add-arc c =
    let t : Tried c.args.graph.now (length c.args.prices.now) c.args.gone.now c.index-arc.result.now (get_or c.args.tight.now c.loop-k.k-index 0) =
    tried c.requires.graph c.requires.tight c.requires.p c.requires.plots c.loop-k.k-index c.index-arc.result.now c.loop-k-test.true c.index-arc.ensures in
    omega (arith, t.small)

pub overflow_add-from : goal.overflow_add-from
overflow_add-from c =
    let t : Tried c.args.graph.now (length c.args.prices.now) c.args.gone.now c.index-arc.result.now (get_or c.args.tight.now c.loop-k.k-index 0) =
    tried c.requires.graph c.requires.tight c.requires.p c.requires.plots c.loop-k.k-index c.index-arc.result.now c.loop-k-test.true c.index-arc.ensures in
    omega (arith, t.small, c.from.ensures, c.sum.ensures.small)

pub overflow_sub-result-then-from-sum : goal.overflow_sub-result-then-from-sum
overflow_sub-result-then-from-sum c =
    let t : Tried c.args.graph.now (length c.args.prices.now) c.args.gone.now c.index-arc.result.now (get_or c.args.tight.now c.loop-k.k-index 0) =
    tried c.requires.graph c.requires.tight c.requires.p c.requires.plots c.loop-k.k-index c.index-arc.result.now c.loop-k-test.true c.index-arc.ensures in
    t.low

pub overflow_cast-result-then-from-sum : goal.overflow_cast-result-then-from-sum
overflow_cast-result-then-from-sum c =
    let t : Tried c.args.graph.now (length c.args.prices.now) c.args.gone.now c.index-arc.result.now (get_or c.args.tight.now c.loop-k.k-index 0) =
    tried c.requires.graph c.requires.tight c.requires.p c.requires.plots c.loop-k.k-index c.index-arc.result.now c.loop-k-test.true c.index-arc.ensures in
    omega (arith, t.low, t.high, c.requires.tracks)

pub returns-then-from-sum-clause-fixed : goal.returns-then-from-sum-clause-fixed
returns-then-from-sum-clause-fixed c =
    let t : Tried c.args.graph.now (length c.args.prices.now) c.args.gone.now c.index-arc.result.now (get_or c.args.tight.now c.loop-k.k-index 0) =
    tried c.requires.graph c.requires.tight c.requires.p c.requires.plots c.loop-k.k-index c.index-arc.result.now c.loop-k-test.true c.index-arc.ensures in
    let r : IsOptimal c.args.graph.now (length c.args.prices.now) c.take_out-in-loop-k.new.prices c.take_out-in-loop-k.new.mates c.take_out-in-loop-k.new.gone =
    subst (λ (n : ℕ). IsOptimal c.args.graph.now n c.take_out-in-loop-k.new.prices c.take_out-in-loop-k.new.mates c.take_out-in-loop-k.new.gone) c.loop-k.invariant.0.resting.priced.count c.in_ok-take_out-2.ensures.resting in
    fixed_track c.requires.graph c.requires.resting c.requires.count c.requires.tight c.loop-k.k-index c.index-arc.result.now.to c.index-arc.result.now.cost c.sum-whole.result
    c.loop-k-test.true t.to t.cost t.low c.sum-whole.ensures.sum c.loop-k.invariant.0 c.in_ok-take_out-2.ensures.gone r (omega (arith, c.if-from-sum.true, c.from.ensures, c.sum.ensures.sum))

pub put_back-requires-clause-away : goal.put_back-requires-clause-away
put_back-requires-clause-away c =
    let t : Tried c.args.graph.now (length c.args.prices.now) c.args.gone.now c.index-arc.result.now (get_or c.args.tight.now c.loop-k.k-index 0) =
    tried c.requires.graph c.requires.tight c.requires.p c.requires.plots c.loop-k.k-index c.index-arc.result.now c.loop-k-test.true c.index-arc.ensures in
    let l : c.index-arc.result.now.to < length c.loop-k.gone = omega (arith, t.high, c.loop-k.auto.gone, c.requires.count) in
    ap (λ (o : List Bool). get_or o c.index-arc.result.now.to false) c.in_ok-take_out-2.ensures.gone ∙ get_or-set_same c.loop-k.gone c.index-arc.result.now.to true false l

pub loop-k-preserved : goal.loop-k-preserved
loop-k-preserved c =
    let t : Tried c.args.graph.now (length c.args.prices.now) c.args.gone.now c.index-arc.result.now (get_or c.args.tight.now c.loop-k.k-index 0) =
    tried c.requires.graph c.requires.tight c.requires.p c.requires.plots c.loop-k.k-index c.index-arc.result.now c.loop-k-test.true c.index-arc.ensures in
    let r : IsOptimal c.args.graph.now (length c.args.prices.now) c.take_out-in-loop-k.new.prices c.take_out-in-loop-k.new.mates c.take_out-in-loop-k.new.gone =
    subst (λ (n : ℕ). IsOptimal c.args.graph.now n c.take_out-in-loop-k.new.prices c.take_out-in-loop-k.new.mates c.take_out-in-loop-k.new.gone) c.loop-k.invariant.0.resting.priced.count c.in_ok-take_out-2.ensures.resting in
    let q : IsOptimal c.args.graph.now (length c.args.prices.now) c.put_back.new.prices c.put_back.new.mates c.put_back.new.gone =
    subst (λ (n : ℕ). IsOptimal c.args.graph.now n c.put_back.new.prices c.put_back.new.mates c.put_back.new.gone) r.priced.count c.in_ok-put_back.ensures.resting in
    let h : get_or c.loop-k.gone c.index-arc.result.now.to false ≡ false = ap (λ (o : List Bool). get_or o c.index-arc.result.now.to false) c.loop-k.invariant.0.fixed ∙ track_here t c.requires.p in (
      trying_next c.loop-k.invariant.0 (get_or c.args.tight.now c.loop-k.k-index 0) c.index-arc.result.now.to c.index-arc.result.now.cost refl t.to t.cost h
          c.take_out-in-loop-k.new.prices c.take_out-in-loop-k.new.mates c.put_back.new.prices c.put_back.new.mates c.take_out-in-loop-k.new.gone c.put_back.new.gone
          c.in_ok-take_out-2.ensures.gone r (λ z. c.if-from-sum.false (omega (arith, z, c.from.ensures, c.sum.ensures.sum))) c.in_ok-put_back.ensures.gone q,
      c.in_ok-put_back.ensures.seen ∙ r.priced.count,
      c.in_ok-put_back.ensures.none_seen,
    )

pub returns-clause-fixed : goal.returns-clause-fixed
returns-clause-fixed c =
    fixed_none c.requires.graph c.requires.resting c.requires.count c.requires.tight c.loop-k.k-index c.sum-whole.result (omega (arith, c.loop-k-test.false)) c.sum-whole.ensures.sum c.loop-k.invariant.0

pub returns-then-from-sum-clause-others : goal.returns-then-from-sum-clause-others
returns-then-from-sum-clause-others c =
    let t : Tried c.args.graph.now (length c.args.prices.now) c.args.gone.now c.index-arc.result.now (get_or c.args.tight.now c.loop-k.k-index 0) =
    tried c.requires.graph c.requires.tight c.requires.p c.requires.plots c.loop-k.k-index c.index-arc.result.now c.loop-k-test.true c.index-arc.ensures in
    others_track c.loop-k.invariant.0 c.index-arc.result.now.to t.low c.in_ok-take_out-2.ensures.gone

pub returns-clause-others : goal.returns-clause-others
returns-clause-others c = λ v h d. others_none c.loop-k.invariant.0 v d

pub returns-then-mate_is_first-clause-resting : goal.returns-then-mate_is_first-clause-resting
returns-then-mate_is_first-clause-resting c = c.take_pair-track.ensures.resting c.args.graph.now c.requires.resting

pub returns-then-mate_is_first-clause-fixed : goal.returns-then-mate_is_first-clause-fixed
returns-then-mate_is_first-clause-fixed c =
    let f : (0 < length c.args.tight.now) × (to_of c.args.graph.now (get_or c.args.tight.now 0 0) ≡ get_or c.args.mates.now c.args.p 0) = c.mate_is_first.ensures.0 c.if-mate_is_first.true in
    fixed_pair c.requires.graph c.requires.resting c.requires.count c.requires.tight c.take_pair-track.result f.0 (f.1 ∙ sym c.take_pair-track.ensures.mate) c.requires.p c.requires.plots c.take_pair-track.ensures.gone
    (c.take_pair-track.ensures.resting c.args.graph.now c.requires.resting) c.take_pair-track.ensures.sum
