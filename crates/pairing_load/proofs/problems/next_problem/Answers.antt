use Rattle.std.proofs.Common.{◌∙◌, ◌≡◌, ap, sym, ℕ, ◌*◌, map, arith}
use Rattle.std.specs.List.{range_with_len}
use Rattle.pairing_load.specs.Problems.{after, full_edge, full_problem}
use Rattle.pairing_load.proofs.Drawing.{after_after, after_none}
use Rattle.pairing_load.proofs.Full.{edges_more, problem_made}
use Rattle.pairing_load.proofs.problems.next_problem.Goals as goal

pub loop-number-init : goal.loop-number-init
loop-number-init c = record { made = c.in_ok-edges.ensures.items; drawn = sym (after_none c.args.costs c.args.generator.now) }

pub loop-number-preserved : goal.loop-number-preserved
loop-number-preserved c =
    let inv = c.loop-number.invariant in
    record {
      made = edges_more c.args.costs c.args.size c.args.generator.now c.loop-number.number inv.made inv.drawn c.next_cost-cost.ensures.cost c.in_ok-push.ensures.items;
      drawn = c.next_cost-cost.ensures.drawn ∙ ap (after c.args.costs 1) inv.drawn ∙ after_after c.args.costs c.loop-number.number 1 c.args.generator.now;
    }

pub invariant_of-result : goal.invariant_of-result
invariant_of-result c =
    let inv = c.loop-number.invariant in
    let end : c.loop-number.number ≡ c.args.size * c.args.size = omega arith in
    let made : c.of.result ≡ map (full_edge c.args.costs c.args.size c.args.generator.now) (range_with_len 0 (c.args.size * c.args.size)) = c.of.ensures ∙ inv.made ∙ ap (λ (j : ℕ). map (full_edge c.args.costs c.args.size c.args.generator.now) (range_with_len 0 j)) end in
    problem_made c.args.costs c.args.size c.args.generator.now c.requires.some made

pub returns-clause-full : goal.returns-clause-full
unfolding full_problem
returns-clause-full c =
    let inv = c.loop-number.invariant in
    let end : c.loop-number.number ≡ c.args.size * c.args.size = omega arith in
    let made : c.of.result ≡ map (full_edge c.args.costs c.args.size c.args.generator.now) (range_with_len 0 (c.args.size * c.args.size)) = c.of.ensures ∙ inv.made ∙ ap (λ (j : ℕ). map (full_edge c.args.costs c.args.size c.args.generator.now) (range_with_len 0 j)) end in
    λ i. record { plots = c.args.size; tracks = c.args.size; edges = made i }

pub returns-clause-drawn : goal.returns-clause-drawn
returns-clause-drawn c =
    let end : c.loop-number.number ≡ c.args.size * c.args.size = omega arith in
    c.loop-number.invariant.drawn ∙ ap (λ (j : ℕ). after c.args.costs j c.args.generator.now) end
