use Rattle.std.proofs.Common.{◌≡◌, ◌∙◌, ap, sym, subst, length, map, arith}
use Rattle.std.proofs.Math.Nat.{mul-le-mul_left}
use Rattle.std.proofs.lemmas.Result.{IfOk-weaker}
use Rattle.late_window.specs.Folding.{after, slots, OutsAt}
use Rattle.late_window.proofs.Cuts.{no_items}
use Rattle.cluster_pool.proofs.parts.run_in_parts.Goals as goal

pub returns-then-is_empty-clause-states : goal.returns-then-is_empty-clause-states
returns-then-is_empty-clause-states g c =
    let F = g.F.Fold in
    c.new.ensures.items ∙ sym (ap (map (after F.next F.slot_of c.args.state.now c.args.items.now)) (no_items F.slot_of c.args.items.now (sym c.if-is_empty.true ∙ c.is_empty.ensures)))

pub returns-then-is_empty-clause-outs : goal.returns-then-is_empty-clause-outs
returns-then-is_empty-clause-outs g c =
    let F = g.F.Fold in
    subst (λ ns. OutsAt F.next F.slot_of F.is_out c.args.state.now c.args.items.now ns c.new-then-is_empty.result.items) (sym (no_items F.slot_of c.args.items.now (sym c.if-is_empty.true ∙ c.is_empty.ensures))) c.new-then-is_empty.ensures.items

pub merged_runs-requires-clause-splitting : goal.merged_runs-requires-clause-splitting
merged_runs-requires-clause-splitting g c = (c.args.state.now, c.in_ok-done.ensures.splitting)

pub returns-clause-states : goal.returns-clause-states
returns-clause-states g c = IfOk-weaker c.merged_runs.result _ _ (λ r h. h c.args.state.now c.in_ok-done.ensures.splitting) c.merged_runs.ensures.states

pub returns-clause-outs : goal.returns-clause-outs
returns-clause-outs g c = IfOk-weaker c.merged_runs.result _ _ (λ r h. h c.args.state.now c.in_ok-done.ensures.splitting) c.merged_runs.ensures.outs

pub returns-then-is_empty-clause-wished : goal.returns-then-is_empty-clause-wished
returns-then-is_empty-clause-wished g c =
    let none : length (slots g.F.Fold.slot_of c.args.items.now) ≡ 0 = ap length (no_items g.F.Fold.slot_of c.args.items.now (sym c.if-is_empty.true ∙ c.is_empty.ensures)) in
    omega (arith, none)

pub returns-in_err-done-clause-bound : goal.returns-in_err-done-clause-bound
returns-in_err-done-clause-bound g c =
    let most = length (slots g.F.Fold.slot_of c.args.items.now) in
    let wished = c.run_apart.ensures.wished in
    omega (arith, wished, mul-le-mul_left most c.requires.most)

pub returns-clause-bound : goal.returns-clause-bound
returns-clause-bound g c =
    let most = length (slots g.F.Fold.slot_of c.args.items.now) in
    let wished = c.run_apart.ensures.wished in
    omega (arith, wished, mul-le-mul_left most c.requires.most)
