use Rattle.std.proofs.Common.{◌∙◌, ap, ℕ, List, ◌++◌, arith}
use Rattle.std.specs.List.{flat_map}
use Rattle.std.proofs.lemmas.List.{take_all}
use Rattle.scene_gen.specs.Scenes.{come_at}
use Rattle.scene_gen.proofs.Coming.{joined, taken}
use Rattle.scene_gen.proofs.delays.take_at.Goals as goal

pub returns-clause-taken : goal.returns-clause-taken
returns-clause-taken c = λ before on.
    let old : List ℕ = c.args.octets.now.items in
    let whole = take_all c.loop-plot.plot-index c.at-plot-items.result.now c.loop-plot-test.false in
    c.loop-plot.invariant ∙ ap (λ (l : List (List ℕ)). old ++ flat_map (λ (o : List ℕ). o) l) (whole ∙ c.at-plot-items.ensures ∙ on.each c.args.time (omega arith) (omega arith))
    ∙ ap (λ (l : List ℕ). old ++ l) (joined (come_at before c.args.time))

pub returns-clause-left : goal.returns-clause-left
returns-clause-left c = λ before on. taken before c.args.time on c.clear.ensures
