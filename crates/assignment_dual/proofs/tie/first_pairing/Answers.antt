use Rattle.std.proofs.Common.{◌≡◌, ℕ, length, List, subst, ◌∷◌, ◌∙◌}
use Rattle.assignment_dual.specs.Pairings.{Row}
use Rattle.assignment_dual.specs.Rests.{ShowsRest}
use Rattle.assignment_dual.specs.Vertices.{IsOptimal}
use Rattle.assignment_dual.specs.Choices.{IsFixedBy}
use Rattle.assignment_dual.proofs.Prefixes.{choosing_first, choosing_next, chosen}
use Rattle.assignment_dual.proofs.tie.first_pairing.Goals as goal

pub loop-p-init : goal.loop-p-init
loop-p-init c = rw c.in_ok-pairing.ensures.items (choosing_first c.requires.resting c.requires.here, c.requires.seen, c.requires.none_seen)

pub loop-p-preserved : goal.loop-p-preserved
loop-p-preserved c =
    let l : length c.loop-p.prices ≡ length c.args.prices.now = c.loop-p.invariant.0.resting.priced.count in
    rw c.in_ok-push.ensures.items (
      choosing_next c.loop-p.invariant.0 c.loop-p-test.true
          (subst (λ (n : ℕ). IsOptimal c.args.graph.now n c.fix_plot.new.prices c.fix_plot.new.mates c.fix_plot.new.gone) l c.in_ok-fix_plot.ensures.resting)
          c.in_ok-fix_plot.ensures.others
          (subst (λ (n : ℕ). (tracks : ℕ) (row : Row) (rows : List Row) → ShowsRest c.args.graph.now n tracks c.loop-p.gone c.loop-p.p (row ∷ rows) → IsFixedBy c.args.graph.now n c.loop-p.gone c.fix_plot.new.gone c.loop-p.p c.in_ok-fix_plot.field-0 tracks row rows) l
          c.in_ok-fix_plot.ensures.fixed),
      c.in_ok-fix_plot.ensures.seen ∙ l,
      c.in_ok-fix_plot.ensures.none_seen,
    )

pub returns : goal.returns
returns c = chosen c.loop-p.invariant.0 c.loop-p-test.false
