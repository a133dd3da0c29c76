use Rattle.std.proofs.Common.{ap, ℕ, ◌%◌}
use Rattle.rand_pcg.specs.Lcg.{Lcg, state_after}
use Rattle.scene_gen.specs.Draws.{after, drawn}
use Rattle.scene_gen.proofs.draws.draw.Goals as goal

pub returns-clause-drawn : goal.returns-clause-drawn
unfolding drawn
returns-clause-drawn c = ap (λ (p : ℕ × Lcg). p.0 % c.args.limit) c.next_word.ensures

pub returns-clause-after : goal.returns-clause-after
unfolding after state_after
returns-clause-after c = ap (λ (p : ℕ × Lcg). p.1) c.next_word.ensures
