use Rattle.scene_gen.proofs.Delaying.{late_after, late_delay, soon_after, soon_delay}
use Rattle.scene_gen.proofs.delays.next_delay.Goals as goal

pub returns-then-draw-from-clause-delay : goal.returns-then-draw-from-clause-delay
returns-then-draw-from-clause-delay c = late_delay c.args.late c.args.generator.now c.draw.ensures.drawn c.from.ensures c.if-draw-from.true c.draw.ensures.after c.draw-then-draw-from.ensures.drawn

pub returns-then-draw-from-clause-after : goal.returns-then-draw-from-clause-after
returns-then-draw-from-clause-after c = late_after c.args.late c.args.generator.now c.draw.ensures.drawn c.from.ensures c.if-draw-from.true c.draw.ensures.after c.draw-then-draw-from.ensures.after

pub returns-else-draw-from-clause-delay : goal.returns-else-draw-from-clause-delay
returns-else-draw-from-clause-delay c = soon_delay c.args.late c.args.generator.now c.draw.ensures.drawn c.from.ensures c.if-draw-from.false

pub returns-else-draw-from-clause-after : goal.returns-else-draw-from-clause-after
returns-else-draw-from-clause-after c = soon_after c.args.late c.args.generator.now c.draw.ensures.drawn c.from.ensures c.if-draw-from.false c.draw.ensures.after
