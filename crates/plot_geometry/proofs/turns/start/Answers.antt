use Rattle.std.proofs.Common.{◌∙◌, ap}
use Rattle.plot_geometry.specs.Turns.{turns}
use Rattle.plot_geometry.proofs.Starts.{begun_turns, start_is, start_norm}
use Rattle.plot_geometry.proofs.turns.start.Goals as goal

pub returns-clause-turned : goal.returns-clause-turned
returns-clause-turned c angle e = ap (turns 10 angle) (start_is c.args.upper _ c.requires) ∙ begun_turns angle c.args.upper e

pub returns-clause-norm : goal.returns-clause-norm
returns-clause-norm c = start_norm c.args.upper _ c.requires
