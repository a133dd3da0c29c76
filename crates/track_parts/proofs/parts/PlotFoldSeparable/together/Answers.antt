use Rattle.std.proofs.Common.{◌∙◌}
use Rattle.track_parts.proofs.Stepping.{join_of}
use Rattle.track_parts.proofs.parts.PlotFoldSeparable.together.Goals as goal

pub returns : goal.returns
returns c = join_of c.args.outs.items c.of.result c.requires (c.of.ensures ∙ c.in_ok-certs.ensures)
