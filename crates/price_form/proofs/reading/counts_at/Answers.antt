use Rattle.std.proofs.Common.{◌∙◌, sym}
use Rattle.price_form.proofs.ReadSteps.{no_plots, many_tracks}
use Rattle.price_form.proofs.reading.counts_at.Goals as goal

pub returns-then-plots-eq0 : goal.returns-then-plots-eq0
returns-then-plots-eq0 c = no_plots c.args.octets.now c.args.at (sym c.half_at-plots.ensures ∙ c.if-plots-eq0.true)

pub returns-then-tracks : goal.returns-then-tracks
returns-then-tracks c = many_tracks c.args.octets.now c.args.at (sym c.half_at-tracks.ensures ∙ c.if-tracks.true)
