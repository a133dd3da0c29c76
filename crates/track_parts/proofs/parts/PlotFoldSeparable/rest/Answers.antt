use Rattle.std.proofs.Common.{◌∙◌}
use Rattle.track_life.specs.Tables.{unexpired}
use Rattle.track_parts.proofs.Stepping.{expired_is}
use Rattle.track_parts.proofs.parts.PlotFoldSeparable.rest.Goals as goal

pub returns : goal.returns
returns c =
    let s = c.args.state.now in
    let expired = c.in_ok-table.ensures ∙ (λ i. unexpired (c.life.ensures i) c.args.slot (c.table.ensures i)) ∙ expired_is s.life s.table c.args.slot in
    λ i. record { life = (c.of.ensures.life ∙ c.life-2.ensures) i; table = (c.of.ensures.table ∙ expired) i }
