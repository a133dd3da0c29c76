use Rattle.std.proofs.Common.{rules, ◌∙◌, ◌<◌, ◌^◌, ◌-◌, length}
use Rattle.track_parts.specs.Tracking.{woven_by, by_birth}
use Rattle.track_parts.proofs.Stepping.{woven_tables, merged_table}
use Rattle.track_parts.proofs.parts.PlotFoldSeparable.merge.Goals as goal

pub of-requires : goal.of-requires
of-requires c =
    let few : length c.in_ok-tracks.tracks.items < 2 ^ 32 - 1 = search rules in
    merged_table c.args.one.now c.args.other.now c.in_ok-tracks.tracks.items c.requires (c.in_ok-tracks.ensures ∙ (λ i. woven_by by_birth (c.tracks.ensures.value i) (c.tracks-2.ensures.value i))) few

pub returns : goal.returns
returns c =
    let woven = c.in_ok-tracks.ensures ∙ (λ i. woven_by by_birth (c.tracks.ensures.value i) (c.tracks-2.ensures.value i)) in
    λ i. record { life = (c.of-2.ensures.life ∙ c.life.ensures) i; table = (c.of-2.ensures.table ∙ c.of.ensures ∙ woven ∙ woven_tables c.args.one.now c.args.other.now c.requires) i }
