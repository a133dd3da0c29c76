use Rattle.std.proofs.Common.{◌∙◌, ◌*◌, ap}
use Rattle.fixed_imm.specs.Mixing.{share, mixed}
use Rattle.fixed_imm.specs.Filter.{mixed_model}
use Rattle.fixed_imm.proofs.Narrow.{through64}
use Rattle.fixed_imm.proofs.axis.Axis.mix.Goals as goal

pub returns-clause-value : goal.returns-clause-value
unfolding mixed_model
returns-clause-value c =
    let mode = c.args.mode.now in
    let part = through64 c.share.type_inv ∙ c.share.ensures.value ∙ (λ j. share (mode.from_steady * c.from.ensures j) (mode.from_manoeuvre * c.from-2.ensures j)) in
    c.mixed.ensures.value ∙ (λ j. mixed (part j) c.self.inside.motion.0 c.self.inside.motion.1) ∙ ap (mixed_model mode.from_steady mode.from_manoeuvre) c.self.view_is
