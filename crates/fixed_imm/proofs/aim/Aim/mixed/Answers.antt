use Rattle.std.proofs.Common.{◌∙◌, ap}
use Rattle.fixed_imm.specs.Aims.{mixed_aim}
use Rattle.fixed_imm.proofs.aim.Aim.mixed.Goals as goal

pub returns : goal.returns
returns c =
    (λ j. record { x = c.mixed.ensures j; y = c.mixed-2.ensures j; time = c.self.inside.time; address = c.self.inside.address; code = c.self.inside.code })
    ∙ ap mixed_aim c.self.view_is
