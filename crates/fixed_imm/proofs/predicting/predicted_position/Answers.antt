use Rattle.std.proofs.Common.{◌∙◌, pos}
use Rattle.trk_base.specs.Limits.{plane_bound}
use Rattle.fixed_imm.specs.Bounds.{clamp_size, bounded}
use Rattle.fixed_imm.specs.Prediction.{predicted_p, predicted_motion}
use Rattle.fixed_imm.proofs.Narrow.{var64, through64}
use Rattle.fixed_imm.proofs.Fields.{p_of, v_of}
use Rattle.fixed_imm.proofs.predicting.predicted_position.Goals as goal

pub returns-clause-value : goal.returns-clause-value
unfolding predicted_motion bounded
returns-clause-value c q =
    let m = c.requires.bounds in
    let d = (var64 c.args.d _ c.requires.time tt).same in
    let p_is = through64 c.predicted_p.type_inv ∙ c.predicted_p.ensures ∙ (λ j. predicted_p (d j) ((p_of _ m).same j) ((v_of _ m).same j)) in
    through64 c.position_within.type_inv ∙ c.position_within.ensures.value ∙ (λ j. clamp_size (p_is j) (pos plane_bound))
