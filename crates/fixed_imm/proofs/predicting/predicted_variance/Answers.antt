use Rattle.std.proofs.Common.{◌∙◌, lit≤}
use Rattle.trk_base.proofs.Sizes.{size}
use Rattle.fixed_imm.specs.Bounds.{variance_within, bounded}
use Rattle.fixed_imm.specs.Prediction.{predicted_p11, predicted_motion}
use Rattle.fixed_imm.proofs.Narrow.{var64, through64}
use Rattle.fixed_imm.proofs.Fields.{p11_of, p12_of, p22_of}
use Rattle.fixed_imm.proofs.predicting.predicted_variance.Goals as goal

pub predicted_p11-requires-clause-cross : goal.predicted_p11-requires-clause-cross
predicted_p11-requires-clause-cross c =
    size (p12_of _ c.requires.bounds) (lit≤ tt)

pub returns-clause-value : goal.returns-clause-value
unfolding predicted_motion bounded
returns-clause-value c =
    let m = c.requires.bounds in
    let q = (var64 c.args.q _ c.requires.noise tt).same in
    let d = (var64 c.args.d _ c.requires.time tt).same in
    let p11 = (p11_of _ m).same in
    let p12 = (p12_of _ m).same in
    let p22 = (p22_of _ m).same in
    let p11_is = through64 c.predicted_p11.type_inv ∙ c.predicted_p11.ensures ∙ (λ j. predicted_p11 (q j) (d j) (p11 j) (p12 j) (p22 j)) in
    through64 c.variance_within.type_inv ∙ c.variance_within.ensures.value ∙ (λ j. variance_within (p11_is j))
