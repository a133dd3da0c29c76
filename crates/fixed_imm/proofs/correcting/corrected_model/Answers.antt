use Rattle.std.proofs.Common.{◌∙◌}
use Rattle.fixed_imm.specs.Correction.{corrected, likelihood}
use Rattle.fixed_imm.specs.Filter.{corrected_model, model_likelihood}
use Rattle.fixed_imm.proofs.Narrow.{var64, plus64, minus64}
use Rattle.fixed_imm.proofs.Fields.{p_of, p11_of, unsigned_of}
use Rattle.fixed_imm.proofs.correcting.corrected_model.Goals as goal

pub returns-clause-value : goal.returns-clause-value
unfolding corrected_model
returns-clause-value c =
    let e = (minus64 (var64 c.args.z 256000000 c.requires.position tt) (p_of _ c.requires.bounds) tt).same in
    let s = c.new-variance.ensures ∙ (plus64 (p11_of _ c.requires.bounds) (unsigned_of c.args.r c.requires.variance.to) tt).same in
    c.corrected.ensures.value ∙ (λ j. corrected c.args.m.now (e j) (s j))

pub returns-clause-likelihood : goal.returns-clause-likelihood
unfolding model_likelihood
returns-clause-likelihood c =
    let e = (minus64 (var64 c.args.z 256000000 c.requires.position tt) (p_of _ c.requires.bounds) tt).same in
    let s = c.new-variance.ensures ∙ (plus64 (p11_of _ c.requires.bounds) (unsigned_of c.args.r c.requires.variance.to) tt).same in
    c.likelihood.ensures.value ∙ (λ j. likelihood (e j) (s j))
