use Rattle.std.proofs.Common.{◌∙◌, lit≤}
use Rattle.trk_base.proofs.Sizes.{is_mul, size}
use Rattle.fixed_imm.specs.Bounds.{bounded}
use Rattle.fixed_imm.specs.Mixing.{mean, covariance, mixed}
use Rattle.fixed_imm.proofs.Narrow.{through64, times64, fits64}
use Rattle.fixed_imm.proofs.Fields.{part_of}
use Rattle.fixed_imm.proofs.Fields.{p_of, v_of, p11_of, p12_of, p22_of, dp_of, dv_of}
use Rattle.fixed_imm.proofs.mixing.mixed.Goals as goal

pub overflow_mul-dp : goal.overflow_mul-dp
overflow_mul-dp c = fits64 (is_mul (dp_of _ _ c.requires.first c.requires.second) (dp_of _ _ c.requires.first c.requires.second)) tt

pub covariance-requires-clause-spread : goal.covariance-requires-clause-spread
covariance-requires-clause-spread c = size (times64 (dp_of _ _ c.requires.first c.requires.second) (dp_of _ _ c.requires.first c.requires.second) tt) (lit≤ tt)

pub overflow_mul-dp-2 : goal.overflow_mul-dp-2
overflow_mul-dp-2 c = fits64 (is_mul (dp_of _ _ c.requires.first c.requires.second) (dv_of _ _ c.requires.first c.requires.second)) tt

pub covariance-requires-2-clause-first : goal.covariance-requires-2-clause-first
covariance-requires-2-clause-first c = size (p12_of _ c.requires.first) (lit≤ tt)

pub covariance-requires-2-clause-second : goal.covariance-requires-2-clause-second
covariance-requires-2-clause-second c = size (p12_of _ c.requires.second) (lit≤ tt)

pub covariance-requires-2-clause-spread : goal.covariance-requires-2-clause-spread
covariance-requires-2-clause-spread c = size (times64 (dp_of _ _ c.requires.first c.requires.second) (dv_of _ _ c.requires.first c.requires.second) tt) (lit≤ tt)

pub overflow_mul-dv : goal.overflow_mul-dv
overflow_mul-dv c = fits64 (is_mul (dv_of _ _ c.requires.first c.requires.second) (dv_of _ _ c.requires.first c.requires.second)) tt

pub covariance-requires-3-clause-spread : goal.covariance-requires-3-clause-spread
covariance-requires-3-clause-spread c = size (times64 (dv_of _ _ c.requires.first c.requires.second) (dv_of _ _ c.requires.first c.requires.second) tt) (lit≤ tt)

pub mean-requires-clause-first : goal.mean-requires-clause-first
mean-requires-clause-first c = size (p_of _ c.requires.first) (lit≤ tt)

pub mean-requires-clause-second : goal.mean-requires-clause-second
mean-requires-clause-second c = size (p_of _ c.requires.second) (lit≤ tt)

pub mean-requires-2-clause-first : goal.mean-requires-2-clause-first
mean-requires-2-clause-first c = size (v_of _ c.requires.first) (lit≤ tt)

pub mean-requires-2-clause-second : goal.mean-requires-2-clause-second
mean-requires-2-clause-second c = size (v_of _ c.requires.second) (lit≤ tt)

pub covariance-requires-clause-first : goal.covariance-requires-clause-first
covariance-requires-clause-first c = size (p11_of _ c.requires.first) (lit≤ tt)

pub covariance-requires-clause-second : goal.covariance-requires-clause-second
covariance-requires-clause-second c = size (p11_of _ c.requires.second) (lit≤ tt)

pub covariance-requires-3-clause-first : goal.covariance-requires-3-clause-first
covariance-requires-3-clause-first c = size (p22_of _ c.requires.first) (lit≤ tt)

pub covariance-requires-3-clause-second : goal.covariance-requires-3-clause-second
covariance-requires-3-clause-second c = size (p22_of _ c.requires.second) (lit≤ tt)

pub returns-clause-value : goal.returns-clause-value
unfolding mixed
returns-clause-value c =
    let a = c.requires.first in
    let b = c.requires.second in
    let g = (part_of c.requires.part).same in
    let dp = (dp_of _ _ a b) in
    let dv = (dv_of _ _ a b) in
    let p = through64 c.mean.type_inv ∙ c.mean.ensures ∙ (λ j. mean (g j) ((p_of _ a).same j) ((p_of _ b).same j)) in
    let v = through64 c.mean-2.type_inv ∙ c.mean-2.ensures ∙ (λ j. mean (g j) ((v_of _ a).same j) ((v_of _ b).same j)) in
    let p11 = through64 c.covariance.type_inv ∙ c.covariance.ensures ∙ (λ j. covariance (g j) ((p11_of _ a).same j) ((p11_of _ b).same j) ((times64 dp dp tt).same j)) in
    let p12 = through64 c.covariance-2.type_inv ∙ c.covariance-2.ensures ∙ (λ j. covariance (g j) ((p12_of _ a).same j) ((p12_of _ b).same j) ((times64 dp dv tt).same j)) in
    let p22 = through64 c.covariance-3.type_inv ∙ c.covariance-3.ensures ∙ (λ j. covariance (g j) ((p22_of _ a).same j) ((p22_of _ b).same j) ((times64 dv dv tt).same j)) in
    c.bounded.ensures.value ∙ (λ j. bounded (p j) (v j) (p11 j) (p12 j) (p22 j))
