use Rattle.std.proofs.Common.{◌∙◌, neg_ℤ, rules}
use Rattle.trk_base.specs.Numbers.{clamp}
use Rattle.fixed_imm.specs.Bounds.{bounded, covariance_bound}
use Rattle.std.specs.Prelude.{FitsSigned}
use Rattle.std.specs.Int.{w64}
use Rattle.std.proofs.lemmas.Int.{to_z-of_z}
use Rattle.fixed_imm.proofs.motion.bounded.Goals as goal

pub returns-clause-value : goal.returns-clause-value
unfolding bounded
returns-clause-value c =
    let p_fits : FitsSigned w64 c.args.p = c.ranges.p in
    let v_fits : FitsSigned w64 c.args.v = c.ranges.v in
    let p11_fits : FitsSigned w64 c.args.p11 = c.ranges.p11 in
    let p12_fits : FitsSigned w64 c.args.p12 = c.ranges.p12 in
    let p22_fits : FitsSigned w64 c.args.p22 = c.ranges.p22 in
    let f1 : FitsSigned w64 c.position_within.result = search rules in
    let f2 : FitsSigned w64 c.nearest_within.result = search rules in
    let f3 : FitsSigned w64 c.covariance_within.result = search rules in
    let f4 : FitsSigned w64 c.variance_within-p11.result = search rules in
    let f5 : FitsSigned w64 c.variance_within-p22.result = search rules in
    let e1 = simp to_z-of_z at c.position_within.ensures.value in
    let e2 = simp to_z-of_z at c.nearest_within.ensures.value in
    let e3 = simp to_z-of_z at c.covariance_within.ensures.value in
    let e4 = simp to_z-of_z at c.variance_within-p11.ensures.value in
    let e5 = simp to_z-of_z at c.variance_within-p22.ensures.value in
    λ i. record {
      p = (to_z-of_z w64 _ f1 ∙ e1) i;
      v = (to_z-of_z w64 _ f2 ∙ e2) i;
      p11 = (to_z-of_z w64 _ f4 ∙ e4) i;
      p12 = (to_z-of_z w64 _ f3 ∙ e3 ∙ (λ j. clamp c.args.p12 (neg_ℤ (covariance_bound (e4 j) (e5 j))) (covariance_bound (e4 j) (e5 j)))) i;
      p22 = (to_z-of_z w64 _ f5 ∙ e5) i;
    }

pub returns-clause-bounds : goal.returns-clause-bounds
returns-clause-bounds c =
    let f1 : FitsSigned w64 c.position_within.result = search rules in
    let f2 : FitsSigned w64 c.nearest_within.result = search rules in
    let f3 : FitsSigned w64 c.covariance_within.result = search rules in
    let f4 : FitsSigned w64 c.variance_within-p11.result = search rules in
    let f5 : FitsSigned w64 c.variance_within-p22.result = search rules in
    let square = simp to_z-of_z at c.covariance_within.ensures.square in
    simp to_z-of_z (record {
      p = c.position_within.ensures.size;
      v = c.nearest_within.ensures.size;
      p11 = c.variance_within-p11.ensures.range;
      p22 = c.variance_within-p22.ensures.range;
      p12 = square;
    })
