use Rattle.std.proofs.Common.{◌≡◌, ◌∙◌, ap, rules, ℕ, ◌≤◌, ◌^◌, ℤ}
use Rattle.std.specs.Prelude.{FitsSigned, unsigned_abs}
use Rattle.std.specs.Int.{w64, w128, cast_signed, cast_unsigned}
use Rattle.std.proofs.lemmas.Int.{to_z-of_z}
use Rattle.trk_base.proofs.Sizes.{var}
use Rattle.plot_geometry.specs.Turns.{sine_cosine, scaled, rotated}
use Rattle.plot_geometry.proofs.TurnLaws.{rotated_north, rotated_east, rotated_south, rotated_west}
use Rattle.plot_geometry.proofs.turns.rotate.Goals as goal

-- one coordinate, without the conversions to bits and back
coordinate : {x : ℤ} (r s : ℤ) → x ≡ scaled (cast_signed w64 (cast_unsigned w64 r)) (cast_signed w128 (cast_unsigned w128 s)) → FitsSigned w64 r → unsigned_abs s ≤ 2 ^ 41 → FitsSigned w64 x → cast_signed w64 (cast_unsigned w64 x) ≡ scaled r s
coordinate {x} r s p fits small own =
    to_z-of_z w64 x own ∙ p ∙ ap (λ z. scaled z (cast_signed w128 (cast_unsigned w128 s))) (to_z-of_z w64 r fits) ∙ ap (scaled r) (var s (2 ^ 41) small tt).same

-- the point, as the definition has it
placed : {x y : ℤ} (angle : ℕ) (r : ℤ) {t : ℤ × ℤ} → x ≡ scaled r t.0 → y ≡ scaled r t.1 → t ≡ sine_cosine angle → ◌≡◌ {A = ℤ × ℤ} (x, y) (rotated angle r)
placed angle r u v e = let first = u ∙ ap (λ (t : ℤ × ℤ). scaled r t.0) e in let second = v ∙ ap (λ (t : ℤ × ℤ). scaled r t.1) e in λ i. (first i, second i)

pub returns-clause-north : goal.returns-clause-north
returns-clause-north c at =
    let f : FitsSigned w64 c.scaled.result = search rules in
    let g : FitsSigned w64 c.scaled-2.result = search rules in
    let x = coordinate c.args.r c.sine_cosine-sine.result.0 c.scaled.ensures.value c.ranges.r c.sine_cosine-sine.ensures.sine f in
    let y = coordinate c.args.r c.sine_cosine-sine.result.1 c.scaled-2.ensures.value c.ranges.r c.sine_cosine-sine.ensures.cosine g in
    placed c.args.angle c.args.r x y c.sine_cosine-sine.ensures.value ∙ rotated_north c.args.angle c.args.r at

pub returns-clause-east : goal.returns-clause-east
returns-clause-east c at =
    let f : FitsSigned w64 c.scaled.result = search rules in
    let g : FitsSigned w64 c.scaled-2.result = search rules in
    let x = coordinate c.args.r c.sine_cosine-sine.result.0 c.scaled.ensures.value c.ranges.r c.sine_cosine-sine.ensures.sine f in
    let y = coordinate c.args.r c.sine_cosine-sine.result.1 c.scaled-2.ensures.value c.ranges.r c.sine_cosine-sine.ensures.cosine g in
    placed c.args.angle c.args.r x y c.sine_cosine-sine.ensures.value ∙ rotated_east c.args.angle c.args.r at

pub returns-clause-south : goal.returns-clause-south
returns-clause-south c at =
    let f : FitsSigned w64 c.scaled.result = search rules in
    let g : FitsSigned w64 c.scaled-2.result = search rules in
    let x = coordinate c.args.r c.sine_cosine-sine.result.0 c.scaled.ensures.value c.ranges.r c.sine_cosine-sine.ensures.sine f in
    let y = coordinate c.args.r c.sine_cosine-sine.result.1 c.scaled-2.ensures.value c.ranges.r c.sine_cosine-sine.ensures.cosine g in
    placed c.args.angle c.args.r x y c.sine_cosine-sine.ensures.value ∙ rotated_south c.args.angle c.args.r at

pub returns-clause-west : goal.returns-clause-west
returns-clause-west c at =
    let f : FitsSigned w64 c.scaled.result = search rules in
    let g : FitsSigned w64 c.scaled-2.result = search rules in
    let x = coordinate c.args.r c.sine_cosine-sine.result.0 c.scaled.ensures.value c.ranges.r c.sine_cosine-sine.ensures.sine f in
    let y = coordinate c.args.r c.sine_cosine-sine.result.1 c.scaled-2.ensures.value c.ranges.r c.sine_cosine-sine.ensures.cosine g in
    placed c.args.angle c.args.r x y c.sine_cosine-sine.ensures.value ∙ rotated_west c.args.angle c.args.r at
