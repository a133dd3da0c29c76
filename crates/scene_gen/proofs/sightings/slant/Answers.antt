use Rattle.std.proofs.Common.{rules, ◌≤◌, ◌^◌, arith}
use Rattle.std.proofs.lemmas.Nat.{mul-le}
use Rattle.trk_base.proofs.Roots.{root_le}
use Rattle.scene_gen.proofs.sightings.slant.Goals as goal

pub returns-clause-bound : goal.returns-clause-bound
returns-clause-bound c =
    let x : c.from-x.result ≤ 2 ^ 54 = search rules in
    let y : c.from-y.result ≤ 2 ^ 54 = search rules in
    let flat : c.isqrt.result ≤ 2 ^ 55 = root_le _ c.isqrt.result (2 ^ 55) c.isqrt.ensures.root (omega (arith, mul-le c.from-x.result c.from-x.result (2 ^ 54) (2 ^ 54) x x, mul-le c.from-y.result c.from-y.result (2 ^ 54) (2 ^ 54) y y)) in
    let wide : c.from-flat.result ≤ 2 ^ 55 = omega (arith, c.from-flat.ensures) in
    let high : c.from-high.result ≤ 2 ^ 32 = omega (arith, c.from-high.ensures, c.requires.high) in
    root_le _ c.isqrt-2.result (2 ^ 56) c.isqrt-2.ensures.root (omega (arith, mul-le c.from-flat.result c.from-flat.result (2 ^ 55) (2 ^ 55) wide wide, mul-le c.from-high.result c.from-high.result (2 ^ 32) (2 ^ 32) high high))
