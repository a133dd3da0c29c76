use Rattle.std.proofs.Common.{◌≡◌, ◌∙◌, ap, sym, subst, arith, ◌+◌, ◌*◌, ◌^◌, ◌-◌, ◌≤◌, ℕ, ℤ}
use Rattle.std.specs.Prelude.{unsigned_abs}
use Rattle.std.specs.Int.{w64, w128, cast_signed, cast_unsigned}
use Rattle.plot_geometry.specs.Turns.{turns, sine_cosine, norm}
use Rattle.plot_geometry.proofs.TurnLaws.{turns_on, turns_past, turns_done}
use Rattle.plot_geometry.proofs.Lengths.{side}
use Rattle.plot_geometry.proofs.Terms.{norm_through, wide_through}
use Rattle.plot_geometry.proofs.turns.sine_cosine.Goals as goal

pub loop-k-init : goal.loop-k-init
loop-k-init c =
    let pair = norm_through c.start-s.result.0 c.start-s.result.1 (omega (arith, c.start-s.ensures.norm)) in
    record {
      turned = ap (turns 10 c.args.angle) pair ∙ c.start-s.ensures.turned c.args.angle (omega arith);
      norm = subst (λ (p : ℤ × ℤ). norm p.0 p.1 ≤ 2 ^ 80 + 6 * 2 ^ 44) (sym pair) c.start-s.ensures.norm;
    }

pub loop-k-preserved-then-angle-k-eq1 : goal.loop-k-preserved-then-angle-k-eq1
loop-k-preserved-then-angle-k-eq1 c =
    let k = c.loop-k.k in
    let near : norm c.turned.result.0 c.turned.result.1 ≤ 2 ^ 80 + (16 - (k - 1)) * 2 ^ 44 = omega (arith, c.turned.ensures.norm, c.loop-k.invariant.norm, c.loop-k.auto.k, c.loop-k-test.true) in
    let pair = norm_through c.turned.result.0 c.turned.result.1 (omega arith) in
    record {
      turned = ap (turns (k - 1) c.args.angle) (pair ∙ c.turned.ensures.value) ∙ sym (turns_on k c.args.angle _ c.loop-k-test.true c.if-angle-k-eq1.true) ∙ c.loop-k.invariant.turned;
      norm = subst (λ (p : ℤ × ℤ). norm p.0 p.1 ≤ 2 ^ 80 + (16 - (k - 1)) * 2 ^ 44) (sym pair) near;
    }

pub loop-k-preserved : goal.loop-k-preserved
loop-k-preserved c = record {
  turned = sym (turns_past c.loop-k.k c.args.angle _ c.loop-k-test.true c.if-angle-k-eq1.false) ∙ c.loop-k.invariant.turned;
  norm = omega (arith, c.loop-k.invariant.norm, c.loop-k.auto.k, c.loop-k-test.true);
}

-- what the loop leaves
left : (angle k : ℕ) (s c : ℤ) → 0 ≡ k → turns k angle (s, c) ≡ sine_cosine angle → norm s c ≤ 2 ^ 80 + (16 - k) * 2 ^ 44 → ◌≡◌ {A = ℤ × ℤ} (cast_signed w128 (cast_unsigned w128 s), cast_signed w128 (cast_unsigned w128 c)) (sine_cosine angle)
left angle k s c done same near = wide_through s c (omega arith) ∙ sym (turns_done angle (s, c)) ∙ ap (λ n. turns n angle (s, c)) done ∙ same

pub returns-clause-value : goal.returns-clause-value
returns-clause-value c =
    let done : 0 ≡ c.loop-k.k = omega (arith, c.loop-k-test.false) in
    left c.args.angle c.loop-k.k (cast_signed w64 c.loop-k.s-bits) (cast_signed w64 c.loop-k.c-bits) done c.loop-k.invariant.turned c.loop-k.invariant.norm

-- and how long that is
sides_left : (k : ℕ) (s c : ℤ) → norm s c ≤ 2 ^ 80 + (16 - k) * 2 ^ 44 → (unsigned_abs (cast_signed w128 (cast_unsigned w128 s)) ≤ 2 ^ 41) × (unsigned_abs (cast_signed w128 (cast_unsigned w128 c)) ≤ 2 ^ 41)
sides_left k s c near =
    let small : norm s c ≤ 2 ^ 81 = omega (arith, near) in
    subst (λ (p : ℤ × ℤ). (unsigned_abs p.0 ≤ 2 ^ 41) × (unsigned_abs p.1 ≤ 2 ^ 41)) (sym (wide_through s c small)) (side (unsigned_abs s) (unsigned_abs c) small)

pub returns-clause-sine : goal.returns-clause-sine
returns-clause-sine c = (sides_left c.loop-k.k (cast_signed w64 c.loop-k.s-bits) (cast_signed w64 c.loop-k.c-bits) c.loop-k.invariant.norm).0

pub returns-clause-cosine : goal.returns-clause-cosine
returns-clause-cosine c = (sides_left c.loop-k.k (cast_signed w64 c.loop-k.s-bits) (cast_signed w64 c.loop-k.c-bits) c.loop-k.invariant.norm).1
