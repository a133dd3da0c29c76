use Rattle.std.proofs.Common.{◌≡◌, ◌∙◌, ap, arith, subst, sym, lit<, lit≤, ℕ, ℤ, pos, ◌<◌, ◌≤◌, ◌^◌, ◌+◌, ◌+ℤ◌, ◌-ℤ◌, ◌*ℤ◌}
use Rattle.std.specs.Prelude.{unsigned_abs, FitsSigned}
use Rattle.std.specs.Int.{w64, w128, cast_signed, cast_unsigned}
use Rattle.std.proofs.lemmas.Int.{fits_signed_from_abs}
use Rattle.trk_base.specs.Numbers.{round}
use Rattle.trk_base.proofs.Sizes.{Is, wide, times, plus, minus, rounded, is_mul, is_add, is_sub, is_cast64, fits, size}
use Rattle.plot_geometry.specs.Turns.{turned, norm}
use Rattle.plot_geometry.proofs.Lengths.{side, turn_norm}
use Rattle.plot_geometry.proofs.turns.turned.Goals as goal

abbrev bits : ℤ → ℤ
bits z = cast_signed w128 (cast_unsigned w128 z)

abbrev long : ℤ → ℤ
long z = bits (cast_signed w64 (cast_unsigned w64 z))

-- a rounded number of 128 bits, as one of 64
abbrev short : ℤ → ℤ
short z = cast_signed w64 (cast_unsigned w64 (bits z))

-- sine or cosine
own : (s c : ℤ) → norm s c ≤ 2 ^ 81 → (unsigned_abs s ≤ 2 ^ 41) × (unsigned_abs c ≤ 2 ^ 41)
own s c h = side (unsigned_abs s) (unsigned_abs c) h

product : (z p : ℤ) → unsigned_abs z ≤ 2 ^ 41 → unsigned_abs p ≤ 2 ^ 40 → Is (bits (long z *ℤ long p)) (z *ℤ p) (2 ^ 81)
product z p h k = times (wide z (2 ^ 41) h tt tt) (wide p (2 ^ 40) k tt tt) tt

product_fits : (z p : ℤ) → unsigned_abs z ≤ 2 ^ 41 → unsigned_abs p ≤ 2 ^ 40 → FitsSigned w128 (long z *ℤ long p)
product_fits z p h k = fits (is_mul (wide z (2 ^ 41) h tt tt) (wide p (2 ^ 40) k tt tt)) (lit< tt)

-- the sums for the sine and for the cosine, of a cosine p and a sine q
sine_sum : (s c p q : ℤ) → norm s c ≤ 2 ^ 81 → unsigned_abs p ≤ 2 ^ 40 → unsigned_abs q ≤ 2 ^ 40 → Is (bits (bits (long s *ℤ long p) +ℤ bits (long c *ℤ long q))) (s *ℤ p +ℤ c *ℤ q) (2 ^ 82)
sine_sum s c p q h k l = let z = own s c h in plus (product s p z.0 k) (product c q z.1 l) tt

cosine_sum : (s c p q : ℤ) → norm s c ≤ 2 ^ 81 → unsigned_abs p ≤ 2 ^ 40 → unsigned_abs q ≤ 2 ^ 40 → Is (bits (bits (long c *ℤ long p) -ℤ bits (long s *ℤ long q))) (c *ℤ p -ℤ s *ℤ q) (2 ^ 82)
cosine_sum s c p q h k l = let z = own s c h in minus (product c p z.1 k) (product s q z.0 l) tt

-- both, rounded
pair_is : (s c : ℤ) (by : ℤ × ℤ) {x y : ℤ} → norm s c ≤ 2 ^ 81 → unsigned_abs by.0 ≤ 2 ^ 40 → unsigned_abs by.1 ≤ 2 ^ 40
    → x ≡ round (bits (bits (long s *ℤ long by.0) +ℤ bits (long c *ℤ long by.1))) (pos (2 ^ 40)) → y ≡ round (bits (bits (long c *ℤ long by.0) -ℤ bits (long s *ℤ long by.1))) (pos (2 ^ 40))
    → ◌≡◌ {A = ℤ × ℤ} (short x, short y) (turned by (s, c))
pair_is s c by h k l x y =
    let first = (is_cast64 (rounded (2 ^ 40) x (sine_sum s c by.0 by.1 h k l) tt tt) (lit< tt)).same in
    let second = (is_cast64 (rounded (2 ^ 40) y (cosine_sum s c by.0 by.1 h k l) tt tt) (lit< tt)).same in
    λ i. (first i, second i)

fits64 : {x y : ℤ} {m : ℕ} → Is x y m → m < 2 ^ 63 → FitsSigned w64 x
fits64 {x} {y} {m} h small = fits_signed_from_abs w64 x (rw h.same (omega (arith, h.within)))

pub overflow_cast-result : goal.overflow_cast-result
overflow_cast-result c =
    fits64
    (rounded (2 ^ 40) c.round_shift.ensures (sine_sum c.args.s c.args.c c.half_angle-cosine.result.0 c.half_angle-cosine.result.1 c.requires.small c.half_angle-cosine.ensures.cosine c.half_angle-cosine.ensures.sine) tt tt)
    (lit< tt)

pub overflow_cast-result-2 : goal.overflow_cast-result-2
overflow_cast-result-2 c =
    fits64
    (rounded (2 ^ 40) c.round_shift-2.ensures (cosine_sum c.args.s c.args.c c.half_angle-cosine.result.0 c.half_angle-cosine.result.1 c.requires.small c.half_angle-cosine.ensures.cosine c.half_angle-cosine.ensures.sine) tt tt)
    (lit< tt)

pub overflow_mul-s : goal.overflow_mul-s
overflow_mul-s c = product_fits c.args.s c.half_angle-cosine.result.0 (own c.args.s c.args.c c.requires.small).0 c.half_angle-cosine.ensures.cosine

pub overflow_mul-c : goal.overflow_mul-c
overflow_mul-c c = product_fits c.args.c c.half_angle-cosine.result.1 (own c.args.s c.args.c c.requires.small).1 c.half_angle-cosine.ensures.sine

pub overflow_add-s : goal.overflow_add-s
overflow_add-s c =
    let z = own c.args.s c.args.c c.requires.small in
    fits (is_add (product c.args.s c.half_angle-cosine.result.0 z.0 c.half_angle-cosine.ensures.cosine) (product c.args.c c.half_angle-cosine.result.1 z.1 c.half_angle-cosine.ensures.sine)) (lit< tt)

pub round_shift-requires : goal.round_shift-requires
round_shift-requires c = size (sine_sum c.args.s c.args.c c.half_angle-cosine.result.0 c.half_angle-cosine.result.1 c.requires.small c.half_angle-cosine.ensures.cosine c.half_angle-cosine.ensures.sine) (lit≤ tt)

pub overflow_mul-c-2 : goal.overflow_mul-c-2
overflow_mul-c-2 c = product_fits c.args.c c.half_angle-cosine.result.0 (own c.args.s c.args.c c.requires.small).1 c.half_angle-cosine.ensures.cosine

pub overflow_mul-s-2 : goal.overflow_mul-s-2
overflow_mul-s-2 c = product_fits c.args.s c.half_angle-cosine.result.1 (own c.args.s c.args.c c.requires.small).0 c.half_angle-cosine.ensures.sine

pub overflow_sub-c : goal.overflow_sub-c
overflow_sub-c c =
    let z = own c.args.s c.args.c c.requires.small in
    fits (is_sub (product c.args.c c.half_angle-cosine.result.0 z.1 c.half_angle-cosine.ensures.cosine) (product c.args.s c.half_angle-cosine.result.1 z.0 c.half_angle-cosine.ensures.sine)) (lit< tt)

pub round_shift-requires-2 : goal.round_shift-requires-2
round_shift-requires-2 c = size (cosine_sum c.args.s c.args.c c.half_angle-cosine.result.0 c.half_angle-cosine.result.1 c.requires.small c.half_angle-cosine.ensures.cosine c.half_angle-cosine.ensures.sine) (lit≤ tt)

pub returns-clause-value : goal.returns-clause-value
returns-clause-value c =
    pair_is c.args.s c.args.c c.half_angle-cosine.result c.requires.small c.half_angle-cosine.ensures.cosine c.half_angle-cosine.ensures.sine c.round_shift.ensures c.round_shift-2.ensures
    ∙ ap (λ b. turned b (c.args.s, c.args.c)) c.half_angle-cosine.ensures.value

pub returns-clause-norm : goal.returns-clause-norm
returns-clause-norm c =
    let value =
    pair_is c.args.s c.args.c c.half_angle-cosine.result c.requires.small c.half_angle-cosine.ensures.cosine c.half_angle-cosine.ensures.sine c.round_shift.ensures c.round_shift-2.ensures
    ∙ ap (λ b. turned b (c.args.s, c.args.c)) c.half_angle-cosine.ensures.value
    in
    subst (λ (p : ℤ × ℤ). norm p.0 p.1 ≤ norm c.args.s c.args.c + 2 ^ 44) (sym value) (turn_norm c.args.k c.args.s c.args.c c.requires.index c.requires.small)
