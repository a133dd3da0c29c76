use Rattle.std.proofs.Common.{◌≡◌, ◌∙◌, ap, sym, subst, arith, lit<, lit≤, ltb, ℕ, ◌+◌, ◌-◌, ◌*◌, ◌≤◌, ◌^◌, ℤ, pos, ◌+ℤ◌, ◌*ℤ◌, T}
use Rattle.std.specs.Prelude.{unsigned_abs, max}
use Rattle.std.specs.Int.{w128, cast_signed, cast_unsigned}
use Rattle.std.proofs.lemmas.Nat.{mul-le}
use Rattle.trk_base.specs.Numbers.{round}
use Rattle.trk_base.proofs.Sizes.{Is, is_add, is_cast, is_round, times, plus, fits, below, size}
use Rattle.plot_geometry.specs.Plane.{axis_variance}
use Rattle.plot_geometry.proofs.Terms.{given}
use lib.Signed.{non_neg}
use Rattle.plot_geometry.proofs.plane.axis_variance.Goals as goal

abbrev bits : ℤ → ℤ
bits z = cast_signed w128 (cast_unsigned w128 z)

-- a variance, times a share of the whole
part_is : (sigma share most : ℕ) {a b : ℤ} → sigma ≤ most → share ≤ 2 ^ 20 → T (ltb (most * most * 2 ^ 20) (2 ^ 127)) → T (ltb (most * most) (2 ^ 127)) → a ≡ pos (sigma * sigma) → b ≡ pos share → Is (bits (bits a *ℤ bits b)) (pos (sigma * sigma * share)) (most * most * 2 ^ 20)
part_is sigma share most h k t u a b = times (given (most * most) a (mul-le sigma sigma most most h h) u) (given (2 ^ 20) b k tt) t

-- the calls, in their order
sum_is : (along across cosine : ℕ) {a b d e : ℤ} → along ≤ 64000 → across ≤ 2 ^ 21 → cosine ≤ 2 ^ 20
    → a ≡ pos (along * along) → b ≡ pos cosine → d ≡ pos (across * across) → e ≡ pos (2 ^ 20 - cosine)
    → Is (bits (bits (bits a *ℤ bits b) +ℤ bits (bits d *ℤ bits e))) (pos (along * along * cosine + across * across * (2 ^ 20 - cosine))) (64000 * 64000 * 2 ^ 20 + 2 ^ 62)
sum_is along across cosine h k l a b d e =
    plus (part_is along cosine 64000 h l tt tt a b) (part_is across (2 ^ 20 - cosine) (2 ^ 21) k (omega arith) tt tt d e) tt

quotient_is : {q a w : ℤ} (n : ℕ) → Is a (pos n) (64000 * 64000 * 2 ^ 20 + 2 ^ 62) → w ≡ pos (2 ^ 20) → q ≡ round a (bits w) → Is (bits q) (round (pos n) (pos (2 ^ 20))) (2 ^ 43)
quotient_is n sum whole q =
    let r = is_round q sum (given (2 ^ 20) whole (lit≤ tt) tt).same (lit< tt) in
    is_cast (record { same = r.same; within = omega (arith, r.within) }) (lit< tt)

pub overflow_add-along : goal.overflow_add-along
overflow_add-along c =
    fits (is_add (part_is c.args.along c.args.cosine 64000 c.requires.along c.requires.cosine tt tt c.from.ensures c.from-2.ensures) (part_is c.args.across (2 ^ 20 - c.args.cosine) (2 ^ 21) c.requires.across (omega arith) tt tt c.from-3.ensures c.from-4.ensures)) (lit< tt)

pub round_div-requires-clause-small : goal.round_div-requires-clause-small
round_div-requires-clause-small c =
    below (sum_is c.args.along c.args.across c.args.cosine c.requires.along c.requires.across c.requires.cosine c.from.ensures c.from-2.ensures c.from-3.ensures c.from-4.ensures) (lit< tt)

pub overflow_cast-round_div : goal.overflow_cast-round_div
overflow_cast-round_div c =
    let sum = sum_is c.args.along c.args.across c.args.cosine c.requires.along c.requires.across c.requires.cosine c.from.ensures c.from-2.ensures c.from-3.ensures c.from-4.ensures in
    let quotient = quotient_is _ sum c.from-5.ensures c.round_div.ensures in
    let small : unsigned_abs (bits c.round_div.result) ≤ 2 ^ 43 = size quotient (lit≤ tt) in
    (subst (λ z. T (non_neg z)) (sym quotient.same) tt, record { fits = omega (arith, small) })

pub returns-clause-value : goal.returns-clause-value
unfolding axis_variance
returns-clause-value c =
    let sum = sum_is c.args.along c.args.across c.args.cosine c.requires.along c.requires.across c.requires.cosine c.from.ensures c.from-2.ensures c.from-3.ensures c.from-4.ensures in
    c.max.ensures ∙ ap (λ z. max (unsigned_abs z) 1) (quotient_is _ sum c.from-5.ensures c.round_div.ensures).same

pub returns-clause-bound : goal.returns-clause-bound
returns-clause-bound c =
    let sum = sum_is c.args.along c.args.across c.args.cosine c.requires.along c.requires.across c.requires.cosine c.from.ensures c.from-2.ensures c.from-3.ensures c.from-4.ensures in
    let small : unsigned_abs (bits c.round_div.result) ≤ 2 ^ 43 = size (quotient_is _ sum c.from-5.ensures c.round_div.ensures) (lit≤ tt) in
    omega (arith, c.max.ensures, small)
