-- The same as trk_base's Sizes says of terms of 128 bits, of terms of 64: what the code's term is without its conversions, and how large it is at most.
use Rattle.std.proofs.Common.{lit<, T, ltb, ◌≡◌, ℕ, ◌+◌, ◌*◌, ◌^◌, ◌<◌, ◌≤◌, ◌/◌, arith, refl, ℤ, pos, ◌+ℤ◌, ◌-ℤ◌, ◌*ℤ◌}
use Rattle.std.specs.Int.{w64, w128, cast_signed, cast_unsigned}
use Rattle.std.specs.Prelude.{FitsSigned, unsigned_abs}
use Rattle.std.proofs.lemmas.Int.{to_z-of_z, fits_signed_from_abs}
use lib.Signed.{mag}
use Rattle.trk_base.specs.Numbers.{round}
use Rattle.trk_base.proofs.Sizes.{Is, is_var, is_mul, is_add, is_sub, is_cast, is_cast64, is_round}

-- the last argument of each is `tt`
pub var64 : (x : ℤ) (m : ℕ) → unsigned_abs x ≤ m → T (ltb m (2 ^ 63)) → Is (cast_signed w64 (cast_unsigned w64 x)) x m
var64 x m h t = is_cast64 (is_var m h) (lit< t)

pub times64 : {a a' b b' : ℤ} {m n : ℕ} → Is a a' m → Is b b' n → T (ltb (m * n) (2 ^ 63)) → Is (cast_signed w64 (cast_unsigned w64 (a *ℤ b))) (a' *ℤ b') (m * n)
times64 h k t = is_cast64 (is_mul h k) (lit< t)

pub plus64 : {a a' b b' : ℤ} {m n : ℕ} → Is a a' m → Is b b' n → T (ltb (m + n) (2 ^ 63)) → Is (cast_signed w64 (cast_unsigned w64 (a +ℤ b))) (a' +ℤ b') (m + n)
plus64 h k t = is_cast64 (is_add h k) (lit< t)

pub minus64 : {a a' b b' : ℤ} {m n : ℕ} → Is a a' m → Is b b' n → T (ltb (m + n) (2 ^ 63)) → Is (cast_signed w64 (cast_unsigned w64 (a -ℤ b))) (a' -ℤ b') (m + n)
minus64 h k t = is_cast64 (is_sub h k) (lit< t)

-- a call that rounds by a number
pub rounded64 : (d : ℕ) {r a a' : ℤ} {m : ℕ} → r ≡ round a (pos d) → Is a a' m → T (ltb 0 d) → T (ltb (m / d + 1) (2 ^ 63)) → Is (cast_signed w64 (cast_unsigned w64 r)) (round a' (pos d)) (m / d + 1)
rounded64 d e h some t = is_cast64 (is_round e h refl (lit< some)) (lit< t)

-- a term of 64 bits as one of 128, and the reverse
pub widened : {x y : ℤ} {m : ℕ} → Is x y m → T (ltb m (2 ^ 127)) → Is (cast_signed w128 (cast_unsigned w128 x)) y m
widened h t = is_cast h (lit< t)

pub narrowed : {x y : ℤ} {m : ℕ} → Is x y m → T (ltb m (2 ^ 63)) → Is (cast_signed w64 (cast_unsigned w64 x)) y m
narrowed h t = is_cast64 h (lit< t)

-- what follows
pub fits64 : {x y : ℤ} {m : ℕ} → Is x y m → T (ltb m (2 ^ 63)) → FitsSigned w64 x
fits64 {x} {y} {m} h t = fits_signed_from_abs w64 x (let small : m < 2 ^ 63 = lit< t in rw h.same (omega (arith, h.within)))

-- a value of the code
pub through64 : {x : ℤ} → mag x < 2 ^ 63 → cast_signed w64 (cast_unsigned w64 x) ≡ x
through64 {x} h = to_z-of_z w64 x (record { sfits = h })
