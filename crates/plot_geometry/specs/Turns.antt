-- Sine and cosine of a 16-bit angle, and a turn by it, in whole numbers.
use Rattle.std.specs.Prelude.{ℕ, zero, suc, ◌+◌, ◌-◌, ◌*◌, ◌/◌, ◌%◌, ◌^◌, ◌==◌, if◌then◌else◌, ℤ, pos, neg_ℤ, ◌+ℤ◌, ◌-ℤ◌, ◌*ℤ◌, unsigned_abs}
use Rattle.trk_base.specs.Numbers.{round, isqrt}

-- one, in the units of 2 ^ -40 of all sines and cosines here
abbrev pub one : ℕ
one = 2 ^ 40

-- cosine and sine of half an angle whose own are these: the cosine is the root of half of one and the cosine, and the sine that of the angle, divided by twice the half's cosine
abbrev pub halved : ℕ × ℕ → ℕ × ℕ
halved p =
    let c = isqrt ((one + p.0) * 2 ^ 39) in
    (c, unsigned_abs (round (pos (p.1 * 2 ^ 39)) (pos c)))

-- cosine and sine of a right angle, halved n times
unfoldable pub right_angle_halved : ℕ → ℕ × ℕ
right_angle_halved zero = (0, one)
right_angle_halved (suc n) = halved (right_angle_halved n)

-- cosine and sine of the angle 2 ^ k in 360/65,536 degrees, for k up to 15: of a half turn, of a right angle, and of what it gives when it is halved
abbrev pub half_angle : ℕ → ℤ × ℤ
half_angle k = if k == 15 then (neg_ℤ (pos one), pos 0) else (pos (right_angle_halved (14 - k)).0, pos (right_angle_halved (14 - k)).1)

-- a sine and a cosine, turned on by an angle whose cosine and sine are these: the sums for the sine and the cosine of two angles
abbrev pub turned : ℤ × ℤ → ℤ × ℤ → ℤ × ℤ
turned by sc = (round (sc.0 *ℤ by.0 +ℤ sc.1 *ℤ by.1) (pos one), round (sc.1 *ℤ by.0 -ℤ sc.0 *ℤ by.1) (pos one))

-- turned on by each bit of the angle that is set, from the bit k - 1 down
unfoldable pub turns : ℕ → ℕ → ℤ × ℤ → ℤ × ℤ
turns zero angle sc = sc
turns (suc k) angle sc = turns k angle (if angle / 2 ^ k % 2 == 1 then turned (half_angle k) sc else sc)

-- sine and cosine of an angle in 360/65,536 degrees
unfoldable pub sine_cosine : ℕ → ℤ × ℤ
sine_cosine angle = turns 16 angle (pos 0, pos one)

-- a length, times a sine or a cosine
abbrev pub scaled : ℤ → ℤ → ℤ
scaled length sine = round (length *ℤ sine) (pos one)

-- the point at this distance in this direction, clockwise from north: to the east and to the north
abbrev pub rotated : ℕ → ℤ → ℤ × ℤ
rotated angle r = (scaled r (sine_cosine angle).0, scaled r (sine_cosine angle).1)

-- the square of the length
abbrev pub norm : ℤ → ℤ → ℕ
norm x y = unsigned_abs x * unsigned_abs x + unsigned_abs y * unsigned_abs y
