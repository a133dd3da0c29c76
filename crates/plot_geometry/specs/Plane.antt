-- A radar's polar measurement, freed of its biases and put into the plane, with the variances on the plane's axes.
use Rattle.std.specs.Prelude.{ℕ, ◌+◌, ◌-◌, ◌*◌, ◌^◌, max, Option, Some, None, ℤ, pos, negsuc, ◌+ℤ◌, ◌-ℤ◌, ◌*ℤ◌, unsigned_abs}
use Rattle.std.specs.Int.{int_rem_euclid}
use Rattle.trk_base.specs.Numbers.{round, clamp, isqrt}

-- max(0, z)
abbrev pub not_below_zero : ℤ → ℕ
not_below_zero (pos n) = n
not_below_zero (negsuc n) = 0

-- a measured slant range in 1/256 NM, freed of a bias in 1/128 NM and a gain in 1/100,000, in 1/64 m: 1/256 NM is 463/64 m
abbrev pub unbiased : ℕ → ℤ → ℤ → ℤ
unbiased rho bias gain = round (pos 100000 *ℤ (pos 463 *ℤ pos rho -ℤ pos 926 *ℤ bias)) (pos 100000 +ℤ gain)

-- the slant range in 1/64 m
unfoldable pub slant_range : ℕ → ℤ → ℤ → ℕ
slant_range rho bias gain = not_below_zero (unbiased rho bias gain)

-- the azimuth from the plane's north in 360/65,536 degrees, of a measured one, its bias and the radar's north
unfoldable pub azimuth : ℕ → ℤ → ℕ → ℕ
azimuth theta bias north = unsigned_abs (int_rem_euclid (pos theta -ℤ bias +ℤ pos north) (pos 65536))

-- how far above the radar a flight level in 1/4 FL is, in 1/64 m, for the radar's height in m: 1/4 FL is 487.68/64 m
unfoldable pub height_above : ℤ → ℤ → ℤ
height_above level height = round (pos 48768 *ℤ level) (pos 100) -ℤ pos 64 *ℤ height

-- the range over the ground in 1/64 m: the leg of the triangle whose hypotenuse is the slant range, where the level is known
unfoldable pub ground_range : ℕ → Option ℤ → ℤ → ℕ
ground_range slant None height = slant
ground_range slant (Some level) height = isqrt (slant * slant - unsigned_abs (height_above level height) * unsigned_abs (height_above level height))

-- the standard deviation across the line of sight in 1/64 m, of one of the azimuth in 360/65,536 degrees: 2 pi is 710/113
unfoldable pub cross_range_sigma : ℕ → ℕ → ℕ
cross_range_sigma range sigma = unsigned_abs (round (pos (range * sigma * 710)) (pos (113 * 65536)))

-- the square of a sine, in 2 ^ -20
unfoldable pub squared_sine : ℤ → ℕ
squared_sine sine = unsigned_abs (clamp (round (sine *ℤ sine) (pos (2 ^ 60))) (pos 0) (pos (2 ^ 20)))

-- the variance on an axis in (1/64 m) ^ 2, of the standard deviations along and across the line of sight, and of the squares, in 2 ^ -20, of the cosine and the sine between that line and the axis
unfoldable pub axis_variance : ℕ → ℕ → ℕ → ℕ → ℕ
axis_variance along across cosine sine = max (unsigned_abs (round (pos (along * along * cosine + across * across * sine)) (pos (2 ^ 20)))) 1
