-- What the program keeps, as the definitions have it.
use Rattle.std.specs.Prelude.{ℕ}
use Rattle.scene_gen.specs.declared.sightings.Polar.{Polar}

abbrev pub polar_of : Polar → ℕ × ℕ
polar_of p = (p.rho, p.theta)
