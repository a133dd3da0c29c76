-- The words that a scene is drawn from: those of PCG XSH RR 64/32 (O'Neill), stream 1, one for each number.
use Rattle.std.specs.Prelude.{ℕ, ◌%◌}
use Rattle.rand_pcg.specs.Lcg.{Lcg, advance, started, increment_of}
use Rattle.rand_pcg.specs.Pcg.{pcg32, multiplier_64}

-- the generator of a seed
unfoldable pub generator_of : ℕ → Lcg
generator_of seed = started 64 multiplier_64 seed (increment_of 64 1)

-- the generator after so many words
unfoldable pub after : ℕ → Lcg → Lcg
after words g = advance 64 multiplier_64 words g

-- a number below a limit: the next word, modulo the limit
unfoldable pub drawn : ℕ → Lcg → ℕ
drawn limit g = (pcg32 g).0 % limit
