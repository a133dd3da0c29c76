use Rattle.std.proofs.Common.{◌≡◌, ◌∙◌, ap, refl, ℕ, ◌<◌, ◌%◌, ◌^◌, Option, Some, None, arith}
use Rattle.std.specs.Option.{ForSome, option_map}
use Rattle.cat048_in.proofs.values.address_of.Goals as goal

-- a number of 24 bits is what its 24 bits are
in_24_bits : (o : Option ℕ) → ForSome o (λ n. n < 2 ^ 24) → o ≡ option_map (λ n. n % 2 ^ 24) o
in_24_bits None h = refl
in_24_bits (Some n) h =
    let same : n ≡ n % 2 ^ 24 = omega (arith, h n refl) in
    ap Some same

pub returns-clause-value : goal.returns-clause-value
returns-clause-value c = in_24_bits c.three_octets.result c.three_octets.ensures.within ∙ ap (option_map (λ n. n % 2 ^ 24)) c.three_octets.ensures.value
