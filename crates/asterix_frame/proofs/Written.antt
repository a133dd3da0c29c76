-- A number written in octets reads back.
use Rattle.std.proofs.Common.{◌≡◌, ap, ℕ, ◌<◌, ◌^◌, arith, Some}
use Rattle.asterix_frame.specs.Values.{big_endian, two_octets, three_octets}

pub two_written : (n : ℕ) → n < 2 ^ 16 → two_octets (big_endian 2 n) ≡ Some n
two_written n h = ap Some (omega arith)

pub three_written : (n : ℕ) → n < 2 ^ 24 → three_octets (big_endian 3 n) ≡ Some n
three_written n h = ap Some (omega arith)
