-- The record of a change of biases, whatever its numbers, and which of them are out of range.
use Rattle.std.specs.Prelude.{◌≡◌, ◌<◌, ◌≤◌, ◌^◌, ◌⊎◌, ℕ, ℤ, List, [], ◌∷◌, ◌++◌, length, take, unsigned_abs, FitsSigned}
use Rattle.std.specs.Int.{w16, cast_unsigned}
use Rattle.asterix_frame.specs.Values.{big_endian}
use Rattle.recording.specs.declared.ending.Ending.{Ending}
use Rattle.recording.specs.declared.ending.Ending.TheVariants.{Nothing, Other, Truncated}

-- a signed number in two octets, as two's complement
abbrev pub signed_octets : ℤ → List ℕ
signed_octets z = big_endian 2 (cast_unsigned w16 z)

-- slots are below this
abbrev pub slot_limit : ℕ
slot_limit = 2 ^ 34

-- the radar, the slot that the biases hold from, and the biases
pub record Numbers : Type 0 where
  pub radar : ℕ
  pub slot : ℕ
  pub gain : ℤ
  pub range : ℤ
  pub azimuth : ℤ

-- the numbers fit their octets
pub record FitOctets (n : Numbers) : Type 0 where
  pub radar : n.radar < 256
  pub slot : n.slot < 2 ^ 40
  pub gain : FitsSigned w16 n.gain
  pub range : FitsSigned w16 n.range
  pub azimuth : FitsSigned w16 n.azimuth

-- 3, the radar, the slot in five octets, and the gain, the range and the azimuth in two octets each
abbrev pub bias_octets : Numbers → List ℕ
bias_octets n = 3 ∷ n.radar ∷ big_endian 5 n.slot ++ (signed_octets n.gain ++ (signed_octets n.range ++ signed_octets n.azimuth))

-- the number that ends with the record's first so many octets is out of its range
abbrev pub IsWrong : ℕ → Numbers → Type 0
IsWrong end n = (end ≡ 7) × (slot_limit ≤ n.slot) ⊎ ((end ≡ 9) × (10000 < unsigned_abs n.gain) ⊎ ((end ≡ 11) × (1000 < unsigned_abs n.range) ⊎ (end ≡ 13) × (1000 < unsigned_abs n.azimuth)))

-- The octets begin a record in which a number stands whole that is out of range.
pub record HasWrongNumber (octets : List ℕ) : Type 0 where
  pub numbers : Numbers
  pub fit : FitOctets numbers
  pub end : ℕ
  pub wrong : IsWrong end numbers
  pub rest : List ℕ
  pub whole : octets ≡ take end (bias_octets numbers) ++ rest

-- The octets are a prefix of a record, and not all of it, and each number that stands whole in them is in its range.
pub record IsTruncatedBias (octets : List ℕ) : Type 0 where
  pub numbers : Numbers
  pub fit : FitOctets numbers
  pub more : List ℕ
  pub begun : 0 < length octets
  pub missing : 0 < length more
  pub whole : bias_octets numbers ≡ octets ++ more
  pub right : (end : ℕ) → end ≤ length octets → IsWrong end numbers → ⊥

-- Why no bias of at most this size begins: its octets end, or it is larger.
abbrev pub NumberEnds : ℕ → Ending → List ℕ → Type 0
NumberEnds size Nothing octets = ⊥
NumberEnds size Other octets = (z : ℤ) × (size < unsigned_abs z) × FitsSigned w16 z × (rest : List ℕ) × (octets ≡ signed_octets z ++ rest)
NumberEnds size Truncated octets = length octets < 2
