-- The items of a recording, as octets. Numbers are big-endian.
use Rattle.std.specs.Prelude.{◌≢◌, ◌<◌, ◌^◌, ◌⊎◌, ℕ, List, [], ◌∷◌, ◌++◌, length}
use Rattle.plot_geometry.specs.declared.biases.Bias.{Bias}
use Rattle.recording.specs.declared.ending.Ending.{Ending}
use Rattle.recording.specs.declared.header.Header.{Header}
use Rattle.recording.specs.declared.header.Header.TheVariants.{First, Second}
use Rattle.asterix_frame.specs.Values.{big_endian}
use Rattle.recording.specs.Biases.{Numbers, slot_limit, bias_octets, HasWrongNumber, IsTruncatedBias}
use Rattle.recording.specs.Endings.{IsTruncated, EndsSo, AreWritten}

-- a datagram of a feed, a tick, or the biases of a radar from a slot on
pub data Item : Type 0 where
  datagram : ℕ → List ℕ → Item
  tick : ℕ → Item
  bias : ℕ → ℕ → Bias → Item

abbrev pub numbers_of : ℕ → ℕ → Bias → Numbers
numbers_of radar slot b = record { radar = radar; slot = slot; gain = b.gain; range = b.range; azimuth = b.azimuth }

-- 1 and the time in five octets; or 2, the feed, the length in two octets, and the datagram; or the record of a change of biases
abbrev pub item_octets : Item → List ℕ
item_octets (tick time) = 1 ∷ big_endian 5 time
item_octets (datagram feed octets) = 2 ∷ feed ∷ big_endian 2 (length octets) ++ octets
item_octets (bias radar slot b) = bias_octets (numbers_of radar slot b)

-- an item of a recording with this header: the numbers fit those octets, and biases come after the second header alone
abbrev pub IsItem : Header → Item → Type 0
IsItem header (tick time) = time < 2 ^ 40
IsItem header (datagram feed octets) = (feed < 256) × (length octets < 2 ^ 16)
IsItem First (bias radar slot b) = ⊥
IsItem Second (bias radar slot b) = (radar < 256) × (slot < slot_limit)

-- the first octet is none that an item begins with, or a change of biases has a number out of range
abbrev pub IsNoItem : Header → List ℕ → Type 0
IsNoItem header [] = ⊥
IsNoItem First (first ∷ rest) = (first ≢ 1) × (first ≢ 2)
IsNoItem Second (first ∷ rest) = (first ≢ 1) × (first ≢ 2) × (first ≢ 3) ⊎ HasWrongNumber (first ∷ rest)

-- a prefix of an item, and not all of it
abbrev pub IsTruncatedItem : Header → List ℕ → Type 0
IsTruncatedItem First octets = IsTruncated Item (IsItem First) item_octets octets
IsTruncatedItem Second octets = IsTruncated Item (IsItem First) item_octets octets ⊎ IsTruncatedBias octets

abbrev pub ItemsEnd : Header → Ending → List ℕ → Type 0
ItemsEnd header = EndsSo (IsNoItem header) (IsTruncatedItem header)

-- the octets are these items, and then what ends them so
abbrev pub AreItems : Header → List ℕ → List Item → Ending → Type 0
AreItems header = AreWritten Item (IsItem header) item_octets (IsNoItem header) (IsTruncatedItem header)
