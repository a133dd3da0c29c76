-- What is read of octets: the header, a start, items, and the offset of the first fault.
use Rattle.std.specs.Prelude.{◌≡◌, ◌≢◌, ◌<◌, ◌^◌, ◌⊎◌, ℕ, Bool, true, false, List, [], ◌∷◌, ◌++◌, length, Option, Some, None}
use Rattle.std.specs.List.{flat_map, AllByRecursion}
use Rattle.asterix_frame.specs.Blocks.{encoding}
use Rattle.recording.specs.declared.ending.Ending.{Ending}
use Rattle.recording.specs.declared.header.Header.{Header}
use Rattle.recording.specs.declared.header.Header.TheVariants.{First, Second}
use Rattle.recording.specs.Endings.{fault_of}
use Rattle.asterix_frame.specs.Values.{big_endian}
use Rattle.recording.specs.Items.{Item, item_octets, AreItems}
use Rattle.recording.specs.Blocks.{AreBlocks}
use Rattle.recording.specs.Raw.{TimedBlock, blocks_of, start_of, raw_items}
use Rattle.recording.specs.Times.{HasTimes}

-- the last octet of the magic: `1` or `2` in ASCII
abbrev pub version : Header → ℕ
version First = 49
version Second = 50

-- `MRT1` or `MRT2` in ASCII, which a recording begins with
abbrev pub magic : Header → List ℕ
magic header = 77 ∷ 82 ∷ 84 ∷ version header ∷ []

-- which magic the octets begin with, or that they begin with neither
abbrev pub HasHeader : Option Header → List ℕ → Type 0
HasHeader (Some header) octets = (rest : List ℕ) × (octets ≡ magic header ++ rest)
HasHeader None octets = (header : Header) (rest : List ℕ) → octets ≢ magic header ++ rest

-- what stands before the items: the magic, and the start in five octets
abbrev pub header_octets : Header → ℕ → List ℕ
header_octets header start = magic header ++ big_endian 5 start

-- the octets of a recording
abbrev pub recording : Header → ℕ → List Item → List ℕ
recording header start items = header_octets header start ++ flat_map item_octets items

-- The octets are a header and items, and then what ends them.
pub record IsRecording (octets : List ℕ) (goes_on : Bool) (header : Header) (start : ℕ) (items : List Item) (fault : Option ℕ) : Type 0 where
  pub start_fits : start < 2 ^ 40
  pub after : List ℕ
  pub whole : octets ≡ header_octets header start ++ after
  pub ending : Ending
  pub items_are : AreItems header after items ending
  pub fault_is : fault ≡ fault_of ending goes_on (length (recording header start items)) (length octets)

-- The header is truncated: a fault after the magic, with the start 0.
pub record HasNoStart (octets : List ℕ) (header : Header) (start : ℕ) (items : List Item) (fault : Option ℕ) : Type 0 where
  pub few : List ℕ
  pub short : length few < 5
  pub whole : octets ≡ magic header ++ few
  pub start_is : start ≡ 0
  pub items_are : items ≡ []
  pub fault_is : fault ≡ Some 4

-- The octets begin with neither magic. They are blocks with their times, and then what ends them.
pub record IsRaw (octets : List ℕ) (goes_on : Bool) (start : ℕ) (items : List Item) (fault : Option ℕ) : Type 0 where
  pub other_beginning : HasHeader None octets
  pub blocks : List TimedBlock
  pub ending : Ending
  pub blocks_are : AreBlocks octets (blocks_of blocks) ending
  pub timed : AllByRecursion HasTimes blocks
  pub start_is : start ≡ start_of blocks
  pub fault_is : fault ≡ fault_of ending goes_on (length (encoding (blocks_of blocks))) (length octets)
  pub items_are : items ≡ raw_items blocks fault

abbrev pub HasContents : List ℕ → Bool → Option Header → ℕ → List Item → Option ℕ → Type 0
HasContents octets goes_on (Some header) start items fault = IsRecording octets goes_on header start items fault ⊎ HasNoStart octets header start items fault
HasContents octets goes_on None start items fault = IsRaw octets goes_on start items fault

pub record HasReading (octets : List ℕ) (goes_on : Bool) : Type 0 where
  pub header : Option Header
  pub start : ℕ
  pub items : List Item
  pub fault : Option ℕ
  pub contents : HasContents octets goes_on header start items fault

-- an input
abbrev pub IsReading : List ℕ → Option Header → ℕ → List Item → Option ℕ → Type 0
IsReading octets = HasContents octets false

-- a prefix of an input, which goes on after it
abbrev pub IsReadingOfPrefix : List ℕ → Option Header → ℕ → List Item → Option ℕ → Type 0
IsReadingOfPrefix octets = HasContents octets true
