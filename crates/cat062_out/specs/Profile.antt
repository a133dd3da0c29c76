-- The profile: the records that this system writes. A value of a category is one record, of its items
-- in rising FRN under the shortest FSPEC that names them. Throughout, `items` says which items a value
-- has, and `Is` which values there are. Writers and readers share these definitions.
use Rattle.std.specs.Prelude.{◌≡◌, ◌≢◌, ◌≤◌, ℕ, ◌+◌, List, ◌++◌, length, drop}
use Rattle.std.specs.List.{flat_map, AllByRecursion}
use Rattle.asterix_frame.specs.declared.block.Block.{Block}
use Rattle.asterix_frame.specs.declared.block.Malformed.{Malformed}
use Rattle.asterix_frame.specs.declared.tables.Uap.{Uap}
use Rattle.asterix_frame.specs.Elements.{Element}
use Rattle.asterix_frame.specs.DataRecords.{DataRecord, IsDataRecord, BeginsNoDataRecord, record_octets}
use Rattle.asterix_frame.specs.Bodies.{IsFaultFrom}
use Rattle.asterix_frame.specs.Encoding.{record_of}
use Rattle.cat062_out.specs.declared.error.ProfileError.{ProfileError}
use Rattle.cat062_out.specs.declared.error.ProfileError.TheVariants as errors

-- the octets of a value's record
abbrev pub written : {T : Type 0} → (T → List Element) → T → List ℕ
written items value = record_octets (record_of (items value))

-- the body is the records of these values, one after the other
pub record AreWritten {T : Type 0} (Is : T → Type 0) (items : T → List Element) (body : List ℕ) (values : List T) : Type 0 where
  pub are_values : AllByRecursion Is values
  pub whole : body ≡ flat_map (written items) values

-- The body of a block is records of values, and then octets that begin no record of the category: its
-- first fault.
pub record IsMalformedAfter {T : Type 0} (uap : Uap) (Is : T → Type 0) (items : T → List Element) (block : Block) (m : Malformed) : Type 0 where
  pub prefix : List T
  pub rest : List ℕ
  pub inside : ℕ
  pub are_values : AllByRecursion Is prefix
  pub whole : block.body.now ≡ flat_map (written items) prefix ++ rest
  pub none : BeginsNoDataRecord uap rest inside m.cause
  pub offset_is : m.offset ≡ block.at + length (flat_map (written items) prefix) + inside

-- a whole record of the category that is the record of no value
pub record IsForeign {T : Type 0} (uap : Uap) (Is : T → Type 0) (items : T → List Element) (foreign : DataRecord) : Type 0 where
  pub is_record : IsDataRecord uap foreign
  pub no_value : (value : T) → Is value → written items value ≢ record_octets foreign

-- The body of a block is records of values, and then a whole record that is the record of no value:
-- its offset in the datagram.
pub record IsOutOfProfile {T : Type 0} (uap : Uap) (Is : T → Type 0) (items : T → List Element) (block : Block) (at : ℕ) : Type 0 where
  pub prefix : List T
  pub foreign : DataRecord
  pub rest : List ℕ
  pub are_values : AllByRecursion Is prefix
  pub whole : block.body.now ≡ flat_map (written items) prefix ++ (record_octets foreign ++ rest)
  pub is_foreign : IsForeign uap Is items foreign
  pub at_is : at ≡ block.at + length (flat_map (written items) prefix)

-- What is told of a block that isn't records of values: the first record that is none decides.
abbrev pub IsRefusal : {T : Type 0} → Uap → (T → Type 0) → (T → List Element) → Block → ProfileError → Type 0
IsRefusal uap Is items block (errors.Malformed m) = IsMalformedAfter uap Is items block m
IsRefusal uap Is items block (errors.Profile at) = IsOutOfProfile uap Is items block at
IsRefusal uap Is items block errors.NoMemory = ⊥

-- ---- one record at an offset

-- from that offset on the body has the record of this value, up to the next offset
pub record BeginsValue {T : Type 0} (Is : T → Type 0) (items : T → List Element) (body : List ℕ) (from : ℕ) (value : T) (next : ℕ) : Type 0 where
  pub is_value : Is value
  pub octets : drop from body ≡ written items value ++ drop next body
  pub next_is : next ≡ from + length (written items value)
  pub within : next ≤ length body

-- from that offset on the body of the block has a record that is the record of no value
pub record BeginsForeign {T : Type 0} (uap : Uap) (Is : T → Type 0) (items : T → List Element) (body : List ℕ) (from : ℕ) : Type 0 where
  pub foreign : DataRecord
  pub rest : List ℕ
  pub is_foreign : IsForeign uap Is items foreign
  pub octets : drop from body ≡ record_octets foreign ++ rest

-- what is told of a block that has no value's record from that offset of its body on
abbrev pub BeginsNoValue : {T : Type 0} → Uap → (T → Type 0) → (T → List Element) → Block → ℕ → ProfileError → Type 0
BeginsNoValue uap Is items block from (errors.Malformed m) = IsFaultFrom uap block from m
BeginsNoValue uap Is items block from (errors.Profile at) = BeginsForeign uap Is items block.body.now from × (at ≡ block.at + from)
BeginsNoValue uap Is items block from errors.NoMemory = ⊥
