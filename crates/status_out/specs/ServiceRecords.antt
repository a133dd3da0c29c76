-- The state of the service, and the end of a batch, as records: their data items in rising FRN (ASTERIX,
-- Part 15, category 065). What is at the right of an item's FRN is all that its octets say: bits that
-- aren't named are 0.
use Rattle.std.specs.Prelude.{ℕ, ◌*◌, ◌<◌, ◌≤◌, ◌^◌, List, [], ◌∷◌, ◌++◌}
use Rattle.asterix_frame.specs.declared.block.Block.{Block}
use Rattle.asterix_frame.specs.declared.tables.Uap.TheVariants.{Cat065}
use Rattle.asterix_frame.specs.Elements.{Element}
use Rattle.asterix_frame.specs.Values.{big_endian}
use Rattle.asterix_frame.specs.Encoding.{item_of}
use Rattle.asterix_frame.specs.Packing.{packed_block}
use Rattle.cat062_out.specs.declared.error.ProfileError.{ProfileError}
use Rattle.cat062_out.specs.Tracks.{Stamp, IsStamp}
use Rattle.cat062_out.specs.Profile.{written, AreWritten, IsRefusal}
use Rattle.status_out.specs.declared.service_line.Line065.{Line065}
use Rattle.status_out.specs.declared.service_line.Line065.TheVariants.{Status, End}

-- NOGO is 0 or 1
abbrev pub HasState : Line065 → Type 0
HasState (Status stamp nogo) = nogo ≤ 1
HasState (End stamp batch) = Unit {0}

-- each value has as many bits as its item
abbrev pub IsLine065 : Line065 → Type 0
IsLine065 (Status stamp nogo) = IsStamp stamp × nogo ≤ 1
IsLine065 (End stamp batch) = IsStamp stamp × batch < 2 ^ 8

-- Each line has an item: FRN, item of the standard, number of octets, what they say and in which unit.
-- These are in every record.
abbrev pub common_items : Stamp → ℕ → List Element
common_items stamp kind =
    -- 1, I065/010, 2: SAC and SIC of this system
    item_of 1 (stamp.sac ∷ stamp.sic ∷ [])
    -- 2, I065/000, 1: the type of the message
    ∷ item_of 2 (kind ∷ [])
    -- 3, I065/015, 1: the service
    ∷ item_of 3 (stamp.service ∷ [])
    -- 4, I065/030, 3: the time of day in 1/128 s
    ∷ item_of 4 (big_endian 3 stamp.tod)
    ∷ []

unfoldable pub service_items : Line065 → List Element
-- a message of type 1; 6, I065/040, 1: NOGO, the state of the service, in bits 8 and 7
service_items (Status stamp nogo) = common_items stamp 1 ++ item_of 6 (64 * nogo ∷ []) ∷ []
-- a message of type 2; 5, I065/020, 1: the number of the batch
service_items (End stamp batch) = common_items stamp 2 ++ item_of 5 (batch ∷ []) ∷ []

-- its octets
unfoldable pub service_record : Line065 → List ℕ
service_record line = written service_items line

-- the block of this line alone
abbrev pub service_block : Line065 → List ℕ
service_block line = packed_block 65 (service_record line ∷ [])

-- the body of a block is the records of these lines, one after the other
abbrev pub AreServiceMessages : List ℕ → List Line065 → Type 0
AreServiceMessages = AreWritten IsLine065 service_items

-- what is told of a block whose body isn't
abbrev pub IsServiceRefusal : Block → ProfileError → Type 0
IsServiceRefusal = IsRefusal Cat065 IsLine065 service_items
