-- The state of a radar as a record: its data items in rising FRN (ASTERIX, Part 10, category 063). What
-- is at the right of an item's FRN is all that its octets say: bits that aren't named are 0.
use Rattle.std.specs.Prelude.{ℕ, ◌*◌, List, [], ◌∷◌, ◌++◌, map}
use Rattle.asterix_frame.specs.declared.block.Block.{Block}
use Rattle.asterix_frame.specs.declared.tables.Uap.TheVariants.{Cat063}
use Rattle.asterix_frame.specs.Elements.{Element}
use Rattle.asterix_frame.specs.Values.{big_endian}
use Rattle.asterix_frame.specs.Encoding.{item_of}
use Rattle.asterix_frame.specs.Packing.{packed_block}
use Rattle.cat062_out.specs.declared.error.ProfileError.{ProfileError}
use Rattle.cat062_out.specs.Tracks.{Stamp, IsStamp}
use Rattle.cat062_out.specs.TrackRecords.{two_signed}
use Rattle.cat062_out.specs.Profile.{written, AreWritten, IsRefusal}
use Rattle.status_out.specs.RadarLines.{RadarLine, IsRadarLine}

-- who tells the state of a radar and when, and the state
abbrev pub Message : Type 0
Message = Stamp × RadarLine

abbrev pub IsMessage : Message → Type 0
IsMessage m = IsStamp m.0 × IsRadarLine m.1

-- Each line has an item: FRN, item of the standard, number of octets, what they say and in which unit.
unfoldable pub sensor_items : Message → List Element
sensor_items m =
    -- 1, I063/010, 2: SAC and SIC of this system
    item_of 1 (m.0.sac ∷ m.0.sic ∷ [])
    -- 2, I063/015, 1: the service
    ∷ item_of 2 (m.0.service ∷ [])
    -- 3, I063/030, 3: the time of day in 1/128 s
    ∷ item_of 3 (big_endian 3 m.0.tod)
    -- 4, I063/050, 2: SAC and SIC of the radar
    ∷ item_of 4 (m.1.sac ∷ m.1.sic ∷ [])
    -- 5, I063/060, 1: CON, the state of the connection, in bits 8 and 7
    ∷ item_of 5 (64 * m.1.con ∷ [])
    -- 6, I063/070, 2: the bias of time stamps in ms, signed
    ∷ item_of 6 (two_signed m.1.time_ms)
    -- 7, I063/080, 4: SRG, the gain of ranges in 1/100,000, and SRB, their bias in 1/128 NM, both signed
    ∷ item_of 7 (two_signed m.1.gain ++ two_signed m.1.range)
    -- 8, I063/081, 2: SAB, the bias of azimuths in 360/65,536 degrees, signed
    ∷ item_of 8 (two_signed m.1.azimuth)
    ∷ []

-- its octets
unfoldable pub sensor_record : Message → List ℕ
sensor_record m = written sensor_items m

-- the block of the states of these radars
abbrev pub sensor_block : Stamp → List RadarLine → List ℕ
sensor_block stamp radars = packed_block 63 (map (λ line. sensor_record (stamp, line)) radars)

-- the body of a block is the records of these states, one after the other
abbrev pub AreSensorMessages : List ℕ → List Message → Type 0
AreSensorMessages = AreWritten IsMessage sensor_items

-- what is told of a block whose body isn't
abbrev pub IsSensorRefusal : Block → ProfileError → Type 0
IsSensorRefusal = IsRefusal Cat063 IsMessage sensor_items
