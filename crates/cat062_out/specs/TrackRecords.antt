-- The record of a track: its data items in rising FRN, as this system writes them (ASTERIX, Part 9, category 062). What is at
-- the right of an item's octets here is all that its octets say: bits and subfields that aren't named are 0 or absent.
use Rattle.std.specs.Prelude.{ℕ, suc, ◌+◌, ◌-◌, ◌*◌, ◌^◌, Bool, true, nat_lt, List, [], ◌∷◌, ◌++◌, Option, Some, None, ℤ, pos, negsuc}
use Rattle.asterix_frame.specs.Elements.{Element}
use Rattle.asterix_frame.specs.Values.{big_endian}
use Rattle.asterix_frame.specs.DataRecords.{record_octets}
use Rattle.asterix_frame.specs.Encoding.{bit, item_of, record_of, compound_of}
use Rattle.cat062_out.specs.Tracks.{Stamp, IsStamp, TrackLine, IsTrackLine}

-- ---- numbers in octets, the highest first

-- two's complement in so many bits
abbrev pub complement : ℕ → ℤ → ℕ
complement bits (pos n) = n
complement bits (negsuc n) = 2 ^ bits - suc n

abbrev pub two_signed : ℤ → List ℕ
two_signed z = big_endian 2 (complement 16 z)

abbrev pub three_signed : ℤ → List ℕ
three_signed z = big_endian 3 (complement 24 z)

-- an item, or a subfield, that is there only where its value is known
abbrev pub where_known : {A : Type 0} → ℕ → (A → List ℕ) → Option A → List Element
where_known frn octets None = []
where_known frn octets (Some v) = item_of frn (octets v) ∷ []

-- ---- items of several parts

-- I062/380, aircraft derived data: ADR, the address, which has bit 8 of the primary field
abbrev pub address_octets : ℕ → List ℕ
address_octets address = compound_of (item_of 1 (big_endian 3 address) ∷ [])

-- An age is old where it is above 12 s, in 1/4 s, and where there is none.
abbrev pub is_old : Option ℕ → Bool
is_old None = true
is_old (Some age) = nat_lt 48 age

-- I062/080, track status: an octet and three extensions. Bit 1 of each, FX, says that another follows.
-- MON, one radar alone saw the track, is bit 8, and SPI bit 7
abbrev pub sighting_octet : TrackLine → ℕ
sighting_octet l = 128 * bit l.mono + 64 * bit l.spi + 1

-- TSE, this is its last record, is bit 7, and TSB, its first, bit 6
abbrev pub span_octet : TrackLine → ℕ
span_octet l = 64 * bit l.ended + 32 * bit l.first + 1

-- CST, it is coasted, is bit 8; PSR, SSR and MDS, bits 7 to 5, say that the age is old; ADS, bit 4, says so of ADS-B always
abbrev pub coasting_octet : TrackLine → ℕ
coasting_octet l = 128 * bit l.coast + 64 * bit (is_old l.psr) + 32 * bit (is_old l.ssr) + 16 * bit (is_old l.mds) + 8

abbrev pub status_octets : TrackLine → List ℕ
status_octets l = sighting_octet l ∷ span_octet l ∷ 1 ∷ coasting_octet l ∷ []

-- I062/290, system track update ages: PSR, SSR and MDS have bits 7, 6 and 5 of the primary field
abbrev pub ages : TrackLine → List Element
ages l = where_known 2 (λ age. age ∷ []) l.psr ++ (where_known 3 (λ age. age ∷ []) l.ssr ++ where_known 4 (λ age. age ∷ []) l.mds)

abbrev pub ages_octets : TrackLine → List ℕ
ages_octets l = compound_of (ages l)

-- I062/500, estimated accuracies: APC, of the position, which has bit 8 of the primary field
abbrev pub accuracy_octets : TrackLine → List ℕ
accuracy_octets l = compound_of (item_of 1 (big_endian 2 l.sx ++ big_endian 2 l.sy) ∷ [])

-- ---- the record

-- Each item with its FRN, its number in the standard, its number of octets, and what they say, in which unit.

-- who tells the track, and when
abbrev pub stamp_items : Stamp → List Element
stamp_items s =
    -- 1, I062/010, 2: SAC and SIC of this system
    item_of 1 (s.sac ∷ s.sic ∷ [])
    -- 3, I062/015, 1: the service
    ∷ item_of 3 (s.service ∷ [])
    -- 4, I062/070, 3: the time of day in 1/128 s
    ∷ item_of 4 (big_endian 3 s.tod)
    ∷ []

-- where it is, and how it moves
abbrev pub motion_items : TrackLine → List Element
motion_items l =
    -- 6, I062/100, 6: the position to the east and to the north in 1/2 m, signed
    item_of 6 (three_signed l.x ++ three_signed l.y)
    -- 7, I062/185, 4: the velocity to the east and to the north in 1/4 m/s, signed
    ∷ item_of 7 (two_signed l.vx ++ two_signed l.vy)
    ∷ []

-- which track it is, and how surely it is seen
abbrev pub status_items : TrackLine → List Element
status_items l =
    -- 12, I062/040, 2: the track's number
    item_of 12 (big_endian 2 l.number)
    -- 13, I062/080, 4: the track's status
    ∷ item_of 13 (status_octets l)
    -- 14, I062/290, 2 to 4: the ages of the last detections in 1/4 s, each where there was one
    ∷ item_of 14 (ages_octets l)
    ∷ []

-- the record's items
unfoldable pub track_items : Stamp → TrackLine → List Element
track_items s l =
    stamp_items s
    ++ (motion_items l
    -- 9, I062/060, 2, where it is known: the Mode 3/A code, in the lower 12 bits
    ++ (where_known 9 (λ code. big_endian 2 code) l.code
    -- 11, I062/380, 4, where it is known: the aircraft address
    ++ (where_known 11 address_octets l.address
    ++ (status_items l
    -- 17, I062/136, 2, where it is known: the measured flight level in 1/4 FL, signed
    ++ (where_known 17 two_signed l.level
    -- 27, I062/500, 5: the standard deviation of the position to the east and to the north in 1/2 m
    ++ item_of 27 (accuracy_octets l) ∷ [])))))

-- its octets
unfoldable pub track_record : Stamp → TrackLine → List ℕ
track_record s l = record_octets (record_of (track_items s l))

-- the octets that a track's record has at most
abbrev pub track_limit : ℕ
track_limit = 43

-- ---- a stamp and a line together, as they are read

abbrev pub IsTrack : Stamp × TrackLine → Type 0
IsTrack track = IsStamp track.0 × IsTrackLine track.1

abbrev pub items_of : Stamp × TrackLine → List Element
items_of track = track_items track.0 track.1
