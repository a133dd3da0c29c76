-- What the items of a record say, if it is the record of a track: bits that aren't looked at, and items that aren't there,
-- are judged by writing the track again. An item that isn't there has no octets.
use Rattle.std.specs.Prelude.{ℕ, Bool, ◌==◌, nat_lt, if◌then◌else◌, List, [], ◌∷◌, Option, Some, None, ℤ, pos, slice_index}
use Rattle.std.specs.Option.{unwrap_or}
use Rattle.trk_base.specs.Numbers.{day}
use Rattle.asterix_frame.specs.declared.tables.Uap.TheVariants.{Cat062}
use Rattle.asterix_frame.specs.Elements.{Element}
use Rattle.asterix_frame.specs.Values.{from_two, from_three, one_octet, two_octets, has_bit, signed}
use Rattle.asterix_frame.specs.DataRecords.{item_octets, source_of, time_of}
use Rattle.cat062_out.specs.Tracks.{Stamp, TrackLine}

-- ---- items

-- I062/070, below a day
abbrev pub time_in_day : Option ℕ → ℕ
time_in_day None = 0
time_in_day (Some time) = if nat_lt time day then time else 0

-- I062/040
abbrev pub number_of : List ℕ → ℕ
number_of octets = unwrap_or (two_octets octets) 0

-- I062/100
abbrev pub position_of : List ℕ → ℤ × ℤ
position_of (x2 ∷ x1 ∷ x0 ∷ y2 ∷ y1 ∷ y0 ∷ []) = (signed 24 (from_three x2 x1 x0), signed 24 (from_three y2 y1 y0))
position_of _ = (pos 0, pos 0)

-- I062/185
abbrev pub velocity_of : List ℕ → ℤ × ℤ
velocity_of (x1 ∷ x0 ∷ y1 ∷ y0 ∷ []) = (signed 16 (from_two x1 x0), signed 16 (from_two y1 y0))
velocity_of _ = (pos 0, pos 0)

-- I062/060, in 12 bits
abbrev pub in_code : ℕ → Option ℕ
in_code number = if nat_lt number 4096 then Some number else None

abbrev pub code_of : List ℕ → Option ℕ
code_of (high ∷ low ∷ []) = in_code (from_two high low)
code_of _ = None

-- I062/380, with the address alone
abbrev pub address_of : List ℕ → Option ℕ
address_of (_ ∷ high ∷ middle ∷ low ∷ []) = Some (from_three high middle low)
address_of _ = None

-- I062/136
abbrev pub level_of : List ℕ → Option ℤ
level_of (high ∷ low ∷ []) = Some (signed 16 (from_two high low))
level_of _ = None

-- a bit of I062/080, in the octet with that index
abbrev pub status_bit : List ℕ → ℕ → ℕ → Bool
status_bit octets index bit = has_bit (slice_index octets index) bit

-- I062/290: PSR, SSR and MDS have bits 7, 6 and 5 of the first octet; one of them is there
abbrev pub one_age : ℕ → ℕ → Option ℕ × (Option ℕ × Option ℕ)
one_age field age = if field == 64 then (Some age, (None, None)) else if field == 32 then (None, (Some age, None)) else (None, (None, Some age))

abbrev pub two_ages : ℕ → ℕ → ℕ → Option ℕ × (Option ℕ × Option ℕ)
two_ages field a b = if field == 96 then (Some a, (Some b, None)) else if field == 80 then (Some a, (None, Some b)) else (None, (Some a, Some b))

abbrev pub ages_of : List ℕ → Option ℕ × (Option ℕ × Option ℕ)
ages_of (field ∷ age ∷ []) = one_age field age
ages_of (field ∷ a ∷ b ∷ []) = two_ages field a b
ages_of (_ ∷ a ∷ b ∷ c ∷ []) = (Some a, (Some b, Some c))
ages_of _ = (Some 0, (None, None))

-- I062/500, with the accuracy of the position alone
abbrev pub accuracy_of : List ℕ → ℕ × ℕ
accuracy_of (_ ∷ x1 ∷ x0 ∷ y1 ∷ y0 ∷ []) = (from_two x1 x0, from_two y1 y0)
accuracy_of _ = (0, 0)

-- ---- the record

unfoldable pub stamp_of : List Element → Stamp
stamp_of items = record {
  sac = (unwrap_or (source_of items) (0, 0)).0;
  sic = (unwrap_or (source_of items) (0, 0)).1;
  service = unwrap_or (one_octet (item_octets 3 items)) 0;
  tod = time_in_day (time_of Cat062 items);
}

unfoldable pub line_of : List Element → TrackLine
line_of items = record {
  number = number_of (item_octets 12 items);
  x = (position_of (item_octets 6 items)).0;
  y = (position_of (item_octets 6 items)).1;
  vx = (velocity_of (item_octets 7 items)).0;
  vy = (velocity_of (item_octets 7 items)).1;
  code = code_of (item_octets 9 items);
  address = address_of (item_octets 11 items);
  level = level_of (item_octets 17 items);
  psr = (ages_of (item_octets 14 items)).0;
  ssr = (ages_of (item_octets 14 items)).1.0;
  mds = (ages_of (item_octets 14 items)).1.1;
  mono = status_bit (item_octets 13 items) 0 8;
  spi = status_bit (item_octets 13 items) 0 7;
  coast = status_bit (item_octets 13 items) 3 8;
  first = status_bit (item_octets 13 items) 1 6;
  ended = status_bit (item_octets 13 items) 1 7;
  sx = (accuracy_of (item_octets 27 items)).0;
  sy = (accuracy_of (item_octets 27 items)).1;
}
