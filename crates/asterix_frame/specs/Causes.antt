-- Why octets are no ASTERIX datagram, by number. Each cause says at which octet it is told.
use Rattle.std.specs.Prelude.{ℕ}

-- fewer than three octets are left where a block begins, but some: at the block's first octet
abbrev pub block_short : ℕ
block_short = 1

-- a block's length is below three, or reaches past the datagram: at the first octet of the length
abbrev pub block_length : ℕ
block_length = 2

-- the block ends after an FSPEC octet with FX: at the block's end
abbrev pub fspec_end : ℕ
fspec_end = 3

-- a presence bit stands for an FRN that isn't in the category's table: at that FSPEC octet
abbrev pub spare_frn : ℕ
spare_frn = 4

-- the block ends before the item does: at the item's first octet
abbrev pub item_end : ℕ
item_end = 5

-- a length octet is zero: at that octet
abbrev pub length_zero : ℕ
length_zero = 6

-- a bit of a primary field stands for no subfield: at that primary octet
abbrev pub unknown_subfield : ℕ
unknown_subfield = 7

-- a time of day is a day or more: at the item's first octet
abbrev pub time_range : ℕ
time_range = 8
