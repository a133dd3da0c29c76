-- What a field of presence bits may name.
use Rattle.std.specs.Prelude.{◌≡◌, ℕ, ◌+◌, ◌-◌, ◌*◌, ◌<◌, Bool, true, false, length}
use Rattle.std.specs.Int.{bit_at}
use Rattle.std.specs.Prelude.{List}
use Rattle.asterix_frame.specs.declared.presence.Names.{Names}
use Rattle.asterix_frame.specs.declared.presence.Names.TheVariants as names
use Rattle.asterix_frame.specs.declared.presence.FieldError.{FieldError}
use Rattle.asterix_frame.specs.declared.presence.FieldError.TheVariants as errors
use Rattle.asterix_frame.specs.Presence.{EndsInField, HasSpare}
use Rattle.asterix_frame.specs.Items.{is_item, item_at, is_subfield, subfield_at}

abbrev pub known : Names → ℕ → Bool
known (names.Items table) n = is_item (item_at table.now n)
known (names.Subfields table) n = is_subfield (subfield_at table.now n)

abbrev pub known_count : Names → ℕ
known_count (names.Items table) = length table.now
known_count (names.Subfields table) = length table.now

-- Each number of the octet at that offset is known.
abbrev pub NamesKnown : (ℕ → Bool) → ℕ → ℕ → Type 0
NamesKnown known offset octet = (bit : ℕ) → bit < 7 → bit_at octet (7 - bit) ≡ 1 → known (7 * offset + bit) ≡ true

-- Some number of it isn't.
pub record NamesUnknown (known : ℕ → Bool) (offset octet : ℕ) : Type 0 where
  pub bit : ℕ
  pub in_octet : bit < 7
  pub is_set : bit_at octet (7 - bit) ≡ 1
  pub unknown : known (7 * offset + bit) ≡ false

abbrev pub IsFieldError : (ℕ → Bool) → List ℕ → FieldError → Type 0
IsFieldError known octets errors.Ends = EndsInField known octets
IsFieldError known octets (errors.Spare offset) = HasSpare known octets offset
