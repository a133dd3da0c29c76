-- Numbers in octets, the highest octet first: as they are written, and as they stand at a place.
use Rattle.std.specs.Prelude.{ℕ, ◌+◌, ◌*◌, ◌==◌, List, [], ◌∷◌, ◌++◌, Option, Some, None, slice_index, if◌then◌else◌, map, ℤ}
use Rattle.std.specs.Int.{w16, w32, w64, to_be_bytes, from_be_bytes, cast_signed, cast_unsigned}
use Rattle.std.specs.List.{range_with_len}
use Rattle.assignment_dual.specs.Problems.{Edge}

-- what stands for none among the places of tracks
abbrev pub none_number : ℕ
none_number = 4294967295

abbrev pub entry_number : Option ℕ → ℕ
entry_number None = none_number
entry_number (Some t) = t

abbrev pub word_octets : ℕ → List ℕ
word_octets n = to_be_bytes w64 n

abbrev pub price_octets : ℤ → List ℕ
price_octets z = to_be_bytes w64 (cast_unsigned w64 z)

abbrev pub edge_octets : Edge → List ℕ
edge_octets e = to_be_bytes w32 e.0 ++ (to_be_bytes w32 e.1 ++ to_be_bytes w16 e.2)

abbrev pub entry_octets : Option ℕ → List ℕ
entry_octets x = to_be_bytes w32 (entry_number x)

-- the numbers of 2, 4 and 8 octets that stand at a place
abbrev pub short_at : List ℕ → ℕ → ℕ
short_at xs p = from_be_bytes w16 (slice_index xs p ∷ slice_index xs (p + 1) ∷ [])

abbrev pub half_at : List ℕ → ℕ → ℕ
half_at xs p = from_be_bytes w32 (slice_index xs p ∷ slice_index xs (p + 1) ∷ slice_index xs (p + 2) ∷ slice_index xs (p + 3) ∷ [])

abbrev pub word_at : List ℕ → ℕ → ℕ
word_at xs p =
    from_be_bytes w64
    (slice_index xs p ∷ slice_index xs (p + 1) ∷ slice_index xs (p + 2) ∷ slice_index xs (p + 3) ∷ slice_index xs (p + 4) ∷ slice_index xs (p + 5) ∷ slice_index xs (p + 6) ∷ slice_index xs (p + 7) ∷ [])

abbrev pub price_number_at : List ℕ → ℕ → ℤ
price_number_at xs p = cast_signed w64 (word_at xs p)

abbrev pub edge_numbers_at : List ℕ → ℕ → Edge
edge_numbers_at xs p = (half_at xs p, half_at xs (p + 4), short_at xs (p + 8))

abbrev pub entry_of : ℕ → Option ℕ
entry_of n = if n == none_number then None else Some n

abbrev pub entry_number_at : List ℕ → ℕ → Option ℕ
entry_number_at xs p = entry_of (half_at xs p)

-- count of them, one after the other, each of so many octets
unfoldable pub many_at : {X : Type 0} → (List ℕ → ℕ → X) → ℕ → List ℕ → ℕ → ℕ → List X
many_at read size xs p count = map (λ i. read xs (p + i * size)) (range_with_len 0 count)
