-- What octets begin: a data block, a head with a length that is too small, or a block that is truncated.
use Rattle.std.proofs.Common.{◌≡◌, ◌∙◌, ap, sym, refl, subst, append-nil, inl, inr, ℕ, ◌+◌, ◌-◌, ◌*◌, ◌<◌, ◌≤◌, List, [], ◌∷◌, ◌++◌, length, get_or, take, drop, arith, length-append}
use Rattle.std.specs.Int.{w16, to_be_bytes}
use Rattle.std.proofs.lemmas.Bool.{cases_lt}
use Rattle.std.proofs.lemmas.List.{length-take-le, take-append-drop}
use Rattle.asterix_frame.specs.Blocks.{DataBlock, IsDataBlock, BeginsNone, encoded}
use Rattle.asterix_frame.proofs.Heads.{same_block, two_octets}
use Rattle.recording.specs.Blocks.{IsNoBlock, IsTruncatedBlock}
use Rattle.recording.proofs.Codes.{IsCode, IsBytes, Begins, Decides, truncated_first}
use Rattle.recording.proofs.Zeros.{zeros, length-zeros}

abbrev BeginsBlock : List ℕ → Type 0
BeginsBlock = Begins DataBlock IsDataBlock encoded IsNoBlock IsTruncatedBlock

encoded_some : (b : DataBlock) → 0 < length (encoded b)
encoded_some b = omega arith

block_is : (category high low : ℕ) (body : List ℕ) → high < 256 → low < 256 → length body + 3 ≡ 256 * high + low → encoded (record { category = category; body = body }) ≡ category ∷ high ∷ low ∷ body
block_is category high low body h l long = ap (λ (t : List ℕ). category ∷ (t ++ body)) (ap (to_be_bytes w16) long ∙ two_octets high low h l)

truncated_head : (rest more : List ℕ) (category high low : ℕ) (body : List ℕ) → high < 256 → low < 256 → length body + 3 ≡ 256 * high + low → 0 < length rest → 0 < length more → category ∷ high ∷ low ∷ body ≡ rest ++ more → IsTruncatedBlock rest
truncated_head rest more category high low body h l long begun missing e =
    record { one = record { category = category; body = body }; fits = omega arith; more = more; begun = begun; missing = missing; whole = block_is category high low body h l long ∙ e }

-- a head whose length reaches past the end
pub truncated_body : (category high low : ℕ) (rest : List ℕ) → high < 256 → low < 256 → 3 ≤ 256 * high + low → length rest + 3 < 256 * high + low → IsTruncatedBlock (category ∷ high ∷ low ∷ rest)
truncated_body category high low rest h l big far =
    let gap = 256 * high + low - 3 - length rest in
    let long : length (rest ++ zeros gap) + 3 ≡ 256 * high + low = omega (arith, length-append rest (zeros gap), length-zeros gap) in
    truncated_head (category ∷ high ∷ low ∷ rest) (zeros gap) category high low (rest ++ zeros gap) h l long (omega arith) (omega (arith, length-zeros gap)) refl

-- a head that isn't whole
pub truncated_one : (category : ℕ) → IsTruncatedBlock (category ∷ [])
truncated_one category = truncated_head (category ∷ []) (0 ∷ 3 ∷ []) category 0 3 [] (omega arith) (omega arith) refl (omega arith) (omega arith) refl

pub truncated_two : (category high : ℕ) → high < 256 → IsTruncatedBlock (category ∷ high ∷ [])
truncated_two category high h =
    let long : length (zeros (256 * high)) + 3 ≡ 256 * high + 3 = omega (arith, length-zeros (256 * high)) in
    truncated_head (category ∷ high ∷ []) (3 ∷ zeros (256 * high)) category high 3 (zeros (256 * high)) h (omega arith) long (omega arith) (omega arith) refl

begins : (octets : List ℕ) → IsBytes octets → 0 < length octets → BeginsBlock octets
begins [] bytes some = absurd (omega arith)
begins (a ∷ []) bytes some = inr (inr (truncated_one a))
begins (a ∷ b ∷ []) bytes some = inr (inr (truncated_two a b (bytes 1)))
begins (a ∷ b ∷ c ∷ rest) bytes some =
    elim (cases_lt (256 * b + c) 3) [
      | inl small ↦ inr (inl small)
      | inr big ↦ elim (cases_lt (length rest + 3) (256 * b + c)) [
        | inl far ↦ inr (inr (truncated_body a b c rest (bytes 1) (bytes 2) big far))
        | inr near ↦
            let size = 256 * b + c - 3 in
            let long : length (take size rest) + 3 ≡ 256 * b + c = omega (arith, length-take-le size rest (omega arith)) in
            inl (record {
              one = record { category = a; body = take size rest };
              next = drop size rest;
              fits = omega (arith, long, bytes 1, bytes 2);
              whole = ap (λ t. a ∷ b ∷ c ∷ t) (sym (take-append-drop size rest)) ∙ ap (λ t. t ++ drop size rest) (sym (block_is a b c (take size rest) (bytes 1) (bytes 2) long));
            })
      ]
    ]

pub blocks_decided : Decides DataBlock IsDataBlock encoded IsNoBlock IsTruncatedBlock
blocks_decided = record { some = encoded_some; begins = begins }

no_block : IsNoBlock [] → ⊥
no_block h = h

no_block_on : (rest more : List ℕ) → IsNoBlock rest → IsNoBlock (rest ++ more)
no_block_on [] more h = absurd h
no_block_on (a ∷ []) more h = absurd h
no_block_on (a ∷ b ∷ []) more h = absurd h
no_block_on (a ∷ b ∷ c ∷ rest) more h = h

no_block_first : (b : DataBlock) (more : List ℕ) → IsDataBlock b → IsNoBlock (encoded b ++ more) → ⊥
no_block_first b more fits h = omega (arith, fits, h)

other_partial : (rest : List ℕ) → IsNoBlock rest → IsTruncatedBlock rest → ⊥
other_partial rest o h = no_block_first h.one [] h.fits (subst IsNoBlock (sym h.whole ∙ sym (append-nil (encoded h.one))) (no_block_on rest h.more o))

pub blocks_code : IsCode DataBlock IsDataBlock encoded IsNoBlock IsTruncatedBlock
blocks_code =
    record {
      some = encoded_some;
      same = same_block;
      other_some = no_block;
      goes_on = no_block_on;
      none = no_block_first;
      partial_some = λ rest h. h.begun;
      partial_first = truncated_first same_block;
      other_partial = other_partial;
    }

-- where no block begins, and no length is too small
pub truncated_at : (octets : List ℕ) (inside cause : ℕ) → IsBytes octets → BeginsNone octets inside cause → (3 ≤ length octets → 3 ≤ 256 * get_or octets 1 0 + get_or octets 2 0) → IsTruncatedBlock octets
truncated_at [] inside cause bytes none big = absurd none
truncated_at (a ∷ []) inside cause bytes none big = truncated_one a
truncated_at (a ∷ b ∷ []) inside cause bytes none big = truncated_two a b (bytes 1)
truncated_at (a ∷ b ∷ c ∷ rest) inside cause bytes none big =
    elim none.2 [
      | inl small ↦ absurd (omega (arith, small, big (omega arith)))
      | inr far ↦ truncated_body a b c rest (bytes 1) (bytes 2) (big (omega arith)) far
    ]
