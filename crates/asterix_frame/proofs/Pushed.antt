-- The reading of a datagram, block by block.
use Rattle.std.proofs.Common.{◌≡◌, ◌∙◌, ap, sym, ℕ, ◌+◌, ◌≤◌, List, [], ◌∷◌, ◌++◌, length, drop, arith, append_assoc, append-nil, length-append}
use Rattle.std.proofs.lemmas.List.{drop_all}
use Rattle.asterix_frame.specs.declared.block.Block.{Block}
use Rattle.asterix_frame.specs.declared.block.Malformed.{Malformed}
use Rattle.asterix_frame.specs.Answers.{BeginsNoBlock}
use Rattle.asterix_frame.specs.Blocks.{DataBlock, AreDataBlocks, IsDataBlock, BlockFault, encoded, encoding}
use Rattle.asterix_frame.specs.Offsets.{data_block, data_blocks, LieFrom}

pub blocks_push : (bs : List DataBlock) (b : DataBlock) → AreDataBlocks bs → IsDataBlock b → AreDataBlocks (bs ++ b ∷ [])
blocks_push [] b h k = (k, tt)
blocks_push (x ∷ xs) b h k = (h.0, blocks_push xs b h.1 k)

pub encoding_push : (bs : List DataBlock) (b : DataBlock) → encoding (bs ++ b ∷ []) ≡ encoding bs ++ encoded b
encoding_push [] b = append-nil (encoded b)
encoding_push (x ∷ xs) b = ap (λ t. encoded x ++ t) (encoding_push xs b) ∙ sym (append_assoc (encoded x) (encoding xs) (encoded b))

pub lie_push : (bs : List Block) (b : Block) (from : ℕ) → LieFrom from bs → b.at ≡ from + length (encoding (data_blocks bs)) + 3 → LieFrom from (bs ++ b ∷ [])
lie_push [] b from h e = (omega arith, tt)
lie_push (x ∷ xs) b from h e = (h.0, lie_push xs b (x.at + length x.body.now) h.1 (omega (arith, h.0, length-append (encoded (data_block x)) (encoding (data_blocks xs)))))

-- a whole prefix and a rest that begins no block
pub fault_at : (d : List ℕ) (bs : List DataBlock) (from : ℕ) (m : Malformed) → AreDataBlocks bs → d ≡ encoding bs ++ drop from d → from ≡ length (encoding bs) → BeginsNoBlock d from m → BlockFault d m.offset m.cause
fault_at d bs from m good whole start none = record {
  prefix = bs;
  rest = drop from d;
  inside = none.inside;
  blocks = good;
  whole = whole;
  none = none.none;
  offset_is = omega (arith, start, none.offset_is);
}

-- nothing is left
pub all_read : (d : List ℕ) (bs : List DataBlock) (from : ℕ) → length d ≤ from → d ≡ encoding bs ++ drop from d → d ≡ encoding bs
all_read d bs from past whole = whole ∙ ap (λ t. encoding bs ++ t) (drop_all from d past) ∙ append-nil (encoding bs)
