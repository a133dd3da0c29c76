-- A block that was read: what it is in the datagram, and what the datagram says with it.
use Rattle.std.proofs.Common.{◌≡◌, ◌≢◌, ◌∙◌, ap, sym, subst, refl, ℕ, ◌+◌, List, [], ◌∷◌, ◌++◌, append-nil, arith}
use Rattle.std.specs.List.{flat_map}
use Rattle.std.proofs.lemmas.Grind.{flat_map-append}
use Rattle.asterix_frame.specs.declared.block.Block.{Block}
use Rattle.asterix_frame.specs.declared.tables.Uap.{Uap}
use Rattle.asterix_frame.specs.Tables.{category_of}
use Rattle.asterix_frame.specs.Blocks.{DataBlock, IsDataBlock}
use Rattle.asterix_frame.specs.Offsets.{data_block}
use Rattle.asterix_frame.specs.DataRecords.{DataRecord}
use Rattle.asterix_frame.specs.Bodies.{IsBody, body_of}
use Rattle.asterix_frame.specs.Datagrams.{Content, records, other, IsReadCategory, IsContent, block_of}
use Rattle.admission_log.specs.declared.messages.BlockMessages.{BlockMessages}
use Rattle.admission_log.specs.Messages.{messages_in, other_count, Said}
use Rattle.admission_log.specs.ReadMessages.{messages_kept, with_block}

same_block : (k l : ℕ) (x y : List ℕ) → k ≡ l → x ≡ y → let one : DataBlock = record { category = k; body = x } in let two : DataBlock = record { category = l; body = y } in one ≡ two
same_block k l x y p q = λ i. record { category = p i; body = q i }

-- a block of records
pub records_content : (uap : Uap) (block : Block) (rs : List DataRecord) → IsReadCategory uap → category_of uap ≡ block.cat → IsDataBlock (data_block block) → IsBody uap block.body.now rs → IsContent (records uap rs) × (block_of (records uap rs) ≡ data_block block)
records_content uap block rs is_read category fits body =
    let same : block_of (records uap rs) ≡ data_block block = same_block (category_of uap) block.cat (body_of rs) block.body.now category (sym body.whole) in
    ((is_read, body.are_records, subst IsDataBlock (sym same) fits), same)

-- a block that is passed over
pub other_content : (block : Block) → block.cat ≢ 34 → block.cat ≢ 48 → IsDataBlock (data_block block) → IsContent (other block.cat block.body.now) × (block_of (other block.cat block.body.now) ≡ data_block block)
other_content block not_034 not_048 fits = ((not_034, not_048, fits), refl)

-- what is said by the messages of these blocks, where so many others were passed over
abbrev saying : List BlockMessages → ℕ → Said
saying blocks count = record { messages = flat_map messages_kept blocks; other = count }

-- with the messages of one block more
pub said_with_records : (blocks new : List BlockMessages) (count : ℕ) (old : Said) (b : BlockMessages) (c : Content) → saying blocks count ≡ old → new ≡ blocks ++ b ∷ [] → messages_kept b ≡ messages_in c → other_count (c ∷ []) ≡ 0 → saying new count ≡ with_block c old
said_with_records blocks new count old b c same grown kept none =
    let messages : flat_map messages_kept new ≡ old.messages ++ messages_in c =
    ap (flat_map messages_kept) grown ∙ flat_map-append messages_kept blocks (b ∷ []) ∙ ap (λ t. flat_map messages_kept blocks ++ t) (append-nil (messages_kept b) ∙ kept) ∙ ap (λ s. s.messages ++ messages_in c) same in
    let others : count ≡ old.other + other_count (c ∷ []) = omega (arith, ap (λ s. s.other) same, none) in
    λ i. record { messages = messages i; other = others i }

-- with one block more that is passed over
pub said_with_other : (blocks : List BlockMessages) (count : ℕ) (old : Said) (category : ℕ) (body : List ℕ) → saying blocks count ≡ old → saying blocks (count + 1) ≡ with_block (other category body) old
said_with_other blocks count old category body same =
    let messages : flat_map messages_kept blocks ≡ old.messages ++ [] = ap (λ s. s.messages) same ∙ sym (append-nil old.messages) in
    let others : count + 1 ≡ old.other + 1 = ap (λ s. s.other + 1) same in
    λ i. record { messages = messages i; other = others i }
