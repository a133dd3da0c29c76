-- A datagram, read block by block: what it says so far, and where the first fault is.
use Rattle.std.proofs.Common.{◌≡◌, ◌∙◌, ap, sym, refl, ℕ, ◌+◌, ◌*◌, ◌≤◌, List, [], ◌∷◌, ◌++◌, length, drop, true, false, cond, arith, length-append, append_assoc, append-nil}
use Rattle.std.specs.List.{AllByRecursion}
use Rattle.std.proofs.lemmas.List.{drop_all}
use Rattle.std.proofs.lemmas.Grind.{flat_map-append}
use Rattle.std.proofs.lemmas.List.Sums.{sum_by-append}
use Rattle.asterix_frame.specs.declared.block.Block.{Block}
use Rattle.asterix_frame.specs.declared.block.Malformed.{Malformed}
use Rattle.asterix_frame.specs.Tables.{category_of}
use Rattle.asterix_frame.specs.Blocks.{DataBlock, encoded}
use Rattle.asterix_frame.specs.Offsets.{data_block, BeginsBlock}
use Rattle.asterix_frame.specs.Answers.{BeginsNoBlock}
use Rattle.asterix_frame.specs.Datagrams.{Content, IsContent, IsDatagram, DatagramFault, BeginsFaultyBlock, no_block, no_records, block_of, datagram_of}
use Rattle.asterix_frame.proofs.Datagrams.{first_fault}
use Rattle.admission_log.specs.Messages.{messages_in, messages_of, is_other, other_count, Said, said_by}
use Rattle.admission_log.specs.ReadMessages.{with_block}
use Rattle.admission_log.specs.Brought.{IsFaultOfBlock}

-- this is what these blocks say, and they are the datagram up to that place
pub record Holds (datagram : List ℕ) (from : ℕ) (said : Said) (contents : List Content) : Type 0 where
  pub are_contents : AllByRecursion IsContent contents
  pub whole : datagram ≡ datagram_of contents ++ drop from datagram
  pub place : from ≡ length (datagram_of contents)
  pub within : from ≤ length datagram
  pub said_is : said ≡ said_by contents
  pub few : 3 * said.other ≤ from

pub holds_none : (datagram : List ℕ) (said : Said) → said ≡ said_by [] → Holds datagram 0 said []
holds_none datagram said same = record {
  are_contents = tt;
  whole = refl;
  place = refl;
  within = omega arith;
  said_is = same;
  few = omega (arith, ap (λ s. s.other) same);
}

all_more : (contents : List Content) (c : Content) → AllByRecursion IsContent contents → IsContent c → AllByRecursion IsContent (contents ++ c ∷ [])
all_more [] c all is = (is, tt)
all_more (x ∷ xs) c all is = (all.0, all_more xs c all.1 is)

datagram-more : (contents : List Content) (c : Content) (b : DataBlock) → block_of c ≡ b → datagram_of (contents ++ c ∷ []) ≡ datagram_of contents ++ encoded b
datagram-more contents c b same =
    flat_map-append (λ x. encoded (block_of x)) contents (c ∷ []) ∙ ap (λ t. datagram_of contents ++ t) (append-nil (encoded (block_of c)) ∙ ap encoded same)

messages-more : (contents : List Content) (c : Content) → messages_of (contents ++ c ∷ []) ≡ messages_of contents ++ messages_in c
messages-more contents c = flat_map-append messages_in contents (c ∷ []) ∙ ap (λ t. messages_of contents ++ t) (append-nil (messages_in c))

other-more : (contents : List Content) (c : Content) → other_count (contents ++ c ∷ []) ≡ other_count contents + other_count (c ∷ [])
other-more contents c = sum_by-append (λ x. cond (is_other x) 1 0) contents (c ∷ [])

one_other : (c : Content) → other_count (c ∷ []) ≤ 1
one_other c = elim (is_other c) as (λ b. 0 + cond b 1 0 ≤ 1) [ true ↦ omega arith | false ↦ omega arith ]

-- one more block
pub holds_more : (datagram : List ℕ) (from : ℕ) (old new : Said) (contents : List Content) (block : Block) (c : Content)
    → Holds datagram from old contents → BeginsBlock datagram from block → IsContent c → block_of c ≡ data_block block → new ≡ with_block c old
    → (end : ℕ) → end ≡ block.at + length block.body.now → Holds datagram end new (contents ++ c ∷ [])
holds_more datagram from old new contents block c h begins is same with_c end end_is =
    let rest = drop end datagram in
    let grown = datagram-more contents c (data_block block) same in
    let octets : drop from datagram ≡ encoded (data_block block) ++ rest = begins.octets ∙ ap (λ k. encoded (data_block block) ++ drop k datagram) (sym end_is) in
    let said_more : with_block c (said_by contents) ≡ said_by (contents ++ c ∷ []) = λ i. record { messages = sym (messages-more contents c) i; other = sym (other-more contents c) i } in
    let other : new.other ≡ old.other + other_count (c ∷ []) = ap (λ s. s.other) with_c in
    record {
      are_contents = all_more contents c h.are_contents is;
      whole = h.whole ∙ ap (λ t. datagram_of contents ++ t) octets ∙ sym (append_assoc (datagram_of contents) (encoded (data_block block)) rest) ∙ sym (ap (λ t. t ++ rest) grown);
      place = omega (arith, end_is, begins.at_is, h.place, ap length grown, length-append (datagram_of contents) (encoded (data_block block)));
      within = omega (arith, end_is, begins.within);
      said_is = with_c ∙ ap (with_block c) h.said_is ∙ said_more;
      few = omega (arith, other, h.few, one_other c, end_is, begins.at_is);
    }

-- ---- how it ends

pub is_datagram : (datagram : List ℕ) (from : ℕ) (said : Said) (contents : List Content) → Holds datagram from said contents → length datagram ≤ from → IsDatagram datagram contents
is_datagram datagram from said contents h over = record {
  are_contents = h.are_contents;
  whole = h.whole ∙ ap (λ t. datagram_of contents ++ t) (drop_all from datagram over) ∙ append-nil (datagram_of contents);
}

pub head_fault : (datagram : List ℕ) (from : ℕ) (said : Said) (contents : List Content) (m : Malformed) → Holds datagram from said contents → BeginsNoBlock datagram from m → DatagramFault datagram m.offset m.cause
head_fault datagram from said contents m h none = record {
  prefix = contents;
  rest = drop from datagram;
  inside = none.inside;
  are_contents = h.are_contents;
  whole = h.whole;
  none = no_block none.none;
  offset_is = omega (arith, none.offset_is, h.place);
}

pub records_fault : (datagram : List ℕ) (from : ℕ) (said : Said) (contents : List Content) (block : Block) (m : Malformed) → Holds datagram from said contents → BeginsBlock datagram from block → IsFaultOfBlock block m → DatagramFault datagram m.offset m.cause
records_fault datagram from said contents block m h begins fault =
    let back = sym fault.category in
    let same : data_block block ≡ record { category = category_of fault.uap; body = block.body.now } = λ i. record { category = back i; body = block.body.now } in
    let rest = drop (block.at + length block.body.now) datagram in
    let faulty : BeginsFaultyBlock (drop from datagram) (3 + fault.fault.body_offset) m.cause = record {
      uap = fault.uap;
      body = block.body.now;
      rest = rest;
      body_offset = fault.fault.body_offset;
      is_read = fault.is_read;
      is_block = begins.fits;
      begins = begins.octets ∙ ap (λ b. encoded b ++ rest) same;
      fault = fault.fault.fault;
      inside_is = refl;
    } in
    record {
      prefix = contents;
      rest = drop from datagram;
      inside = 3 + fault.fault.body_offset;
      are_contents = h.are_contents;
      whole = h.whole;
      none = no_records faulty;
      offset_is = omega (arith, fault.fault.offset_is, begins.at_is, h.place);
    }

-- a datagram has one first fault
pub same_malformed : (datagram : List ℕ) (x m : Malformed) → DatagramFault datagram x.offset x.cause → DatagramFault datagram m.offset m.cause → x ≡ m
same_malformed datagram x m h k =
    let same = first_fault datagram x.offset x.cause m.offset m.cause h k in
    λ i. record { offset = same.0 i; cause = same.1 i }
