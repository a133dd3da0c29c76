-- What an answer says of the datagram.
use Rattle.std.specs.Prelude.{◌≡◌, ℕ, ◌+◌, List, Result, Ok, Err, drop}
use Rattle.asterix_frame.specs.declared.block.Malformed.{Malformed}
use Rattle.asterix_frame.specs.declared.block.BlocksError.{BlocksError}
use Rattle.asterix_frame.specs.declared.block.BlocksError.TheVariants as errors
use Rattle.asterix_frame.specs.Blocks.{BeginsNone}

-- from that offset on no block begins, and this is told of it
pub record BeginsNoBlock (datagram : List ℕ) (from : ℕ) (m : Malformed) : Type 0 where
  pub inside : ℕ
  pub none : BeginsNone (drop from datagram) inside m.cause
  pub offset_is : m.offset ≡ from + inside

-- unless memory is wanting, the answer is a value with this property
abbrev pub AnswersWith : {T : Type 0} → Result T BlocksError → (T → Type 0) → Type 0
AnswersWith (Ok v) P = P v
AnswersWith (Err (errors.Malformed m)) P = ⊥
AnswersWith (Err errors.NoMemory) P = Unit {0}

-- unless memory is wanting, the answer is a refusal with this property
abbrev pub RefusesWith : {T : Type 0} → Result T BlocksError → (Malformed → Type 0) → Type 0
RefusesWith (Ok v) P = ⊥
RefusesWith (Err (errors.Malformed m)) P = P m
RefusesWith (Err errors.NoMemory) P = Unit {0}

-- a refusal for the datagram's sake has this property
abbrev pub IfMalformed : {T : Type 0} → Result T BlocksError → (Malformed → Type 0) → Type 0
IfMalformed (Ok v) P = Unit {0}
IfMalformed (Err (errors.Malformed m)) P = P m
IfMalformed (Err errors.NoMemory) P = Unit {0}
