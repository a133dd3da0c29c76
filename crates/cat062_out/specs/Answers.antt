-- What a reader's answer says of the block.
use Rattle.std.specs.Prelude.{Result, Ok, Err}
use Rattle.cat062_out.specs.declared.error.ProfileError.{ProfileError}
use Rattle.cat062_out.specs.declared.error.ProfileError.TheVariants as errors

-- unless memory is wanting, the answer is a value with this property
abbrev pub AnswersWith : {T : Type 0} → Result T ProfileError → (T → Type 0) → Type 0
AnswersWith (Ok v) P = P v
AnswersWith (Err errors.NoMemory) P = Unit {0}
AnswersWith (Err e) P = ⊥

-- unless memory is wanting, the answer is a refusal with this property
abbrev pub RefusesWith : {T : Type 0} → Result T ProfileError → (ProfileError → Type 0) → Type 0
RefusesWith (Ok v) P = ⊥
RefusesWith (Err errors.NoMemory) P = Unit {0}
RefusesWith (Err e) P = P e

-- a refusal for the block's sake has this property
abbrev pub IfRefused : {T : Type 0} → Result T ProfileError → (ProfileError → Type 0) → Type 0
IfRefused (Ok v) P = Unit {0}
IfRefused (Err errors.NoMemory) P = Unit {0}
IfRefused (Err e) P = P e
