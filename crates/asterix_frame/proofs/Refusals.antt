-- A refusal that is passed on by `?`.
use Rattle.std.proofs.Common.{◌≡◌, sym, subst, Result, Ok, Err}
use Rattle.std.specs.Prelude.{IsErrAnd}
use Rattle.asterix_frame.specs.declared.block.Malformed.{Malformed}
use Rattle.asterix_frame.specs.declared.block.BlocksError.{BlocksError}
use Rattle.asterix_frame.specs.declared.block.BlocksError.TheVariants as errors
use Rattle.asterix_frame.specs.Answers.{IfMalformed, AnswersWith, RefusesWith}

module _ (T S : Type 0) (P : Malformed → Type 0) where
  pub passes_malformed : (e : BlocksError) (Q : Malformed → Type 0) → IfMalformed {T = T} (Err e) P → ((m : Malformed) → P m → Q m) → IfMalformed {T = S} (Err e) Q
  passes_malformed (errors.Malformed m) Q h f = f m h
  passes_malformed errors.NoMemory Q h f = tt

  pub passes_answer : (e : BlocksError) (Q : S → Type 0) → IfMalformed {T = T} (Err e) P → ((m : Malformed) → P m → ⊥) → AnswersWith {T = S} (Err e) Q
  passes_answer (errors.Malformed m) Q h f = f m h
  passes_answer errors.NoMemory Q h f = tt

  pub passes_refusal : (e : BlocksError) (Q : Malformed → Type 0) → IfMalformed {T = T} (Err e) P → ((m : Malformed) → P m → Q m) → RefusesWith {T = S} (Err e) Q
  passes_refusal (errors.Malformed m) Q h f = f m h
  passes_refusal errors.NoMemory Q h f = tt

-- what `?` makes of a fault
pub told_malformed : {T : Type 0} (r : Result T BlocksError) (m : Malformed) (P : Malformed → Type 0) → IsErrAnd r (λ e. e ≡ errors.Malformed m) → P m → IfMalformed r P
told_malformed {T} (Ok v) m P h p = tt
told_malformed {T} (Err e) m P h p = subst (λ e. IfMalformed {T = T} (Err e) P) (sym h) p

pub told_refusal : {T : Type 0} (r : Result T BlocksError) (m : Malformed) (P : Malformed → Type 0) → IsErrAnd r (λ e. e ≡ errors.Malformed m) → P m → RefusesWith r P
told_refusal {T} (Ok v) m P h p = absurd h
told_refusal {T} (Err e) m P h p = subst (λ e. RefusesWith {T = T} (Err e) P) (sym h) p
