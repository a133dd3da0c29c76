-- A refusal of one record is passed on by `?`.
use Rattle.std.proofs.Common.{◌≡◌, sym, subst, ℕ, List, Result, Ok, Err}
use Rattle.std.specs.Prelude.{IsErrAnd}
use Rattle.asterix_frame.specs.declared.block.Block.{Block}
use Rattle.asterix_frame.specs.declared.tables.Uap.{Uap}
use Rattle.asterix_frame.specs.Elements.{Element}
use Rattle.cat062_out.specs.declared.error.ProfileError.{ProfileError}
use Rattle.cat062_out.specs.declared.error.ProfileError.TheVariants as errors
use Rattle.cat062_out.specs.Answers.{AnswersWith, RefusesWith, IfRefused}
use Rattle.cat062_out.specs.Profile.{AreWritten, IsRefusal, BeginsNoValue}
use Rattle.cat062_out.proofs.Profiles.{IsProfile}
use Rattle.cat062_out.proofs.ProfileReading.{SoFar, refused_there, not_read, refuses_so}

module _ (T S U : Type 0) (uap : Uap) (Is : T → Type 0) (items : T → List Element) (profile : IsProfile uap Is items) (block : Block) (from : ℕ) (values : List T) (so_far : SoFar T uap Is items block.body.now from values) where
  -- what is told of the record that begins there is told of the block
  refused : (e : ProfileError) → IfRefused {T = U} (Err e) (λ e. BeginsNoValue uap Is items block from e) → IfRefused {T = S} (Err e) (λ e. IsRefusal uap Is items block e)
  refused (errors.Malformed m) f = refused_there T uap Is items block from values (errors.Malformed m) so_far f
  refused (errors.Profile at) f = refused_there T uap Is items block from values (errors.Profile at) so_far f
  refused errors.NoMemory f = tt

  pub passes_answer : (r : Result S ProfileError) (e : ProfileError) (P : S → Type 0) (vs : List T) → IsErrAnd r (λ x. x ≡ e) → IfRefused {T = U} (Err e) (λ e. BeginsNoValue uap Is items block from e)
      → AreWritten Is items block.body.now vs → AnswersWith r P
  passes_answer (Ok v) e P vs h f a = absurd h
  passes_answer (Err x) e P vs h f a = subst (λ x. AnswersWith {T = S} (Err x) P) (sym h) (not_read T uap Is items profile block S e P vs (refused e f) a)

  pub passes_refusal : (r : Result S ProfileError) (e e' : ProfileError) → IsErrAnd r (λ x. x ≡ e) → IfRefused {T = U} (Err e) (λ e. BeginsNoValue uap Is items block from e) → IsRefusal uap Is items block e'
      → RefusesWith r (λ x. x ≡ e')
  passes_refusal (Ok v) e e' h f g = absurd h
  passes_refusal (Err x) e e' h f g = subst (λ x. RefusesWith {T = S} (Err x) (λ y. y ≡ e')) (sym h) (refuses_so T uap Is items profile block S e e' (refused e f) g)
