-- A seat's view and the turn that it is seen as.
use Rattle.std.proofs.Common.{◌≡◌, ℕ, ◌<◌, ◌==◌, Bool, true, false, List, [], ◌∷◌, length, refl, sym, ap, ◌∙◌, subst, arith, eq-eqb, ne_eqb}
use Rattle.std.specs.Prelude.{if◌then◌else◌, count_by, Option, Some}
use mathlib.Core.Path.{Path}
use mathlib.Core.Logic.{dite}
use native.Mathlib.Decide.{ℕ_discrete}
use Rattle.atomic_table.specs.Seated.{TableId}
use Rattle.atomic_table.specs.Table.{Me}
use Rattle.turn_lock.specs.declared.rule.View.{View}
use Rattle.turn_lock.specs.declared.rule.Stage.TheVariants.{Idle}
use Rattle.turn_lock.specs.Lists.{is_member, Begins}
use Rattle.turn_lock.specs.Steps.{Adds, Found, view_after}
use Rattle.turn_lock.specs.Turns.{LockFacts, Token, number_in, token_of, Rests, IsTurnOf, turned, Finds}
use Rattle.turn_lock.proofs.Lists.{is_member_first}

some_same : {A : Type 0} {a b : A} → Path (Option A) (Some a) (Some b) → a ≡ b
some_same e = cc

-- whether the one number is 0
head_test : (n : ℕ) → is_member 0 (n ∷ []) ≡ (n == 0)
head_test n = dite (ℕ_discrete n 0) (λ e. is_member_first 0 n [] (sym e) ∙ sym (eq-eqb n 0 e)) (λ ne. ap (λ b. if b then true else false) (ne_eqb 0 n (λ e. ne (sym e))) ∙ sym (ne_eqb n 0 ne))

module _ {S E B : Type 0} (me : Me S (View E B)) where
  pub has_number : Rests me → 0 < length me.0.numbers
  has_number r = subst (λ l. 0 < length l) (sym r.one) (omega arith)

  -- what the seat is after a turn
  pub rests_again : (found left : List E) (after : Me S (View E B)) → Rests me → after ≡ (view_after me.0 found left Idle, []) → Rests after
  rests_again found left after r is = subst (λ (m : Me S (View E B)). Rests m) (sym is) record { empty = refl; idle = refl; one = r.one }

module _ {S E B : Type 0} (table : TableId) (me : Me S (View E B)) (turn : Token E B) where
  pub is_head : Rests me → token_of table me.0 ≡ turn → is_member 0 me.0.numbers ≡ (turn.number == 0)
  is_head r is = (ap (is_member 0) r.one ∙ head_test (number_in me.0.numbers)) ∙ ap (λ (t : Token E B). t.number == 0) is

  -- what the seat found, the turn found
  pub finds : (events : S → List E) (is_publish : E → Bool) (base : S → B) (lock : LockFacts B) (x : S) → Rests me → token_of table me.0 ≡ turn → IsTurnOf lock turn → Found events is_publish base me.0 x → Finds events is_publish base lock turn x
  finds events is_publish base lock x r is own f = let seen : me.0.seen ≡ turn.seen = ap (λ (t : Token E B). t.seen) is in record {
    rooted = some_same (sym f.based ∙ (ap (λ (t : Token E B). t.base) is ∙ own.base));
    begins = subst (λ l. Begins l (events x)) seen f.begins;
    head = λ e. sym (ap (count_by is_publish) seen) ∙ f.head (is_head r is ∙ eq-eqb turn.number 0 e);
  }

  pub adds : (is_publish : E → Bool) (found left : List E) → Rests me → token_of table me.0 ≡ turn → Adds is_publish (turn.number == 0) found left → Adds is_publish (is_member 0 me.0.numbers) found left
  adds is_publish found left r is a = subst (λ h. Adds is_publish h found left) (sym (is_head r is)) a

  -- what it is seen as after a turn
  pub turns : (found left : List E) (after : Me S (View E B)) (table' : TableId) → token_of table me.0 ≡ turn → table' ≡ table → after ≡ (view_after me.0 found left Idle, []) → token_of table' after.0 ≡ turned turn found left
  turns found left after table' is same now = ap (λ (m : Me S (View E B)). token_of table' m.0) now ∙ (ap (λ (z : TableId). token_of z (view_after me.0 found left Idle)) same ∙ ap (λ (t : Token E B). turned t found left) is)
