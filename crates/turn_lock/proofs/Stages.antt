-- What the stage of a turn says, and which stage a commit leaves.
use Rattle.std.proofs.Common.{◌≡◌, ◌≢◌, ℕ, ◌+◌, ◌<◌, ◌≤◌, ◌==◌, Bool, true, false, true≢false, List, [], ◌++◌, length, sym, refl, ap, ◌∙◌, arith, eq-eqb, ne_eqb}
use Rattle.std.specs.Prelude.{if◌then◌else◌, count_by, Option, Some}
use Rattle.std.proofs.lemmas.List.Sums.{count_by-le-length}
use mathlib.Core.Path.{Path}
use mathlib.Core.Logic.{dite}
use native.Mathlib.Decide.{ℕ_discrete}
use Rattle.turn_lock.specs.declared.rule.Stage.{Stage}
use Rattle.turn_lock.specs.declared.rule.Stage.TheVariants.{Idle, Waiting, Holding, Raising, Committed}
use Rattle.turn_lock.specs.Rule.{is_out, unraised, Course, HasTicket, Stands}
use Rattle.turn_lock.specs.Steps.{stage_after}
use Rattle.turn_lock.proofs.Lists.{count_by-append}

pub some_same : {A : Type 0} {a b : A} → Path (Option A) (Some a) (Some b) → a ≡ b
some_same e = cc

pub not_true : (c : Bool) → (c ≡ true → ⊥) → c ≡ false
not_true true h = absurd (h refl)
not_true false h = refl

-- a view whose seat isn't at rest has a number
pub busy : {E : Type 0} {st : Stage E} {mine : List ℕ} (ns : List ℕ) → (length ns ≡ 0 → (mine ≡ []) × (st ≡ Idle)) → (st ≡ Idle → ⊥) → 0 < length ns
busy ns spent out = dite (ℕ_discrete (length ns) 0) (λ z. absurd (out (spent z).1)) (λ n. omega arith)

module _ {E : Type 0} (c : Course E) (seat : ℕ) (seen : List E) where
  -- who has the slot is the seat whose ticket is served
  pub lone : (st : Stage E) → is_out st ≡ true → Stands c seat seen st → c.ticket_seat c.serving ≡ seat
  lone Idle o k = absurd (true≢false (sym o))
  lone (Waiting t) o k = absurd (true≢false (sym o))
  lone (Holding t found) o k = ap c.ticket_seat k.1 ∙ k.0.1
  lone (Raising t) o k = ap c.ticket_seat k.1 ∙ k.0.1
  lone (Committed t) o k = ap c.ticket_seat k.1 ∙ k.0.1

  -- a stage goes on to stand where the seat's tickets stay its own and, while it has the slot, nothing is served or added
  pub stays : (d : Course E) → ((t : ℕ) → c.serving ≤ t → HasTicket c seat t → HasTicket d seat t × (d.serving ≤ t))
      → (st : Stage E) → (is_out st ≡ true → (c.serving ≡ d.serving) × (c.history ≡ d.history)) → Stands c seat seen st → Stands d seat seen st
  stays d more Idle out k = tt
  stays d more (Waiting t) out k = more t k.1 k.0
  stays d more (Holding t found) out k = let o = out refl in let e : c.serving ≡ t = k.1 in ((more t (omega arith) k.0).0, sym o.0 ∙ e, k.2 ∙ o.1)
  stays d more (Raising t) out k = let o = out refl in let e : c.serving ≡ t = k.1 in ((more t (omega arith) k.0).0, sym o.0 ∙ e, k.2 ∙ o.1)
  stays d more (Committed t) out k = let o = out refl in let e : c.serving ≡ t = k.1 in ((more t (omega arith) k.0).0, sym o.0 ∙ e, k.2 ∙ o.1)

module _ {E : Type 0} (is_publish : E → Bool) (t : ℕ) (found left : List E) where
  -- what holds of both stages that a commit may leave
  pub after_elim : (F : Stage E → Type 0) → F (Committed t) → F (Raising t) → F (stage_after is_publish t found left)
  after_elim F plain publishing = go (count_by is_publish found == count_by is_publish left)
    where
      go : (e : Bool) → F (if e then Committed t else Raising t)
      go true = plain
      go false = publishing

  pub after_out : is_out (stage_after is_publish t found left) ≡ true
  after_out = after_elim (λ st. is_out st ≡ true) refl refl

  pub after_same : count_by is_publish found ≡ count_by is_publish left → stage_after is_publish t found left ≡ Committed t
  after_same e = ap (λ z. if z then Committed t else Raising t) (eq-eqb (count_by is_publish found) (count_by is_publish left) e)

  pub after_more : count_by is_publish found ≢ count_by is_publish left → stage_after is_publish t found left ≡ Raising t
  after_more n = ap (λ z. if z then Committed t else Raising t) (ne_eqb (count_by is_publish found) (count_by is_publish left) n)

  -- the published word is behind by the publishing event that was added
  pub after_unraised : (published : ℕ) (fresh : List E) → left ≡ found ++ fresh → length fresh ≤ 1 → published ≡ count_by is_publish found
      → published + unraised (stage_after is_publish t found left) ≡ count_by is_publish left
  after_unraised published fresh is few at = let size : count_by is_publish left ≡ count_by is_publish found + count_by is_publish fresh = ap (count_by is_publish) is ∙ count_by-append is_publish found fresh in
      let most = count_by-le-length is_publish fresh in dite (ℕ_discrete (count_by is_publish found) (count_by is_publish left))
      (λ e. let z : unraised (stage_after is_publish t found left) ≡ 0 = ap unraised (after_same e) in omega arith)
      (λ n. let z : unraised (stage_after is_publish t found left) ≡ 1 = ap unraised (after_more n) in omega arith)
