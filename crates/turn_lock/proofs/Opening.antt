-- A new table meets the rule.
use Rattle.std.proofs.Common.{◌≡◌, ℕ, zero, suc, ◌+◌, ◌<◌, ◌≤◌, Bool, true, false, true≢false, List, [], ◌∷◌, refl, sym, ◌∙◌, subst, inl, arith}
use mathlib.Core.Logic.{dite}
use mathlib.Core.Option.{some, some-injective, some-ne-none}
use native.Mathlib.Decide.{ℕ_discrete}
use lib.ListN.{get_elem?}
use Rattle.atomic_table.specs.Table.{opening}
use Rattle.turn_lock.specs.declared.rule.View.{View}
use Rattle.turn_lock.specs.Lists.{is_member, count_of, below}
use Rattle.turn_lock.specs.Rule.{is_out, Course, Fits, Kept, beginner}
use Rattle.turn_lock.proofs.Lists.{is_member_first, is_member_other, is_member_counted, count_of_head, count_of_tail}

-- the numbers below n are those, each once
pub below_less : (n k : ℕ) → is_member k (below n) ≡ true → k < n
below_less zero k h = absurd (true≢false (sym h))
below_less (suc n) k h = dite (ℕ_discrete k n) (λ e. omega arith) (λ ne. let l = below_less n k (sym (is_member_other k n (below n) ne) ∙ h) in omega arith)

pub below_there : (n k : ℕ) → k < n → is_member k (below n) ≡ true
below_there zero k l = absurd (omega arith)
below_there (suc n) k l = dite (ℕ_discrete k n) (λ e. is_member_first k n (below n) e) (λ ne. is_member_other k n (below n) ne ∙ below_there n k (omega arith))

pub below_once : (n k : ℕ) → count_of k (below n) ≤ 1
below_once zero k = omega arith
below_once (suc n) k = let h = below_once n k in dite (ℕ_discrete k n)
    (λ e. let one : count_of k (n ∷ below n) ≡ 1 + count_of k (below n) = count_of_head k n (below n) e in
    let none_there : count_of k (below n) ≡ 0 = dite (ℕ_discrete (count_of k (below n)) 0) (λ z. z) (λ nz. let l = below_less n k (is_member_counted k (below n) (omega arith)) in absurd (omega arith)) in omega arith)
    (λ ne. let same : count_of k (n ∷ below n) ≡ count_of k (below n) = count_of_tail k n (below n) ne in omega arith)

module _ {S E B : Type 0} (events : S → List E) (is_publish : E → Bool) (base : S → B) where
  pub opens : (seats : ℕ) (value : S) → events value ≡ [] → Kept events is_publish base (base value) seats (opening (0 ∷ 0 ∷ 0 ∷ 0 ∷ []) (value ∷ []) (beginner (base value) seats))
  opens seats value empty = let c : Course E = record { history = []; ticket = 0; serving = 0; published = 0; ticket_seat = λ _. 0; number_seat = λ _. 0; index_seat = λ _. 0 } in let first : View E B = beginner (base value) seats in
      let fits : Fits is_publish (base value) seats c 0 first = record {
        based = λ _. refl;
        spent = λ _. (refl, refl);
        numbered = λ n h. (below_less seats n h, refl);
        numbered_once = below_once seats;
        stands = tt;
        begins = ([], refl);
        head = λ _. refl;
        made = λ p h. absurd (true≢false (sym h));
        made_once = λ p. omega arith;
        told = omega arith;
        raised = omega arith;
        joined = tt;
      } in
      let only : (F : ℕ → View E B → Type 0) → F 0 first → (i : ℕ) (v : View E B) → get_elem? (first ∷ []) i ≡ some v → F i v = λ F f i v e. one_only F f i v e in record {
        course = c;
        words = refl;
        ahead = omega arith;
        each_seat = only (Fits is_publish (base value) seats c) fits;
        each_ticket = λ t lo hi. absurd (omega arith);
        each_number = λ n l. (first, refl, below_there seats n l);
        each_index = λ p l. absurd (omega arith);
        slot = inl record {
          value = value;
          at_home = refl;
          stands_for = empty;
          rooted = refl;
          nobody = only (λ _ v. is_out v.stage ≡ false) refl;
          raised = refl;
        };
      }
    where
      one_only : {first : View E B} (F : ℕ → View E B → Type 0) → F 0 first → (i : ℕ) (v : View E B) → get_elem? (first ∷ []) i ≡ some v → F i v
      one_only {first} F f zero v e = subst (F 0) (some-injective first v e) f
      one_only F f (suc i) v e = absurd (some-ne-none v (sym e))

  pub opens_at : (seats : ℕ) (value key : S) (slots : List S) → events value ≡ [] → key ≡ value → slots ≡ value ∷ [] → Kept events is_publish base (base key) seats (opening (0 ∷ 0 ∷ 0 ∷ 0 ∷ []) slots (beginner (base key) seats))
  opens_at seats value key slots empty same is = subst (λ (z : S × List S). Kept events is_publish base (base z.0) seats (opening (0 ∷ 0 ∷ 0 ∷ 0 ∷ []) z.1 (beginner (base z.0) seats))) (λ i. (sym same i, sym is i)) (opens seats value empty)
