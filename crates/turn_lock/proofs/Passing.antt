-- Giving the slot back keeps the rule of the lock.
use Rattle.std.proofs.Common.{◌≡◌, ◌≢◌, ℕ, ◌+◌, ◌<◌, ◌≤◌, Bool, true, false, List, [], ◌∷◌, length, set, sym, refl, ap, ◌∙◌, subst, inl, arith}
use Rattle.std.specs.Prelude.{count_by, Some}
use mathlib.Core.Option.{none, some, some-injective}
use lib.ListN.{get_elem?}
use Rattle.atomic_table.specs.Table.{State, Me, step, gives, stepped, Allows}
use Rattle.turn_lock.specs.declared.rule.View.{View}
use Rattle.turn_lock.specs.declared.rule.Stage.TheVariants.{Idle, Committed}
use Rattle.turn_lock.specs.Lists.{is_member}
use Rattle.turn_lock.specs.Rule.{is_out, ticket_of, unraised, Course, Stands, Fits, Kept}
use Rattle.turn_lock.specs.Steps.{with_stage, raised, passed}
use Rattle.turn_lock.proofs.Lists.{all_set, seat_set}
use Rattle.turn_lock.proofs.Stages.{some_same, not_true, busy, stays}
use Rattle.turn_lock.proofs.Views.{restands}
use Rattle.turn_lock.proofs.Holders.{not_out, away_now, behind}

module _ {S E B : Type 0} (events : S → List E) (is_publish : E → Bool) (base : S → B) (b : B) (seats : ℕ) where
  abbrev V : Type 0
  V = View E B

  abbrev St : Type 0
  St = State S V

  abbrev M : Type 0
  M = Me S V

  abbrev Rule : St → Type 0
  Rule = Kept events is_publish base b seats

  gave : (s : St) (r : Rule s) (id t n : ℕ) (me : M) (y : S) → get_elem? s.views id ≡ some me.0 → me.0.stage ≡ Committed t → me.1 ≡ (0, y) ∷ [] → events y ≡ me.0.seen → me.0.base ≡ Some (base y) → n ≡ t + 1
      → Rule (stepped s 1 n id me.1 (with_stage me.0 Idle) gives)
  gave s r id t n me y here is has_it right rooted up = let c : Course E = r.course in let f = r.each_seat id me.0 here in let k = subst (Stands c id me.0.seen) is f.stands in
      let hi : t < c.ticket = k.0.0 in let now : c.serving ≡ t = k.1 in let w : V = with_stage me.0 Idle in let held : c.ticket_seat c.serving ≡ id = ap c.ticket_seat k.1 ∙ k.0.1 in
      let d : Course E = record c { serving = n } in let some_there : 0 < length me.0.numbers = busy me.0.numbers f.spent (λ e. cc) in let none_behind : unraised me.0.stage ≡ 0 = ap unraised is in
      subst (λ (q : List (ℕ × S)). Rule (stepped s 1 n id q w gives)) (sym has_it) record {
        course = d;
        words = ap (λ l. set l 1 n) r.words;
        ahead = omega arith;
        each_seat = all_set (Fits is_publish b seats d) s.views id w
            record {
              based = f.based;
              spent = λ z. absurd (omega arith);
              numbered = f.numbered;
              numbered_once = f.numbered_once;
              stands = tt;
              begins = f.begins;
              head = f.head;
              made = f.made;
              made_once = f.made_once;
              told = f.told;
              raised = let low : count_by is_publish me.0.seen ≤ c.published + unraised me.0.stage = f.raised in omega arith;
              joined = f.joined;
            }
            (λ j u other e. let g = r.each_seat j u e in restands is_publish b seats c j u d g refl (omega arith) (λ _. refl) (λ _. refl)
            (stays c j u.seen d (λ q lo has. (has, let ne : q ≢ t = λ e. other (sym has.1 ∙ (ap c.ticket_seat e ∙ k.0.1)) in omega arith)) u.stage
            (λ out. absurd (not_out events is_publish base b seats s r id j u held other e out)) g.stands));
        each_ticket = λ q lo hi. seat_set s.views id me.0 w (λ v. ticket_of v.stage ≡ some q) here
            (λ e. let same : t ≡ q = some-injective t q (sym (ap ticket_of is) ∙ e) in absurd (omega arith)) (c.ticket_seat q) (r.each_ticket q (omega arith) hi);
        each_number = λ m l. seat_set s.views id me.0 w (λ v. is_member m v.numbers ≡ true) here (λ q. q) (c.number_seat m) (r.each_number m l);
        each_index = λ p l. seat_set s.views id me.0 w (λ v. is_member p v.mine ≡ true) here (λ q. q) (c.index_seat p) (r.each_index p l);
        slot = let a = away_now events is_publish base b seats s r id me.0 here (ap is_out is) in inl record {
          value = y;
          at_home = ap (λ l. set l 0 (some y)) a.gone;
          stands_for = right ∙ k.2;
          rooted = some_same (sym rooted ∙ f.based some_there);
          nobody = all_set (λ _ v. is_out v.stage ≡ false) s.views id w refl (λ j u other e. not_true (is_out u.stage) (not_out events is_publish base b seats s r id j u held other e));
          raised = let e = behind events is_publish base b seats s r id me.0 here (ap is_out is) in omega arith;
        };
      }

  pub passes : (slots id t n : ℕ) (me : M) (y : S) → me.0.stage ≡ Committed t → me.1 ≡ (0, y) ∷ [] → events y ≡ me.0.seen → me.0.base ≡ Some (base y) → n ≡ t + 1
      → Allows Rule slots id me 1 (λ _. n) (λ _. passed (step slots 1 n 0 none) me n)
  passes slots id t n me y is has_it right rooted up s r _ at _ = (with_stage me.0 Idle, gives, tt, gave s r id t n me y at is has_it right rooted up, λ t' is'. refl)
