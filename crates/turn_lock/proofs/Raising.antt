-- Raising the published word keeps the rule of the lock.
use Rattle.std.proofs.Common.{◌≡◌, ℕ, ◌+◌, ◌≤◌, Bool, true, List, set, sym, refl, ap, ◌∙◌, subst, inr, arith}
use Rattle.std.specs.Prelude.{count_by}
use mathlib.Core.Option.{none, some}
use lib.ListN.{get_elem?}
use Rattle.atomic_table.specs.Table.{State, Me, step, keeps, stepped, Allows}
use Rattle.turn_lock.specs.declared.rule.View.{View}
use Rattle.turn_lock.specs.declared.rule.Stage.TheVariants.{Raising, Committed}
use Rattle.turn_lock.specs.Lists.{is_member}
use Rattle.turn_lock.specs.Rule.{is_out, ticket_of, unraised, Course, Stands, Fits, Kept}
use Rattle.turn_lock.specs.Steps.{with_stage, raised}
use Rattle.turn_lock.proofs.Lists.{set_there, all_set, seat_set, each_more}
use Rattle.turn_lock.proofs.Stages.{stays}
use Rattle.turn_lock.proofs.Views.{restands}
use Rattle.turn_lock.proofs.Holders.{away_now, behind}

module _ {S E B : Type 0} (events : S → List E) (is_publish : E → Bool) (base : S → B) (b : B) (seats : ℕ) where
  abbrev V : Type 0
  V = View E B

  abbrev St : Type 0
  St = State S V

  abbrev M : Type 0
  M = Me S V

  abbrev Rule : St → Type 0
  Rule = Kept events is_publish base b seats

  raised_up : (s : St) (r : Rule s) (id t n : ℕ) (me : M) → get_elem? s.views id ≡ some me.0 → me.0.stage ≡ Raising t → n ≡ count_by is_publish me.0.seen
      → Rule (stepped s 3 n id me.1 (with_stage me.0 (Committed t)) keeps)
  raised_up s r id t n me here is count = let c : Course E = r.course in let f = r.each_seat id me.0 here in let k = subst (Stands c id me.0.seen) is f.stands in
      let w : V = with_stage me.0 (Committed t) in let held : c.ticket_seat c.serving ≡ id = ap c.ticket_seat k.1 ∙ k.0.1 in let d : Course E = record c { published = n } in
      let one : unraised me.0.stage ≡ 1 = ap unraised is in let all : count_by is_publish me.0.seen ≡ count_by is_publish c.history = ap (count_by is_publish) k.2 in
      let up : n ≡ c.published + 1 = let e = behind events is_publish base b seats s r id me.0 here (ap is_out is) in omega arith in record {
        course = d;
        words = ap (λ l. set l 3 n) r.words;
        ahead = r.ahead;
        each_seat = all_set (Fits is_publish b seats d) s.views id w
            record {
              based = f.based;
              spent = λ z. let e = (f.spent z).1 in absurd (cc);
              numbered = f.numbered;
              numbered_once = f.numbered_once;
              stands = k;
              begins = f.begins;
              head = f.head;
              made = f.made;
              made_once = f.made_once;
              told = let low : me.0.told ≤ c.published = f.told in omega arith;
              raised = omega arith;
              joined = each_more (λ (x : List E × ℕ) q. let low : x.1 ≤ c.published = q.1 in (q.0, omega arith)) me.0.joined f.joined;
            }
            (λ j u other e. let g = r.each_seat j u e in restands is_publish b seats c j u d g refl (omega arith) (λ _. refl) (λ _. refl)
            (stays c j u.seen d (λ q lo has. (has, lo)) u.stage (λ _. (refl, refl)) g.stands));
        each_ticket = λ q lo hi. seat_set s.views id me.0 w (λ v. ticket_of v.stage ≡ some q) here (λ e. sym (ap ticket_of is) ∙ e) (c.ticket_seat q) (r.each_ticket q lo hi);
        each_number = λ m l. seat_set s.views id me.0 w (λ v. is_member m v.numbers ≡ true) here (λ q. q) (c.number_seat m) (r.each_number m l);
        each_index = λ p l. seat_set s.views id me.0 w (λ v. is_member p v.mine ≡ true) here (λ q. q) (c.index_seat p) (r.each_index p l);
        slot = let a = away_now events is_publish base b seats s r id me.0 here (ap is_out is) in inr record {
          holder = w;
          holder_is = ap (get_elem? (set s.views id w)) held ∙ set_there s.views id me.0 w here;
          holds = refl;
          gone = a.gone;
          drawn = a.drawn;
          raised = omega arith;
        };
      }

  pub raises : (slots id t n : ℕ) (me : M) → me.0.stage ≡ Raising t → n ≡ count_by is_publish me.0.seen → Allows Rule slots id me 3 (λ _. n) (λ _. raised (step slots 3 n 0 none) me n)
  raises slots id t n me is count s r _ at _ = (with_stage me.0 (Committed t), keeps, tt, raised_up s r id t n me at is count, λ t' is'. let same : t ≡ t' = cc in ap (λ (q : ℕ). (with_stage me.0 (Committed q), me.1)) same)
