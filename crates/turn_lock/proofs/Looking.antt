-- A look at the served ticket keeps the rule of the lock.
use Rattle.std.proofs.Common.{◌≡◌, ℕ, ◌<◌, Bool, true, List, ◌∷◌, get_or, set, sym, refl, ap, ◌∙◌, subst, inr, arith}
use Rattle.std.specs.Prelude.{count_by, Some}
use mathlib.Core.Logic.{dite}
use mathlib.Core.Option.{none, some}
use native.Mathlib.Decide.{ℕ_discrete}
use lib.ListN.{get_elem?}
use lib.Seq.{set-get_or}
use Rattle.atomic_table.specs.Table.{State, Me, step, keeps, takes, stepped, Allows}
use Rattle.turn_lock.specs.declared.rule.View.{View}
use Rattle.turn_lock.specs.declared.rule.Stage.TheVariants.{Waiting, Holding}
use Rattle.turn_lock.specs.Lists.{is_member, Begins}
use Rattle.turn_lock.specs.Rule.{ticket_of, unraised, Course, Stands, Fits, Home, Kept}
use Rattle.turn_lock.specs.Steps.{with_stage, looked, raised}
use Rattle.turn_lock.proofs.Lists.{set_there, all_set, seat_set}
use Rattle.turn_lock.proofs.Stages.{busy}
use Rattle.turn_lock.proofs.Views.{restaged}
use Rattle.turn_lock.proofs.Holders.{unmoved, home_there}

module _ {S E B : Type 0} (events : S → List E) (is_publish : E → Bool) (base : S → B) (b : B) (seats : ℕ) where
  abbrev V : Type 0
  V = View E B

  abbrev St : Type 0
  St = State S V

  abbrev M : Type 0
  M = Me S V

  abbrev Rule : St → Type 0
  Rule = Kept events is_publish base b seats

  took : (s : St) (r : Rule s) (id t : ℕ) (me : M) (h : Home events is_publish base b seats r.course s) → get_elem? s.views id ≡ some me.0 → me.0.stage ≡ Waiting t → r.course.serving ≡ t
      → Rule (stepped s 1 (get_or s.words 1 0) id me.1 (with_stage me.0 (Holding t (events h.value))) (takes 0 h.value))
  took s r id t me h here is now = let c : Course E = r.course in let w : V = with_stage me.0 (Holding t (events h.value)) in let f = r.each_seat id me.0 here in
      let k = subst (Stands c id me.0.seen) is f.stands in let hi : t < c.ticket = k.0.0 in
      subst (λ (ws : List ℕ). Rule record { words = ws; homes = set s.homes 0 none; views = set s.views id w }) (sym (set-get_or s.words 1 0)) record {
        course = c;
        words = r.words;
        ahead = r.ahead;
        each_seat = all_set (Fits is_publish b seats c) s.views id w
            (restaged is_publish b seats c id me.0 (Holding t (events h.value)) f (busy me.0.numbers f.spent (λ e. cc)) (k.0, now, h.stands_for) (let z : unraised me.0.stage ≡ 0 = ap unraised is in omega arith))
            (λ j d _ e. r.each_seat j d e);
        each_ticket = λ q lo up. seat_set s.views id me.0 w (λ v. ticket_of v.stage ≡ some q) here (λ e. sym (ap ticket_of is) ∙ e) (c.ticket_seat q) (r.each_ticket q lo up);
        each_number = λ n l. seat_set s.views id me.0 w (λ v. is_member n v.numbers ≡ true) here (λ q. q) (c.number_seat n) (r.each_number n l);
        each_index = λ p l. seat_set s.views id me.0 w (λ v. is_member p v.mine ≡ true) here (λ q. q) (c.index_seat p) (r.each_index p l);
        slot = inr record {
          holder = w;
          holder_is = ap (get_elem? (set s.views id w)) (ap c.ticket_seat now ∙ k.0.1) ∙ set_there s.views id me.0 w here;
          holds = refl;
          gone = ap (λ l. set l 0 none) h.at_home;
          drawn = omega arith;
          raised = let e : c.published ≡ count_by is_publish c.history = h.raised in omega arith;
        };
      }

  pub looks : (slots id t : ℕ) (me : M) → me.0.stage ≡ Waiting t → Allows Rule slots id me 1 (λ x. x) (looked events is_publish base (step slots 1 0 0 none) me)
  looks slots id t me is s r _ at _ = let x : ℕ = get_or s.words 1 0 in let now : x ≡ r.course.serving = ap (λ l. get_or l 1 0) r.words in dite (ℕ_discrete x t)
      (λ e. let h = home_there events is_publish base b seats s r id t me.0 at is (sym now ∙ e) in let f = r.each_seat id me.0 at in let w : V = with_stage me.0 (Holding t (events h.value)) in (
        w,
        takes 0 h.value,
        ap (λ l. get_elem? l 0) h.at_home,
        took s r id t me h at is (sym now ∙ e),
        λ t' is'. let same : t ≡ t' = cc in (
          (λ _. (
            h.value,
            record { based = f.based (busy me.0.numbers f.spent (λ e. cc)) ∙ ap Some (sym h.rooted); begins = subst (Begins me.0.seen) (sym h.stands_for) f.begins; head = λ z. f.head z ∙ ap (count_by is_publish) (sym h.stands_for) },
            ap (λ (q : ℕ). (with_stage me.0 (Holding q (events h.value)), (0, h.value) ∷ me.1)) same,
          )),
          λ n. absurd (n (e ∙ same)),
        ),
      ))
      (λ n. (me.0, keeps, tt, unmoved events is_publish base b seats s r 1 id me.1 me.0 at, λ t' is'. let same : t ≡ t' = cc in ((λ e. absurd (n (e ∙ sym same))), λ _. refl)))
