-- A load of the published word keeps the rule of the lock.
use Rattle.std.proofs.Common.{◌≡◌, ◌⊎◌, ℕ, ◌+◌, ◌≤◌, Bool, true, false, List, get_or, set, sym, refl, ap, subst, ⊎_elim, inl, inr, arith}
use Rattle.std.specs.Prelude.{count_by}
use mathlib.Core.Option.{none, some}
use lib.ListN.{get_elem?}
use lib.Seq.{set-get_or}
use Rattle.atomic_table.specs.Table.{State, Me, step, keeps, stepped, Allows}
use Rattle.turn_lock.specs.declared.rule.View.{View}
use Rattle.turn_lock.specs.declared.rule.Stage.TheVariants.{Idle}
use Rattle.turn_lock.specs.Lists.{is_member}
use Rattle.turn_lock.specs.Rule.{is_out, ticket_of, unraised, Course, Fits, Home, Away, Kept}
use Rattle.turn_lock.specs.Steps.{raised, refreshed}
use Rattle.turn_lock.proofs.Lists.{all_set, seat_set}

module _ {S E B : Type 0} (events : S → List E) (is_publish : E → Bool) (base : S → B) (b : B) (seats : ℕ) where
  abbrev V : Type 0
  V = View E B

  abbrev St : Type 0
  St = State S V

  abbrev M : Type 0
  M = Me S V

  abbrev Rule : St → Type 0
  Rule = Kept events is_publish base b seats

  told_now : (s : St) (r : Rule s) (id : ℕ) (me : M) → get_elem? s.views id ≡ some me.0 → Rule (stepped s 3 (get_or s.words 3 0) id me.1 (record me.0 { told = get_or s.words 3 0 }) keeps)
  told_now s r id me here = let c : Course E = r.course in let x : ℕ = get_or s.words 3 0 in let is : x ≡ c.published = ap (λ l. get_or l 3 0) r.words in let w : V = record me.0 { told = x } in let f = r.each_seat id me.0 here in
      subst (λ (ws : List ℕ). Rule record { words = ws; homes = s.homes; views = set s.views id w }) (sym (set-get_or s.words 3 0)) record {
        course = c;
        words = r.words;
        ahead = r.ahead;
        each_seat = all_set (Fits is_publish b seats c) s.views id w
            record {
              based = f.based;
              spent = f.spent;
              numbered = f.numbered;
              numbered_once = f.numbered_once;
              stands = f.stands;
              begins = f.begins;
              head = f.head;
              made = f.made;
              made_once = f.made_once;
              told = omega arith;
              raised = f.raised;
              joined = f.joined;
            }
            (λ j d _ e. r.each_seat j d e);
        each_ticket = λ q lo up. seat_set s.views id me.0 w (λ v. ticket_of v.stage ≡ some q) here (λ e. e) (c.ticket_seat q) (r.each_ticket q lo up);
        each_number = λ n l. seat_set s.views id me.0 w (λ v. is_member n v.numbers ≡ true) here (λ q. q) (c.number_seat n) (r.each_number n l);
        each_index = λ p l. seat_set s.views id me.0 w (λ v. is_member p v.mine ≡ true) here (λ q. q) (c.index_seat p) (r.each_index p l);
        slot = ⊎_elim (λ (h : Home events is_publish base b seats c s). inl record {
          value = h.value;
          at_home = h.at_home;
          stands_for = h.stands_for;
          rooted = h.rooted;
          nobody = all_set (λ _ v. is_out v.stage ≡ false) s.views id w (h.nobody id me.0 here) (λ j u _ e. h.nobody j u e);
          raised = h.raised;
        })
            (λ (a : Away events is_publish base b seats c s). let Q : V → Type 0 = λ v. (is_out v.stage ≡ true) × (c.published + unraised v.stage ≡ count_by is_publish c.history) in
            let t = seat_set s.views id me.0 w Q here (λ q. q) (c.ticket_seat c.serving) (a.holder, a.holder_is, (a.holds, a.raised)) in inr record {
              holder = t.0;
              holder_is = t.1;
              holds = t.2.0;
              gone = a.gone;
              drawn = a.drawn;
              raised = t.2.1;
            }) r.slot;
      }

  pub refreshes : (slots id : ℕ) (me : M) → me.0.stage ≡ Idle → Allows Rule slots id me 3 (λ x. x) (refreshed is_publish (step slots 3 0 0 none) me)
  refreshes slots id me idle s r _ at _ = let x : ℕ = get_or s.words 3 0 in let is : x ≡ r.course.published = ap (λ l. get_or l 3 0) r.words in let f = r.each_seat id me.0 at in (
    record me.0 { told = x },
    keeps,
    tt,
    told_now s r id me at,
    record {
      told = let low : me.0.told ≤ r.course.published = f.told in omega arith;
      seen = let low : count_by is_publish me.0.seen ≤ r.course.published + unraised me.0.stage = f.raised in let z : unraised me.0.stage ≡ 0 = ap unraised idle in omega arith;
      view = refl;
    },
  )
