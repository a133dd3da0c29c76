-- Drawing a ticket keeps the rule of the lock.
use Rattle.std.proofs.Common.{◌≡◌, ◌≢◌, ◌⊎◌, ℕ, ◌+◌, ◌<◌, ◌≤◌, Bool, true, false, true≢false, List, length, get_or, set, sym, refl, ap, ◌∙◌, subst, ⊎_elim, inl, inr, arith, eqb, eq-eqb, ne_eqb}
use Rattle.std.specs.Prelude.{count_by}
use mathlib.Core.Logic.{dite}
use mathlib.Core.Option.{none, some, some-ne-none}
use native.Mathlib.Decide.{ℕ_discrete}
use lib.ListN.{get_elem?}
use prog.Atomic.{either}
use Rattle.atomic_table.specs.Table.{State, Me, step, keeps, stepped, Allows}
use Rattle.turn_lock.specs.declared.rule.View.{View}
use Rattle.turn_lock.specs.declared.rule.Stage.TheVariants.{Idle, Waiting}
use Rattle.turn_lock.specs.Lists.{is_member}
use Rattle.turn_lock.specs.Rule.{is_out, ticket_of, unraised, Course, Stands, Fits, SeatWith, Home, Away, Kept}
use Rattle.turn_lock.specs.Steps.{with_stage, peeked, drew}
use Rattle.turn_lock.proofs.Lists.{put_at, put_elim, set_there, all_set, seat_set}
use Rattle.turn_lock.proofs.Stages.{stays}
use Rattle.turn_lock.proofs.Views.{restaged, restands}
use Rattle.turn_lock.proofs.Holders.{unmoved}

module _ {S E B : Type 0} (events : S → List E) (is_publish : E → Bool) (base : S → B) (b : B) (seats : ℕ) where
  abbrev V : Type 0
  V = View E B

  abbrev St : Type 0
  St = State S V

  abbrev M : Type 0
  M = Me S V

  abbrev Rule : St → Type 0
  Rule = Kept events is_publish base b seats

  drawn : (s : St) (r : Rule s) (id new : ℕ) (me : M) → get_elem? s.views id ≡ some me.0 → me.0.stage ≡ Idle → 0 < length me.0.numbers → new ≡ get_or s.words 0 0 + 1
      → Rule (stepped s 0 new id me.1 (with_stage me.0 (Waiting (get_or s.words 0 0))) keeps)
  drawn s r id new me here idle some_there up = let c : Course E = r.course in let x : ℕ = get_or s.words 0 0 in let is : x ≡ c.ticket = ap (λ l. get_or l 0 0) r.words in let w : V = with_stage me.0 (Waiting x) in
      let d : Course E = record c { ticket = new; ticket_seat = put_at c.ticket_seat x id } in let f = r.each_seat id me.0 here in let low : c.serving ≤ c.ticket = r.ahead in
      let same : (t : ℕ) → t < c.ticket → d.ticket_seat t ≡ c.ticket_seat t = λ t l. put_elim c.ticket_seat x id t (λ z. z ≡ c.ticket_seat t) (λ e. absurd (omega arith)) (λ _. refl) in record {
        course = d;
        words = ap (λ l. set l 0 new) r.words;
        ahead = omega arith;
        each_seat = all_set (Fits is_publish b seats d) s.views id w
            (restaged is_publish b seats d id me.0 (Waiting x)
            (restands is_publish b seats c id me.0 d f refl (omega arith) (λ _. refl) (λ _. refl) (subst (Stands d id me.0.seen) (sym idle) tt)) some_there
            ((omega arith, put_elim c.ticket_seat x id x (λ z. z ≡ id) (λ _. refl) (λ n. absurd (n refl))), omega arith) (let z : unraised me.0.stage ≡ 0 = ap unraised idle in omega arith))
            (λ j u other e. let g = r.each_seat j u e in restands is_publish b seats c j u d g refl (omega arith) (λ _. refl) (λ _. refl)
            (stays c j u.seen d (λ t lo has. let hi : t < c.ticket = has.0 in ((omega arith, same t hi ∙ has.1), lo)) u.stage (λ _. (refl, refl)) g.stands));
        each_ticket = λ t lo hi. put_elim c.ticket_seat x id t (λ z. SeatWith (set s.views id w) z (λ v. ticket_of v.stage ≡ some t))
            (λ e. (w, set_there s.views id me.0 w here, ap some (sym e)))
            (λ ne. seat_set s.views id me.0 w (λ v. ticket_of v.stage ≡ some t) here (λ q. absurd (some-ne-none t (sym q ∙ ap ticket_of idle))) (c.ticket_seat t) (r.each_ticket t lo (omega arith)));
        each_number = λ n l. seat_set s.views id me.0 w (λ v. is_member n v.numbers ≡ true) here (λ q. q) (c.number_seat n) (r.each_number n l);
        each_index = λ p l. seat_set s.views id me.0 w (λ v. is_member p v.mine ≡ true) here (λ q. q) (c.index_seat p) (r.each_index p l);
        slot = ⊎_elim (λ (h : Home events is_publish base b seats c s). inl record {
          value = h.value;
          at_home = h.at_home;
          stands_for = h.stands_for;
          rooted = h.rooted;
          nobody = all_set (λ _ v. is_out v.stage ≡ false) s.views id w refl (λ j u _ e. h.nobody j u e);
          raised = h.raised;
        })
            (λ (a : Away events is_publish base b seats c s). let l : c.serving < c.ticket = a.drawn in
            let Q : V → Type 0 = λ v. (is_out v.stage ≡ true) × (c.published + unraised v.stage ≡ count_by is_publish c.history) in
            let t = seat_set s.views id me.0 w Q here (λ q. absurd (true≢false (sym q.0 ∙ ap is_out idle))) (c.ticket_seat c.serving) (a.holder, a.holder_is, (a.holds, a.raised)) in inr record {
              holder = t.0;
              holder_is = ap (get_elem? (set s.views id w)) (same c.serving l) ∙ t.1;
              holds = t.2.0;
              gone = a.gone;
              drawn = omega arith;
              raised = t.2.1;
            }) r.slot;
      }

  pub draws : (slots id old new : ℕ) (me : M) → new ≡ old + 1 → me.0.stage ≡ Idle → 0 < length me.0.numbers → Allows Rule slots id me 0 (λ x. either (eqb x old) new x) (drew (step slots 0 old new none) me)
  draws slots id old new me up idle some_there s r _ at _ = let x : ℕ = get_or s.words 0 0 in dite (ℕ_discrete x old)
      (λ e. let w : V = with_stage me.0 (Waiting x) in
      (w, keeps, tt, subst (λ z. Rule (stepped s 0 (either z new x) id me.1 w keeps)) (sym (eq-eqb x old e)) (drawn s r id new me at idle some_there (omega arith)), ((λ _. refl), λ n. absurd (n e))))
      (λ n. (me.0, keeps, tt, subst (λ z. Rule (stepped s 0 (either z new x) id me.1 me.0 keeps)) (sym (ne_eqb x old n)) (unmoved events is_publish base b seats s r 0 id me.1 me.0 at), ((λ e. absurd (n e)), λ _. refl)))

  pub peeks : (slots id : ℕ) (me : M) → Allows Rule slots id me 0 (λ x. x) (peeked (step slots 0 0 0 none) me)
  peeks slots id me s r _ at _ = (me.0, keeps, tt, unmoved events is_publish base b seats s r 0 id me.1 me.0 at, refl)
