-- A commit keeps the rule of the lock.
use Rattle.std.proofs.Common.{◌≡◌, ◌≢◌, ◌⊎◌, ℕ, ◌+◌, ◌<◌, ◌≤◌, Bool, true, List, [], ◌∷◌, ◌++◌, length, get_or, set, sym, refl, ap, ◌∙◌, subst, ⊎_elim, inr, arith, length-append, append-nil}
use Rattle.std.specs.Prelude.{count_by}
use mathlib.Core.Option.{none, some}
use lib.ListN.{get_elem?}
use Rattle.atomic_table.specs.Table.{State, Me, step, keeps, stepped, Allows}
use Rattle.turn_lock.specs.declared.rule.View.{View}
use Rattle.turn_lock.specs.declared.rule.Stage.{Stage}
use Rattle.turn_lock.specs.declared.rule.Stage.TheVariants.{Holding}
use Rattle.turn_lock.specs.Lists.{is_member, Begins}
use Rattle.turn_lock.specs.Rule.{is_out, ticket_of, unraised, Course, Stands, Fits, SeatWith, Kept}
use Rattle.turn_lock.specs.Steps.{new_index, Adds, stage_after, view_after, committed, raised}
use Rattle.turn_lock.proofs.Lists.{put_at, put_elim, set_there, all_set, seat_set, begins_append, each_more, is_member-append, is_member-left, is_member-right}
use Rattle.turn_lock.proofs.Stages.{not_true, stays, after_elim, after_out, after_unraised}
use Rattle.turn_lock.proofs.Indices.{once_more, new_index_has, new_index_there}
use Rattle.turn_lock.proofs.Views.{goes_on}
use Rattle.turn_lock.proofs.Holders.{not_out, away_now, behind}

module _ {S E B : Type 0} (events : S → List E) (is_publish : E → Bool) (base : S → B) (b : B) (seats : ℕ) where
  abbrev V : Type 0
  V = View E B

  abbrev St : Type 0
  St = State S V

  abbrev M : Type 0
  M = Me S V

  abbrev Rule : St → Type 0
  Rule = Kept events is_publish base b seats

  wrote : (s : St) (r : Rule s) (id t n : ℕ) (me : M) (found left : List E) (add : Adds is_publish (is_member 0 me.0.numbers) found left) → get_elem? s.views id ≡ some me.0 → me.0.stage ≡ Holding t found → n ≡ length left
      → Rule (stepped s 2 n id me.1 (view_after me.0 found left (stage_after is_publish t found left)) keeps)
  wrote s r id t n me found left add here is count = let c : Course E = r.course in let f = r.each_seat id me.0 here in
      let k = subst (Stands c id me.0.seen) is f.stands in let hi : t < c.ticket = k.0.0 in
      let st : Stage E = stage_after is_publish t found left in let w : V = view_after me.0 found left st in
      let was : left ≡ c.history ++ add.fresh = add.appended ∙ ap (λ l. l ++ add.fresh) k.2 in
      let size : length left ≡ length c.history + length add.fresh = ap length was ∙ length-append c.history add.fresh in let few : length add.fresh ≤ 1 = add.few in let old : length found ≡ length c.history = ap length k.2 in
      let d : Course E = record c { history = left; index_seat = put_at c.index_seat (length c.history) id } in let held : c.ticket_seat c.serving ≡ id = ap c.ticket_seat k.1 ∙ k.0.1 in
      let level : c.published ≡ count_by is_publish found = let e = behind events is_publish base b seats s r id me.0 here (ap is_out is) in let z : unraised me.0.stage ≡ 0 = ap unraised is in let q : count_by is_publish found ≡ count_by is_publish c.history = ap (count_by is_publish) k.2 in omega arith in
      let now_behind : c.published + unraised st ≡ count_by is_publish left = after_unraised is_publish t found left c.published add.fresh add.appended few level in
      let older : (p q : ℕ) → p < length c.history → c.index_seat p ≡ q → d.index_seat p ≡ q = λ p q l m. put_elim c.index_seat (length c.history) id p (λ z. z ≡ q) (λ e. absurd (omega arith)) (λ _. m) in record {
        course = d;
        words = ap (λ l. set l 2 n) r.words ∙ ap (λ (z : ℕ). c.ticket ∷ c.serving ∷ z ∷ c.published ∷ []) count;
        ahead = r.ahead;
        each_seat = all_set (Fits is_publish b seats d) s.views id w
            record {
              based = f.based;
              spent = λ z. let e = (f.spent z).1 in absurd (cc);
              numbered = f.numbered;
              numbered_once = f.numbered_once;
              stands = after_elim is_publish t found left (Stands d id left) (k.0, k.1, refl) (k.0, k.1, refl);
              begins = ([], sym (append-nil left));
              head = λ _. refl;
              made = λ p h. ⊎_elim (λ a. let m = f.made p a in let l : p < length c.history = m.0 in (omega arith, older p id m.0 m.1))
                  (λ a. let g = new_index_has p (length found) (length left) a in let e : p ≡ length found = g.0 in let ne : length found ≢ length left = g.1 in
                  (omega arith, put_elim c.index_seat (length c.history) id p (λ z. z ≡ id) (λ _. refl) (λ no. absurd (no (omega arith)))))
                  (is_member-append p me.0.mine (new_index (length found) (length left)) h);
              made_once = λ p. once_more p me.0.mine (length found) (length left) (f.made_once p) (λ h. let l : p < length c.history = (f.made p h).0 in omega arith);
              told = f.told;
              raised = omega arith;
              joined = each_more (λ (x : List E × ℕ) q. (subst (Begins x.0) (sym was) (begins_append x.0 c.history add.fresh q.0), q.1)) me.0.joined f.joined;
            }
            (λ j u other e. let g = r.each_seat j u e in goes_on is_publish b seats c j u d g record {
              added = add.fresh;
              history = was;
              published = omega arith;
              numbers = λ q h m. m;
              indices = λ p l h m. older p j l m;
              stands = stays c j u.seen d (λ q lo has. (has, lo)) u.stage (λ out. absurd (not_out events is_publish base b seats s r id j u held other e out)) g.stands;
              head = λ h. add.plain (not_true (is_member 0 me.0.numbers) (λ y. other (sym (g.numbered 0 h).1 ∙ (f.numbered 0 y).1)));
            });
        each_ticket = λ q lo up. seat_set s.views id me.0 w (λ v. ticket_of v.stage ≡ some q) here
            (λ e. after_elim is_publish t found left (λ z. ticket_of z ≡ some q) (sym (ap ticket_of is) ∙ e) (sym (ap ticket_of is) ∙ e)) (c.ticket_seat q) (r.each_ticket q lo up);
        each_number = λ m l. seat_set s.views id me.0 w (λ v. is_member m v.numbers ≡ true) here (λ q. q) (c.number_seat m) (r.each_number m l);
        each_index = λ p l. put_elim c.index_seat (length c.history) id p (λ z. SeatWith (set s.views id w) z (λ v. is_member p v.mine ≡ true))
            (λ e. (
              w,
              set_there s.views id me.0 w here,
              let q : p ≡ length found = omega arith in
                  ap (λ (z : ℕ). is_member z (me.0.mine ++ new_index (length found) (length left))) q
                  ∙ is_member-right (length found) me.0.mine (new_index (length found) (length left)) (new_index_there (length found) (length left) (λ z. omega arith)),
            ))
            (λ ne. seat_set s.views id me.0 w (λ v. is_member p v.mine ≡ true) here (λ q. is_member-left p me.0.mine (new_index (length found) (length left)) q) (c.index_seat p) (r.each_index p (omega arith)));
        slot = let a = away_now events is_publish base b seats s r id me.0 here (ap is_out is) in inr record {
          holder = w;
          holder_is = ap (get_elem? (set s.views id w)) held ∙ set_there s.views id me.0 w here;
          holds = after_out is_publish t found left;
          gone = a.gone;
          drawn = a.drawn;
          raised = now_behind;
        };
      }

  pub commits : (slots id t n : ℕ) (me : M) (found : List E) (y : S) → me.0.stage ≡ Holding t found → me.1 ≡ (0, y) ∷ [] → Adds is_publish (is_member 0 me.0.numbers) found (events y) → n ≡ length (events y)
      → Allows Rule slots id me 2 (λ _. n) (λ _. committed events is_publish (step slots 2 n 0 none) me n)
  commits slots id t n me found y is has_it add count s r _ at _ = (
    view_after me.0 found (events y) (stage_after is_publish t found (events y)),
    keeps,
    tt,
    wrote s r id t n me found (events y) add at is count,
    λ t' found' y' is' has'. let a : t ≡ t' = cc in let q : found ≡ found' = cc in let e : y ≡ y' = ap (λ (l : List (ℕ × S)). (get_or l 0 (0, y)).1) (sym has_it ∙ has') in
        ap (λ (z : ℕ × List E × S). (view_after me.0 z.1 (events z.2) (stage_after is_publish z.0 z.1 (events z.2)), me.1)) (λ i. (a i, q i, e i)),
  )
